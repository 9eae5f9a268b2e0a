use Rattle.std.proofs.Common.{inl, inr, refl, sym, [], string_bytes}
use Rattle.std.proofs.lemmas.List.{append-nil}
use Rattle.std.proofs.lemmas.Result.{IfOk-weaker}
use Rattle.pb_warning_lines.proofs.lines.put_warnings.Goals as goal

pub returns-in-Ok : goal.returns-in-Ok
returns-in-Ok c = IfOk-weaker c.put_all.result _ _
    (λ count found. (
      found.0,
      found.1,
      inl (record {
        plan = c.in-Ok.read.plan;
        specs = c.in-Ok.read.ports.items;
        limits = c.in-Ok.read.limits;
        told = c.in-Ok.ensures.ok;
        limited = c.in-Ok.ensures.limits;
        lines = found.2;
      }),
    ))
    c.put_all.ensures

pub returns-in_ok-check_memory-in-Err : goal.returns-in_ok-check_memory-in-Err
returns-in_ok-check_memory-in-Err c = (
  [],
  sym (append-nil (string_bytes c.args.out.now)),
  inr (refl, refl, (c.in-Err.fault, c.in_ok-check_memory-in-Err.ensures, c.in-Err.ensures.err)),
)
