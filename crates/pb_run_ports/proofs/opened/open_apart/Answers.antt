use Rattle.std.proofs.Common.{◌∙◌, ap, map}
use Rattle.std.proofs.lemmas.Result.{err_from_is_err_and}
use Rattle.pb_run_ports.specs.Opened.{shown}
use Rattle.pb_run_ports.proofs.StopLemmas.{all_done, stops_in, stops_last, stops_out}
use Rattle.pb_run_ports.proofs.opened.open_apart.Goals as goal

pub returns-in_err-ports-clause-err : goal.returns-in_err-ports-clause-err
returns-in_err-ports-clause-err g c =
    let p = err_from_is_err_and c.from_residual.result c.from_residual.ensures.1 in rw (p.1, p.2)
    (stops_in _ _ _ _ c.in_err-ports.ensures.err)

pub returns-in_err-ports-2-clause-err : goal.returns-in_err-ports-2-clause-err
returns-in_err-ports-2-clause-err g c =
    let p = err_from_is_err_and c.from_residual-in_err-ports-2.result c.from_residual-in_err-ports-2.ensures.1 in
    rw (p.1, p.2) (stops_out _ _ _ _ _ _ c.in_ok-ports.ensures.ok.0 c.in_ok-ports.ensures.ok.1
    c.in_err-ports-2.ensures.err)

pub returns-in_err-empty_outs-clause-err : goal.returns-in_err-empty_outs-clause-err
returns-in_err-empty_outs-clause-err g c =
    let p = err_from_is_err_and c.from_residual-in_err-empty_outs.result c.from_residual-in_err-empty_outs.ensures.1 in
    rw (p.1, p.2) (stops_last _ _ _ _ _ _ _ _ c.in_ok-ports.ensures.ok.0 c.in_ok-ports.ensures.ok.1
    c.in_ok-ports-2.ensures.ok.0
    (ap (map shown) c.as_slice.ensures.value ∙ c.in_ok-ports-2.ensures.ok.1) c.in_err-empty_outs.ensures.err)

pub returns-clause-ok : goal.returns-clause-ok
returns-clause-ok g c = (
  all_done _ _ _ _ _ _ _ c.in_ok-ports.ensures.ok.0 c.in_ok-ports.ensures.ok.1 c.in_ok-ports-2.ensures.ok.0
      (ap (map shown) c.as_slice.ensures.value ∙ c.in_ok-ports-2.ensures.ok.1) c.in_ok-empty_outs.ensures.ok,
  c.in_ok-ports-2.ensures.ok.1 ∙ c.in_ok-ports.ensures.ok.1,
)
