use Rattle.std.proofs.Common.{◌≡◌, true, [], string_bytes, inl, inr, refl, sym, subst, append-nil}
use Rattle.std.proofs.lemmas.Result.{IfOk-weaker}
use Rattle.pb_cmd_survive.specs.Scopes.{is_found}
use Rattle.pb_cmd_survive.specs.Survivals.{IsReportWith, most_events}
use Rattle.pb_cmd_survive.proofs.StandingLemmas.{moved}
use Rattle.pb_cmd_survive.proofs.survive.put_raised.Goals as goal

pub put_looks-requires-clause-up : goal.put_looks-requires-clause-up
put_looks-requires-clause-up g c = λ κs lives.
    let up = rw c.in-Ok.is at c.in_ok-standing.ensures in
    up.3

pub put_looks-requires-clause-found : goal.put_looks-requires-clause-found
put_looks-requires-clause-found g c = λ κs lives.
    let up = rw c.in-Ok.is at c.in_ok-standing.ensures in
    subst (λ p. is_found p c.args.asked.now.scope ≡ true) (sym up.0) c.requires.found

pub returns-in-Ok : goal.returns-in-Ok
returns-in-Ok g c =
    let asked = c.args.asked.now in
    let up = rw c.in-Ok.is at c.in_ok-standing.ensures in
    IfOk-weaker c.put_looks.result _ _
    (λ end h. (
      h.0,
      h.1,
      record {
        found = c.requires.found;
        told = inl (moved c.in-Ok.standing c.args.plan.now asked.downs.now
            (record { ticks = asked.ticks; events = most_events }) up.0 up.1 up.2
            (λ p n t e. IsReportWith p n t e asked end h.0) h.2);
      },
    ))
    c.put_looks.ensures

pub returns-in-Err : goal.returns-in-Err
returns-in-Err g c = (
  [],
  sym (append-nil (string_bytes c.args.out.now)),
  record {
    found = c.requires.found;
    told = inr (record {
      fault = c.in-Err.fault;
      refused = rw c.in-Err.is at c.in_ok-standing.ensures;
      text_is = refl;
      end_is = refl;
    });
  },
)
