use Rattle.std.proofs.Common.{◌-◌, ◌%◌, ◌∷◌, ◌++◌, [], length, refl, ap, sym, ◌∙◌, arith, append-nil, length-append}
use Rattle.pb_lan.specs.PortSets.{refusals_in}
use Rattle.pb_lan.specs.declared.step.NoRoom.TheVariants.{Full, Memory}
use Rattle.pb_lan.proofs.PortBits.{refusals_end, refusals_within, no_refusals, refusal_listed, other_word}
use Rattle.pb_lan.proofs.refusals.Refusals.list.Goals as goal
use Rattle.pb_lan.proofs.refusals.Refusals.list.Goals.{in-0, in-1, in_default}

pub returns-then-rest-eq0-clause-refusals : goal.returns-then-rest-eq0-clause-refusals
returns-then-rest-eq0-clause-refusals c =
    sym (append-nil c.loop-port.list)
    ∙ sym (ap (λ rs. c.loop-port.list ++ rs) (no_refusals (17 - c.loop-port.port) c.loop-port.port))
    ∙ sym (ap (λ b. c.loop-port.list ++ refusals_in (17 - c.loop-port.port) c.loop-port.port b) c.if-rest-eq0.true)
    ∙ c.loop-port.invariant.listed

pub loop-port-preserved : goal.loop-port-preserved
loop-port-preserved c =
    elim c.match-rest-rem4.branch [
      | in-0 w ↦ record {
        listed = refusal_listed c.loop-port.port c.loop-port.rest 0 c.loop-port.list c.match-rest-rem4.list
            c.args.self.now (omega (arith, c.loop-port-test.true)) c.loop-port.invariant.listed
            w.in-0.is (w.list-is ∙ sym (append-nil c.loop-port.list));
        few = omega (arith, ap length w.list-is, c.loop-port.invariant.few);
      }
      | in-1 w ↦ record {
        listed = refusal_listed c.loop-port.port c.loop-port.rest 1 c.loop-port.list c.match-rest-rem4.list
            c.args.self.now (omega (arith, c.loop-port-test.true)) c.loop-port.invariant.listed
            w.in-1.is (w.list-is ∙ w.push.ensures);
        few = omega (
          arith,
          ap length (w.list-is ∙ w.push.ensures),
          length-append c.loop-port.list
              ((c.loop-port.port, Full) ∷ []),
          c.loop-port.invariant.few,
        );
      }
      | in_default w ↦ record {
        listed = refusal_listed c.loop-port.port c.loop-port.rest (c.loop-port.rest % 4) c.loop-port.list
            c.match-rest-rem4.list c.args.self.now (omega (arith, c.loop-port-test.true)) c.loop-port.invariant.listed
            refl (w.list-is ∙ w.push-in_default.ensures ∙ ap (λ rs. c.loop-port.list ++ rs)
            (sym (other_word c.loop-port.port (c.loop-port.rest % 4) (λ e. omega (arith, e))
            (λ e. omega (arith, e)))));
        few = omega (
          arith,
          ap length (w.list-is ∙ w.push-in_default.ensures),
          length-append c.loop-port.list
              ((c.loop-port.port, Memory) ∷ []),
          c.loop-port.invariant.few,
        );
      }
    ]

pub returns-clause-refusals : goal.returns-clause-refusals
returns-clause-refusals c =
    sym (append-nil c.loop-port.list)
    ∙ sym (ap (λ xs. c.loop-port.list ++ xs) (refusals_end c.loop-port.port c.loop-port.rest (omega arith)))
    ∙ c.loop-port.invariant.listed

pub returns-then-rest-eq0-clause-within : goal.returns-then-rest-eq0-clause-within
returns-then-rest-eq0-clause-within c = refusals_within c.self.inside.words c.loop-port.list (c.self.view_is ∙ sym (
    sym (append-nil c.loop-port.list)
    ∙ sym (ap (λ rs. c.loop-port.list ++ rs) (no_refusals (17 - c.loop-port.port) c.loop-port.port))
    ∙ sym (ap (λ b. c.loop-port.list ++ refusals_in (17 - c.loop-port.port) c.loop-port.port b) c.if-rest-eq0.true)
    ∙ c.loop-port.invariant.listed))

pub returns-clause-within : goal.returns-clause-within
returns-clause-within c = refusals_within c.self.inside.words c.loop-port.list (c.self.view_is ∙ sym (
    sym (append-nil c.loop-port.list)
    ∙ sym (ap (λ xs. c.loop-port.list ++ xs) (refusals_end c.loop-port.port c.loop-port.rest (omega arith)))
    ∙ c.loop-port.invariant.listed))
