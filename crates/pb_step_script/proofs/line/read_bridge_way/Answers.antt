use Rattle.std.proofs.Common.{◌≡◌, Some, sym, subst, ◌∙◌}
use Rattle.pb_frame.proofs.Things.{same_parts}
use Rattle.pb_step_script.specs.Lines.{IsWay}
use Rattle.pb_messages.specs.Words.{cut}
use Rattle.pb_step_script.proofs.line.read_bridge_way.Goals as goal

pub returns-in-None-clause-none : goal.returns-in-None-clause-none
returns-in-None-clause-none c = λ bridge port up w.
    let name = c.in_ok-name.name.now in
    let rest = c.in_ok-name.rest.now in
    let digits = c.in_ok-digits.digits.now in
    let way = c.in_ok-digits.way.now in
    let first : cut c.args.words.now ≡ Some (name, rest) = c.in_ok-name.ensures.some in
    let second : cut rest ≡ Some (digits, way) = c.in_ok-digits.ensures.some in
    let outer = same_parts w.name w.rest name rest (sym w.parts ∙ first) in
    let again : cut rest ≡ Some (w.digits, w.way) = subst (λ t. cut t ≡ Some (w.digits, w.way)) outer.1 w.others in
    let inner = same_parts w.digits w.way digits way (sym again ∙ second) in
    c.in-None.ensures.none up (subst (λ t. IsWay t up) inner.1 w.is_way)
