use Rattle.std.proofs.Common.{◌≡◌, ◌==◌, Bool, List, [], ◌∷◌, Some, None, cond, sym, ap, ◌∙◌}
use Rattle.std.proofs.lemmas.Bool.{eqb-true}
use Rattle.pb_frame.proofs.Lists.{false-unless}
use Rattle.pb_frame.specs.Admission.{refusal, admission_cases}
use Rattle.pb_frame.specs.declared.reason.Reason.{Reason}
use Rattle.pb_frame.specs.declared.reason.Reason.TheVariants.{Worn}
use Rattle.pb_lan.specs.BridgeLists.{Ruling, first_case, customer_cases, is_worn, most_hops}
use Rattle.pb_lan.specs.BridgeLists.Ruling.{Refuses, Carries}
use Rattle.pb_lan.specs.declared.step.Item.{Item}
use Rattle.pb_relay.proofs.VerdictLemmas.{first-refuses, first-passes}
use Rattle.pb_relay.proofs.verdict.customer_verdict.Goals as goal

-- the cases after those of the octets
abbrev late : Item → List (Bool × Reason)
late item = (is_worn item, Worn) ∷ []

-- the ruling on a frame that no case of the octets refuses
admitted : (item : Item) (rest : Ruling) (worn : Bool) → refusal item.wire ≡ None → is_worn item ≡ worn
    → first_case (customer_cases item) rest ≡ cond worn (Refuses Worn) rest
admitted item rest worn h w = first-passes (admission_cases item.wire) (late item) rest h
    ∙ ap (λ b. cond b (Refuses Worn) rest) w

pub returns-in-Some : goal.returns-in-Some
returns-in-Some c =
    let refused : refusal c.args.item.now.wire ≡ Some c.in-Some.reason =
    sym (c.refusal.ensures ∙ ap refusal c.as_slice.ensures) ∙ c.in-Some.is in
    sym (first-refuses (admission_cases c.args.item.now.wire) (late c.args.item.now) c.in-Some.reason
    (Carries c.args.vid) refused)

pub returns-in-None : goal.returns-in-None
returns-in-None c =
    let none : refusal c.args.item.now.wire ≡ None = sym (c.refusal.ensures ∙ ap refusal c.as_slice.ensures)
    ∙ c.in-None.is in
    sym (admitted c.args.item.now (Carries c.args.vid) _ none (ap (λ n. n == most_hops) c.if-item.true))

pub returns-in-None-2 : goal.returns-in-None-2
returns-in-None-2 c =
    let none : refusal c.args.item.now.wire ≡ None = sym (c.refusal.ensures ∙ ap refusal c.as_slice.ensures)
    ∙ c.in-None.is in
    let fresh = false-unless (c.args.item.now.hops == most_hops)
    (λ e. c.if-item.false (eqb-true c.args.item.now.hops most_hops e)) in
    sym (admitted c.args.item.now (Carries c.args.vid) _ none fresh)
