use Rattle.std.proofs.Common.{◌≡◌, ◌↔◌, ◌∙◌, true, Some, ap, subst, sym}
use Rattle.pb_frame.proofs.Lists.{Some-injective}
use Rattle.pb_lan.specs.Numbering.{numbered}
use Rattle.pb_draw_layout.specs.Paths.{IsOnPath}
use Rattle.pb_draw_layout.proofs.PathLemmas.{ends_within}
use Rattle.pb_draw_layout.proofs.findings.is_on_path.Goals as goal

pub is_between-requires-clause-a : goal.is_between-requires-clause-a
is_between-requires-clause-a c =
    let n = c.args.number in
    let there = sym (c.in-Some.ensures ∙ ap (λ ls. numbered ls n) c.as_slice.ensures) in
    (ends_within c.args.plan.now c.requires n c.in-Some.link.now there).0

pub is_between-requires-clause-b : goal.is_between-requires-clause-b
is_between-requires-clause-b c =
    let n = c.args.number in
    let there = sym (c.in-Some.ensures ∙ ap (λ ls. numbered ls n) c.as_slice.ensures) in
    (ends_within c.args.plan.now c.requires n c.in-Some.link.now there).1

pub returns-in-None : goal.returns-in-None
returns-in-None c = λ link at.
    let none = c.in-None.ensures ∙ ap (λ ls. numbered ls c.args.number) c.as_slice.ensures ∙ at in
    absurd cc

pub returns-in-Some : goal.returns-in-Some
returns-in-Some c = λ link at.
    let one = Some-injective (c.in-Some.ensures ∙ ap (λ ls. numbered ls c.args.number) c.as_slice.ensures ∙ at) in
    subst (λ l. (c.is_between.result ≡ true) ↔ IsOnPath c.args.plan.now c.args.shape.now c.args.service l) one
    c.is_between.ensures
