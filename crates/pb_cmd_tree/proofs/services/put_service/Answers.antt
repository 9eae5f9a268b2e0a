use Rattle.std.proofs.Common.{◌≡◌, ◌++◌, [], get_or, string_bytes, inl, inr, refl, sym, ap, subst, ◌∙◌, append-nil}
use Rattle.std.proofs.lemmas.Result.{on_ok_weaker}
use Rattle.pb_frame.proofs.Things.{thing_within, here_is}
use Rattle.pb_lan.specs.Forests.{IsForest, Shows}
use Rattle.pb_lan.specs.declared.plan.ServicePlan.{ServicePlan}
use Rattle.pb_report.proofs.CheckLemmas.{vid_there}
use Rattle.pb_cmd_tree.specs.TreeTexts.{up_lines}
use Rattle.pb_cmd_tree.proofs.TextLemmas.{item_is}
use Rattle.pb_cmd_tree.proofs.services.put_service.Goals as goal

pub returns-in_default : goal.returns-in_default
returns-in_default c =
    let plan = c.args.plan.now in
    let shape = c.args.shape.now in
    let at = thing_within plan.services c.args.place c.requires.there in
    let none = rw c.in_default.is at c.in_ok-rooted.ensures in
    let vid = vid_there plan c.args.place at.0 c.requires.there (item_is plan.services c.args.place at.0 at.1) in (
      [],
      sym (append-nil (string_bytes c.args.out.now)),
      (at.0, at.1, inr (subst (λ v. IsForest plan shape v → ⊥) vid none, refl)),
    )

pub returns : goal.returns
returns c =
    let plan = c.args.plan.now in
    let shape = c.args.shape.now in
    let old = string_bytes c.args.out.now in
    let s = c.index-as_slice-place.result in
    let rooted = c.in-Some.rooted in
    let is : s ≡ get_or plan.services c.args.place s = subst (λ xs. s ≡ get_or xs c.args.place s) c.as_slice.ensures
    c.index-as_slice-place.is in
    let there = here_is plan.services c.args.place s c.requires.there is in
    let vid = vid_there plan c.args.place s c.requires.there is in
    let shows = rw c.in-Some.is at c.in_ok-rooted.ensures in
    on_ok_weaker c.put_ups.result (λ e. (
      up_lines plan s.name rooted,
      e ∙ ap (λ n. old ++ up_lines plan n rooted)
          (c.as_str.ensures ∙ ap (λ (x : ServicePlan). x.name) (sym c.index-as_slice-place.is)),
      (s, there, inl (rooted, subst (λ v. Shows plan shape v rooted) vid shows, refl)),
    )) c.put_ups.ensures
