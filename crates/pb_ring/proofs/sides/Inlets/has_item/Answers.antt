use Rattle.std.proofs.Common.{rules, [], List, length, ap, ◌∙◌, sym, ◌<◌, subst}
use Rattle.std.proofs.Math.Seq.{map-set_same}
use Rattle.rtrb.specs.Ring.{received, known_items}
use Rattle.pb_lan.specs.declared.step.Item.{Item}
use Rattle.pb_ring.proofs.Places.{put_there}
use Rattle.pb_ring.proofs.sides.Inlets.has_item.Goals as goal

pub returns-clause-item : goal.returns-clause-item
returns-clause-item g c =
    let there = put_there (λ i. known_items i.end) c.args.self.now.ends.items c.args.place c.has_item.new.self []
    (search rules) in
    let P : List Item → Type 0 = λ xs. 0 < length xs in (
      λ yes. subst P (sym there) (c.has_item.ensures.item.0 yes),
      λ some. c.has_item.ensures.item.1 (subst P there some),
    )

pub returns-clause-received : goal.returns-clause-received
returns-clause-received g c = map-set_same (λ i. received i.end) _ _ _ c.index_mut.result.now
    (c.has_item.ensures.received ∙ ap (λ i. received i.end) c.index_mut.ensures.value)

pub returns-clause-numbers : goal.returns-clause-numbers
returns-clause-numbers g c = map-set_same (λ i. i.number) _ _ _ c.index_mut.result.now
    (c.has_item.ensures.number ∙ ap (λ i. i.number) c.index_mut.ensures.value)
