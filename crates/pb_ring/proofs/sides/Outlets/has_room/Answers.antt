use Rattle.std.proofs.Common.{rules, ap, ◌∙◌, sym, ◌<◌, subst, ℕ}
use Rattle.std.proofs.Math.Seq.{map-set_same}
use Rattle.rtrb.specs.Ring.{sent, known_free}
use Rattle.pb_ring.proofs.Places.{put_there}
use Rattle.pb_ring.proofs.sides.Outlets.has_room.Goals as goal

pub returns-clause-room : goal.returns-clause-room
returns-clause-room g c =
    let there = put_there (λ o. known_free o.end) c.args.self.now.ends.items c.args.place c.has_room.new.self 0
    (search rules) in
    let P : ℕ → Type 0 = λ n. 0 < n in (
      λ yes. subst P (sym there) (c.has_room.ensures.room.0 yes),
      λ some. c.has_room.ensures.room.1 (subst P there some),
    )

pub returns-clause-sent : goal.returns-clause-sent
returns-clause-sent g c = map-set_same (λ o. sent o.end) _ _ _ c.index_mut.result.now
    (c.has_room.ensures.sent ∙ ap (λ o. sent o.end) c.index_mut.ensures.value)

pub returns-clause-numbers : goal.returns-clause-numbers
returns-clause-numbers g c = map-set_same (λ o. o.number) _ _ _ c.index_mut.result.now
    (c.has_room.ensures.number ∙ ap (λ o. o.number) c.index_mut.ensures.value)
