use Rattle.std.proofs.Common.{rules, ap, sym, ◌∙◌, [], slice_get}
use Rattle.std.proofs.Math.Seq.{map-set_same}
use Rattle.rtrb.specs.Ring.{received, known_items}
use Rattle.pb_ring.proofs.Places.{at_place, grows_at, put_there}
use Rattle.pb_ring.proofs.sides.Inlets.pop.Goals as goal

pub returns-clause-received : goal.returns-clause-received
returns-clause-received g c = λ p. grows_at (λ i. received i.end) _ _ c.index_mut.result.now _ _ p (search rules)
    c.index_mut.ensures.value c.pop.ensures.received

pub returns-clause-first : goal.returns-clause-first
returns-clause-first g c = λ item known. c.pop.ensures.first item
    (ap (λ xs. slice_get xs 0) (sym (at_place (λ i. known_items i.end) c.args.self.now.ends.items c.args.place
    c.index_mut.result.now [] (search rules) c.index_mut.ensures.value)) ∙ known)

pub returns-clause-none : goal.returns-clause-none
returns-clause-none g c = λ none. put_there (λ i. known_items i.end) c.args.self.now.ends.items c.args.place
    c.pop.new.self [] (search rules) ∙ c.pop.ensures.none none

pub returns-clause-numbers : goal.returns-clause-numbers
returns-clause-numbers g c = map-set_same (λ i. i.number) _ _ _ c.index_mut.result.now
    (c.pop.ensures.number ∙ ap (λ i. i.number) c.index_mut.ensures.value)
