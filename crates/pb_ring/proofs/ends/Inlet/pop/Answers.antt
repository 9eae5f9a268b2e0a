use Rattle.std.proofs.Common.{◌∙◌}
use Rattle.rtrb.specs.Ring.{known_items}
use Rattle.pb_ring.proofs.Popped.{first_popped}
use Rattle.pb_ring.proofs.ends.Inlet.pop.Goals as goal

pub returns-clause-first : goal.returns-clause-first
returns-clause-first g c = λ item known. c.ok.ensures.value
    ∙ first_popped _ _ (known_items c.args.self.now.end) (known_items c.pop.new.self) c.pop.result item known
    c.pop.ensures.succeeds c.pop.ensures.ok
