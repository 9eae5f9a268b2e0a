use Rattle.pb_lan.specs.declared.step.Step.TheVariants.{Deliver}
use Rattle.pb_link.proofs.HandLemmas.{unreserved}
use Rattle.pb_link.proofs.PlaceLemmas.{after_deliver}
use Rattle.pb_link.proofs.customer.CustomerPlace.deliver.Goals as goal

pub invariant_of-self : goal.invariant_of-self
invariant_of-self c =
    let s = c.self.inside in (
      rw c.append.ensures (after_deliver s.number s.steps.steps s.steps.is_kept s.hand s.polls c.args.item c.args.gone
          c.self.invariant.0),
      unreserved s.steps c.append.new.steps (Deliver c.args.item c.args.gone) c.append.ensures,
    )
