use Rattle.std.proofs.Common.{inl, inr, arith}
use Rattle.std.proofs.lemmas.Bool.{cases_lt}
use Rattle.std.proofs.lemmas.List.{get_or_past}
use Rattle.pb_relay.specs.PortKinds.{locals}
use Rattle.pb_relay.specs.PortKinds.LocalPort.{ToNobody}
use Rattle.pb_relay.proofs.PortKindLemmas.{locals-length}
use Rattle.pb_relay.proofs.ports.used_of.Goals as goal

pub returns-clause-nothing : goal.returns-clause-nothing
returns-clause-nothing c = λ k h.
    elim (cases_lt k c.loop-place.place) [
      | inl below ↦ c.loop-place.invariant.nothing k h below
      | inr above ↦ get_or_past (locals c.args.services.now c.args.starts.now) k ToNobody
          (omega (arith, locals-length c.args.services.now c.args.starts.now))
    ]
