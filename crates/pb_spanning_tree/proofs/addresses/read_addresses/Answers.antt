use Rattle.std.proofs.Common.{◌≡◌, length, List, [], subst, sym}
use Rattle.std.specs.List.{AllByRecursion}
use Rattle.std.proofs.lemmas.List.{drop_all}
use Rattle.pb_frame.specs.Frames.{AreOctets}
use Rattle.pb_lan.specs.declared.plan.BridgePlan.{BridgePlan}
use Rattle.pb_spanning_tree.proofs.AddressLaws.{all-from}
use Rattle.pb_spanning_tree.proofs.addresses.read_addresses.Goals as goal

pub loop-bridge-preserved : goal.loop-bridge-preserved
loop-bridge-preserved c rest =
    let P : BridgePlan → Type 0 = λ b. (length b.address.0 ≡ 6) × AreOctets b.address.0 in
    c.loop-bridge.invariant
    (all-from P c.as_slice-bridge-items.result.now c.loop-bridge.bridge-index c.bridge-item.result
    c.loop-bridge-test.true c.bridge-item.is
    (c.read_octets.ensures.length, c.read_octets.ensures.octets) rest)

pub returns : goal.returns
returns c =
    let bridges : List BridgePlan = c.as_slice-bridge-items.result.now in
    let P : List BridgePlan → Type 0 = λ bs. AllByRecursion (λ b. (length b.address.0 ≡ 6) × AreOctets b.address.0) bs in
    let none : P [] = tt in
    subst P c.as_slice-bridge-items.ensures
    (c.loop-bridge.invariant
    (subst P (sym (drop_all c.loop-bridge.bridge-index bridges c.loop-bridge-test.false)) none))
