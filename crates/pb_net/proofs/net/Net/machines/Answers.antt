use Rattle.std.proofs.Common.{◌≡◌, ◌+◌, ◌∷◌, [], map, length, take, arith, sym, ap, subst, ◌∙◌}
use Rattle.std.proofs.lemmas.List.{map-append}
use Rattle.pb_net.specs.Answers.{NetView}
use Rattle.pb_relay.specs.Settled.{machines_in}
use Rattle.pb_net.proofs.KnownSpots.{rec_in}
use Rattle.pb_net.proofs.SettledLemmas.{machine_there, machines_more, machines_all}
use Rattle.pb_net.proofs.net.Net.machines.Goals as goal

pub unreachable-requires : goal.unreachable-requires
unreachable-requires c =
    let there = machine_there c.self.inside _ c.loop-bridge.bridge-index c.bridge-item.result c.self.invariant
    c.self.view_is c.requires c.deref-bridge-items.ensures.value c.loop-bridge-test.true c.bridge-item.is in
    let e = c.in_default.ensures ∙ there.1 in
    cc

pub loop-bridge-preserved : goal.loop-bridge-preserved
loop-bridge-preserved c =
    let r = c.loop-bridge.bridge-index in
    let m = c.in-Some.machine in
    let there = machine_there c.self.inside _ r c.bridge-item.result c.self.invariant c.self.view_is c.requires
    c.deref-bridge-items.ensures.value c.loop-bridge-test.true c.bridge-item.is in
    let before = map (λ x. x.now) c.loop-bridge.machines.items in
    let kept = subst (λ (v : NetView). before ≡ take r (machines_in v.plan v.rec)) (sym c.self.view_is)
    c.loop-bridge.invariant in
    subst (λ (v : NetView). map (λ x. x.now) c.push.new.self.items ≡ take (r + 1) (machines_in v.plan v.rec))
    c.self.view_is
    (ap (map (λ x. x.now)) c.in_ok-push.ensures.items ∙ map-append (λ x. x.now) c.loop-bridge.machines.items (m ∷ [])
    ∙ machines_more c.self.inside r before m.now c.self.invariant there.0 (c.in-Some.ensures ∙ there.1) kept)

pub returns : goal.returns
returns c =
    let s = c.self.inside in
    let before = map (λ x. x.now) c.loop-bridge.machines.items in
    let kept = subst (λ (v : NetView). before ≡ take c.loop-bridge.bridge-index (machines_in v.plan v.rec))
    (sym c.self.view_is) c.loop-bridge.invariant in
    let end : c.loop-bridge.bridge-index ≡ length s.bridges.items =
    omega (
      arith,
      c.loop-bridge-test.false,
      c.loop-bridge.auto.bridge-index-end,
      ap length
          c.deref-bridge-items.ensures.value,
    ) in
    subst (λ (v : NetView). before ≡ machines_in v.plan v.rec) c.self.view_is
    (kept ∙ ap (λ k. take k (machines_in s.plan (rec_in s))) end ∙ machines_all s c.self.invariant)
