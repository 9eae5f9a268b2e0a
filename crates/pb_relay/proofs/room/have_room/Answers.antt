use Rattle.std.proofs.Common.{List, ℕ, arith, sym, subst, ◌∙◌}
use Rattle.pb_lan.specs.PortSets.{AreAscending}
use Rattle.pb_relay.proofs.CopyLemmas.{separate_at, separate_of}
use Rattle.pb_relay.proofs.room.have_room.Goals as goal

pub index_of-requires : goal.index_of-requires
index_of-requires c =
    (separate_at c.as_slice-port-items.result.now c.loop-port.port-index (omega (arith, c.loop-port-test.true))
    (separate_of 0 c.as_slice-port-items.result.now (subst (λ (ps : List ℕ). AreAscending 0 ps)
    (sym (c.as_slice-port-items.ensures.ports ∙ c.list-chosen.ensures.ports)) c.requires.chosen))).0

pub waiting-requires : goal.waiting-requires
waiting-requires c =
    let l = separate_at c.as_slice-port-items.result.now c.loop-port.port-index (omega (arith, c.loop-port-test.true))
    (separate_of 0 c.as_slice-port-items.result.now (subst (λ (ps : List ℕ). AreAscending 0 ps)
    (sym (c.as_slice-port-items.ensures.ports ∙ c.list-chosen.ensures.ports)) c.requires.chosen)) in
    omega (arith, l.0, l.1, c.index_of.ensures, c.requires.backlog)
