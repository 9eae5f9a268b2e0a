use Rattle.std.proofs.Common.{◌≡◌, ℕ, List, ap, sym, subst, ◌∙◌, length, arith}
use Rattle.std.proofs.lemmas.List.{with_items_is}
use Rattle.std.specs.Vec.{with_items}
use Rattle.pb_lan.specs.declared.shape.PortState.{PortState}
use Rattle.pb_rstp.specs.Changes.{IsSameBridge, HoldsOldRoots, NamesChanges}
use Rattle.pb_rstp.specs.Laws.{IsInLine}
use Rattle.pb_rstp.specs.Machine.{moved_by, own_change, settle}
use Rattle.pb_rstp.specs.Ports.{Machine}
use Rattle.pb_rstp.specs.Readings.{roles_of, states_of}
use Rattle.pb_rstp.specs.Settling.{nows, offer_by, settled, with_sent}
use Rattle.pb_rstp.specs.declared.change.Change.{Change}
use Rattle.pb_rstp.specs.declared.moving.Moving.{Moving}
use Rattle.pb_rstp.specs.declared.port.Port.{Port}
use Rattle.pb_rstp.specs.declared.role.Role.{Role}
use Rattle.pb_rstp.proofs.ChangeLaws.{settle_named}
use Rattle.pb_rstp.proofs.InPlace.{length-now}
use Rattle.pb_rstp.proofs.LineLaws.{settled_in_line}
use Rattle.pb_rstp.proofs.MovingLaws.{moving_by, same_own, settle_same}
use Rattle.pb_rstp.proofs.OldRootLaws.{settle_old_roots}
use Rattle.pb_rstp.proofs.RunLaws.{ports_after, told_after}
use Rattle.pb_rstp.proofs.rstp.Rstp.conclude.Goals as goal

-- what holds of the bridge and its ports inside the call holds of those that its caller sees
as_called : {old now : Machine} {new settled : List Port} (R : Machine → List Port → Type 0) → old ≡ now → new ≡ settled
    → R old settled → R now new
as_called {old} {now} {new} {settled} R view e h = subst (λ (m : Machine). R m new) view (subst (R old) (sym e) h)

pub run-requires : goal.run-requires
run-requires c =
    c.requires
    ∙ ap (λ (m : Machine). offer_by m.id m.ports) (sym c.self.view_is)
    ∙ ap (λ ms. offer_by c.self.inside.id (nows ms)) (sym c.deref_mut.ensures.value)

pub tell_roles-requires : goal.tell_roles-requires
tell_roles-requires c =
    let old = c.self.inside in
    let told = ap length (c.deref_mut-2.ensures.value ∙ c.self.invariant.roles) in
    let read : Port → ℕ × Role = λ p. (p.number, p.role) in
    let long = length-now read old.ports.items in
    let seen = ap length (c.deref.ensures.value ∙ with_items_is old.ports c.run.new.ports (omega arith)) in
    let count = old.ports.ok.0 in
    omega (arith, told, long, seen, count)

pub tell_states-requires : goal.tell_states-requires
tell_states-requires c =
    let old = c.self.inside in
    let told = ap length (c.deref_mut-3.ensures.value ∙ c.self.invariant.states) in
    let read : Port → ℕ × PortState = λ p. (p.number, p.state) in
    let long = length-now read old.ports.items in
    let seen = ap length (c.deref-2.ensures.value ∙ with_items_is old.ports c.run.new.ports (omega arith)) in
    let count = old.ports.ok.0 in
    omega (arith, told, long, seen, count)

pub invariant_of-self-2 : goal.invariant_of-self-2
invariant_of-self-2 c =
    let old = c.self.inside in
    let own = c.args.own.now in
    let run : List Port → List Moving = λ ports.
    with_sent (settled old.prompt old.id c.args.heard (moved_by (own_change own) ports)) in
    told_after old.prompt old.id c.args.hello_when c.args.heard own (nows old.ports.items) _ _ _
    c.self.invariant.by_number
    (ports_after old.ports c.run.new.ports c.deref_mut.result.now run (omega arith) c.in_ok-change.ensures.ports
    c.deref_mut.ensures.value)
    (with_items_is old.roles c.tell_roles.new.roles (omega arith) ∙ c.tell_roles.ensures
    ∙ ap (λ ms. roles_of (nows ms)) c.deref.ensures.value)
    (with_items_is old.states c.tell_states.new.states (omega arith) ∙ c.tell_states.ensures
    ∙ ap (λ ms. states_of (nows ms)) c.deref-2.ensures.value)

pub returns-clause-ok : goal.returns-clause-ok
returns-clause-ok c =
    let old = c.self.inside in
    let own = c.args.own.now in
    let run : List Port → List Moving = λ ports.
    with_sent (settled old.prompt old.id c.args.heard (moved_by (own_change own) ports)) in
    ap (λ (ports : List Port). let machine : Machine =
    record { id = old.id; prompt = old.prompt; ports = ports; hello_when = c.args.hello_when } in machine)
    (ports_after old.ports c.run.new.ports c.deref_mut.result.now run (omega arith)
    c.in_ok-change.ensures.ports c.deref_mut.ensures.value)
    ∙ ap (λ (m : Machine). (settle m.prompt m.id c.args.hello_when c.args.heard
    (moved_by (own_change own) m.ports)).machine) c.self.view_is

pub returns-clause-change : goal.returns-clause-change
returns-clause-change c =
    let old = c.self.inside in
    let own = c.args.own.now in
    c.in_ok-change.ensures.change
    ∙ ap (λ ms. (settle old.prompt old.id c.args.hello_when c.args.heard (moved_by (own_change own) (nows ms))).change)
    c.deref_mut.ensures.value
    ∙ ap (λ (m : Machine). (settle m.prompt m.id c.args.hello_when c.args.heard
    (moved_by (own_change own) m.ports)).change) c.self.view_is

pub returns-clause-same : goal.returns-clause-same
returns-clause-same c =
    let old = c.self.inside in
    let own = c.args.own.now in
    let before = nows old.ports.items in
    let run : List Port → List Moving = λ ports.
    with_sent (settled old.prompt old.id c.args.heard (moved_by (own_change own) ports)) in
    as_called (λ m ports. IsSameBridge m (record {
      id = old.id;
      prompt = old.prompt;
      ports = ports;
      hello_when = c.args.hello_when;
    }))
    c.self.view_is
    (ports_after old.ports c.run.new.ports c.deref_mut.result.now run (omega arith)
    c.in_ok-change.ensures.ports c.deref_mut.ensures.value)
    (settle_same old.prompt old.id old.hello_when c.args.hello_when c.args.heard before
    (moved_by (own_change own) before) (moving_by (own_change own) (same_own own) before))

pub returns-clause-old_roots : goal.returns-clause-old_roots
returns-clause-old_roots c =
    let old = c.self.inside in
    let own = c.args.own.now in
    let before = nows old.ports.items in
    let run : List Port → List Moving = λ ports.
    with_sent (settled old.prompt old.id c.args.heard (moved_by (own_change own) ports)) in
    as_called (λ m ports. HoldsOldRoots m (record {
      id = old.id;
      prompt = old.prompt;
      ports = ports;
      hello_when = c.args.hello_when;
    }))
    c.self.view_is
    (ports_after old.ports c.run.new.ports c.deref_mut.result.now run (omega arith)
    c.in_ok-change.ensures.ports c.deref_mut.ensures.value)
    (settle_old_roots old.prompt old.id old.hello_when c.args.hello_when c.args.heard before
    (moved_by (own_change own) before) (moving_by (own_change own) (same_own own) before) c.self.invariant.in_line)

pub returns-clause-named : goal.returns-clause-named
returns-clause-named c =
    let old = c.self.inside in
    let own = c.args.own.now in
    let before = nows old.ports.items in
    let moved = moved_by (own_change own) before in
    let run : List Port → List Moving = λ ports.
    with_sent (settled old.prompt old.id c.args.heard (moved_by (own_change own) ports)) in
    let R : Change → Machine → List Port → Type 0 = λ change m ports. NamesChanges m
    (record { id = old.id; prompt = old.prompt; ports = ports; hello_when = c.args.hello_when }) change in
    subst (λ (change : Change).
    R change c.args.self.now (nows (with_items old.ports c.run.new.ports).items))
    (sym (c.in_ok-change.ensures.change
    ∙ ap (λ ms. (settle old.prompt old.id c.args.hello_when c.args.heard (moved_by (own_change own) (nows ms))).change)
    c.deref_mut.ensures.value))
    (as_called (R (settle old.prompt old.id c.args.hello_when c.args.heard moved).change) c.self.view_is
    (ports_after old.ports c.run.new.ports c.deref_mut.result.now run (omega arith)
    c.in_ok-change.ensures.ports c.deref_mut.ensures.value)
    (settle_named old.prompt old.id old.hello_when c.args.hello_when c.args.heard before moved
    (moving_by (own_change own) (same_own own) before) c.self.invariant.by_number))

pub returns-clause-in_line : goal.returns-clause-in_line
returns-clause-in_line c =
    let old = c.self.inside in
    let own = c.args.own.now in
    let run : List Port → List Moving = λ ports.
    with_sent (settled old.prompt old.id c.args.heard (moved_by (own_change own) ports)) in
    subst (λ (ports : List Port). let machine : Machine =
    record { id = old.id; prompt = old.prompt; ports = ports; hello_when = c.args.hello_when } in IsInLine machine)
    (sym (ports_after old.ports c.run.new.ports c.deref_mut.result.now run (omega arith)
    c.in_ok-change.ensures.ports c.deref_mut.ensures.value))
    (settled_in_line old.prompt old.id c.args.hello_when c.args.heard
    (moved_by (own_change own) (nows old.ports.items)))
