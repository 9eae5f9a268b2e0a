-- The local ports that the services give.
use Rattle.std.proofs.Common.{◌≡◌, ℕ, suc, ◌+◌, ◌-◌, ◌<◌, ◌==◌, Bool, true, false, ◌||◌, Some, None, List, drop}
use Rattle.std.proofs.Common.{length, get_or, unwrap_or, refl, sym, ap, ◌∙◌, arith}
use Rattle.std.proofs.Math.Seq.{drop-cons, drop-length}
use Rattle.std.specs.List.{list_any}
use Rattle.std.specs.Option.{option_map}
use Rattle.std.specs.declared.option.Option.{Option}
use Rattle.pb_lan.proofs.Distinctness.{list_any-map}
use Rattle.pb_lan.specs.declared.shape.PortState.{PortState}
use Rattle.pb_lan.specs.declared.shape.PortState.TheVariants.{Discarding}
use Rattle.pb_svlan.specs.ServiceTables.{ServiceTable, kind_at, is_member, is_member_as}
use Rattle.pb_svlan.specs.declared.port.PortKind.{PortKind}
use Rattle.pb_svlan.specs.declared.port.PortKind.TheVariants.{Customer, Trunk}
use Rattle.pb_relay.specs.Loads.{is_member_of}
use Rattle.pb_relay.specs.PortKinds.{LocalPort, local_as, local_of, locals, told, told_as}
use Rattle.pb_relay.specs.PortKinds.LocalPort.{ToNobody}
use Rattle.pb_relay.proofs.VerdictLemmas.{get_up}

-- there are sixteen local ports
pub locals-length : (table : ServiceTable) (starts : List PortState) → length (locals table starts) ≡ 16
unfolding locals
locals-length table starts = refl

-- the local port at a place
pub local_here : (table : ServiceTable) (starts : List PortState) (place : ℕ) → place < 16
    → get_or (locals table starts) place ToNobody ≡ local_as table (get_or starts place Discarding)
    (kind_at table (place + 1))
unfolding locals
local_here table starts place l =
    let s : 1 + place ≡ place + 1 = omega arith in
    let t : place + 1 - 1 ≡ place = omega arith in
    get_up (local_of table starts) 16 1 place ToNobody l ∙ ap (local_of table starts) s
    ∙ ap (λ n. local_as table (get_or starts n Discarding) (kind_at table (place + 1))) t

pub told_here : (table : ServiceTable) (starts : List PortState) (place : ℕ) (kind : Option PortKind) → place < 16
    → kind ≡ kind_at table (place + 1)
    → told (local_as table (get_or starts place Discarding) kind) ≡ told (get_or (locals table starts) place ToNobody)
told_here table starts place kind l e = ap (λ o. told (local_as table (get_or starts place Discarding) o)) e
    ∙ ap told (sym (local_here table starts place l))

pub told_kind : (table : ServiceTable) (start : PortState) (kind : PortKind)
    → told_as start kind ≡ told (local_as table start (Some kind))
told_kind table start (Customer join) = refl
told_kind table start (Trunk vids) = refl

-- the membership of a local port is the one in the services
member_as : (table : ServiceTable) (start : PortState) (vid : ℕ) (kind : Option PortKind)
    → unwrap_or (option_map (is_member_as table vid) kind) false ≡ is_member_of (local_as table start kind) vid
member_as table start vid (Some (Trunk None)) = sym (list_any-map (λ w. w == vid) (λ s. s.0) table.services)
member_as table start vid _ = refl

pub member_here : (table : ServiceTable) (starts : List PortState) (place vid : ℕ) → place < 16
    → is_member table (place + 1) vid ≡ is_member_of (get_or (locals table starts) place ToNobody) vid
member_here table starts place vid l =
    member_as table (get_or starts place Discarding) vid (kind_at table (place + 1))
    ∙ ap (λ z. is_member_of z vid) (sym (local_here table starts place l))

-- some port from a place on passes the test if that port does, or some later one
pub any_from : (q : LocalPort → Bool) (ports : List LocalPort) (i : ℕ) → i < length ports
    → list_any q (drop i ports) ≡ (q (get_or ports i ToNobody) || list_any q (drop (i + 1) ports))
any_from q ports i l =
    let s : suc i ≡ i + 1 = omega arith in
    ap (list_any q) (drop-cons ports i ToNobody l)
    ∙ ap (λ n. q (get_or ports i ToNobody) || list_any q (drop n ports)) s

pub any_there : (q : LocalPort → Bool) (ports : List LocalPort) (i : ℕ) → i < length ports
    → list_any q (drop i ports) ≡ list_any q ports → q (get_or ports i ToNobody) ≡ true → true ≡ list_any q ports
any_there q ports i l h t = sym (ap (λ b. b || list_any q (drop (i + 1) ports)) t) ∙ sym (any_from q ports i l) ∙ h

pub any_later : (q : LocalPort → Bool) (ports : List LocalPort) (i : ℕ) → i < length ports
    → list_any q (drop i ports) ≡ list_any q ports → q (get_or ports i ToNobody) ≡ false
    → list_any q (drop (i + 1) ports) ≡ list_any q ports
any_later q ports i l h t = sym (ap (λ b. b || list_any q (drop (i + 1) ports)) t) ∙ sym (any_from q ports i l) ∙ h

pub any_none : (q : LocalPort → Bool) (ports : List LocalPort) (i : ℕ) → i ≡ length ports
    → list_any q (drop i ports) ≡ list_any q ports → false ≡ list_any q ports
any_none q ports i e h = sym (ap (list_any q) (ap (λ n. drop n ports) e ∙ drop-length ports)) ∙ h
