-- After each call each port has its role.
use Rattle.std.proofs.Common.{◌≡◌, ℕ, List, [], ◌∷◌, ◌++◌, Some, None, refl, sym, ap, ap₂, ◌∙◌, subst, Bool, true}
use Rattle.std.proofs.Common.{false, is_some, ◌==◌, ◌&&◌, not, if◌then◌else◌, inl, inr}
use Rattle.std.specs.declared.option.Option.{Option}
use Rattle.std.specs.List.{flat_map, list_any, AllByRecursion}
use Rattle.std.proofs.lemmas.Bool.{eq-eqb}
use Rattle.pb_rstp.specs.Vectors.{is_better, own_vector, port_id, raised}
use Rattle.pb_rstp.specs.Ports.{is_designated, is_discarding, id_of, stored_vector, designated_vector, fwd_delay_of}
use Rattle.pb_rstp.specs.declared.port.Info.{Info}
use Rattle.pb_rstp.specs.declared.port.Port.{Port}
use Rattle.pb_rstp.specs.Roles.{offer_of, offers, best, root_vector, came_from, other_role, role_by, IsWay}
use Rattle.pb_rstp.specs.Roles.{IsWayOfSome, IsRootVector, OffersBetter, StoresBetter, HasRole}
use Rattle.pb_rstp.specs.Settling.{nows, each, with_role, with_roles, without_agreement, with_agreements}
use Rattle.pb_rstp.specs.Settling.{without_info, with_infos, held_back, forwarding_if_agreed, state_by, with_state}
use Rattle.pb_rstp.specs.Settling.{synced, agreeing, with_proposal, is_proposed, is_root_agreeing, is_agreeing}
use Rattle.pb_rstp.specs.Settling.{with_tc_while, is_telling, is_sending, after_sending, with_sent, in_line, settled}
use Rattle.pb_rstp.specs.Settling.{with_topology, befores, offer_by, is_updated, with_update}
use Rattle.pb_rstp.specs.declared.message.Offer.{Offer}
use Rattle.pb_rstp.specs.declared.moving.Moving.{Moving}
use Rattle.pb_rstp.specs.declared.moving.Heard.{Heard}
use Rattle.pb_rstp.specs.declared.vector.Vector.{Vector}
use Rattle.pb_rstp.specs.declared.role.Role.{Role}
use Rattle.pb_rstp.specs.declared.role.Role.TheVariants.{Disabled, Root, Designated, Alternate, Backup}
use Rattle.pb_rstp.proofs.RootLaws.{root_vector-is, root_vector-unique}

-- two ports agree in all that roles depend on
pub record SameSeen (p q : Port) : Type 0 where
  pub number : q.number ≡ p.number
  pub cost : q.cost ≡ p.cost
  pub priority : q.priority ≡ p.priority
  pub port_enabled : q.port_enabled ≡ p.port_enabled
  pub info : q.info ≡ p.info

-- a port's root path priority vector, by what it depends on
abbrev offer_at : ℕ → Option Info → ℕ → ℕ → List Vector
offer_at id None cost receiving = []
offer_at id (Some info) cost receiving =
    if info.bridge == id then [] else record {
      root = info.root;
      cost = raised info.cost cost;
      bridge = info.bridge;
      port = info.port;
      receiving = receiving;
    } ∷ []

-- the same for a port that may be disabled
abbrev offers_at : ℕ → Bool → Option Info → ℕ → ℕ → ℕ → List Vector
offers_at id port_enabled info cost priority number =
    if port_enabled then offer_at id info cost (port_id priority number) else []

-- a port's root path priority vector depends on nothing else
offers-at : (id : ℕ) (p : Port) → offers id p ≡ offers_at id p.port_enabled p.info p.cost p.priority p.number
offers-at id p = ap (λ o. if p.port_enabled then o else []) (by_info p.info)
  where
    by_info : (o : Option Info) → offer_of id p o ≡ offer_at id o p.cost (port_id p.priority p.number)
    by_info None = refl
    by_info (Some info) = refl

-- ports that agree in all that roles depend on have the same root path priority vector
pub offers-same : (id : ℕ) (p q : Port) → SameSeen p q → offers id q ≡ offers id p
offers-same id p q s =
    offers-at id q
    ∙ rw (s.port_enabled, s.info, s.cost, s.priority, s.number) refl
    ∙ sym (offers-at id p)

-- the role of a port that is not the Root port, by what it depends on
abbrev other_at : ℕ → Vector → ℕ → Option Info → Role
other_at id root receiving None = Designated
other_at id root receiving (Some info) =
    if is_better (record { root = root.root; cost = root.cost; bridge = id; port = receiving; receiving = receiving })
    (record { root = info.root; cost = info.cost; bridge = info.bridge; port = info.port; receiving = receiving })
    then Designated
    else (if info.bridge == id then Backup else Alternate)

-- the role of any port, by what it depends on
abbrev role_at : ℕ → Vector → Bool → Option Info → ℕ → ℕ → Role
role_at id root port_enabled info priority number =
    if port_enabled then (if root.receiving == port_id priority number then Root
    else other_at id root (port_id priority number) info) else Disabled

-- a port's role depends on nothing else
role-at : (id : ℕ) (root : Vector) (p : Port)
    → role_by id root p ≡ role_at id root p.port_enabled p.info p.priority p.number
role-at id root p =
    ap (λ r. if p.port_enabled then (if came_from root p then Root else r) else Disabled) (by_info p.info)
  where
    by_info : (o : Option Info) → other_role id root p o ≡ other_at id root (port_id p.priority p.number) o
    by_info None = refl
    by_info (Some info) = refl

-- ports that agree in all that roles depend on have the same role
pub role-same : (id : ℕ) (root : Vector) (p q : Port) → SameSeen p q → role_by id root q ≡ role_by id root p
role-same id root p q s =
    role-at id root q
    ∙ rw (s.port_enabled, s.info, s.priority, s.number) refl
    ∙ sym (role-at id root p)

-- a port has the role that the root priority vector gives it
abbrev pub HasRoleBy : ℕ → Vector → Port → Type 0
HasRoleBy id root p = p.role ≡ role_by id root p

-- all ports have the roles of this root priority vector, which is that of the ports
abbrev pub HaveRoles : ℕ → Vector → List Moving → Type 0
HaveRoles id root ports = (root_vector id (nows ports) ≡ root) × AllByRecursion (HasRoleBy id root) (nows ports)

-- Changes of each port.

-- a change that leads from one property to another, for each port, does so for all ports
pub each-all : (P Q : Port → Type 0) (f : Port → Port → Port) → ((was now : Port) → P now → Q (f was now))
    → (ports : List Moving)
    → AllByRecursion P (nows ports) → AllByRecursion Q (nows (each f ports))
each-all P Q f keeps [] h = tt
each-all P Q f keeps (p ∷ ps) h = (keeps p.was p.now h.0, each-all P Q f keeps ps h.1)

-- a change that keeps each port's root path priority vector keeps all of them
offers-each : (id : ℕ) (f : Port → Port → Port) → ((was now : Port) → offers id (f was now) ≡ offers id now)
    → (ports : List Moving)
    → flat_map (offers id) (nows (each f ports)) ≡ flat_map (offers id) (nows ports)
offers-each id f same [] = refl
offers-each id f same (p ∷ ps) = ap₂ (λ a b. a ++ b) (same p.was p.now) (offers-each id f same ps)

-- a change that keeps what roles depend on keeps the root priority vector
root-each : (id : ℕ) (f : Port → Port → Port) → ((was now : Port) → SameSeen now (f was now)) → (ports : List Moving)
    → root_vector id (nows (each f ports)) ≡ root_vector id (nows ports)
root-each id f same ports =
    ap (λ os. best (own_vector id) os) (offers-each id f (λ was now. offers-same id now (f was now) (same was now))
    ports)

-- a change keeps what roles depend on, and the role
pub record Keeps (p q : Port) : Type 0 where
  pub seen : SameSeen p q
  pub role : q.role ≡ p.role

-- a change that keeps these of each port keeps all roles right
pub roles-each : (id : ℕ) (root : Vector) (f : Port → Port → Port) → ((was now : Port) → Keeps now (f was now))
    → (ports : List Moving)
    → HaveRoles id root ports → HaveRoles id root (each f ports)
roles-each id root f keeps ports h = (
  root-each id f (λ was now. (keeps was now).seen) ports ∙ h.0,
  each-all (HasRoleBy id root) (HasRoleBy id root) f
      (λ was now e. (keeps was now).role ∙ e ∙ sym (role-same id root now (f was now) (keeps was now).seen)) ports h.1,
)

-- a port agrees with itself
same_seen : (p : Port) → SameSeen p p
same_seen p = record { number = refl; cost = refl; priority = refl; port_enabled = refl; info = refl }

-- no change keeps all
pub keeps_all : (p : Port) → Keeps p p
keeps_all p = record { seen = same_seen p; role = refl }

-- of two changes that keep these, either choice keeps them
keeps-if : (b : Bool) (p q r : Port) → Keeps p q → Keeps p r → Keeps p (if b then q else r)
keeps-if true p q r kq kr = kq
keeps-if false p q r kq kr = kr

-- after stage 1 all roles are right
pub roles-first : (id : ℕ) (ports : List Moving) → HaveRoles id (root_vector id (nows ports)) (with_roles id ports)
roles-first id ports = (
  root-each id (with_role id (root_vector id (nows ports)))
      (λ was now. same_role was now (root_vector id (nows ports))) ports,
  all (root_vector id (nows ports)) ports,
)
  where
    same_role : (was now : Port) (root : Vector) → SameSeen now (with_role id root was now)
    same_role was now root = record { number = refl; cost = refl; priority = refl; port_enabled = refl; info = refl }

    all : (root : Vector) (ports : List Moving)
        → AllByRecursion (HasRoleBy id root) (nows (each (with_role id root) ports))
    all root [] = tt
    all root (p ∷ ps) = (
      sym (role-same id root p.now (with_role id root p.was p.now) (same_role p.was p.now root)),
      all root ps,
    )

-- stage 2 changes no role
pub keeps-agreement : (was now : Port) → Keeps now (without_agreement was now)
keeps-agreement was now =
    record {
      seen = record { number = refl; cost = refl; priority = refl; port_enabled = refl; info = refl };
      role = refl;
    }

-- of two lists of ports with right roles, either choice has them
roles-if : (id : ℕ) (root : Vector) (b : Bool) (ps qs : List Moving) → HaveRoles id root ps → HaveRoles id root qs
    → HaveRoles id root (if b then ps else qs)
roles-if id root true ps qs hp hq = hp
roles-if id root false ps qs hp hq = hq

-- after stage 2 all roles are right
pub roles-second : (id : ℕ) (root : Vector) (ports : List Moving) → HaveRoles id root ports
    → HaveRoles id root (with_agreements id ports)
roles-second id root ports h =
    roles-if id root _ ports (each without_agreement ports) h
    (roles-each id root without_agreement keeps-agreement ports h)

-- the test for Designated passes for that role alone
designated_is : (r : Role) → is_designated r ≡ true → r ≡ Designated
designated_is Designated e = refl
designated_is _ e = cc

-- the port from which the root priority vector came is the Root port
root_role : (id : ℕ) (root : Vector) (p : Port) → IsWay id p root → role_by id root p ≡ Root
root_role id root p (info, enabled, stored, other, is) =
    let receiving : root.receiving ≡ id_of p = ap (λ v. v.receiving) is in
    let came : came_from root p ≡ true = eq-eqb root.receiving (id_of p) receiving in
    ap₂ (λ u c. if u then (if c then Root else other_role id root p p.info) else Disabled) enabled came

-- stage 3 leaves the Root port as it is
root_port_kept : (was p : Port) → p.role ≡ Root → without_info was p ≡ p
root_port_kept was p role =
    ap (λ r. if is_designated r && is_some p.info then record p { info = None; new_info = true } else p) role

-- the root priority vector is still a port's root path priority vector after stage 3
way_kept : (id : ℕ) (root : Vector) (ports : List Moving) → AllByRecursion (HasRoleBy id root) (nows ports)
    → IsWayOfSome id (nows ports) root → IsWayOfSome id (nows (each without_info ports)) root
way_kept id root [] roles h = absurd h
way_kept id root (m ∷ ms) roles (inl way) =
    let P : Port → Type 0 = λ q. IsWay id q root in
    inl (subst P (sym (root_port_kept m.was m.now (roles.0 ∙ root_role id root m.now way))) way)
way_kept id root (m ∷ ms) roles (inr h) = inr (way_kept id root ms roles.1 h)

-- stage 3 adds no root path priority vector
way_was : (id : ℕ) (v : Vector) (ports : List Moving) → IsWayOfSome id (nows (each without_info ports)) v
    → IsWayOfSome id (nows ports) v
way_was id v [] h = absurd h
way_was id v (m ∷ ms) (inl way) = inl (by_test (is_designated m.now.role && is_some m.now.info) way)
  where
    by_test : (t : Bool) → IsWay id (if t then record m.now { info = None; new_info = true } else m.now) v
        → IsWay id m.now v
    by_test true (info, enabled, stored, other, is) = cc
    by_test false way = way
way_was id v (m ∷ ms) (inr h) = inr (way_was id v ms h)

-- stage 3 leaves the root priority vector
without_info_root : (id : ℕ) (root : Vector) (ports : List Moving) → HaveRoles id root ports
    → root_vector id (nows (with_infos ports)) ≡ root
without_info_root id root ports h =
    let P : Vector → Type 0 = λ v. IsRootVector id (nows ports) v in
    let is : IsRootVector id (nows ports) root = subst P h.0 (root_vector-is id (nows ports)) in
    let still : IsRootVector id (nows (with_infos ports)) root = record {
      candidate = elim is.candidate [ inl e ↦ inl e | inr way ↦ inr (way_kept id root ports h.1 way) ];
      least = λ v candidate. is.least v (elim candidate [ inl e ↦ inl e | inr way ↦ inr (way_was id v ports way) ]);
    } in
    root_vector-unique id (nows (with_infos ports)) (root_vector id (nows (with_infos ports))) root
    (root_vector-is id (nows (with_infos ports))) still

-- a Designated port is Designated also if it stores nothing
designated_still : (enabled came : Bool) (r other : Role) → r ≡ Designated
    → r ≡ (if enabled then (if came then Root else other) else Disabled)
    → r ≡ (if enabled then (if came then Root else Designated) else Disabled)
designated_still true false r other d e = d
designated_still _ _ r other d e = e

-- stage 3 leaves each role right
role_without_info : (id : ℕ) (root : Vector) (was now : Port) → HasRoleBy id root now
    → HasRoleBy id root (without_info was now)
role_without_info id root was now e = by_test (is_designated now.role) (is_some now.info) refl
  where
    by_test : (d s : Bool) → is_designated now.role ≡ d
        → HasRoleBy id root (if d && s then record now { info = None; new_info = true } else now)
    by_test true true d = designated_still now.port_enabled (came_from root now) now.role
        (other_role id root now now.info)
        (designated_is now.role d) e
    by_test _ _ d = e

-- after stage 3 all roles are right
pub roles-third : (id : ℕ) (root : Vector) (ports : List Moving) → HaveRoles id root ports
    → HaveRoles id root (with_infos ports)
roles-third id root ports h = (
  without_info_root id root ports h,
  each-all (HasRoleBy id root) (HasRoleBy id root) without_info (role_without_info id root) ports h.1,
)

-- stage 4 changes no role
pub keeps-state : (fwd_delay : ℕ) (was now : Port) → Keeps now (with_state fwd_delay was now)
keeps-state fwd_delay was now = by_role now.role
  where
    agreed : (p q : Port) → Keeps p q → Keeps p (forwarding_if_agreed q)
    agreed p q k = keeps-if q.agreed p _ q
        (record {
          seen = record {
            number = k.seen.number;
            cost = k.seen.cost;
            priority = k.seen.priority;
            port_enabled = k.seen.port_enabled;
            info = k.seen.info;
          };
          role = k.role;
        }) k

    by_role : (r : Role) → Keeps now (state_by fwd_delay r was now)
    by_role Root = record {
      seen = record { number = refl; cost = refl; priority = refl; port_enabled = refl; info = refl };
      role = refl;
    }
    by_role Disabled = record {
      seen = record { number = refl; cost = refl; priority = refl; port_enabled = refl; info = refl };
      role = refl;
    }
    by_role Alternate = record {
      seen = record {
        number = refl;
        cost = refl;
        priority = refl;
        port_enabled = refl;
        info = refl;
      };
      role = refl;
    }
    by_role Backup = record {
      seen = record { number = refl; cost = refl; priority = refl; port_enabled = refl; info = refl };
      role = refl;
    }
    by_role Designated = agreed now (if is_designated was.role then now else held_back fwd_delay now)
        (keeps-if (is_designated was.role) now now (held_back fwd_delay now) (keeps_all now)
        (record {
          seen = record { number = refl; cost = refl; priority = refl; port_enabled = refl; info = refl };
          role = refl;
        }))

-- holding back a port changes no role
keeps_held : (fwd_delay : ℕ) (p : Port) → Keeps p (held_back fwd_delay p)
keeps_held fwd_delay p = record {
  seen = record { number = refl; cost = refl; priority = refl; port_enabled = refl; info = refl };
  role = refl;
}

-- holding back Designated ports in stage 5 changes no role
pub keeps-synced : (fwd_delay : ℕ) (was now : Port) → Keeps now (synced fwd_delay was now)
keeps-synced fwd_delay was now =
    keeps-if (is_designated now.role && not now.agreed && not (is_discarding now.state)) now _ now
    (keeps_held fwd_delay now) (keeps_all now)

-- agreeing to a proposal changes no role
pub keeps-agreeing : (number : ℕ) (was now : Port) → Keeps now (agreeing number was now)
keeps-agreeing number was now =
    keeps-if (is_agreeing number now) now _ now
    (record {
      seen = record { number = refl; cost = refl; priority = refl; port_enabled = refl; info = refl };
      role = refl;
    })
    (keeps_all now)

-- after stage 5 all roles are right
pub roles-fifth : (id : ℕ) (root : Vector) (heard : Option Heard) (ports : List Moving) → HaveRoles id root ports
    → HaveRoles id root (with_proposal heard ports)
roles-fifth id root None ports h = h
roles-fifth id root (Some heard) ports h =
    roles-if id root (is_proposed heard) _ ports
    (roles-each id root (agreeing heard.port) (keeps-agreeing heard.port) _
    (roles-if id root (list_any (is_root_agreeing heard.port) (nows ports)) _ ports
    (roles-each id root (synced (fwd_delay_of (nows ports))) (keeps-synced (fwd_delay_of (nows ports))) ports h) h)) h

-- stage 6 changes no role
pub keeps-tc_while : (prompt : Bool) (heard : Option Heard) (ports : List Moving) (was now : Port)
    → Keeps now (with_tc_while prompt heard ports was now)
keeps-tc_while prompt heard ports was now =
    keeps-if (is_telling prompt heard ports now) now _ now
    (record {
      seen = record { number = refl; cost = refl; priority = refl; port_enabled = refl; info = refl };
      role = refl;
    })
    (keeps_all now)

-- stage 7 changes no role
pub keeps-update : (id : ℕ) (before after : Offer) (was now : Port) → Keeps now (with_update id before after was now)
keeps-update id before after was now =
    keeps-if (is_updated id before after was now) now _ now
    (record {
      seen = record { number = refl; cost = refl; priority = refl; port_enabled = refl; info = refl };
      role = refl;
    })
    (keeps_all now)

-- stage 8 changes no role
pub keeps-sending : (was now : Port) → Keeps now (after_sending was now)
keeps-sending was now =
    keeps-if (is_sending now) now _ now
    (record {
      seen = record { number = refl; cost = refl; priority = refl; port_enabled = refl; info = refl };
      role = refl;
    })
    (keeps_all now)

-- after all stages all roles are right
pub roles_settled : (prompt : Bool) (id : ℕ) (heard : Option Heard) (ports : List Moving)
    → HaveRoles id (root_vector id (nows ports)) (with_sent (settled prompt id heard ports))
roles_settled prompt id heard ports =
    let root = root_vector id (nows ports) in
    let first = roles-first id ports in
    let second = roles-second id root (with_roles id ports) first in
    let third = roles-third id root (with_agreements id (with_roles id ports)) second in
    let infos = with_infos (with_agreements id (with_roles id ports)) in
    let fourth : HaveRoles id root (in_line id ports) =
    roles-each id root (with_state (fwd_delay_of (nows infos))) (keeps-state (fwd_delay_of (nows infos))) infos third in
    let fifth = roles-fifth id root heard (in_line id ports) fourth in
    let proposed = with_proposal heard (in_line id ports) in
    let reported = with_topology prompt heard proposed in
    let sixth : HaveRoles id root reported =
    roles-each id root (with_tc_while prompt heard proposed) (keeps-tc_while prompt heard proposed) proposed fifth in
    let before = offer_by id (befores reported) in
    let after = offer_by id (nows reported) in
    let seventh : HaveRoles id root (settled prompt id heard ports) =
    roles-if id root prompt _ reported
    (roles-each id root (with_update id before after) (keeps-update id before after) reported sixth) sixth in
    roles-each id root after_sending keeps-sending (settled prompt id heard ports) seventh

-- The computed role has the property that defines it.

-- the computed role has the property that defines it
pub has_role : (id : ℕ) (root : Vector) (p : Port) → HasRole id root p (role_by id root p)
has_role id root p = by_enabled p.port_enabled refl
  where
    by_better : (info : Info) → p.port_enabled ≡ true → came_from root p ≡ false → p.info ≡ Some info
        → (t own : Bool) → is_better (designated_vector id root p) (stored_vector p info) ≡ t
        → (info.bridge == id) ≡ own
        → HasRole id root p (if t then Designated else (if own then Backup else Alternate))
    by_better info enabled came stored true own e eo =
        let P : Option Info → Type 0 = λ o. OffersBetter id root p o in (enabled, came, subst P (sym stored) e)
    by_better info enabled came stored false true e eo =
        let P : Option Info → Type 0 = λ o. StoresBetter id root p o true in
        (enabled, came, subst P (sym stored) (e, eo))
    by_better info enabled came stored false false e eo =
        let P : Option Info → Type 0 = λ o. StoresBetter id root p o false in
        (enabled, came, subst P (sym stored) (e, eo))

    by_info : p.port_enabled ≡ true → came_from root p ≡ false → (o : Option Info) → p.info ≡ o
        → HasRole id root p (other_role id root p o)
    by_info enabled came None stored = let P : Option Info
        → Type 0 = λ o. OffersBetter id root p o in (enabled, came, subst P (sym stored) tt)
    by_info enabled came (Some info) stored = by_better info enabled came stored _ _ refl refl

    by_came : p.port_enabled ≡ true → (c : Bool) → came_from root p ≡ c
        → HasRole id root p (if c then Root else other_role id root p p.info)
    by_came enabled true came = (enabled, came)
    by_came enabled false came = by_info enabled came p.info refl

    by_enabled : (u : Bool) → p.port_enabled ≡ u
        → HasRole id root p (if u then (if came_from root p then Root else other_role id root p p.info) else Disabled)
    by_enabled true enabled = by_came enabled (came_from root p) refl
    by_enabled false enabled = enabled

-- right roles have the properties that define them, for every root priority vector of the ports
pub roles_related : (id : ℕ) (root : Vector) (all ports : List Port) → root_vector id all ≡ root
    → AllByRecursion (HasRoleBy id root) ports
    → AllByRecursion (λ p. (v : Vector) → IsRootVector id all v → HasRole id v p p.role) ports
roles_related id root all [] e h = tt
roles_related id root all (p ∷ ps) e h = (
  λ v is. related p v (sym e ∙ root_vector-unique id all (root_vector id all) v (root_vector-is id all) is) h.0,
  roles_related id root all ps e h.1,
)
  where
    related : (p : Port) (v : Vector) → root ≡ v → HasRoleBy id root p → HasRole id v p p.role
    related p v same role =
        let P : Vector → Type 0 = λ r. HasRole id r p p.role in
        let Q : Role → Type 0 = λ r. HasRole id root p r in
        subst P same (subst Q (sym role) (has_role id root p))
