-- If the links whose two ends are Forwarding form no loop, something that waits leads to a place that can take a step.
use Rattle.std.proofs.Common.{◌≡◌, ◌⊎◌, inl, inr, ℕ, suc, Option, true, false, ◌==◌}
use Rattle.std.proofs.Common.{List, refl, sym, ◌∙◌, ap, subst, arith, length}
use Rattle.std.specs.Cmp.Derive.{both_true}
use Rattle.pb_frame.proofs.Lists.{Some-injective, eqb-refl}
use Rattle.pb_lan.proofs.PortsInPlans.{customer_at, end_at, IsEndOf, OnLink, sound-end, end-of-far, end-of-near}
use Rattle.pb_lan.proofs.PortsInPlans.{both-ends}
use Rattle.pb_lan.specs.Forests.{CrossesBy, HasEnds, ShowsAll}
use Rattle.pb_lan.specs.LastShapes.{last_shape}
use Rattle.pb_lan.specs.Numbering.{numbered}
use Rattle.pb_lan.specs.Plans.{IsNumber, IsSound, IsSoundEnd}
use Rattle.pb_lan.specs.Ports.{Port, port_at, is_used}
use Rattle.pb_lan.specs.Ports.Port.{Customer, Provider, Unused}
use Rattle.pb_lan.specs.Records.{steps_of, lane_ab, lane_ba}
use Rattle.pb_lan.specs.Shapes.{are_ends_forwarding, is_end_forwarding, is_forwarding, state_after}
use Rattle.pb_lan.specs.declared.plan.End.{End}
use Rattle.pb_lan.specs.declared.plan.Plan.{Plan}
use Rattle.pb_lan.specs.declared.record.Record.{Record}
use Rattle.pb_lan.specs.declared.shape.Rooted.{Rooted}
use Rattle.pb_lan.specs.declared.step.Item.{Item}
use Rattle.pb_standstill.proofs.Descent.{GoesOn, Leads, Walks, reached}
use Rattle.pb_standstill.proofs.Meetings.{queue_on, queue_out}
use Rattle.pb_standstill.proofs.Roads.{depth_of, leads_of, one_of_two, total, up_of, within_total}
use Rattle.pb_standstill.proofs.Rooms.{IsBlocked, last_state, receives}
use Rattle.pb_standstill.specs.Moves.{CanMove, CanReceive, LaneMove}
use Rattle.pb_standstill.specs.Moves.CanMove.{AtPort, OnLane}
use Rattle.pb_standstill.specs.Moves.LaneMove.{Receives}
use Rattle.pb_standstill.specs.Waits.{HasSome, IsLane, queue_at, ring_off}

-- the ends of a lane are those of its link
pub ends_of_lane : {plan : Plan} {lane : ℕ} {from to : End} (l : IsLane plan lane from to) → HasEnds l.link from to
ends_of_lane {lane = lane} {from = from} {to = to} l = by l.leads
  where
    by : ((lane ≡ lane_ab l.number) × (l.link.a ≡ from) × (l.link.b ≡ to))
        ⊎ ((lane ≡ lane_ba l.number) × (l.link.b ≡ from) × (l.link.a ≡ to)) → HasEnds l.link from to
    by (inl h) = inl (h.1, h.2)
    by (inr h) = inr (h.1, h.2)

-- something waits on the ring from a lane to its far bridge, and the near end of the lane's link is Forwarding
pub record IsLoaded (plan : Plan) (rec : Record) (lane : ℕ) (near far : End) : Type 0 where
  pub along : IsLane plan lane near far
  pub open_near : is_forwarding (state_after plan near.bridge (steps_of rec.bridges near.bridge) near.port) ≡ true
  pub waits : HasSome (ring_off rec lane far)

-- a loaded lane that begins at this port of a bridge
pub record LeavesBy (plan : Plan) (rec : Record) (bridge port : ℕ) : Type 0 where
  pub lane : ℕ
  pub near : End
  pub far : End
  pub loaded : IsLoaded plan rec lane near far
  pub from : near.bridge ≡ bridge
  pub through : near.port ≡ port

-- the lane from an end of a link
pub lane_from : (plan : Plan) (e : End) → OnLink plan e → (lane : ℕ) × (far : End) × IsLane plan lane e far
lane_from plan e (k, link, at, h) = by h
  where
    by : IsEndOf link e → (lane : ℕ) × (far : End) × IsLane plan lane e far
    by (inl h) = (
      lane_ab (suc k),
      link.b,
      record {
        number = suc k;
        link = link;
        numbered_so = at;
        leads = inl
            (refl, h, refl);
      },
    )
    by (inr h) = (
      lane_ba (suc k),
      link.a,
      record {
        number = suc k;
        link = link;
        numbered_so = at;
        leads = inr
            (refl, h, refl);
      },
    )

-- what waits at a Forwarding port can move, or a lane that begins there is loaded
onward : (plan : Plan) (rec : Record) → IsSound plan → (bridge port : ℕ) → IsBlocked plan rec bridge port
    → CanMove plan rec ⊎ ((q : ℕ) × ((q == port) ≡ false) × LeavesBy plan rec bridge q)
onward plan rec sound bridge port h = by (port_at plan bridge h.exit) refl
  where
    at_lane : (e : End) → e.bridge ≡ bridge → e.port ≡ h.exit → (lane : ℕ) (far : End) → IsLane plan lane e far
        → CanMove plan rec ⊎ ((q : ℕ) × ((q == port) ≡ false) × LeavesBy plan rec bridge q)
    at_lane e b p lane far l =
        let waits : HasSome (queue_at plan rec e.bridge e.port) =
        subst (λ x. HasSome (queue_at plan rec x e.port)) (sym b)
        (subst (λ y. HasSome (queue_at plan rec bridge y)) (sym p) h.waits) in
        then (queue_on plan rec sound lane e far waits)
      where
        is_open : is_forwarding (state_after plan e.bridge (steps_of rec.bridges e.bridge) e.port) ≡ true
        is_open = subst (λ x. is_forwarding (state_after plan x (steps_of rec.bridges x) e.port) ≡ true) (sym b)
            (subst (λ y. is_forwarding (state_after plan bridge (steps_of rec.bridges bridge) y) ≡ true) (sym p)
            h.chosen.exit_open)

        then : LaneMove plan rec lane e far ⊎ HasSome (ring_off rec lane far)
            → CanMove plan rec ⊎ ((q : ℕ) × ((q == port) ≡ false) × LeavesBy plan rec bridge q)
        then (inl move) = inl (OnLane lane e far l move)
        then (inr some) = inr (
          h.exit,
          h.chosen.apart,
          record {
            lane = lane;
            near = e;
            far = far;
            loaded = record { along = l; open_near = is_open; waits = some };
            from = b;
            through = p;
          },
        )

    by : (p : Port) → port_at plan bridge h.exit ≡ p
        → CanMove plan rec ⊎ ((q : ℕ) × ((q == port) ≡ false) × LeavesBy plan rec bridge q)
    by (Customer c) e =
        let at = customer_at plan bridge h.exit c e in
        let waits : HasSome (queue_at plan rec c.bridge c.port) =
        subst (λ x. HasSome (queue_at plan rec x c.port)) (sym at.2)
        (subst (λ y. HasSome (queue_at plan rec bridge y)) (sym at.3) h.waits) in
        inl (AtPort at.0 c at.1 (queue_out plan rec sound at.0 c waits))
    by (Provider d) e =
        let at = end_at plan bridge h.exit d e in
        let l = lane_from plan d at.0 in
        at_lane d at.1 at.2 l.0 l.1 l.2
    by Unused e = let u : is_used Unused ≡ true = subst (λ p. is_used p ≡ true) e h.chosen.used in cc

-- a loaded lane over this link, from one bridge to another
abbrev Way : Plan → Record → ℕ → ℕ → ℕ → Type 0
Way plan rec k x y =
    (lane : ℕ) × (near : End) × (far : End) × (l : IsLoaded plan rec lane near far) × (l.along.number ≡ k)
    × (near.bridge ≡ x) × (far.bridge ≡ y)

-- a link that leads up does not begin and end at one bridge
not_one_bridge : (up : ℕ → Option ℕ) (depth : ℕ → ℕ) (k x y : ℕ) → Leads up depth k x y → x ≡ y → ⊥
not_one_bridge up depth k x y (inl h) e =
    let d = h.1 in let same : depth x ≡ depth y = ap depth e in omega (arith, d, same)
not_one_bridge up depth k x y (inr h) e =
    let d = h.1 in let same : depth x ≡ depth y = ap depth e in omega (arith, d, same)

-- a lane that begins at another port of a bridge than that where a link ends is one of another link
another_link : (plan : Plan) (up : ℕ → Option ℕ) (depth : ℕ → ℕ) (lane next : ℕ) (near far near2 far2 : End)
    (l : IsLane plan lane near far) (m : IsLane plan next near2 far2)
    → Leads up depth l.number near.bridge far.bridge → near2.bridge ≡ far.bridge
    → (near2.port == far.port) ≡ false → l.number ≡ m.number → ⊥
another_link plan up depth lane next near far near2 far2 l m leads from apart e =
    let same : l.link ≡ m.link = Some-injective (sym l.numbered_so ∙ ap (numbered plan.links) e ∙ m.numbered_so) in
    by (one_of_two l.link near far near2 far2 (ends_of_lane l)
    (subst (λ k. HasEnds k near2 far2) (sym same) (ends_of_lane m)))
  where
    by : ((near ≡ near2) × (far ≡ far2)) ⊎ ((near ≡ far2) × (far ≡ near2)) → ⊥
    by (inl h) = not_one_bridge up depth l.number near.bridge far.bridge leads (ap (λ f. f.bridge) h.0 ∙ from)
    by (inr h) =
        let t : (near2.port == far.port) ≡ true =
        subst (λ (f : End). (f.port == far.port) ≡ true) h.1 (eqb-refl far.port) in
        cc

-- a loaded lane has a place that can take a step, or another lane is loaded that goes on from its far end
next_lane : (plan : Plan) (rec : Record) (rooted : Rooted) → IsSound plan → ShowsAll plan (last_shape plan rec) rooted
    → (lane : ℕ) (near far : End) (l : IsLoaded plan rec lane near far)
    → CanMove plan rec
    ⊎ GoesOn (Way plan rec) (up_of rooted) (depth_of rooted) l.along.number near.bridge far.bridge
next_lane plan rec rooted sound shows lane near far l =
    by (receives plan rec sound far.bridge far.port far_sound.bridge (ring_off rec lane far) l.waits)
  where
    ends : HasEnds l.along.link near far
    ends = ends_of_lane l.along

    far_sound : IsSoundEnd plan far
    far_sound = sound-end plan sound l.along.number l.along.link far l.along.numbered_so
        (end-of-far l.along.link near far ends)

    near_sound : IsSoundEnd plan near
    near_sound = sound-end plan sound l.along.number l.along.link near l.along.numbered_so
        (end-of-near l.along.link near far ends)

    is_open : (e : End) → IsSoundEnd plan e
        → is_forwarding (state_after plan e.bridge (steps_of rec.bridges e.bridge) e.port) ≡ true
        → is_end_forwarding (last_shape plan rec) e ≡ true
    is_open e s h = ap is_forwarding (last_state plan rec e s) ∙ h

    crosses : is_forwarding (state_after plan far.bridge (steps_of rec.bridges far.bridge) far.port) ≡ true
        → CrossesBy plan (are_ends_forwarding (last_shape plan rec)) l.along.number near far
    crosses h =
        let both = both-ends (λ e. is_end_forwarding (last_shape plan rec) e ≡ true) l.along.link near far ends
        (is_open near near_sound l.open_near) (is_open far far_sound h) in
        record {
          link = l.along.link;
          numbered_so = l.along.numbered_so;
          active = both_true both.0 both.1;
          ends = ends;
        }

    by_next : Leads (up_of rooted) (depth_of rooted) l.along.number near.bridge far.bridge
        → CanMove plan rec ⊎ ((q : ℕ) × ((q == far.port) ≡ false) × LeavesBy plan rec far.bridge q)
        → CanMove plan rec
        ⊎ GoesOn (Way plan rec) (up_of rooted) (depth_of rooted) l.along.number near.bridge far.bridge
    by_next leads (inl move) = inl move
    by_next leads (inr (q, apart, w)) =
        let new : (w.near.port == far.port) ≡ false =
        subst (λ p. (p == far.port) ≡ false) (sym w.through) apart in
        inr (record {
          leads = leads;
          edge = w.loaded.along.number;
          far = w.far.bridge;
          way = (w.lane, w.near, w.far, w.loaded, refl, w.from, refl);
          other = another_link plan (up_of rooted) (depth_of rooted) lane w.lane near far w.near w.far l.along
              w.loaded.along leads w.from new;
        })

    by : CanReceive plan rec far.bridge far.port (ring_off rec lane far) ⊎ IsBlocked plan rec far.bridge far.port
        → CanMove plan rec
        ⊎ GoesOn (Way plan rec) (up_of rooted) (depth_of rooted) l.along.number near.bridge far.bridge
    by (inl can) = inl (OnLane lane near far l.along (Receives can))
    by (inr h) =
        by_next (leads_of plan (are_ends_forwarding (last_shape plan rec)) rooted shows l.along.number near far
        (crosses h.chosen.entry_open)) (onward plan rec sound far.bridge far.port h)

-- loaded lanes are the edges of a walk that never turns back
walks : (plan : Plan) (rec : Record) (rooted : Rooted) → IsSound plan → ShowsAll plan (last_shape plan rec) rooted
    → Walks (Way plan rec) (CanMove plan rec)
walks plan rec rooted sound shows = record {
  up = up_of rooted;
  depth = depth_of rooted;
  greatest = total rooted.depth;
  bound = within_total rooted.depth;
  next = λ k x y way.
      subst (λ j. CanMove plan rec ⊎ GoesOn (Way plan rec) (up_of rooted) (depth_of rooted) j x y) way.4
      (subst (λ v. CanMove plan rec ⊎ GoesOn (Way plan rec) (up_of rooted) (depth_of rooted) way.3.along.number v y)
      way.5
      (subst (λ v. CanMove plan rec ⊎ GoesOn (Way plan rec) (up_of rooted) (depth_of rooted) way.3.along.number
      way.1.bridge v) way.6 (next_lane plan rec rooted sound shows way.0 way.1 way.2 way.3)));
}

-- if the first item of the ring into a bridge cannot be received, some place can take a step
pub ring_moves : (plan : Plan) (rec : Record) (rooted : Rooted) → IsSound plan
    → ShowsAll plan (last_shape plan rec) rooted → (bridge port : ℕ) → IsNumber bridge (length plan.bridges)
    → (ring : List Item) → HasSome ring → (CanReceive plan rec bridge port ring → CanMove plan rec)
    → CanMove plan rec
ring_moves plan rec rooted sound shows bridge port n ring some received =
    by (receives plan rec sound bridge port n ring some)
  where
    by_next : CanMove plan rec ⊎ ((q : ℕ) × ((q == port) ≡ false) × LeavesBy plan rec bridge q) → CanMove plan rec
    by_next (inl move) = move
    by_next (inr (q, apart, w)) =
        reached (walks plan rec rooted sound shows) w.loaded.along.number w.near.bridge w.far.bridge
        (w.lane, w.near, w.far, w.loaded, refl, refl, refl)

    by : CanReceive plan rec bridge port ring ⊎ IsBlocked plan rec bridge port → CanMove plan rec
    by (inl can) = received can
    by (inr h) = by_next (onward plan rec sound bridge port h)
