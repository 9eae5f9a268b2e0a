-- The places of a network, with one of them changed.
use Rattle.std.proofs.Common.{◌≡◌, ℕ, zero, suc, ◌+◌, inl, inr, List, [], ◌∷◌, Some, slice_get, sym, ap, subst}
use Rattle.std.proofs.Common.{◌∙◌, length-set}
use Rattle.std.specs.List.{AllByRecursion}
use Rattle.std.proofs.Math.ListN.{set}
use Rattle.std.proofs.lemmas.Option.{slice_get_within}
use Rattle.std.proofs.lemmas.Bool.{cases_eq}
use Rattle.pb_frame.proofs.Lists.{Some-injective}
use Rattle.pb_frame.proofs.Things.{put_there, put_elsewhere}
use Rattle.pb_link.specs.Hands.{PlaceView}
use Rattle.pb_link.specs.Lanes.{LaneView}
use Rattle.pb_relay.specs.Standing.{BridgeView}
use Rattle.pb_net.specs.Nets.{ArePlaced}
use Rattle.pb_net.specs.Slots.{losses_of}
use Rattle.pb_net.specs.declared.net.Net.TheInside.{Inside}
use Rattle.pb_net.proofs.KnownSpots.{Keeps}

-- a property of each place, by index, holds after one place has changed
each_set : {X : Type 0} (P : ℕ → X → Type 0) (xs : List X) (r : ℕ) (old new : X) → slice_get xs r ≡ Some old
    → ((s : ℕ) (x : X) → slice_get xs s ≡ Some x → P s x)
    → (P r old → P r new) → (s : ℕ) (x : X) → slice_get (set xs r new) s ≡ Some x → P s x
each_set P xs r old new here each changed s x h = elim (cases_eq s r) [
  | inl e ↦
      let one : new ≡ x = Some-injective (sym (put_there xs r new (slice_get_within xs r old here))
      ∙ ap (λ k. slice_get (set xs r new) k) (sym e) ∙ h) in
      rw (e, ← one) (changed (each r old here))
  | inr ne ↦ each s x (sym (put_elsewhere xs r s new ne) ∙ h)
]

-- a property of all places holds after one place has changed
all_set : {X : Type 0} (P : X → Type 0) (xs : List X) (r : ℕ) (old new : X) → slice_get xs r ≡ Some old
    → AllByRecursion P xs → (P old → P new) → AllByRecursion P (set xs r new)
all_set P [] r old new here all changed = tt
all_set P (x ∷ xs) zero old new here all changed = (changed (subst P (Some-injective here) all.0), all.1)
all_set P (x ∷ xs) (suc r) old new here all changed = (all.0, all_set P xs r old new here all.1 changed)

-- the places are those of the plan after one has changed, if it keeps what the plan says of it
pub placed_bridge : (s : Inside) (r : ℕ) (old new : BridgeView) → Keeps s → slice_get s.bridges.items r ≡ Some old
    → new.plan ≡ old.plan → new.number ≡ old.number → new.is_kept ≡ old.is_kept
    → ArePlaced s.plan s.is_kept (set s.bridges.items r new) s.lanes.items s.customers.items
placed_bridge s r old new keeps here of_plan number is_kept =
    let p = keeps.1 in
    record {
      bridge_count = length-set s.bridges.items r new ∙ p.bridge_count;
      lane_count = p.lane_count;
      customer_count = p.customer_count;
      planned = each_set (λ _ b. b.plan ≡ s.plan) s.bridges.items r old new here p.planned (λ k. of_plan ∙ k);
      bridge_numbers = each_set (λ k b. b.number ≡ k + 1) s.bridges.items r old new here p.bridge_numbers
          (λ k. number ∙ k);
      kept_bridges = all_set (λ b. b.is_kept ≡ s.is_kept) s.bridges.items r old new here p.kept_bridges
          (λ k. is_kept ∙ k);
      kept_lanes = p.kept_lanes;
      kept_customers = p.kept_customers;
      lane_losses = p.lane_losses;
      customer_numbers = p.customer_numbers;
    }

pub placed_lane : (s : Inside) (r : ℕ) (old new : LaneView) → Keeps s → slice_get s.lanes.items r ≡ Some old
    → new.losses ≡ old.losses → new.is_kept ≡ old.is_kept
    → ArePlaced s.plan s.is_kept s.bridges.items (set s.lanes.items r new) s.customers.items
placed_lane s r old new keeps here losses is_kept =
    let p = keeps.1 in
    record {
      bridge_count = p.bridge_count;
      lane_count = length-set s.lanes.items r new ∙ p.lane_count;
      customer_count = p.customer_count;
      planned = p.planned;
      bridge_numbers = p.bridge_numbers;
      kept_bridges = p.kept_bridges;
      kept_lanes = all_set (λ l. l.is_kept ≡ s.is_kept) s.lanes.items r old new here p.kept_lanes (λ k. is_kept ∙ k);
      kept_customers = p.kept_customers;
      lane_losses = each_set (λ k l. l.losses ≡ losses_of s.plan (k + 1)) s.lanes.items r old new here p.lane_losses
          (λ k. losses ∙ k);
      customer_numbers = p.customer_numbers;
    }

pub placed_customer : (s : Inside) (r : ℕ) (old new : PlaceView) → Keeps s → slice_get s.customers.items r ≡ Some old
    → new.number ≡ old.number → new.is_kept ≡ old.is_kept
    → ArePlaced s.plan s.is_kept s.bridges.items s.lanes.items (set s.customers.items r new)
placed_customer s r old new keeps here number is_kept =
    let q = keeps.1 in
    record {
      bridge_count = q.bridge_count;
      lane_count = q.lane_count;
      customer_count = length-set s.customers.items r new ∙ q.customer_count;
      planned = q.planned;
      bridge_numbers = q.bridge_numbers;
      kept_bridges = q.kept_bridges;
      kept_lanes = q.kept_lanes;
      kept_customers = all_set (λ p. p.is_kept ≡ s.is_kept) s.customers.items r old new here q.kept_customers
          (λ k. is_kept ∙ k);
      lane_losses = q.lane_losses;
      customer_numbers = each_set (λ k p. p.number ≡ k + 1) s.customers.items r old new here q.customer_numbers
          (λ k. number ∙ k);
    }
