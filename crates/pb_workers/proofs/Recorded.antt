-- Taps that record what a lane puts.
use Rattle.std.proofs.Common.{◌≡◌, ℕ, zero, suc, ◌+◌, ◌<◌, Bool, true, false, List, [], ◌∷◌, ◌++◌, All, Some}
use Rattle.std.proofs.Common.{Result, Ok, Err, map, take, drop, length, get_or}
use Rattle.std.proofs.Common.{sym, ap, ◌∙◌, subst, arith, slice_set, option_to_list, get_or-drop, append-nil}
use Rattle.std.proofs.Math.Seq.{map-set_same}
use Rattle.std.proofs.lemmas.List.{map-append, length-map}
use Rattle.std.proofs.Math.ListN.{get_or-map}
use Rattle.std.proofs.lemmas.List.Elements.{All-same, All-map}
use Rattle.pb_frame.proofs.Things.{flat_map-more}
use Rattle.pb_frame.specs.declared.memory.Memory.{Memory}
use Rattle.pb_lan.specs.LaneLists.{put, put_by}
use Rattle.pb_lan.specs.declared.step.Item.{Item}
use Rattle.pb_lan.specs.declared.step.Step.{Step}
use Rattle.pb_lan.specs.declared.step.Step.TheVariants.{Put}
use Rattle.pb_link.specs.Lanes.{LaneView, HasSent, HasTaken, in_hand, taking}
use Rattle.pb_port.specs.Ports.{Frames}
use Rattle.pb_tap.specs.Taps.{own_of, HasRoom, IsPrepared}
use Rattle.pb_tap.specs.declared.tap.Tap.{Tap}
use Rattle.pb_workers.specs.Recording.{AreRecorded, ArePrepared, own_lists, put_wires, with_ready}

-- a tap that was given no frame takes the place of itself
pub own_kept : {P : Type 0} (taps : List (Tap P)) (i : ℕ) (t' t : Tap P) → t ≡ get_or taps i t
    → own_of t'.recorder ≡ own_of t.recorder → own_lists (slice_set taps i t') ≡ own_lists taps
own_kept taps i t' t value same =
    map-set_same (λ u. own_of u.recorder) taps i t' t (same ∙ ap (λ u. own_of u.recorder) value)

-- one more of a list's elements is replaced by one with another image
pub one_more : {X Y : Type 0} (f g : X → Y) (xs zs : List X) (i : ℕ) (x x' : X)
    → map g zs ≡ map f (take i xs) ++ map g (drop i xs) → drop i zs ≡ drop i xs → i < length xs
    → x ≡ get_or zs i x → g x' ≡ f x
    → (map g (slice_set zs i x') ≡ map f (take (suc i) xs) ++ map g (drop (suc i) xs))
    × (drop (suc i) (slice_set zs i x') ≡ drop (suc i) xs)
one_more f g [] zs i x x' same rest within at new = absurd (omega (arith, within))
one_more f g (y ∷ ys) [] zero x x' same rest within at new = absurd cc
one_more f g (y ∷ ys) [] (suc i) x x' same rest within at new = absurd cc
one_more f g (y ∷ ys) (z ∷ ws) zero x x' same rest within at new = (cc, cc)
one_more f g (y ∷ ys) (z ∷ ws) (suc i) x x' same rest within at new =
    let tails : map g ws ≡ map f (take i ys) ++ map g (drop i ys) = cc in
    let heads : g z ≡ f y = cc in
    let r = one_more f g ys ws i x x' tails rest (omega (arith, within)) at new in (
      ap (λ u. u ∷ map g (slice_set ws i x')) heads ∙ ap (λ us. f y ∷ us) r.0,
      r.1,
    )

-- the frames that a lane put, with that of one more Put step
put_wires_more : (steps : List Step) (item : Item) → put_wires (steps ++ Put item ∷ []) ≡ put_wires steps
    ++ item.wire ∷ []
put_wires_more steps item = ap (map (λ (i : Item). i.wire)) (flat_map-more put_by steps (Put item))
    ∙ map-append (λ (i : Item). i.wire) (put steps) (item ∷ [])

-- each tap was given what the lane put before: its copy is what the lane put last
given_more : {P : Type 0} (wire : List ℕ) (t : Tap P) (frames : Frames) → t.ready ≡ Some wire
    → own_of t.recorder ≡ frames
    → with_ready t ≡ frames ++ wire ∷ []
given_more wire t frames ready own = ap (λ o. own_of t.recorder ++ option_to_list o) ready
    ∙ ap (λ fs. fs ++ wire ∷ []) own

-- the taps record the item that the lane put
recorded_more : {P : Type 0} (taps taps' : List (Tap P)) (steps steps' : List Step) (item : Item)
    → own_lists taps' ≡ map with_ready taps → All (IsPrepared item.wire) taps → AreRecorded taps steps
    → steps' ≡ steps ++ Put item ∷ [] → AreRecorded taps' steps'
recorded_more {P} taps taps' steps steps' item same ready recorded e =
    let Q : Frames → Type 0 = λ frames. frames ≡ put_wires steps' in
    All-same Q (own_lists taps') (map with_ready taps) same
    (All-map Q with_ready taps (λ k d less.
    let own : own_of (get_or taps k d).recorder ≡ put_wires steps =
    sym (get_or-map (λ (t : Tap P). own_of t.recorder) taps k d)
    ∙ recorded k (own_of d.recorder) (omega (arith, less, length-map taps (λ (t : Tap P). own_of t.recorder))) in
    given_more item.wire (get_or taps k d) (put_wires steps) (ready k d less).0 own
    ∙ sym (ap put_wires e ∙ put_wires_more steps item)))

-- the tap at an index from which on the taps are as they were
pub room_at : {P : Type 0} (was now : List (Tap P)) (i : ℕ) (t : Tap P) → drop i now ≡ drop i was → i < length was
    → t ≡ get_or now i t → All (λ u. HasRoom u.recorder) was → HasRoom t.recorder
room_at {P} was now i t rest within value room =
    let front : i + 0 ≡ i = omega arith in
    let first : (us : List (Tap P)) → get_or (drop i us) 0 t ≡ get_or us i t =
    λ us. get_or-drop i us 0 t ∙ ap (λ n. get_or us n t) front in
    let same : get_or now i t ≡ get_or was i t =
    sym (first now) ∙ ap (λ (us : List (Tap P)). get_or us 0 t) rest ∙ first was in
    subst (λ (u : Tap P). HasRoom u.recorder) (sym (value ∙ same)) (room i t within)

-- the taps record what the lane put, if it did
pub recorded_put : {P : Type 0} (result : Result Bool Memory) (has : Bool) (old new : LaneView)
    (went went' : List Item) (free : ℕ) (taps taps' : List (Tap P)) → HasSent result old went free new went'
    → result ≡ Ok has → has ≡ true → own_lists taps' ≡ map with_ready taps → ArePrepared (in_hand old.steps) taps
    → AreRecorded taps old.steps → AreRecorded taps' new.steps
recorded_put (Ok true) has old new went went' free taps taps' sends is holds same ready recorded =
    recorded_more taps taps' old.steps new.steps sends.0 same (subst (λ o. ArePrepared o taps) sends.1.0 ready) recorded
    (ap (λ (v : LaneView). v.steps) sends.1.1)
recorded_put (Ok false) has old new went went' free taps taps' sends is holds same ready recorded = absurd cc
recorded_put (Err e) has old new went went' free taps taps' sends is holds same ready recorded = absurd cc

-- the taps record what the lane put, after it took an item
pub recorded_taken : {P : Type 0} (result : Result Bool Memory) (old new : LaneView)
    (came known came' : List Item) (taps : List (Tap P)) → HasTaken result old came known new came'
    → AreRecorded taps old.steps → AreRecorded taps new.steps
recorded_taken (Ok true) old new came known came' taps takes recorded =
    let step : Step = taking old takes.0 in
    let steps : new.steps ≡ old.steps ++ step ∷ [] = ap (λ (v : LaneView). v.steps) takes.3 in
    let same : put (old.steps ++ step ∷ []) ≡ put old.steps =
    flat_map-more put_by old.steps step ∙ append-nil (put old.steps) in
    subst (λ (frames : Frames). All (λ (fs : Frames). fs ≡ frames) (own_lists taps))
    (sym (ap put_wires steps ∙ ap (map (λ (i : Item). i.wire)) same)) recorded
recorded_taken (Ok false) old new came known came' taps takes recorded =
    subst (λ (v : LaneView). AreRecorded taps v.steps) (sym takes.2) recorded
recorded_taken (Err e) old new came known came' taps takes recorded =
    subst (λ (v : LaneView). AreRecorded taps v.steps) (sym takes.2) recorded
