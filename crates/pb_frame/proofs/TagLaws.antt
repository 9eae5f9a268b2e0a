-- A service tag is removed as it was inserted: lemmas for `pop_s`, `tags_undo_each_other` and the crates above.
use Rattle.std.proofs.Common.{◌≡◌, ℕ, ◌+◌, ◌*◌, ◌/◌, ◌%◌, ◌<◌, ◌≤◌, true, List, ◌∷◌, take, length, get_or, refl, sym}
use Rattle.std.proofs.Common.{ap, ◌∙◌, arith}
use Rattle.std.proofs.lemmas.Bool.Decides.{nat_tests}
use Rattle.pb_frame.specs.Tags.{control, tagged, untagged, control_of, IsTag, vid_of, priority_of, has_service_type}

-- removing the tag gives back the frame
pub untagged-tagged : (x : List ℕ) (p d v : ℕ) → 12 ≤ length x → untagged (tagged x p d v) ≡ x
untagged-tagged (a ∷ b ∷ c ∷ e ∷ f ∷ g ∷ h ∷ i ∷ j ∷ k ∷ l ∷ m ∷ rest) p d v long = refl
untagged-tagged _ p d v long = absurd (omega arith)

-- the control of a tagged frame is the one that was inserted
pub control_of-tagged : (x : List ℕ) (p d v : ℕ) → 12 ≤ length x → control_of (tagged x p d v) ≡ control p d v
control_of-tagged (a ∷ b ∷ c ∷ e ∷ f ∷ g ∷ h ∷ i ∷ j ∷ k ∷ l ∷ m ∷ rest) p d v long = omega arith
control_of-tagged _ p d v long = absurd (omega arith)

-- the VID of a tagged frame is the one that was inserted
pub vid_of-tagged : (x : List ℕ) (p d v : ℕ) → 12 ≤ length x → v < 4096 → vid_of (tagged x p d v) ≡ v
vid_of-tagged x p d v long small = rw (control_of-tagged x p d v long) (omega arith)

-- the priority of a tagged frame is the one that was inserted
pub priority_of-tagged : (x : List ℕ) (p d v : ℕ) → 12 ≤ length x → p < 8 → d < 2 → v < 4096
    → priority_of (tagged x p d v) ≡ p
priority_of-tagged x p d v long a b c = rw (control_of-tagged x p d v long) (omega arith)

-- a tagged frame has the service type
pub has_service_type-tagged : (x : List ℕ) (p d v : ℕ) → 12 ≤ length x → has_service_type (tagged x p d v) ≡ true
has_service_type-tagged (a ∷ b ∷ c ∷ e ∷ f ∷ g ∷ h ∷ i ∷ j ∷ k ∷ l ∷ m ∷ rest) p d v long = refl
has_service_type-tagged _ p d v long = absurd (omega arith)

-- a tag adds 4 octets
pub length-tagged : (x : List ℕ) (p d v : ℕ) → 12 ≤ length x → length (tagged x p d v) ≡ length x + 4
length-tagged (a ∷ b ∷ c ∷ e ∷ f ∷ g ∷ h ∷ i ∷ j ∷ k ∷ l ∷ m ∷ rest) p d v long = omega arith
length-tagged _ p d v long = absurd (omega arith)

-- a tag leaves the destination unchanged
pub take-tagged : (x : List ℕ) (p d v : ℕ) → 12 ≤ length x → take 6 (tagged x p d v) ≡ take 6 x
take-tagged (a ∷ b ∷ c ∷ e ∷ f ∷ g ∷ h ∷ i ∷ j ∷ k ∷ l ∷ m ∷ rest) p d v long = refl
take-tagged _ p d v long = absurd (omega arith)

-- the octets of the service type, for `pop_s`
pub type-octets : (f : List ℕ) → has_service_type f ≡ true → (get_or f 12 0 ≡ 136) × (get_or f 13 0 ≡ 168)
type-octets f e = grind (arith, nat_tests)

high : (n a b : ℕ) → n ≡ a * 256 + b → b < 256 → n / 256 ≡ a
high n a b e h = omega arith

low : (n a b : ℕ) → n ≡ a * 256 + b → b < 256 → n % 256 ≡ b
low n a b e h = omega arith

-- a frame with a complete tag is the frame without it, tagged with the tag's values
pub tagged-untagged : (f : List ℕ) (p d v : ℕ) → 18 ≤ length f → get_or f 12 0 ≡ 136 → get_or f 13 0 ≡ 168
    → control p d v ≡ control_of f → get_or f 15 0 < 256 → f ≡ tagged (untagged f) p d v
tagged-untagged (a ∷ b ∷ c ∷ e ∷ f ∷ g ∷ h ∷ i ∷ j ∷ k ∷ l ∷ m ∷ n ∷ o ∷ q ∷ r ∷ rest) p d v long twelve thirteen
    number fits =
    let hi : control p d v / 256 ≡ q = high (control p d v) q r number fits in
    let lo : control p d v % 256 ≡ r = low (control p d v) q r number fits in cc
tagged-untagged _ p d v long twelve thirteen number fits = absurd (omega arith)

-- equal tagged frames have equal frames and equal controls
pub tagged-inj : (x y : List ℕ) (p d v q e w : ℕ) → 12 ≤ length x → 12 ≤ length y → tagged x p d v ≡ tagged y q e w
    → (x ≡ y) × (control p d v ≡ control q e w)
tagged-inj x y p d v q e w hx hy same = (
  sym (untagged-tagged x p d v hx) ∙ ap untagged same ∙ untagged-tagged y q e w hy,
  sym (control_of-tagged x p d v hx) ∙ ap control_of same ∙ control_of-tagged y q e w hy,
)

-- equal controls within their bits have equal parts
pub parts-of-control : (p d v q e w : ℕ) → IsTag p d v → IsTag q e w → control p d v ≡ control q e w
    → (p ≡ q) × (d ≡ e) × (v ≡ w)
parts-of-control p d v q e w here there same =
    let a = here.0 in let b = here.1 in let c = here.2 in
    let f = there.0 in let g = there.1 in let h = there.2 in
    (omega arith, omega arith, omega arith)
