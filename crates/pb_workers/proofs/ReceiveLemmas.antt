-- What one more step of receiving changes of what a bridge received, transmitted and set.
use Rattle.std.proofs.Common.{◌≡◌, ◌+◌, ◌==◌, ◌||◌, ◌++◌, ℕ, suc, Bool, false, if◌then◌else◌, List, [], ◌∷◌}
use Rattle.std.proofs.Common.{◌<◌, Option, Some, length, map, slice_get, slice_index_or, refl, sym, ap, ◌∙◌, add-one, append-nil, arith}
use Rattle.std.proofs.lemmas.Grind.{flat_map-append}
use Rattle.std.specs.List.{list_any}
use Rattle.pb_frame.proofs.Lists.{false-unless, true-false, list_any-rest}
use Rattle.pb_frame.proofs.Things.{suc-test}
use Rattle.pb_frame.specs.declared.learnt.Learnt.{Learnt}
use Rattle.pb_lan.specs.Records.{received, received_by, transmitted, transmitted_by}
use Rattle.pb_lan.specs.declared.step.Item.{Item}
use Rattle.pb_lan.specs.declared.step.Moved.{Moved}
use Rattle.pb_lan.specs.declared.step.Outcome.{Outcome}
use Rattle.pb_lan.specs.declared.step.Step.{Step}
use Rattle.pb_lan.specs.declared.step.Step.TheVariants.{Receive}
use Rattle.pb_ring.specs.Rings.{shown_at}

-- none of the steps passes a test, nor does one more
pub none_later : (test : Step → Bool) (steps news : List Step) (step : Step) → news ≡ steps ++ step ∷ []
    → list_any test steps ≡ false → test step ≡ false → list_any test news ≡ false
none_later test steps news step grown none one =
    ap (list_any test) grown
    ∙ false-unless (list_any test (steps ++ step ∷ []))
    (λ some. true-false (list_any test (step ∷ [])) (list_any-rest test steps (step ∷ []) none some)
    (ap (λ b. b || false) one))

-- the item is the last that was received at its port
pub took_one : {X : Type 0} (f : X → List Item) (ends mids olds : List X) (place port q : ℕ) (steps news : List Step)
    (item : Item) (learnt : Option Learnt) (outcome : Outcome) (moved : Option Moved)
    → shown_at f ends q ≡ shown_at f mids q ++ (if place == q then item ∷ [] else [])
    → map f mids ≡ map f olds → shown_at f olds q ≡ received (q + 1) steps → suc place ≡ port
    → news ≡ steps ++ Receive port item learnt outcome moved ∷ []
    → shown_at f ends q ≡ received (q + 1) news
took_one f ends mids olds place port q steps news item learnt outcome moved more mid old there grown =
    let here : (place == q) ≡ (port == q + 1) = sym (suc-test place q) ∙ ap (λ n. n == suc q) there
    ∙ ap (λ n. port == n) (sym (add-one q)) in
    let last : List Item = if port == q + 1 then item ∷ [] else [] in
    more ∙ ap (λ zs. slice_index_or zs q [] ++ (if place == q then item ∷ [] else [])) mid
    ∙ ap (λ zs. zs ++ (if place == q then item ∷ [] else [])) old
    ∙ ap (λ b. received (q + 1) steps ++ (if b then item ∷ [] else [])) here
    ∙ ap (λ zs. received (q + 1) steps ++ zs) (sym (append-nil last))
    ∙ sym (flat_map-append (received_by (q + 1)) steps (Receive port item learnt outcome moved ∷ []))
    ∙ ap (received (q + 1)) (sym grown)

-- nothing more was transmitted
pub gave_none : (items : List Item) (p port : ℕ) (steps news : List Step) (item : Item) (learnt : Option Learnt)
    (outcome : Outcome) (moved : Option Moved) → items ≡ transmitted p steps
    → news ≡ steps ++ Receive port item learnt outcome moved ∷ [] → items ≡ transmitted p news
gave_none items p port steps news item learnt outcome moved old grown =
    old ∙ sym (append-nil (transmitted p steps))
    ∙ sym (flat_map-append (transmitted_by p) steps (Receive port item learnt outcome moved ∷ []))
    ∙ ap (transmitted p) (sym grown)

-- the item that was received is the first of those that were known to be on the ring
pub first_known : {X : Type 0} (known : List X) (x : X) → 0 < length known
    → ((y : X) → slice_get known 0 ≡ Some y → Some x ≡ Some y) → slice_get known 0 ≡ Some x
first_known [] x some given = absurd (omega arith)
first_known (y ∷ ys) x some given = sym (given y refl)
