-- The lines of several items, one after the other.
use Rattle.std.proofs.Common.{◌≡◌, ℕ, List, [], ◌∷◌, ◌++◌, Bor, refl, sym, ap, subst, ◌∙◌, append_assoc, append-nil}
use Rattle.pb_control_socket.specs.Texts.{AreLines}

-- a name and its number, as contracts see them
abbrev pub seen : Bor (List ℕ) × ℕ → List ℕ × ℕ
seen n = (n.0.now, n.1)

-- the value of `get_or` past the end of a list of names
abbrev pub no_name : Bor (List ℕ) × ℕ
no_name = (record { ref_ptr = (0, 0); now = [] }, 0)

-- the text so far: the lines of the remaining items complete it to the lines of all
abbrev pub SoFar : {A : Type 0} → (List ℕ → A → List ℕ) → (ℕ → A → Type 0) → (old now : List ℕ)
    → (all left : List (List ℕ × ℕ)) → Type 0
SoFar line told old now all left =
    (done : List ℕ) × (now ≡ old ++ done)
    × ((others : List ℕ) → AreLines line told left others → AreLines line told all (done ++ others))

-- the text so far, extended by one line
pub line_more : {A : Type 0} (line : List ℕ → A → List ℕ) (told : ℕ → A → Type 0) (old now new : List ℕ)
    (all left later : List (List ℕ × ℕ)) (thing : List ℕ × ℕ) (fact : A)
    → left ≡ thing ∷ later → told thing.1 fact → new ≡ now ++ line thing.0 fact
    → SoFar line told old now all left → SoFar line told old new all later
line_more line told old now new all left later thing fact split told_is grown before =
    let here = line thing.0 fact in (
      before.0 ++ here,
      grown ∙ ap (λ text. text ++ here) before.1 ∙ append_assoc old before.0 here,
      λ others are.
          let next : AreLines line told left (here ++ others) =
          subst (λ things. AreLines line told things (here ++ others)) (sym split) (fact, others, told_is, refl, are) in
          subst (λ text. AreLines line told all text) (sym (append_assoc before.0 here others))
          (before.2 (here ++ others) next),
    )

-- if no item remains, the text has all lines
pub lines_end : {A : Type 0} (line : List ℕ → A → List ℕ) (told : ℕ → A → Type 0) (old now : List ℕ)
    (all left : List (List ℕ × ℕ))
    → left ≡ [] → SoFar line told old now all left → (text : List ℕ) × (now ≡ old ++ text) × AreLines line told all text
lines_end line told old now all left none before = (
  before.0,
  before.1,
  subst (λ text. AreLines line told all text) (append-nil before.0)
      (before.2 [] (subst (λ things. AreLines line told things []) (sym none) refl)),
)
