-- The lines that a template fits.
use Rattle.std.specs.Prelude.{◌≡◌, ◌⊎◌, ℕ, zero, suc, ◌^◌, ◌<◌, ◌≤◌, List, [], ◌∷◌, ◌++◌, length, drop, codes}
use Rattle.std.specs.Prelude.{Option, Some, None}
use Rattle.std.specs.Char.{is_ascii_digit}
use Rattle.std.specs.Fmt.{decimal}
use Rattle.std.specs.List.{prefix_len}
use denote.Ref.{Bor}
use Rattle.pb_export.specs.declared.templates.Kind.{Kind}
use Rattle.pb_export.specs.declared.templates.Kind.TheVariants as kind
use Rattle.pb_export.specs.declared.templates.Choice.{Choice}
use Rattle.pb_export.specs.declared.templates.Slot.{Slot}
use Rattle.pb_export.specs.declared.templates.Template.{Template}

-- so many pairs of spaces
abbrev pub spaces : ℕ → List ℕ
spaces zero = []
spaces (suc n) = 32 ∷ 32 ∷ spaces n

-- the text begins with `front`
abbrev pub Begins : List ℕ → List ℕ → Type 0
Begins front text = (rest : List ℕ) × (text ≡ front ++ rest)

-- the text has no `middle` in it
abbrev pub Lacks : List ℕ → List ℕ → Type 0
Lacks middle text = (front rest : List ℕ) → ¬ (text ≡ front ++ (middle ++ rest))

-- the text is `front` and then `back`, which begins with the first `next` in the text
pub record IsCut (next text front back : List ℕ) : Type 0 where
  pub text_is : text ≡ front ++ back
  pub next_is : Begins next back
  pub first : (i : ℕ) → i < length front → ¬ (Begins next (drop i text))

-- the text is `front` up to the first `next` in it, or to its end if `next` is empty, and then `back`
abbrev pub IsUpTo : List ℕ → List ℕ → List ℕ → List ℕ → Type 0
IsUpTo [] text front back = (text ≡ front) × (back ≡ [])
IsUpTo (c ∷ next) text front back = IsCut (c ∷ next) text front back

-- the text is words, each after a space
abbrev pub AreWords : List ℕ → Type 0
AreWords text = (text ≡ []) ⊎ Begins (32 ∷ []) text

-- the text begins with a number, written with all the digits there, and then comes `back`
pub record IsNumber (number : ℕ) (text back : List ℕ) : Type 0 where
  pub range : number < 2 ^ 64
  pub text_is : text ≡ decimal number ++ back
  pub whole : prefix_len is_ascii_digit text ≡ length (decimal number)

-- the same after a space
abbrev pub IsSpacedNumber : ℕ → List ℕ → List ℕ → Type 0
IsSpacedNumber number text back = (inner : List ℕ) × (text ≡ 32 ∷ inner) × IsNumber number inner back

-- the text begins with these numbers, each after a space, and then comes `back`, which doesn't begin with another
abbrev pub AreNumbers : List ℕ → List ℕ → List ℕ → Type 0
AreNumbers [] text back = (back ≡ text) × ((n : ℕ) (rest : List ℕ) → ¬ (IsSpacedNumber n text rest))
AreNumbers (n ∷ ns) text back = (later : List ℕ) × IsSpacedNumber n text later × AreNumbers ns later back

-- the text begins with so many pairs of spaces, as many as there are up to 64, and then comes `back`
pub record IsDepth (depth : ℕ) (text back : List ℕ) : Type 0 where
  pub most : depth ≤ 64
  pub text_is : text ≡ spaces depth ++ back
  pub whole : (depth ≡ 64) ⊎ (¬ (Begins (32 ∷ 32 ∷ []) back))

-- the text is groups of words, with a bar between two: these, and a last one
abbrev pub AreGroups : List (List ℕ) → List ℕ → Type 0
AreGroups [] text = AreWords text × Lacks (codes " |") text
AreGroups (group ∷ groups) text =
    AreWords group × ((later : List ℕ) × IsCut (codes " |") text group (codes " |" ++ later) × AreGroups groups later)

abbrev pub HasGroups : List ℕ → Type 0
HasGroups text = (groups : List (List ℕ)) × AreGroups groups text

-- `back` comes after an s, or is the whole text if that doesn't begin with an s
abbrev pub IsAfterEnding : List ℕ → List ℕ → Type 0
IsAfterEnding text back = (text ≡ codes "s" ++ back) ⊎ ((¬ (Begins (codes "s") text)) × (text ≡ back))

-- `back` comes after the first of the choices with which the text begins
abbrev pub IsAfterChoice : List Choice → List ℕ → List ℕ → Type 0
IsAfterChoice [] text back = ⊥
IsAfterChoice (choice ∷ choices) text back =
    (text ≡ choice.text.now ++ back) ⊎ ((¬ (Begins choice.text.now text)) × IsAfterChoice choices text back)

-- `back` comes after a text, and after words, up to the first `next`
abbrev pub IsAfterText : List ℕ → List ℕ → List ℕ → Type 0
IsAfterText next text back = (front : List ℕ) × IsUpTo next text front back

abbrev pub IsAfterWords : List ℕ → List ℕ → List ℕ → Type 0
IsAfterWords next text back = (front : List ℕ) × IsUpTo next text front back × AreWords front

-- `back` comes after all numbers, each after a space, at the start of the text
abbrev pub IsAfterNumbers : List ℕ → List ℕ → Type 0
IsAfterNumbers text back = (numbers : List ℕ) × AreNumbers numbers text back

-- nothing comes after groups of words
abbrev pub IsAfterGroups : List ℕ → List ℕ → Type 0
IsAfterGroups text back = HasGroups text × (back ≡ [])

-- `back` comes after a value of a kind that isn't a list
abbrev pub IsAfterSingle : Kind → List ℕ → List ℕ → List ℕ → Type 0
IsAfterSingle kind.Text next text back = IsAfterText next text back
IsAfterSingle kind.Number next text back = (n : ℕ) × IsNumber n text back
IsAfterSingle kind.Depth next text back = (n : ℕ) × IsDepth n text back
IsAfterSingle kind.Plural next text back = IsAfterEnding text back
IsAfterSingle (kind.OneOf choices) next text back = IsAfterChoice choices.now text back
IsAfterSingle _ next text back = ⊥

-- the text begins with a value of the kind, with the fixed text `next` after the slot, and then comes `back`
abbrev pub IsAfterValue : Kind → List ℕ → List ℕ → List ℕ → Type 0
IsAfterValue kind.Words next text back = IsAfterWords next text back
IsAfterValue kind.Numbers next text back = IsAfterNumbers text back
IsAfterValue kind.Groups next text back = IsAfterGroups text back
IsAfterValue kind next text back = IsAfterSingle kind next text back

-- the reading of a text ends before a text that `After` allows, and finds no value if it allows none
abbrev pub EndsAt : {X : Type 0} → (List ℕ → Type 0) → Option (X × Bor (List ℕ)) → Type 0
EndsAt After None = (back : List ℕ) → ¬ (After back)
EndsAt After (Some parts) = After parts.1.now

-- the text is a value of each slot in turn, each with its fixed text
abbrev pub FitSlots : List Slot → List ℕ → Type 0
FitSlots [] text = text ≡ []
FitSlots (slot ∷ slots) text =
    (rest : List ℕ) × IsAfterValue slot.kind slot.until.now text (slot.until.now ++ rest) × FitSlots slots rest

-- the line is the template's text with values in its slots
abbrev pub FitsTemplate : Template → List ℕ → Type 0
FitsTemplate template line = (rest : List ℕ) × (line ≡ template.lead.now ++ rest) × FitSlots template.slots.now rest
