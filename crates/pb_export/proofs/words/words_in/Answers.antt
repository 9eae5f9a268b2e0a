use Rattle.std.proofs.Common.{◌≡◌, ◌++◌, ℕ, List, [], ◌∷◌, length, refl, ap, ◌∙◌, append-nil, arith, rules}
use Rattle.std.proofs.lemmas.Grind.{common_steps}
use Rattle.pb_export.specs.Rows.{words_text}
use Rattle.pb_export.proofs.FitLemmas.{words_are}
use Rattle.pb_export.proofs.words.words_in.Goals as goal

nothing : (xs : List ℕ) → 0 ≡ length xs → xs ≡ []
nothing [] e = refl
nothing (x ∷ xs) e = absurd (omega (arith, e))

pub returns-then-is_empty-clause-words : goal.returns-then-is_empty-clause-words
returns-then-is_empty-clause-words c =
    let words = c.words.words.items in
    let none : 0 ≡ length c.words.rest.now = first_of (search rules, omega arith, grind (arith, common_steps)) in
    let whole : c.args.text.now ≡ words_text words =
    c.words.invariant.text_is ∙ ap (λ z. words_text words ++ z) (nothing c.words.rest.now none)
    ∙ append-nil (words_text words) in
    (λ _. words_are words c.args.text.now whole, λ _. refl)
