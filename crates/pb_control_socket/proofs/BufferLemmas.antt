-- What a buffer of lines returns and keeps, by what was taken of its octets.
use Rattle.std.proofs.Common.{◌≡◌, ℕ, ◌+◌, ◌-◌, ◌≤◌, List, [], ◌∷◌, ◌++◌, length, take, drop, sym, ap, subst, ◌∙◌}
use Rattle.std.proofs.Common.{append-nil}
use Rattle.std.proofs.lemmas.List.{drop-drop, take_rest}
use Rattle.pb_lines.specs.Lines.{cut_lines, HasNoLf}
use Rattle.pb_control_socket.specs.Lines.{GivesLine, KeepsLine}

-- the octets from an index on
pub rest_is : (xs ys : List ℕ) (start : ℕ) → xs ≡ ys → take (length xs - start) (drop start xs) ≡ drop start ys
rest_is xs ys start e =
    take_rest xs start ∙ ap (λ z. drop start z) e

-- the octets after a returned line are held
pub gives : (limit : ℕ) (line waiting line' part given left : List ℕ) (start place : ℕ) → part ≡ drop start waiting
    → given ≡ line' → left ≡ []
    → ((more : List ℕ) → cut_lines limit (line ++ part ++ more) ≡ line' ∷ cut_lines limit
    (drop (place + 1) part ++ more))
    → GivesLine limit (line ++ drop start waiting) given (left ++ drop (start + (place + 1)) waiting)
gives limit line waiting line' part given left start place is given_is none found = λ more.
    ap (λ p. cut_lines limit (line ++ p ++ more)) (sym is) ∙ found more
    ∙ ap (λ p. line' ∷ cut_lines limit (p ++ more))
    (ap (λ p. drop (place + 1) p) is ∙ drop-drop (place + 1) start waiting)
    ∙ ap (λ z. z ∷ cut_lines limit (drop (start + (place + 1)) waiting ++ more)) (sym given_is)
    ∙ ap (λ z. given ∷ cut_lines limit (z ++ drop (start + (place + 1)) waiting ++ more)) (sym none)

-- all octets are part of a line that has not ended
pub keeps : (limit : ℕ) (line waiting line' part left : List ℕ) (start : ℕ) → part ≡ drop start waiting → left ≡ []
    → HasNoLf line' → length line' ≤ limit + 1
    → ((more : List ℕ) → cut_lines limit (line ++ part ++ more) ≡ cut_lines limit (line' ++ more))
    → KeepsLine limit (line ++ drop start waiting) (line' ++ drop 0 left)
keeps limit line waiting line' part left start is none unended short found =
    let all : line' ≡ line' ++ drop 0 left = sym (append-nil line') ∙ ap (λ xs. line' ++ drop 0 xs) (sym none) in
    record {
      unended = subst (λ xs. HasNoLf xs) all unended;
      short = subst (λ xs. length xs ≤ limit + 1) all short;
      same = λ more. ap (λ p. cut_lines limit (line ++ p ++ more)) (sym is) ∙ found more
          ∙ ap (λ xs. cut_lines limit (xs ++ more)) all;
    }
