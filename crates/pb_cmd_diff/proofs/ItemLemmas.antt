-- Lists that grow by one item, and by what items give.
use Rattle.std.proofs.Common.{◌≡◌, List, [], ◌++◌, map, sym, ap, ◌∙◌, append_assoc, append-nil}

-- no item remains
pub items_end : {X Y : Type 0} (f : X → Y) (start now : List Y) (these all : List X) → these ≡ []
    → now ++ map f these ≡ start ++ map f all
    → now ≡ start ++ map f all
items_end f start now these all e h = sym (append-nil now) ∙ ap (λ z. now ++ map f z) (sym e) ∙ h

-- the parts of a report's body after another, as they are written and as they are defined
pub rejoin_body : {A : Type 0} (old p s l r f t : List A)
    → ((((old ++ p) ++ s) ++ l) ++ (r ++ f)) ++ t ≡ old ++ (((((p ++ s) ++ l) ++ r) ++ f) ++ t)
rejoin_body old p s l r f t = simp append_assoc
