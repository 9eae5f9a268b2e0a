-- Lists that grow by one item for each element.
use Rattle.std.proofs.Common.{◌≡◌, List, [], ◌∷◌, ◌++◌, map, ap, sym, ◌∙◌, append_assoc}

-- one more item, and those of the later elements after it
pub items_more : {X Y : Type 0} (f : X → Y) (start before now : List Y) (x : X) (these later all : List X)
    → these ≡ x ∷ later → now ≡ before ++ f x ∷ []
    → before ++ map f these ≡ start ++ map f all → now ++ map f later ≡ start ++ map f all
items_more f start before now x these later all e g h =
    ap (λ z. z ++ map f later) g ∙ append_assoc before (f x ∷ []) (map f later)
    ∙ ap (λ z. before ++ map f z) (sym e) ∙ h
