-- The octets that a device has yet to give, some of which are held.
use Rattle.std.proofs.Common.{◌≡◌, ℕ, List, [], ◌∷◌, length, arith, ◌++◌, append_assoc, sym, ap, ◌∙◌, refl}
use Rattle.std.proofs.Common.{Option, Some, None}
use Rattle.std.specs.Io.KnownBytes.{Consumes, Keeps, IsAtEnd, prepend_known}

-- held octets are given
pub gives_held : (old new part : List ℕ) (known : Option (List ℕ)) → old ≡ part ++ new
    → Consumes (prepend_known old known) (prepend_known new known) part
gives_held old new part None e = tt
gives_held old new part (Some xs) e = ap (λ z. z ++ xs) e ∙ append_assoc part new xs

-- octets of the device are given while none are held
pub gives_read : (part : List ℕ) (old new : Option (List ℕ)) → Consumes old new part
    → Consumes (prepend_known [] old) (prepend_known [] new) part
gives_read part None new h = tt
gives_read part (Some xs) None h = absurd h
gives_read part (Some xs) (Some ys) h = h

-- at the end of the device, nothing remains if nothing is held
pub ends_read : (known : Option (List ℕ)) → IsAtEnd known → IsAtEnd (prepend_known [] known)
ends_read None h = tt
ends_read (Some xs) h = h

-- the same, of held octets by their number
pub ends_held : (held : List ℕ) (known : Option (List ℕ)) → length held ≡ 0 → IsAtEnd known
    → IsAtEnd (prepend_known held known)
ends_held [] known e h = ends_read known h
ends_held (x ∷ held) known e h = absurd (omega (arith, e))

-- octets that stay the same are given afterwards
pub keeps_then : (a b c : Option (List ℕ)) (part : List ℕ) → Keeps a b → Consumes b c part → Consumes a c part
keeps_then None b c part k h = tt
keeps_then (Some xs) None c part k h = absurd k
keeps_then (Some xs) (Some ys) None part k h = absurd h
keeps_then (Some xs) (Some ys) (Some zs) part k h = sym k ∙ h

-- a call that gives no octets keeps them
pub gives_none : (a b : Option (List ℕ)) → Keeps a b → Consumes a b []
gives_none None b k = tt
gives_none (Some xs) None k = absurd k
gives_none (Some xs) (Some ys) k = sym k

pub keeps_none : (a b : Option (List ℕ)) → Consumes a b [] → Keeps a b
keeps_none None b k = tt
keeps_none (Some xs) None k = absurd k
keeps_none (Some xs) (Some ys) k = sym k

pub keeps_same : (a : Option (List ℕ)) → Keeps a a
keeps_same None = tt
keeps_same (Some xs) = refl
