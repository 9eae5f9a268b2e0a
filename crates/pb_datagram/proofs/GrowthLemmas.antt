-- Lists of datagrams and counts that grow, for the functions of `inbox` and `outbox`.
use Rattle.std.proofs.Common.{ℕ, arith, List, ◌++◌, Option, Some, None, ap, ◌∙◌, append_assoc}
use Rattle.pb_datagram.specs.Devices.{Datagram, Grows, CountsFailed}

-- more datagrams after the first ones
pub grows_on : (a b c : Option (List Datagram)) (xs ys : List Datagram) → Grows a b xs → Grows b c ys
    → Grows a c (xs ++ ys)
grows_on None b c xs ys first more = tt
grows_on (Some a) None c xs ys first more = absurd first
grows_on (Some a) (Some b) None xs ys first more = absurd more
grows_on (Some a) (Some b) (Some c) xs ys first more = more ∙ ap (λ z. z ++ ys) first ∙ append_assoc a xs ys

-- more failed calls after the first ones
pub counts_on : (k l m a b c : ℕ) → CountsFailed k l a b → CountsFailed l m b c → CountsFailed k m a c
counts_on k l m a b c (first, is) (more, then) = (omega arith, omega arith)
