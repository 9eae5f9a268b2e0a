-- The frames that leave one after the other, for the functions of `outbox`.
use Rattle.std.proofs.Common.{ℕ, ◌+◌, inl, inr, List, [], ◌∷◌, ◌++◌, length, take, drop}
use Rattle.std.proofs.Common.{Option}
use Rattle.std.proofs.Common.{sym, ap, ◌∙◌, subst, arith, zero-add, length-drop}
use Rattle.std.proofs.Math.Nat.{suc-add}
use Rattle.std.proofs.Math.Seq.{take-add}
use Rattle.std.proofs.lemmas.List.{drop-drop}
use Rattle.pb_port.specs.Ports.{Frames}
use Rattle.pb_datagram.specs.declared.tunnel.Tunnel.{Tunnel}
use Rattle.pb_datagram.specs.Devices.{Datagram}
use Rattle.pb_datagram.specs.Sending.{AreSent, Departs}
use Rattle.pb_datagram.proofs.GrowthLemmas.{grows_on}

-- frames that were sent after others
sent_on : (t : Tunnel) (xs ys : Frames) (a b : List Datagram) (m n : ℕ) → AreSent t xs a m → AreSent t ys b n
    → AreSent t (xs ++ ys) (a ++ b) (m + n)
sent_on t [] ys a b m n (none, nothing) more =
    let P : List Datagram → ℕ → Type 0 = λ z k. AreSent t ys z k in
    let Q : ℕ → Type 0 = λ k. P b k in
    let moved : P b (0 + n) = subst Q (sym (zero-add n)) more in
    rw (none, nothing) moved
sent_on t (x ∷ xs) ys a b m n (inl (rest, is, passed)) more =
    inl (rest ++ b, ap (λ z. z ++ b) is, sent_on t xs ys rest b m n passed more)
sent_on t (x ∷ xs) ys a b m n (inr (fewer, is, passed)) more =
    inr (fewer + n, ap (λ k. k + n) is ∙ suc-add fewer n, sent_on t xs ys a b fewer n passed more)

-- frames that leave after others
pub departs_on : (t : Tunnel) (m n : ℕ) (u v w : Frames) (r s z : Option (List Datagram)) (p q : ℕ)
    → Departs t m u v r s p → Departs t n v w s z q → Departs t (m + n) u w r z (p + q)
departs_on t m n u v w r s z p q first more =
    let P : Frames → Type 0 = λ fs. AreSent t (take n fs) more.datagrams q in
    let passed : AreSent t (take n (drop m u)) more.datagrams q = subst P first.left more.passed in record {
      within = omega (arith, first.within, more.within, ap length first.left, length-drop m u);
      left = more.left ∙ ap (drop n) first.left ∙ drop-drop n m u;
      datagrams = first.datagrams ++ more.datagrams;
      grows = grows_on r s z first.datagrams more.datagrams first.grows more.grows;
      passed = rw (take-add m n u)
          (sent_on t (take m u) (take n (drop m u)) first.datagrams more.datagrams p q first.passed passed);
    }
