-- The frames that are found among datagrams, for the functions of `inbox`.
use Rattle.std.proofs.Common.{◌≡◌, ℕ, List, [], ◌∷◌, ◌++◌, Option, Some, None, refl, sym, ap, ◌∙◌, subst}
use Rattle.std.proofs.Common.{append_assoc, take, drop, slice_range}
use Rattle.std.proofs.Common.{◌+◌, ◌-◌, ◌≤◌, length, arith, false, length-take}
use Rattle.std.proofs.lemmas.List.{drop-take}
use Rattle.std.specs.declared.net.SocketAddr.{SocketAddr}
use Rattle.pb_datagram.specs.declared.tunnel.Tunnel.{Tunnel}
use Rattle.pb_datagram.specs.declared.drops.Refusals.{Refusals}
use Rattle.pb_datagram.specs.declared.inbox.Inbox.{Inbox}
use Rattle.pb_datagram.specs.Counts.{counted}
use Rattle.pb_datagram.specs.Datagrams.{Carries, IsOfPeer}
use Rattle.pb_datagram.specs.Devices.{Datagram, Grows}
use Rattle.pb_datagram.specs.Receiving.{AreRefused, Finds, Receives, pending}
use Rattle.pb_datagram.proofs.GrowthLemmas.{grows_on}

-- refused datagrams after refused datagrams
refused_on : (t : Tunnel) (xs ys : List Datagram) (a b c : Refusals) → AreRefused t xs a b → AreRefused t ys b c
    → AreRefused t (xs ++ ys) a c
refused_on t [] ys a b c first more = let P : Refusals → Type 0 = λ r. AreRefused t ys r c in subst P first more
refused_on t (x ∷ xs) ys a b c (reason, is, rest) more =
    (reason, is, refused_on t xs ys (counted reason a) b c rest more)

-- a frame is found after refused datagrams, or more of them are refused
finds_on : (t : Tunnel) (xs ys : List Datagram) (a b c : Refusals) (found : Option (List ℕ)) → AreRefused t xs a b
    → Finds t ys b c found → Finds t (xs ++ ys) a c found
finds_on t xs ys a b c None first more = refused_on t xs ys a b c first more
finds_on t xs ys a b c (Some frame) first (before, sender, octets, is, refused, from, carries) = (
  xs ++ before,
  sender,
  octets,
  ap (λ z. xs ++ z) is ∙ sym (append_assoc xs before ((sender, octets) ∷ [])),
  refused_on t xs before a b c first refused,
  from,
  carries,
)

-- more is received after datagrams among which no frame was found
pub receives_on : (t : Tunnel) (r s u : Option (List Datagram)) (a b c : Refusals) (found : Option (List ℕ))
    → Receives t r s a b None → Receives t s u b c found → Receives t r u a c found
receives_on t r s u a b c found (xs, grows, refused) (ys, more, finds) =
    (xs ++ ys, grows_on r s u xs ys grows more, finds_on t xs ys a b c found refused finds)

-- one datagram was received
pub receives_one : (t : Tunnel) (r s u : Option (List Datagram)) (d : Datagram) (a b : Refusals)
    (found : Option (List ℕ)) → Grows r s (d ∷ []) → u ≡ s → Finds t (d ∷ []) a b found → Receives t r u a b found
receives_one t r s u d a b found grows same finds =
    let P : Option (List Datagram) → Type 0 = λ z. Grows r z (d ∷ []) in
    (d ∷ [], subst P (sym same) grows, finds)

-- the frame of one datagram that is accepted
pub finds_accepted : (t : Tunnel) (sender : SocketAddr) (buf octets : List ℕ) (start len : ℕ) (a b : Refusals)
    → octets ≡ take len buf → start ≤ length octets → IsOfPeer t sender
    → Carries t.encapsulation octets (drop start octets) → b ≡ a
    → Finds t ((sender, take len buf) ∷ []) a b (Some (slice_range buf start len))
finds_accepted t sender buf octets start len a b whole within from carries counts =
    let Q : ℕ → Type 0 = λ k. drop start (take k buf) ≡ take (len - start) (drop start buf) in
    let few : start ≤ len = omega (arith, ap length whole, length-take len buf) in
    let sum : start + (len - start) ≡ len = omega arith in
    let same : drop start (take len buf) ≡ slice_range buf start len = subst Q sum (drop-take start (len - start) buf)
    in
    let P : List ℕ → Type 0 = λ z. Carries t.encapsulation z (drop start z) in
    let R : List ℕ → Type 0 = λ z. Carries t.encapsulation (take len buf) z in
    ([], sender, take len buf, refl, counts, from, subst R same (subst P whole carries))

-- no frame is pending
pub pending_none : (i : Inbox) → i.is_held ≡ false → pending i ≡ None
pending_none i is = rw is refl
