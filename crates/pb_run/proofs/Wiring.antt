-- The names of rings.
use Rattle.std.proofs.Common.{◌≡◌, ℕ, suc, ◌+◌, List, [], ◌∷◌, Some, map, slice_get, sym, ap, ◌∙◌}
use Rattle.pb_frame.proofs.Things.{part_at}
use Rattle.rtrb.specs.Ring.{sent, received, IsPair}
use Rattle.rtrb.specs.declared.producer.Producer.{Producer}
use Rattle.rtrb.specs.declared.consumer.Consumer.{Consumer}
use Rattle.pb_ring.specs.Rings.{RingName, writer_name, reader_name}
use Rattle.pb_run.specs.Wires.{AreNew, AreNamed}
use Rattle.pb_run.proofs.Lists.{first_to_come, still_to_come}

-- both ends of a ring have one name
one_name : {T A P : Type 0} → (p : Producer T A P) (c : Consumer T A P) → IsPair p c → reader_name c ≡ writer_name p
one_name p c pair = cc

-- rings have the names of their writing ends
pub all_named : {T A P : Type 0} → (rings : List (Producer T A P × Consumer T A P)) → AreNew rings
    → AreNamed (map (λ r. writer_name r.0) rings) rings
all_named rings new n ring at =
    let here = part_at (λ r. writer_name r.0) rings n ring at in
    (here, here ∙ ap (λ name. Some name) (sym (one_name ring.0 ring.1 (new n ring at).0)))

-- the remaining rings by number: the first, and the others
module _ {T A P : Type 0} where
  abbrev IsNamedAt : List (RingName A) → ℕ → Producer T A P × Consumer T A P → Type 0
  IsNamedAt names n ring =
      (slice_get names n ≡ Some (writer_name ring.0)) × (slice_get names n ≡ Some (reader_name ring.1))

  abbrev AreNamedFrom : ℕ → List (RingName A) → List (Producer T A P × Consumer T A P) → Type 0
  AreNamedFrom k names rings =
      (n : ℕ) (ring : Producer T A P × Consumer T A P) → slice_get rings n ≡ Some ring → IsNamedAt names (k + n) ring

  pub first_named : (k : ℕ) (names : List (RingName A)) (ring : Producer T A P × Consumer T A P)
      (xs ys : List (Producer T A P × Consumer T A P)) → ys ≡ ring ∷ xs → AreNamedFrom k names ys
      → IsNamedAt names k ring
  first_named k names ring xs ys e each = first_to_come (IsNamedAt names) k ring xs ys e each

  pub others_named : (k : ℕ) (names : List (RingName A)) (ring : Producer T A P × Consumer T A P)
      (xs ys : List (Producer T A P × Consumer T A P)) → ys ≡ ring ∷ xs → AreNamedFrom k names ys
      → AreNamedFrom (k + 1) names xs
  others_named k names ring xs ys e each = still_to_come (IsNamedAt names) k ring xs ys e each

  pub first_new : (ring : Producer T A P × Consumer T A P) (xs ys : List (Producer T A P × Consumer T A P))
      → ys ≡ ring ∷ xs → AreNew ys
      → IsPair ring.0 ring.1 × (sent ring.0 ≡ []) × (received ring.1 ≡ [])
  first_new ring xs ys e new = new 0 ring (ap (λ zs. slice_get zs 0) e)

  pub others_new : (ring : Producer T A P × Consumer T A P) (xs ys : List (Producer T A P × Consumer T A P))
      → ys ≡ ring ∷ xs → AreNew ys → AreNew xs
  others_new ring xs ys e new n r h = new (suc n) r (ap (λ zs. slice_get zs (suc n)) e ∙ h)
