-- Stations at the slots of an index, and at the places of a log.
use Rattle.std.proofs.Common.{◌≡◌, ℕ, ◌==◌, ◌&&◌, is_some, true, Some, None, List, [], ◌∷◌, ◌++◌, position}
use Rattle.std.proofs.Common.{slice_get, get_or, refl, sym, ap, ◌∙◌, subst, IfSome}
use Rattle.std.proofs.lemmas.List.Quantifiers.{position-Some}
use Rattle.std.proofs.lemmas.Option.{slice_get-map, slice_get-get_or}
use Rattle.std.specs.Cmp.{IsEquivalence}
use Rattle.std.specs.declared.option.Option.{Option}
use Rattle.std.specs.Option.{option_map}
use Rattle.indexmap.proofs.CallerLemmas.{updates-with_value_at}
use Rattle.indexmap.specs.IndexMap.{IndexMap, keys, values, get, with_value_at, IsUnique, Updates}
use Rattle.pb_frame.proofs.Lists.{Some-injective}
use Rattle.pb_frame.specs.Admission.{same}
use Rattle.pb_frame.proofs.Things.{eqb-symm}
use Rattle.pb_fdb.proofs.EntryLemmas.{same-symm}
use Rattle.pb_fdb.proofs.StationLemmas.{same_station, itself}
use Rattle.pb_fdb.specs.declared.station.LastSeen.{LastSeen}
use Rattle.pb_fdb.specs.declared.station.LogEntry.{LogEntry}
use Rattle.pb_fdb.specs.declared.station.Station.{Station}
use Rattle.pb_fdb.specs.Journals.{is_same, stations, IsIndexWith}

same_is_equivalence : IsEquivalence is_same
same_is_equivalence = record {
  refl = itself;
  symm = λ a b. ap (λ t. t && same a.mac.0 b.mac.0) (eqb-symm a.vid b.vid)
      ∙ ap (λ t. (b.vid == a.vid) && t) (same-symm a.mac.0 b.mac.0);
  congr = λ a b c h. ap (λ s. is_same s c) (same_station a b h);
}

-- the slot that a look-up finds has the station
pub found-station : (ss : List Station) (s : Station) (slot : Option ℕ) → slot ≡ position (is_same s) ss
    → IfSome slot (λ i. slice_get ss i ≡ Some s)
found-station ss s None h = tt
found-station ss s (Some i) h =
    let p = position-Some (is_same s) ss i s (sym h) in slice_get-get_or ss i s p.0
    ∙ ap Some (sym (same_station s (get_or ss i s) p.1))

module _ {S : Type 0} (m : IndexMap Station LastSeen S) (i : ℕ) where
  -- the station and its value at a slot
  pub station-at : (s : Station) (seen : LastSeen) → slice_get m.entries i ≡ Some (s, seen)
      → slice_get (keys m) i ≡ Some s
  station-at s seen h = slice_get-map (λ e. e.0) m.entries i ∙ ap (option_map (λ e. e.0)) h

  pub seen-at : (s : Station) (seen : LastSeen) → slice_get m.entries i ≡ Some (s, seen)
      → slice_get (values m) i ≡ Some seen
  seen-at s seen h = slice_get-map (λ e. e.1) m.entries i ∙ ap (option_map (λ e. e.1)) h

  -- the index after a new value is set at a slot
  pub noted-at : (s t : Station) (old new : LastSeen) → IsUnique is_same m → slice_get m.entries i ≡ Some (t, old)
      → slice_get (keys m) i ≡ Some s
      → IsIndexWith s (Some new) (get is_same m) (get is_same (with_value_at m i new))
  noted-at s t old new unique here is =
      subst (λ q. IsIndexWith q (Some new) (get is_same m) (get is_same (with_value_at m i new)))
      (Some-injective (sym (station-at t old here) ∙ is))
      (updates-with_value_at m i new same_is_equivalence unique t old here).0

  -- the index after a slot is removed
  pub taken-at : (n : IndexMap Station LastSeen S) (s : Station) (r : Option (Station × LastSeen))
      → r ≡ slice_get m.entries i → slice_get (keys m) i ≡ Some s
      → IfSome r (λ p. Updates is_same m n p.0 None) → IsIndexWith s None (get is_same m) (get is_same n)
      × (is_some r ≡ true)
  taken-at n s None here is updates = let none : None ≡ Some s = ap (option_map (λ e. e.0)) here
      ∙ sym (slice_get-map (λ e. e.0) m.entries i) ∙ is in cc
  taken-at n s (Some p) here is updates = (
    subst (λ q. IsIndexWith q None (get is_same m) (get is_same n))
        (Some-injective (sym (station-at p.0 p.1 (sym here)) ∙ is)) updates.0,
    refl,
  )

-- the stations of a log with one more place
stations-push : (ps : List LogEntry) (p : LogEntry) → stations (ps ++ p ∷ []) ≡ stations ps ++ p.station ∷ []
stations-push [] p = refl
stations-push (q ∷ ps) p = ap (λ ss. q.station ∷ ss) (stations-push ps p)

pub stations-put : (ps log : List LogEntry) (p : LogEntry) (s : Station) → log ≡ ps ++ p ∷ [] → p.station ≡ s
    → stations log ≡ stations ps ++ s ∷ []
stations-put ps log p s is at = ap stations is ∙ stations-push ps p ∙ ap (λ x. stations ps ++ x ∷ []) at
