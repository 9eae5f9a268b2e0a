-- The lists of a tape, with one more frame.
use Rattle.std.proofs.Common.{◌≡◌, ℕ, Bool, true, false, List, [], ◌∷◌, ◌++◌, map, sym, ap}
use Rattle.std.proofs.Common.{◌∙◌, append-nil}
use Rattle.std.proofs.lemmas.List.{append_assoc, map-append}
use Rattle.std.proofs.lemmas.List.Elements.{filter-append}
use Rattle.std.specs.List.{filter}
use Rattle.pb_port.specs.Ports.{Frames}
use Rattle.pb_tap.specs.Crossings.{is_of, wires_of}
use Rattle.pb_tap.specs.Takings.{Takes}
use Rattle.pb_tap.specs.declared.crossing.Crossing.{Crossing}
use Rattle.pb_tap.specs.declared.tape.Tape.{Tape}

-- the frames of one direction, with one more
pub wires_more : (own : Bool) (cs : List Crossing) (c : Crossing)
    → wires_of own (cs ++ c ∷ []) ≡ wires_of own cs ++ wires_of own (c ∷ [])
wires_more own cs c = ap (map (λ (x : Crossing). x.wire)) (filter-append (is_of own) cs (c ∷ []))
    ∙ map-append (λ (x : Crossing). x.wire) (filter (is_of own) cs) (filter (is_of own) (c ∷ []))

-- a frame of one direction is one more of that direction, and none of the other
pub own_more : (cs ds : List Crossing) (wire : List ℕ) → ds ≡ cs ++ (record { is_own = true; wire = wire }) ∷ []
    → wires_of true ds ≡ wires_of true cs ++ wire ∷ []
own_more cs ds wire e = ap (wires_of true) e ∙ wires_more true cs (record { is_own = true; wire = wire })

pub own_off : (cs ds : List Crossing) (wire : List ℕ) → ds ≡ cs ++ (record { is_own = true; wire = wire }) ∷ []
    → wires_of false ds ≡ wires_of false cs
own_off cs ds wire e = ap (wires_of false) e ∙ wires_more false cs (record { is_own = true; wire = wire })
    ∙ append-nil (wires_of false cs)

pub other_on : (cs ds : List Crossing) (wire : List ℕ) → ds ≡ cs ++ (record { is_own = false; wire = wire }) ∷ []
    → wires_of false ds ≡ wires_of false cs ++ wire ∷ []
other_on cs ds wire e = ap (wires_of false) e ∙ wires_more false cs (record { is_own = false; wire = wire })

pub other_off : (cs ds : List Crossing) (wire : List ℕ) → ds ≡ cs ++ (record { is_own = false; wire = wire }) ∷ []
    → wires_of true ds ≡ wires_of true cs
other_off cs ds wire e = ap (wires_of true) e ∙ wires_more true cs (record { is_own = false; wire = wire })
    ∙ append-nil (wires_of true cs)

-- two parts of a list are those of the list with one more, if that is in the second
pub parts_on : {X : Type 0} (taken rest rest' seen seen' : List X) (x : X) → taken ++ rest ≡ seen
    → seen' ≡ seen ++ x ∷ [] → rest' ≡ rest ++ x ∷ [] → taken ++ rest' ≡ seen'
parts_on taken rest rest' seen seen' x parts more end =
    ap (λ xs. taken ++ xs) end ∙ sym (append_assoc taken rest (x ∷ [])) ∙ ap (λ xs. xs ++ x ∷ []) parts ∙ sym more

-- the second part moves to the first
pub shifted : {X : Type 0} (taken taken' rest rest' seen : List X) (x : X) → taken ++ rest ≡ seen
    → rest ≡ x ∷ [] → taken' ≡ taken ++ x ∷ [] → rest' ≡ [] → taken' ++ rest' ≡ seen
shifted taken taken' rest rest' seen x parts one more none =
    ap (λ xs. taken' ++ xs) none ∙ append-nil taken' ∙ more ∙ ap (λ xs. taken ++ xs) (sym one) ∙ parts

-- nothing is taken
pub took_none : {P : Type 0} (tally : P → Frames) (old new : Tape P) → new.taken.items ≡ old.taken.items
    → tally new.port ≡ tally old.port → Takes tally old new
took_none tally old new same kept = record {
  more = [];
  grown = same ∙ sym (append-nil old.taken.items);
  kept = kept ∙ sym (append-nil (tally old.port));
}

-- one frame is taken
pub took_one : {P : Type 0} (tally : P → Frames) (old new : Tape P) (c : Crossing)
    → new.taken.items ≡ old.taken.items ++ c ∷ [] → tally new.port ≡ tally old.port ++ c.wire ∷ []
    → Takes tally old new
took_one tally old new c grown added = record {
  more = c ∷ [];
  grown = grown;
  kept = added;
}

-- frames are taken one after the other
pub takes_both : {P : Type 0} (tally : P → Frames) (a b c : Tape P) → Takes tally a b → Takes tally b c
    → Takes tally a c
takes_both tally a b c one two = record {
  more = one.more ++ two.more;
  grown = two.grown ∙ ap (λ xs. xs ++ two.more) one.grown ∙ append_assoc a.taken.items one.more two.more;
  kept = two.kept ∙ ap (λ list. list ++ map (λ (x : Crossing). x.wire) two.more) one.kept
      ∙ append_assoc (tally a.port) (map (λ (x : Crossing). x.wire) one.more) (map (λ (x : Crossing). x.wire) two.more)
      ∙ ap (λ list. tally a.port ++ list) (sym (map-append (λ (x : Crossing). x.wire) one.more two.more));
}

-- what is taken after nothing was
pub takes_after : {P : Type 0} (tally : P → Frames) (a b c : Tape P) → b.port ≡ a.port → b.taken ≡ a.taken
    → Takes tally b c → Takes tally a c
takes_after tally a b c port taken two =
    takes_both tally a b c (took_none tally a b (ap (λ t. t.items) taken) (ap tally port)) two
