-- The parts of a certificate make it complete, for the functions of `certificate`.
use Rattle.std.proofs.Common.{◌≡◌, ◌≢◌, ◌⊎◌, inl, inr, ℕ, zero, suc, ◌+◌, ◌<◌, ◌≤◌, ◌==◌, Some, None, Option, List}
use Rattle.std.proofs.Common.{slice_get, length, refl, sym, ◌∙◌, ap, subst, Bool, true, false, arith, get_or}
use Rattle.std.proofs.Common.{slice_index_or, slice_set, get_or-set_other, get_or-set_same, below_more, add-one}
use Rattle.std.proofs.Common.{nat_lt, replicate}
use Rattle.std.proofs.Math.ListN.{length-set}
use Rattle.std.proofs.lemmas.Bool.{eqb-true, not-true, not-false}
use Rattle.std.proofs.lemmas.List.{length-replicate, get_or-replicate, get_or_past}
use Rattle.std.proofs.lemmas.Option.{slice_get-get_or, slice_get_within}
use Rattle.pb_lan.proofs.Numbers.{numbered-place}
use Rattle.pb_frame.proofs.Lists.{Some-injective}
use Rattle.pb_frame.proofs.Things.{one_less}
use Rattle.pb_lan.specs.Forests.{Shows}
use Rattle.pb_lan.specs.Numbering.{numbered}
use Rattle.pb_lan.specs.Shapes.{is_active}
use Rattle.pb_lan.specs.declared.plan.Plan.{Plan}
use Rattle.pb_lan.specs.declared.plan.LinkPlan.{LinkPlan}
use Rattle.pb_lan.specs.declared.shape.Shape.{Shape}
use Rattle.pb_lan.specs.declared.shape.Rooted.{Rooted}
use Rattle.pb_forest.specs.Certificates.{AllStand, AreApart, AllLeadUp, Stands, IsWayUp, AreMarked, MarksOne}

-- the entries below an index are right
abbrev pub StandTo : Plan → Shape → ℕ → Rooted → ℕ → Type 0
StandTo plan shape vid rooted n = (i : ℕ) → i < n → (up : Option ℕ) → slice_get rooted.up i ≡ Some up
    → Stands plan shape vid rooted (suc i) up

-- the active links below an index lead up
abbrev pub LeadTo : Plan → Shape → ℕ → List (Option ℕ) → ℕ → Type 0
LeadTo plan shape vid ups n = (i : ℕ) → i < n → (link : LinkPlan) → slice_get plan.links i ≡ Some link
    → is_active plan shape vid link ≡ true → IsWayUp ups (suc i)

-- the links that lead up, below an index, are distinct and marked
pub record MarkedTo (ups : List (Option ℕ)) (n : ℕ) (marks : List Bool) : Type 0 where
  pub room : length marks ≡ 256
  pub apart : (i j number : ℕ) → i < n → j < n → slice_get ups i ≡ Some (Some number)
      → slice_get ups j ≡ Some (Some number) → i ≡ j
  pub marked : (i number : ℕ) → i < n → slice_get ups i ≡ Some (Some number) → slice_index_or marks number false ≡ true
  pub found : (number : ℕ) → slice_index_or marks number false ≡ true
      → (i : ℕ) × (i < n) × (slice_get ups i ≡ Some (Some number))

-- two bridges with the same link up are one
one-child : (ups : List (Option ℕ)) → AreApart ups → (x y number : ℕ) → numbered ups x ≡ Some (Some number)
    → numbered ups y ≡ Some (Some number) → x ≡ y
one-child ups apart (suc x) (suc y) number h k = ap (λ n. suc n) (apart x y number h k)
one-child ups apart _ _ number h k = cc

-- the parts make a certificate
pub shows-parts : (plan : Plan) (shape : Shape) (vid : ℕ) (rooted : Rooted) → length rooted.up ≡ length plan.bridges
    → length rooted.depth ≡ length plan.bridges
    → AllStand plan shape vid rooted → AreApart rooted.up → AllLeadUp plan shape vid rooted.up
    → Shows plan shape vid rooted
shows-parts plan shape vid rooted p d stand apart lead = record {
  parents = p;
  depths = d;
  ways_up = λ bridge number h. stand bridge (Some number) h;
  roots = λ bridge h. stand bridge None h;
  children = λ number link h a. let way =
      lead number link h a in record {
        child = suc way.0;
        up = way.1;
        only = λ other k. one-child rooted.up apart other (suc way.0) number k way.1;
      };
}

-- a certificate's entries are right
pub stand-of : (plan : Plan) (shape : Shape) (vid : ℕ) (rooted : Rooted) → Shows plan shape vid rooted
    → AllStand plan shape vid rooted
stand-of plan shape vid rooted s bridge None h = s.roots bridge h
stand-of plan shape vid rooted s bridge (Some number) h = s.ways_up bridge number h

-- the links that lead up in a certificate are distinct
pub apart-of : (plan : Plan) (shape : Shape) (vid : ℕ) (rooted : Rooted) → Shows plan shape vid rooted
    → AreApart rooted.up
apart-of plan shape vid rooted s i j number h k =
    let way = s.ways_up (suc i) number h in
    let child = s.children number way.crosses.link way.crosses.numbered_so way.crosses.active in
    let e : suc i ≡ suc j = child.only (suc i) h ∙ sym (child.only (suc j) k) in
    omega (arith, e)

-- each active link leads up in a certificate
pub lead-of : (plan : Plan) (shape : Shape) (vid : ℕ) (rooted : Rooted) → Shows plan shape vid rooted
    → AllLeadUp plan shape vid rooted.up
lead-of plan shape vid rooted s number link h a =
    let child = s.children number link h a in
    let place = numbered-place rooted.up child.child (Some number) child.up in
    (place.0, place.2)

-- a certificate has all parts
pub parts-of : (plan : Plan) (shape : Shape) (vid : ℕ) (rooted : Rooted) → Shows plan shape vid rooted
    → AreApart rooted.up × AllLeadUp plan shape vid rooted.up
parts-of plan shape vid rooted s = (apart-of plan shape vid rooted s, lead-of plan shape vid rooted s)

-- one more entry, for the loop of `all_stand`
pub stand_next : (plan : Plan) (shape : Shape) (vid : ℕ) (rooted : Rooted) (items : List (Option ℕ)) (n : ℕ)
    → items ≡ rooted.up → n < length items
    → Stands plan shape vid rooted (n + 1) (get_or items n None) → StandTo plan shape vid rooted n
    → StandTo plan shape vid rooted (n + 1)
stand_next plan shape vid rooted items n e less here below =
    below_more (λ i. (up : Option ℕ) → slice_get rooted.up i ≡ Some up → Stands plan shape vid rooted (suc i) up) n
    below
    (λ up h.
    let one : get_or items n None ≡ up =
    Some-injective (sym (slice_get-get_or items n None less) ∙ ap (λ xs. slice_get xs n) e ∙ h) in
    subst (λ k. Stands plan shape vid rooted k up) (add-one n) (subst (Stands plan shape vid rooted (n + 1)) one here))

-- an entry that is not right
pub stand_fails : (plan : Plan) (shape : Shape) (vid : ℕ) (rooted : Rooted) (items : List (Option ℕ)) (n : ℕ)
    → items ≡ rooted.up → n < length items
    → AllStand plan shape vid rooted → Stands plan shape vid rooted (n + 1) (get_or items n None)
stand_fails plan shape vid rooted items n e less all =
    subst (λ k. Stands plan shape vid rooted k (get_or items n None)) (sym (add-one n))
    (all (suc n) (get_or items n None) (ap (λ xs. slice_get xs n) (sym e) ∙ slice_get-get_or items n None less))

-- all entries, at the end of the loop of `all_stand`
pub stand_all : (plan : Plan) (shape : Shape) (vid : ℕ) (rooted : Rooted) (items : List (Option ℕ)) (n : ℕ)
    → items ≡ rooted.up → length items ≤ n
    → StandTo plan shape vid rooted n → AllStand plan shape vid rooted
stand_all plan shape vid rooted items n e most below zero up h = cc
stand_all plan shape vid rooted items n e most below (suc i) up h =
    let within : i < length rooted.up = slice_get_within rooted.up i up h in
    let one : length items ≡ length rooted.up = ap length e in
    below i (omega (arith, within, most, one)) up h

-- one more link, for the loop of `all_lead_up`
pub lead_next : (plan : Plan) (shape : Shape) (vid : ℕ) (ups : List (Option ℕ)) (items : List LinkPlan) (n : ℕ)
    (link : LinkPlan) → items ≡ plan.links → n < length items
    → link ≡ get_or items n link → (is_active plan shape vid link ≡ true → IsWayUp ups (n + 1))
    → LeadTo plan shape vid ups n → LeadTo plan shape vid ups (n + 1)
lead_next plan shape vid ups items n link e less is here below =
    below_more (λ i. (l : LinkPlan) → slice_get plan.links i ≡ Some l → is_active plan shape vid l ≡ true → IsWayUp
    ups (suc i)) n below
    (λ l h a.
    let one : link ≡ l = is ∙ Some-injective (sym (slice_get-get_or items n link less) ∙ ap (λ xs. slice_get xs n) e
    ∙ h) in
    subst (IsWayUp ups) (add-one n) (here (ap (is_active plan shape vid) one ∙ a)))

-- an active link leads up if its mark says so
pub lead_at : (plan : Plan) (shape : Shape) (vid : ℕ) (ups : List (Option ℕ)) (items : List LinkPlan) (n : ℕ)
    (link : LinkPlan) → items ≡ plan.links → n < length items
    → link ≡ get_or items n link → AllLeadUp plan shape vid ups → is_active plan shape vid link ≡ true
    → IsWayUp ups (n + 1)
lead_at plan shape vid ups items n link e less is all a =
    let at : slice_get plan.links n ≡ Some link = ap (λ xs. slice_get xs n) (sym e)
    ∙ slice_get-get_or items n link less ∙ ap (λ l. Some l) (sym is) in
    subst (IsWayUp ups) (sym (add-one n)) (all (suc n) link at a)

-- all links, at the end of the loop of `all_lead_up`
pub lead_all : (plan : Plan) (shape : Shape) (vid : ℕ) (ups : List (Option ℕ)) (items : List LinkPlan) (n : ℕ)
    → items ≡ plan.links → length items ≤ n
    → LeadTo plan shape vid ups n → AllLeadUp plan shape vid ups
lead_all plan shape vid ups items n e most below zero link h a = cc
lead_all plan shape vid ups items n e most below (suc i) link h a =
    let within : i < length plan.links = slice_get_within plan.links i link h in
    let one : length items ≡ length plan.links = ap length e in
    below i (omega (arith, within, most, one)) link h a

-- marks that are all false, at the start of `ways_up`
pub marked_none : (ups : List (Option ℕ)) → MarkedTo ups 0 (replicate 256 false)
marked_none ups = record {
  room = length-replicate 256 false;
  apart = λ i j number l. absurd (omega (arith, l));
  marked = λ i number l. absurd (omega (arith, l));
  found = λ number h. let f = none 256 number in cc;
}
  where
    none : (n k : ℕ) → get_or (replicate n false) k false ≡ false
    none n k = elim (nat_lt k n) as (λ b. nat_lt k n ≡ b → get_or (replicate n false) k false ≡ false) [
      | true ↦ λ e. get_or-replicate n k false false (grind (arith, e))
      | false ↦ λ e. get_or_past (replicate n false) k false (let l = length-replicate n false in grind (arith, e, l))
    ] refl

-- an entry without a link
marked_root : (ups : List (Option ℕ)) (n : ℕ) (marks : List Bool) → slice_get ups n ≡ Some None → MarkedTo ups n marks
    → MarkedTo ups (n + 1) marks
marked_root ups n marks at m = record {
  room = m.room;
  apart = λ i j number l k h g. m.apart i j number (below i number l h) (below j number k g) h g;
  marked = λ i number l h. m.marked i number (below i number l h) h;
  found = λ number h. let f = m.found number h in (f.0, omega (arith, f.1), f.2);
}
  where
    below : (i number : ℕ) → i < n + 1 → slice_get ups i ≡ Some (Some number) → i < n
    below i number l h =
        let differ : i ≢ n = λ e. let g : slice_get ups n ≡ Some (Some number) = ap (slice_get ups) (sym e) ∙ h in cc in
        omega (arith, l, differ)

-- an entry whose link was not marked
marked_up : (ups : List (Option ℕ)) (n k : ℕ) (marks : List Bool) → slice_get ups n ≡ Some (Some k) → k < length marks
    → get_or marks k false ≡ false
    → MarkedTo ups n marks → MarkedTo ups (n + 1) (slice_set marks k true)
marked_up ups n k marks at room new m = record {
  room = length-set marks k true ∙ m.room;
  apart = λ i j number l q h g. apart i j number (one_less i n l) (one_less j n q) h g;
  marked = λ i number l h. marked i number (one_less i n l) h;
  found = λ number h. found number h;
}
  where
    here : (i number : ℕ) → i ≡ n → slice_get ups i ≡ Some (Some number) → k ≡ number
    here i number e h = Some-injective (Some-injective (sym at ∙ ap (slice_get ups) (sym e) ∙ h))

    clash : (i number : ℕ) → i < n → slice_get ups i ≡ Some (Some number) → k ≡ number → ⊥
    clash i number l h e = let t = m.marked i number l h in let f : get_or marks number false ≡ false =
        subst (λ x. get_or marks x false ≡ false) e new in cc

    apart : (i j number : ℕ) → (i < n) ⊎ (i ≡ n) → (j < n) ⊎ (j ≡ n) → slice_get ups i ≡ Some (Some number)
        → slice_get ups j ≡ Some (Some number) → i ≡ j
    apart i j number (inl l) (inl q) h g = m.apart i j number l q h g
    apart i j number (inl l) (inr e) h g = absurd (clash i number l h (here j number e g))
    apart i j number (inr e) (inl q) h g = absurd (clash j number q g (here i number e h))
    apart i j number (inr e) (inr f) h g = e ∙ sym f

    set_keeps : (number : ℕ) → get_or marks number false ≡ true → get_or (slice_set marks k true) number false ≡ true
    set_keeps number t = let differ : number ≢ k = λ e. let f : get_or marks number false ≡ false =
        subst (λ x. get_or marks x false ≡ false) (sym e) new in cc in rw get_or-set_other t

    marked : (i number : ℕ) → (i < n) ⊎ (i ≡ n) → slice_get ups i ≡ Some (Some number)
        → get_or (slice_set marks k true) number false ≡ true
    marked i number (inl l) h = set_keeps number (m.marked i number l h)
    marked i number (inr e) h = subst (λ x. get_or (slice_set marks k true) x false ≡ true) (here i number e h)
        (rw get_or-set_same)

    found : (number : ℕ) → get_or (slice_set marks k true) number false ≡ true → (i : ℕ) × (i < n + 1)
        × (slice_get ups i ≡ Some (Some number))
    found number h =
        elim (number == k) as (λ b. (number == k) ≡ b → (i : ℕ) × (i < n + 1)
        × (slice_get ups i ≡ Some (Some number))) [
          | true ↦ λ e. (n, omega arith, subst (λ x. slice_get ups n ≡ Some (Some x)) (sym (eqb-true number k e)) at)
          | false ↦ λ e.
              let differ : number ≢ k = grind (arith, e) in
              let old : get_or marks number false ≡ true = rw get_or-set_other at h in
              let f = m.found number old in (f.0, omega (arith, f.1), f.2)
        ] refl

-- one more entry, for the loop of `ways_up`
pub marked_next : (ups : List (Option ℕ)) (n : ℕ) (up : Option ℕ) (marks new : List Bool) (fresh : Bool)
    → slice_get ups n ≡ Some up → MarksOne up marks new fresh → fresh ≡ true
    → MarkedTo ups n marks → MarkedTo ups (n + 1) new
marked_next ups n None marks new fresh at one t m = subst (MarkedTo ups (n + 1)) (sym one.0)
    (marked_root ups n marks at m)
marked_next ups n (Some k) marks new fresh at one t m =
    let free : get_or marks k false ≡ false = not-true (get_or marks k false) (sym one.1 ∙ t) in
    subst (MarkedTo ups (n + 1)) (sym one.0) (marked_up ups n k marks at one.2 free m)

-- an entry whose link was marked already
pub marked_twice : (ups : List (Option ℕ)) (n : ℕ) (up : Option ℕ) (marks new : List Bool) (fresh : Bool)
    → slice_get ups n ≡ Some up → MarksOne up marks new fresh → fresh ≡ false
    → MarkedTo ups n marks → AreApart ups → ⊥
marked_twice ups n None marks new fresh at one t m apart = cc
marked_twice ups n (Some k) marks new fresh at one t m apart =
    let was : get_or marks k false ≡ true = not-false (get_or marks k false) (sym one.1 ∙ t) in
    let f = m.found k was in
    let e : f.0 ≡ n = apart f.0 n k f.2 at in
    let l = f.1 in
    omega (arith, e, l)

-- all entries, at the end of the loop of `ways_up`
pub marked_all : (ups : List (Option ℕ)) (n : ℕ) (marks : List Bool) → length ups ≤ n → MarkedTo ups n marks
    → AreApart ups × AreMarked ups marks
marked_all ups n marks most m = (
  λ i j number h g. m.apart i j number (below i number h) (below j number g) h g,
  λ number. (λ t. let f = m.found number t in (f.0, f.2), λ w. m.marked w.0 number (below w.0 number w.1) w.1),
)
  where
    below : (i number : ℕ) → slice_get ups i ≡ Some (Some number) → i < n
    below i number h = let within = slice_get_within ups i (Some number) h in omega (arith, within, most)
