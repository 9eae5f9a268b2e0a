-- The root priority vectors of bridges that have converged are a solution: no path is better, and each is taken.
use Rattle.std.proofs.Common.{◌≡◌, inl, inr, ℕ, List, [], ◌∷◌, ◌++◌, Some, refl, sym, ◌∙◌, subst, suc}
use Rattle.std.proofs.Common.{Bool, true, false, ◌==◌, ◌&&◌, not, if◌then◌else◌, length, slice_get}
use Rattle.std.specs.List.{AllByRecursion}
use Rattle.std.proofs.lemmas.List.{length-map}
use Rattle.std.proofs.lemmas.Bool.{eqb-true, eqb-false, and_parts}
use Rattle.pb_frame.proofs.Lists.{All-append, All-flat_map, All-imply, All-placed}
use Rattle.pb_lan.specs.Numbering.{numbered}
use Rattle.pb_lan.specs.Plans.{IsNumber}
use Rattle.pb_lan.specs.declared.plan.Plan.{Plan}
use Rattle.pb_lan.specs.declared.plan.End.{End}
use Rattle.pb_lan.specs.declared.plan.LinkPlan.{LinkPlan}
use Rattle.pb_lan.proofs.Numbers.{numbered-exists}
use Rattle.pb_rstp.specs.Ports.{Machine}
use Rattle.pb_rstp.specs.Roles.{root_vector}
use Rattle.pb_rstp.specs.Vectors.{is_better, own_vector}
use Rattle.pb_rstp.specs.declared.vector.Vector.{Vector}
use Rattle.pb_rstp.proofs.RootLaws.{root_vector-is}
use Rattle.pb_spanning_tree.specs.TreeOf.{Disabling, is_down, is_enabled, own_of, path_from, path_over, paths_over}
use Rattle.pb_spanning_tree.specs.TreeOf.{vector_in}
use Rattle.pb_spanning_tree.specs.Solutions.{AreSolution}
use Rattle.pb_spanning_tree.proofs.Facts.{Converged, Linked, linked, vectors_of, id_is, vector_of}
use Rattle.pb_spanning_tree.proofs.Converging.{none_better}
use Rattle.pb_spanning_tree.proofs.Taking.{takes}

-- a vector is no better than the bridge's
abbrev IsNoBetter : List Machine → ℕ → Vector → Type 0
IsNoBetter machines b v = is_better v (vector_in (vectors_of machines) b) ≡ false

-- a bridge's own vector is no better than its vector
own_no_better : (plan : Plan) (machines : List Machine) (disabled : Disabling) → Converged plan machines disabled
    → (b : ℕ) (m : Machine) → numbered machines b ≡ Some m → IsNoBetter machines b (own_of plan b)
own_no_better plan machines disabled c b m at =
    let least = (root_vector-is m.id m.ports).least (own_vector m.id) (inl refl) in
    let P : Vector → Type 0 = λ v. is_better (own_of plan b) v ≡ false in
    let Q : ℕ → Type 0 = λ id. is_better (own_vector id) (root_vector m.id m.ports) ≡ false in
    subst P (sym (vector_of machines b m at)) (subst Q (sym (id_is plan machines c.planned b m at)) least)

-- both ports of an enabled link are enabled
ports_up : (plan : Plan) (machines : List Machine) (disabled : Disabling) (near far : End)
    → (l : Linked plan machines disabled near far) → not (is_down disabled near) ≡ true
    → not (is_down disabled far) ≡ true
    → (l.here.port.port_enabled ≡ true) × (l.there.port.port_enabled ≡ true)
ports_up plan machines disabled near far l here there = (l.here.is.enabled ∙ here, l.there.is.enabled ∙ there)

-- no path over an enabled link from one of its ends is better
from_no_better : (plan : Plan) (machines : List Machine) (disabled : Disabling) → Converged plan machines disabled
    → (b : ℕ) (near far : End) → Linked plan machines disabled near far → not (is_down disabled near) ≡ true
    → not (is_down disabled far) ≡ true
    → AllByRecursion (IsNoBetter machines b) (path_from plan (vectors_of machines) b near far)
from_no_better plan machines disabled c b near far l here there =
    by_test (near.bridge == b) (far.bridge == b) refl refl
  where
    by_test : (s t : Bool) → (near.bridge == b) ≡ s → (far.bridge == b) ≡ t
        → AllByRecursion (IsNoBetter machines b)
        (if s && not t then path_over plan (vectors_of machines) near far ∷ [] else [])
    by_test false t e f = tt
    by_test true true e f = tt
    by_test true false e f =
        let from = eqb-true near.bridge b e in
        let up = ports_up plan machines disabled near far l here there in (
          subst (λ x. IsNoBetter machines x (path_over plan (vectors_of machines) near far)) from
              (none_better plan machines disabled c near far l up.0 up.1
              (λ same. eqb-false far.bridge b f (sym same ∙ from))),
          tt,
        )

-- no path over one link is better
over_no_better : (plan : Plan) (machines : List Machine) (disabled : Disabling) → Converged plan machines disabled
    → (b k : ℕ) (link : LinkPlan) → numbered plan.links k ≡ Some link
    → AllByRecursion (IsNoBetter machines b) (paths_over plan disabled (vectors_of machines) b link)
over_no_better plan machines disabled c b k link at = by_enabled (is_enabled disabled link) refl
  where
    by_enabled : (t : Bool) → is_enabled disabled link ≡ t
        → AllByRecursion (IsNoBetter machines b)
        (if t then path_from plan (vectors_of machines) b link.a link.b
        ++ path_from plan (vectors_of machines) b link.b link.a else [])
    by_enabled false e = tt
    by_enabled true e =
        let up = and_parts (not (is_down disabled link.a)) (not (is_down disabled link.b)) e in
        let forth = linked plan machines disabled c k link at link.a link.b (inl (refl, refl)) in
        let back = linked plan machines disabled c k link at link.b link.a (inr (refl, refl)) in
        All-append (IsNoBetter machines b) (path_from plan (vectors_of machines) b link.a link.b)
        (path_from plan (vectors_of machines) b link.b link.a)
        (from_no_better plan machines disabled c b link.a link.b forth up.0 up.1)
        (from_no_better plan machines disabled c b link.b link.a back up.1 up.0)

-- the vectors of bridges that have converged are a solution
pub are_solution : (plan : Plan) (machines : List Machine) (disabled : Disabling) → Converged plan machines disabled
    → AreSolution plan disabled (vectors_of machines)
are_solution plan machines disabled c = record {
  count = length-map machines (λ (m : Machine). root_vector m.id m.ports) ∙ c.planned.machines_are.count;
  least = λ b number.
      let m = machine b number in (
        own_no_better plan machines disabled c b m.0 m.1,
        All-flat_map (IsNoBetter machines b) (paths_over plan disabled (vectors_of machines) b) plan.links
            (All-imply (λ link. (i : ℕ) × (slice_get plan.links i ≡ Some link))
            (λ link. AllByRecursion (IsNoBetter machines b) (paths_over plan disabled (vectors_of machines) b link))
            (λ link placed. over_no_better plan machines disabled c b (suc placed.0) link placed.1)
            plan.links (All-placed plan.links)),
      );
  taken = λ b number. let m = machine b number in takes plan machines disabled c b m.0 m.1;
}
  where
    machine : (b : ℕ) → IsNumber b (length plan.bridges) → (m : Machine) × (numbered machines b ≡ Some m)
    machine b number =
        let P : ℕ → Type 0 = λ n. IsNumber b n in
        numbered-exists machines b (subst P (sym c.planned.machines_are.count) number)
