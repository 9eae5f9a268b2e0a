-- Bridges that have converged form the spanning tree of the plan.
use Rattle.std.proofs.Common.{◌≡◌, inl, inr, ℕ, List, Some, refl, sym, ap, ◌∙◌, suc, slice_get}
use Rattle.pb_frame.proofs.Lists.{All-imply, All-placed, Some-injective}
use Rattle.pb_lan.specs.Forests.{HasEnds}
use Rattle.pb_lan.specs.Numbering.{numbered}
use Rattle.pb_lan.specs.Shapes.{are_ends_forwarding}
use Rattle.pb_lan.specs.declared.plan.Plan.{Plan}
use Rattle.pb_lan.specs.declared.plan.End.{End}
use Rattle.pb_lan.specs.declared.plan.LinkPlan.{LinkPlan}
use Rattle.pb_rstp.specs.Ports.{Machine, port_of}
use Rattle.pb_rstp.specs.Tree.{shape_of}
use Rattle.pb_rstp.specs.declared.port.Port.{Port}
use Rattle.pb_spanning_tree.specs.TreeOf.{Disabling, is_link_by, is_tree_link, role_by, tree_of}
use Rattle.pb_spanning_tree.specs.Laws.{OneTree, OneSolution, HasTreeRole}
use Rattle.pb_spanning_tree.proofs.Facts.{Converged, linked, vectors_of}
use Rattle.pb_spanning_tree.proofs.SolutionLaws.{one_solution}
use Rattle.pb_spanning_tree.proofs.Solving.{are_solution}
use Rattle.pb_spanning_tree.proofs.TreeLinks.{link_is}
use Rattle.pb_spanning_tree.proofs.TreeRoles.{role_is}

-- the vectors of bridges that have converged are those of the tree
vectors_are : OneSolution → (plan : Plan) (machines : List Machine) (disabled : Disabling)
    → Converged plan machines disabled → vectors_of machines ≡ tree_of plan disabled
vectors_are one plan machines disabled c =
    one plan disabled (vectors_of machines) c.sound (are_solution plan machines disabled c)

-- the port at an end of a link has the role of the tree
has_tree_role : OneSolution → (plan : Plan) (machines : List Machine) (disabled : Disabling)
    → Converged plan machines disabled → (k : ℕ) (link : LinkPlan) → numbered plan.links k ≡ Some link
    → (near far : End) → HasEnds link near far → HasTreeRole plan machines disabled near far
has_tree_role one plan machines disabled c k link at near far ends m p here =
    let l = linked plan machines disabled c k link at near far ends in
    let machine : m ≡ l.here.machine = Some-injective (sym here.machine ∙ l.here.is.stands.at.machine) in
    let port : p ≡ l.here.port = Some-injective (sym here.port ∙ ap (λ (x : Machine). port_of x.ports near.port) machine
    ∙ l.here.is.stands.at.port) in
    ap (λ (x : Port). x.role) port ∙ role_is plan machines disabled c near far l
    ∙ ap (λ vectors. role_by plan disabled vectors near far) (vectors_are one plan machines disabled c)

-- bridges that have converged form the tree, if there is only one solution
pub one_tree_by : OneSolution → OneTree
one_tree_by one plan machines disabled sound planned down converged none_held =
    let c : Converged plan machines disabled = record {
      sound = sound;
      planned = planned;
      down = down;
      converged = converged;
      none_held = none_held;
    } in
    record {
      vectors = vectors_are one plan machines disabled c;
      roles = All-imply (λ link. (i : ℕ) × (slice_get plan.links i ≡ Some link))
          (λ link. HasTreeRole plan machines disabled link.a link.b × HasTreeRole plan machines disabled link.b link.a)
          (λ link placed. (
            has_tree_role one plan machines disabled c (suc placed.0) link placed.1 link.a link.b (inl (refl, refl)),
            has_tree_role one plan machines disabled c (suc placed.0) link placed.1 link.b link.a (inr (refl, refl)),
          ))
          plan.links (All-placed plan.links);
      links = All-imply (λ link. (i : ℕ) × (slice_get plan.links i ≡ Some link))
          (λ link. are_ends_forwarding (shape_of plan machines) link ≡ is_tree_link plan disabled link)
          (λ link placed. link_is plan machines disabled c (suc placed.0) link placed.1
          ∙ ap (λ vectors. is_link_by disabled vectors link) (vectors_are one plan machines disabled c))
          plan.links (All-placed plan.links);
    }

-- bridges that have converged form the spanning tree of the plan
pub one_tree : OneTree
one_tree = one_tree_by one_solution
