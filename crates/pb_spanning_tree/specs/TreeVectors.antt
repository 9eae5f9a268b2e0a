-- The vectors that the code computes, and the disabled ports that it takes.
use Rattle.std.specs.Prelude.{ℕ, ◌^◌, ◌<◌, List, ◌==◌, ◌&&◌}
use Rattle.std.specs.List.{list_any}
use Rattle.pb_lan.specs.declared.plan.Plan.{Plan}
use Rattle.pb_lan.specs.declared.plan.End.{End}
use Rattle.pb_rstp.specs.Profile.{id_in}
use Rattle.pb_rstp.specs.declared.vector.Vector.{Vector}
use Rattle.pb_spanning_tree.specs.TreeOf.{Disabling, end_id, vector_in}
use Rattle.pb_spanning_tree.specs.declared.vector.TreeVector.{TreeVector}

-- a computed vector as a priority vector, component by component
abbrev pub vector_of : TreeVector → Vector
vector_of v = record { root = v.root; cost = v.cost; bridge = v.bridge; port = v.port; receiving = v.receiving }

-- a port is disabled if the list has its bridge's number and its own
abbrev pub is_listed : List (ℕ × ℕ) → Disabling
is_listed disabled bridge port = list_any (λ d. d.0 == bridge && d.1 == port) disabled

-- every root path cost is far below the greatest number of 64 bits
abbrev pub AreSmall : List Vector → Type 0
AreSmall vectors = (bridge : ℕ) → (vector_in vectors bridge).cost < 2 ^ 40

-- what the port at an end offers on its link, as a vector without a receiving port
abbrev pub offer_vector : Plan → List Vector → End → Vector
offer_vector plan vectors e = record {
  root = (vector_in vectors e.bridge).root;
  cost = (vector_in vectors e.bridge).cost;
  bridge = id_in plan e.bridge;
  port = end_id e;
  receiving = 0;
}
