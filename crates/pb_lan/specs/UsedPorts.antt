-- The local ports that links and customer ports use.
use Rattle.std.specs.Prelude.{◌≡◌, ℕ, false, List}
use Rattle.std.specs.List.{list_any}
use Rattle.pb_lan.specs.Plans.{is_same_port}
use Rattle.pb_lan.specs.declared.plan.LinkPlan.{LinkPlan}

-- the ends of the link are at two different ports, neither of which is used
pub record HasFreeEnds (link : LinkPlan) (used : List (ℕ × ℕ)) : Type 0 where
  pub two : is_same_port (link.a.bridge, link.a.port) (link.b.bridge, link.b.port) ≡ false
  pub a : list_any (is_same_port (link.a.bridge, link.a.port)) used ≡ false
  pub b : list_any (is_same_port (link.b.bridge, link.b.port)) used ≡ false
