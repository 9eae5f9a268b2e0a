-- The lists of a network's record, before its end.
use Rattle.std.specs.Prelude.{◌≡◌, ℕ, ◌≤◌, [], vec_capacity}
use Rattle.pb_net.specs.declared.lists.Lists.{Lists}

-- the lists are empty, with capacity for this many bridges, lanes and customer ports
pub record AreEmpty (bridges lanes customers : ℕ) (lists : Lists) : Type 0 where
  pub no_bridges : lists.bridges.items ≡ []
  pub no_lanes : lists.lanes.items ≡ []
  pub no_customers : lists.customers.items ≡ []
  pub bridge_room : bridges ≤ vec_capacity lists.bridges
  pub lane_room : lanes ≤ vec_capacity lists.lanes
  pub customer_room : customers ≤ vec_capacity lists.customers
