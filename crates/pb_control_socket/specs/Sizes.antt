-- The size of a network.
use Rattle.std.specs.Prelude.{◌≤◌, length}
use Rattle.pb_lan.specs.declared.plan.Plan.{Plan}

-- the plan has no more bridges, links and customer ports than a network may have
abbrev pub IsFew : Plan → Type 0
IsFew plan = (length plan.bridges ≤ 32) × (length plan.links ≤ 64) × (length plan.customers ≤ 128)
