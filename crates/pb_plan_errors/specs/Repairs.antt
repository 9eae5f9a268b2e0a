-- Documents whose faults are repaired.
use Rattle.std.specs.Prelude.{◌≡◌, ◌≢◌, ◌≤◌}
use Rattle.toml.specs.Data.{Members, members_depth}
use Rattle.toml.specs.View.{table_view}
use Rattle.pb_service.specs.Refusals.{Refuses}
use Rattle.pb_service.specs.declared.fault.PlanFault.TheVariants.{Memory}
use Rattle.pb_plan_errors.specs.declared.all.Refused.{Refused}

-- the document breaks the rule
pub record IsRefused (r : Refused) : Type 0 where
  pub breaks : Refuses (table_view r.document) r.fault
  pub not_memory : r.fault ≢ Memory

-- the document read again from its text is the same one, unless its tables nest deeper than the reader allows
abbrev pub IsSame : Members → Members → Type 0
IsSame document again = members_depth document ≤ 80 → again ≡ document
