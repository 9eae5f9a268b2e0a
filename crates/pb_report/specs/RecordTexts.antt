-- The printed report of a record.
use Rattle.std.specs.Prelude.{◌≡◌, ℕ, Bool, true, false, List, [], ◌∷◌, ◌++◌, Option, Some, None, codes}
use Rattle.pb_lan.specs.LastShapes.{last_shape}
use Rattle.pb_lan.specs.declared.plan.Plan.{Plan}
use Rattle.pb_lan.specs.declared.record.Record.{Record}
use Rattle.pb_report.specs.ForestTexts.{IsForestText}
use Rattle.pb_step_script.specs.Counts.{IsCountsText}

-- whether the spanning tree has settled, if it decides the states of ports
abbrev pub settled_line : Option Bool → List ℕ
settled_line None = []
settled_line (Some true) = codes "settled yes" ++ 10 ∷ []
settled_line (Some false) = codes "settled no" ++ 10 ∷ []

-- the report of a record: its counts, and the services for which its last shape is no forest
pub record IsRecordText (plan : Plan) (rec : Record) (text : List ℕ) : Type 0 where
  pub counts : List ℕ
  pub are_counts : IsCountsText plan rec counts
  pub forest : List ℕ
  pub is_forest : IsForestText plan (last_shape plan rec) forest
  pub text_is : text ≡ counts ++ forest
