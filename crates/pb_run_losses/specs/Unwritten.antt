-- The frames that a run could not write.
use Rattle.std.specs.Prelude.{ℕ, ◌==◌, if◌then◌else◌, List, [], ◌∷◌, ◌++◌, length, codes}
use Rattle.std.specs.Fmt.{decimal}
use Rattle.std.specs.List.{count_by}
use Rattle.pb_lan.specs.declared.plan.CustomerPlan.{CustomerPlan}
use Rattle.pb_lan.specs.declared.step.Step.{Step}
use Rattle.pb_port.specs.Reading.{held_sum}
use Rattle.pb_workers.specs.Ports.{Frames}
use Rattle.pb_history.specs.Passages.{is_gone}

-- the line for the unwritten frames of a customer port, or nothing if there are none
abbrev pub unwritten_line : List ℕ → ℕ → List ℕ
unwritten_line name count = if count == 0 then [] else codes "port " ++ name ++ codes ": " ++ decimal count ++ codes " frames not written" ++ 10 ∷ []

-- for each customer port, the frames that it still holds and those that came after a write had failed
abbrev pub unwritten_lines : List CustomerPlan → List Frames → List (List Step) → List ℕ
unwritten_lines (customer ∷ customers) (waiting ∷ waitings) (steps ∷ lists) =
    unwritten_line customer.name (held_sum (length waiting) (count_by is_gone steps)) ++ unwritten_lines customers waitings lists
unwritten_lines _ _ _ = []
