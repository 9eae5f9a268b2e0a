-- The records of some of the places of a network.
use Rattle.std.specs.Prelude.{List, []}
use Rattle.pb_lan.specs.declared.record.Record.{Record}
use Rattle.pb_lan.specs.declared.step.Step.{Step}

-- the steps of bridges and customer ports
abbrev pub of_customers : List (List Step) → List (List Step) → Record
of_customers bridges customers = record { bridges = bridges; lanes = []; customers = customers }

-- the steps of bridges and lanes
abbrev pub of_lanes : List (List Step) → List (List Step) → Record
of_lanes bridges lanes = record { bridges = bridges; lanes = lanes; customers = [] }
