-- The record of the steps of all places.
use Rattle.std.specs.Prelude.{List}
use Rattle.pb_lan.specs.declared.record.Record.{Record}
use Rattle.pb_lan.specs.declared.step.Step.{Step}

abbrev pub record_of : List (List Step) → List (List Step) → List (List Step) → Record
record_of bridges lanes customers = record { bridges = bridges; lanes = lanes; customers = customers }
