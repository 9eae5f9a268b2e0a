-- A value that only contracts see holds nothing, and threads may share it.
use denote.RattleType.{RattleType}
use denote.Param.Send.{IsSync, part_keyless}
use Rattle.pb_workers.specs.contracts.was.Was.{the_row}
use Rattle.pb_workers.proofs.was.Was.TheSendSync.Send.{send}

pub sync : (T : RattleType) → IsSync (the_row T)
sync T = record { shared = λ d b o κ q. part_keyless (the_row T) (send T) q d b o }
