-- A list that only contracts see holds nothing, and threads may share it.
use denote.RattleType.{RattleType}
use denote.Param.Send.{IsSync, part_keyless}
use Rattle.pb_lan.specs.contracts.past.Past.{the_row}
use Rattle.pb_lan.proofs.past.Past.TheSendSync.Send.{send}

pub sync : (T : RattleType) → IsSync (the_row T)
sync T = record { shared = λ d b o κ q. part_keyless (the_row T) (send T) q d b o }
