use Rattle.std.proofs.Common.{◌≡◌, drop}
use Rattle.pb_svlan.specs.ServiceTables.{kind_in}
use Rattle.pb_svlan.proofs.attachments.searched.Given as goal

abbrev pub invariant-loop-attachment : goal.invariant-loop-attachment
invariant-loop-attachment l = kind_in (drop l.attachment-index l.ports) l.port ≡ kind_in l.ports l.port
