use Rattle.std.proofs.Common.{◌≡◌, ◌++◌, drop}
use Rattle.pb_svlan.specs.ServiceTables.{ports_of}
use Rattle.pb_svlan.proofs.services.Services.members_of.Given as goal

abbrev pub invariant-loop-attachment : goal.invariant-loop-attachment
invariant-loop-attachment l = l.members.items
    ++ ports_of (record l.self { ports = drop l.attachment-index l.attachment-items }) l.vid ≡ ports_of l.self l.vid
