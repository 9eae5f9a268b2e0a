use Rattle.std.proofs.Common.{◌≡◌, ◌+◌, drop}
use Rattle.pb_svlan.specs.ServiceTables.{place_of}
use Rattle.pb_svlan.proofs.attachments.place_of.Given as goal

abbrev pub invariant-loop-attachment : goal.invariant-loop-attachment
invariant-loop-attachment l = record {
  counted : l.place ≡ l.attachment-index;
  rest : place_of l.port (drop l.attachment-index l.ports) + l.place ≡ place_of l.port l.ports;
}
