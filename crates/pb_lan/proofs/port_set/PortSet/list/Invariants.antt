use Rattle.std.proofs.Common.{◌≡◌, ◌<◌, ◌-◌, ◌++◌, length}
use Rattle.pb_lan.specs.PortSets.{ports_in}
use Rattle.pb_lan.proofs.port_set.PortSet.list.Given as goal

abbrev pub invariant-loop-port : goal.invariant-loop-port
invariant-loop-port l = record {
  listed : l.list ++ ports_in (17 - l.port) l.port l.rest ≡ l.self;
  few : length l.list < l.port;
}
