-- The bridge and the port at an end of a link, as the code holds them.
use Rattle.pb_rstp.specs.Tree.{Place}
use Rattle.pb_rstp.specs.declared.network.Standing.{Standing}

-- the bridge and the port at an end of a link
abbrev pub place_of : Standing → Place
place_of s = record { machine = s.bridge.now; port = s.port }
