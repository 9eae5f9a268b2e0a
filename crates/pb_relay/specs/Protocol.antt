-- The spanning tree protocol that bridges run (IEEE 802.1D-2004 clause 17, in a profile).
use Rattle.pb_lan.specs.Rules.{Rules}
use Rattle.pb_rstp.specs.Profile.{rules}

-- which frames bridges read as BPDUs, and what a cause changes at a bridge whose earlier steps determine its machine
unfoldable pub spanning_tree : Rules
spanning_tree = rules
