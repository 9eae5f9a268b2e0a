-- Admission of a frame at a customer port.
use Rattle.std.specs.Prelude.{◌≡◌, ℕ, List, Some, unwrap_or}
use Rattle.pb_frame.specs.Tags.{has_priority_tag, priority_tag_of}
use Rattle.pb_svlan.specs.ServiceTables.{ServiceTable, vid_at, pcp_of}
use Rattle.pb_svlan.specs.declared.entered.Entered.{Entered}

-- the frame gets the port's service, the priority of its tag or of the port, and a priority tag is to be removed
pub record IsEntered (table : ServiceTable) (port : ℕ) (x : List ℕ) (entered : Entered) : Type 0 where
  pub vid : vid_at table port ≡ Some entered.vid
  pub pcp : entered.pcp ≡ unwrap_or (priority_tag_of x) (unwrap_or (pcp_of table port) 0)
  pub cut : entered.cut ≡ has_priority_tag x
