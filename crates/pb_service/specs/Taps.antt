-- The taps of a document.
use Rattle.std.specs.Prelude.{◌≡◌, ℕ, codes, List, Some}
use Rattle.toml.specs.Data.{Members}
use Rattle.pb_lan.specs.declared.limits.Limits.{Limits}
use Rattle.pb_service.specs.declared.tap.TapSpec.{TapSpec}
use Rattle.pb_service.specs.Tables.{IsStampOf, text_at}
use Rattle.pb_service.specs.Told.{direction_of, number_from}

-- the tap that a table describes, among links of these names
pub record IsTapOf (links : List (List ℕ)) (limits : Limits) (row : Members) (t : TapSpec) : Type 0 where
  pub link : number_from 1 links (text_at row (codes "link")) ≡ Some t.link
  pub write : t.write ≡ text_at row (codes "write")
  pub direction : t.direction ≡ direction_of (text_at row (codes "direction"))
  pub stamp : IsStampOf limits row t.stamp
