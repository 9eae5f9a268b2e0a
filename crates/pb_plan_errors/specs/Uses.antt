-- The local ports that links and customer ports use.
use Rattle.std.specs.Prelude.{◌≡◌, Some}
use Rattle.toml.specs.Data.{Members}
use Rattle.pb_diagnostics.specs.Sites.{row_at}
use Rattle.pb_service.specs.Tables.{text_at}
use Rattle.pb_plan_errors.specs.Rows.{integer_at, bridge_key}
use Rattle.pb_plan_errors.specs.declared.ends.PortUse.{PortUse}

-- a key of a table of the document gives the use
pub record IsUse (document : Members) (u : PortUse) : Type 0 where
  pub row : Members
  pub row_is : row_at document u.word.now u.index ≡ Some row
  pub bridge : text_at row (bridge_key u.key.now) ≡ u.bridge.now
  pub port : integer_at row u.key.now ≡ u.port
