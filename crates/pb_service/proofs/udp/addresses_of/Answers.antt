use Rattle.std.proofs.Common.{rules}
use Rattle.toml.specs.View.{table_view}
use Rattle.pb_service.proofs.Addresses.{remote_refused}
use Rattle.pb_service.proofs.udp.addresses_of.Goals as goal

pub returns-then-is_ipv4-clause-err : goal.returns-then-is_ipv4-clause-err
returns-then-is_ipv4-clause-err c =
    remote_refused c.args.index (table_view c.args.row.now) c.unwrap-local.result c.unwrap-remote.result c.told.result
    (search rules) (search rules) c.told.ensures
