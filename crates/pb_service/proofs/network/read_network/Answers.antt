use Rattle.std.proofs.Common.{◌∙◌, ap, sym, unwrap_or}
use Rattle.toml.specs.Data.{no_members}
use Rattle.toml.specs.View.{members_view}
use Rattle.pb_service.specs.Told.{table_told}
use Rattle.pb_service.specs.Refusals.{no_network}
use Rattle.pb_service.proofs.Refusing.{either, network_refused}
use Rattle.pb_service.proofs.network.read_network.Goals as goal

pub returns-in-None-clause-err : goal.returns-in-None-clause-err
returns-in-None-clause-err c =
    network_refused _ _ _ (ap members_view c.new.ensures.empty ∙ ap table_told c.in-None.ensures)
    c.network_of.ensures.err

pub returns-in-Some-as_table-clause-err : goal.returns-in-Some-as_table-clause-err
returns-in-Some-as_table-clause-err c =
    network_refused _ _ _ (ap (λ t. unwrap_or t no_members) c.in-Some-as_table.ensures ∙ ap table_told
    c.in-Some.ensures) c.network_of-in-Some-as_table.ensures.err

pub returns-in-None-as_table-clause-err : goal.returns-in-None-as_table-clause-err
returns-in-None-as_table-clause-err c = either _ _ _ c.no_network.ensures
    (no_network _ _ (sym c.in-Some.ensures) (sym c.in-None-as_table.ensures))
