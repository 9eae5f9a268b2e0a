use Rattle.std.proofs.Common.{subst}
use Rattle.std.proofs.lemmas.Result.{err_from_is_err_and}
use Rattle.pb_run_ports.specs.Addresses.{Admits}
use Rattle.pb_run_ports.proofs.DeedLemmas.{begun_none}
use Rattle.pb_run_ports.proofs.StopLemmas.{result_admitted}
use Rattle.pb_run_ports.proofs.opened.open_all.Goals as goal

pub returns-in_err-find_clash-clause-err : goal.returns-in_err-find_clash-clause-err
returns-in_err-find_clash-clause-err g c =
    let p = err_from_is_err_and c.from_residual-in_err-find_clash.result c.from_residual-in_err-find_clash.ensures.1 in
    rw (p.1, p.2) (_, begun_none _ _)

pub returns-in_err-shared-in-Some-clause-err : goal.returns-in_err-shared-in-Some-clause-err
returns-in_err-shared-in-Some-clause-err g c =
    let p = err_from_is_err_and c.from_residual-in_err-shared-in-Some.result
    c.from_residual-in_err-shared-in-Some.ensures.1 in rw (p.1, p.2) (_, begun_none _ _)

pub returns-in-None-clause-admitted : goal.returns-in-None-clause-admitted
returns-in-None-clause-admitted g c =
    result_admitted _ _ _ _ _ c.open_apart.ensures.err
    (subst (Admits c.args.allows_network) c.as_slice.ensures.value c.in_ok-check_addresses.ensures)
