use Rattle.std.proofs.lemmas.Result.{err_from_is_err_and}
use Rattle.pb_service.proofs.Refusing.{memory_passed}
use Rattle.pb_service.proofs.table.tables_at.Goals as goal

pub returns-in_err-names-clause-err : goal.returns-in_err-names-clause-err
returns-in_err-names-clause-err c = memory_passed _ _ _ (err_from_is_err_and _ c.from_residual-in_err-names.ensures.1)
    c.in_err-names.ensures.err
