use Rattle.std.proofs.Common.{◌∙◌, sym, ap, length, arith}
use Rattle.std.proofs.lemmas.Result.{err_from_is_err_and}
use Rattle.toml.specs.View.{table_view}
use Rattle.pb_service.specs.Refusals.{no_tables, too_many}
use Rattle.pb_service.proofs.Refusing.{either, memory_passed, long_rows}
use Rattle.pb_service.proofs.table.rows_of.Goals as goal

pub returns-then-not-has_tables-clause-err : goal.returns-then-not-has_tables-clause-err
returns-then-not-has_tables-clause-err c = either _ _ _ c.no_tables.ensures
    (no_tables _ _ (sym c.has_tables.ensures ∙ c.if-not-has_tables.true))

pub returns-in_err-rows-clause-err : goal.returns-in_err-rows-clause-err
returns-in_err-rows-clause-err c = memory_passed _ _ _ (err_from_is_err_and _ c.from_residual.ensures.1)
    c.in_err-rows.ensures.err

pub returns-then-as_slice-most_of-clause-err : goal.returns-then-as_slice-most_of-clause-err
returns-then-as_slice-most_of-clause-err c =
    too_many _ c.args.section
    (omega (
      arith,
      long_rows (table_view c.args.document.now) c.args.section c.in_ok-rows.rows.items
          c.in_ok-rows.ensures.ok,
      c.most_of.ensures,
      ap length c.as_slice.ensures.value,
    ))
