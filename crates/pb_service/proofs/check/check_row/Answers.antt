use Rattle.std.proofs.Common.{◌∙◌, sym}
use Rattle.pb_service.proofs.Refusing.{name_again}
use Rattle.pb_service.proofs.check.check_row.Goals as goal

pub returns-then-is_one_of-clause-err : goal.returns-then-is_one_of-clause-err
returns-then-is_one_of-clause-err c = name_again _ c.args.names.now c.args.index _ _ _ c.text_at-name.ensures
    c.twice.ensures (sym c.is_one_of.ensures ∙ c.if-is_one_of.true)
