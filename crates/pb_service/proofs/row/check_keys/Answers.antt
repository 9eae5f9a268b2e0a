use Rattle.pb_service.proofs.KeyLemmas.{refused_at}
use Rattle.pb_service.proofs.row.check_keys.Goals as goal

pub returns-in-Some-clause-err : goal.returns-in-Some-clause-err
returns-in-Some-clause-err c =
    let refused = rw c.in-Some.is at c.in_ok-found.ensures.some in
    refused_at c.args.keys.now c.args.key_table _ c.loop-key.key-index _ c.in-Some.fault _ _ c.loop-key-test.true
    c.value_at.ensures refused c.told.ensures
