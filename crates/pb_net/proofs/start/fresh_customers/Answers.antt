use Rattle.pb_net.proofs.StartLemmas.{fresh_customers-more}
use Rattle.pb_net.proofs.start.fresh_customers.Goals as goal

pub loop-place-preserved : goal.loop-place-preserved
loop-place-preserved c =
    rw c.in_ok-push.ensures.items (fresh_customers-more c.args.is_kept c.loop-place.place c.loop-place.customers.items
    c.fresh_customer.result
    c.loop-place.invariant c.fresh_customer.ensures)
