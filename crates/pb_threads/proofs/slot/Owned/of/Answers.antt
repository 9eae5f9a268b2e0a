use Rattle.pb_threads.proofs.WishLemmas.{none_fulfilled}
use Rattle.pb_threads.proofs.slot.Owned.of.Goals as goal

pub invariant_of-result-clause-wishes : goal.invariant_of-result-clause-wishes
invariant_of-result-clause-wishes g c =
    none_fulfilled g.K.Roster.gives g.T.Work.named g.T.Work.given g.T.Work.fulfilled c.args.place c.requires.fresh
