use Rattle.std.proofs.Common.{◌∙◌, refl}
use Rattle.pb_threads.proofs.WishLemmas.{may_fulfil}
use Rattle.pb_threads.proofs.slot.Owned.take_turn.Goals as goal

pub fulfil-requires : goal.fulfil-requires
fulfil-requires g c =
    may_fulfil g.K.Roster.gives (g.G.Gate.gives c.args.gate.now) g.T.Work.named g.T.Work.given g.T.Work.fulfilled
    c.args.self.now.place c.place-place.result c.copied.result.items c.in-Some.wish c.requires c.place-place.ensures
    (c.copied.ensures ∙ c.args.self.now.known) (c.in-Some.ensures c.in-Some.wish refl)
