use Rattle.std.proofs.Common.{◌≡◌, ◌∙◌, ◌++◌, ◌∷◌, [], ap, sym, rules}
use Rattle.pb_threads.specs.declared.turns.TurnStatus.TheVariants.{Done}
use Rattle.pb_threads.proofs.WishLemmas.{more_fulfilled}
use Rattle.pb_threads.proofs.slot.Owned.fulfil.Goals as goal

pub invariant_of-self-2-clause-known : goal.invariant_of-self-2-clause-known
invariant_of-self-2-clause-known g c =
    let done : c.fulfil-turned.result.status ≡ Done = search rules in
    c.note.ensures ∙ ap (λ ws. ws ++ c.args.wish ∷ []) c.args.self.now.known
    ∙ sym (c.fulfil-turned.ensures.fulfilled.0 done)

pub invariant_of-self-2-clause-wishes : goal.invariant_of-self-2-clause-wishes
invariant_of-self-2-clause-wishes g c =
    let done : c.fulfil-turned.result.status ≡ Done = search rules in
    more_fulfilled g.K.Roster.gives g.T.Work.named g.T.Work.given g.T.Work.fulfilled c.args.self.now.place
    c.fulfil-turned.new.self c.args.wish c.fulfil-turned.ensures.given (c.fulfil-turned.ensures.fulfilled.0 done)
    c.requires c.args.self.now.wishes
