use Rattle.std.proofs.Common.{ap, sym, ◌∙◌, List, Bool, if◌then◌else◌}
use Rattle.pb_rstp.specs.Settling.{befores, nows, each, offer_by, with_update}
use Rattle.pb_rstp.specs.declared.message.Offer.{Offer}
use Rattle.pb_rstp.specs.declared.moving.Moving.{Moving}
use Rattle.pb_rstp.proofs.sending.update.Goals as goal

pub returns : goal.returns
returns c =
    let id = c.args.id in
    let ports : List Moving = c.args.ports.now in
    c.update_all.ensures
    ∙ ap (λ (offer : Offer). each (with_update id offer c.offer_by-after.result) ports) c.requires
    ∙ ap (λ (offer : Offer). each (with_update id (offer_by id (befores ports)) offer) ports) c.offer_by-after.ensures
    ∙ ap (λ (b : Bool). if b
    then each (with_update id (offer_by id (befores ports)) (offer_by id (nows ports))) ports else ports)
    (sym c.if-not-prompt.false)
