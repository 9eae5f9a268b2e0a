use Rattle.std.proofs.Common.{ap, sym, ◌∙◌}
use Rattle.pb_rstp.specs.Settling.{befores, offer_by, with_proposal, with_topology, with_updates}
use Rattle.pb_rstp.proofs.BeforeLaws.{befores-reported}
use Rattle.pb_rstp.proofs.sending.settle.Goals as goal

pub bring_in_line-requires : goal.bring_in_line-requires
bring_in_line-requires c = ap (λ o. o.root) c.requires

pub update-requires : goal.update-requires
update-requires c =
    let heard = c.args.heard in
    c.requires ∙ ap (λ ps. offer_by c.args.id ps) (sym (ap befores (c.report.ensures
    ∙ ap (λ ports. with_topology c.args.prompt heard ports) (c.answer_proposal.ensures
    ∙ ap (λ ports. with_proposal heard ports) c.bring_in_line.ensures))
    ∙ befores-reported c.args.prompt c.args.id heard c.args.ports.now))

pub returns : goal.returns
returns c =
    let heard = c.args.heard in
    c.update.ensures
    ∙ ap (λ ports. with_updates c.args.prompt c.args.id ports) (c.report.ensures
    ∙ ap (λ ports. with_topology c.args.prompt heard ports) (c.answer_proposal.ensures
    ∙ ap (λ ports. with_proposal heard ports) c.bring_in_line.ensures))
