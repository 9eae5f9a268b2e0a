use Rattle.std.proofs.Common.{ap, sym, ◌∙◌}
use Rattle.pb_rstp.specs.Machine.{moved_by, own_change}
use Rattle.pb_rstp.specs.Settling.{befores, nows, offer_by, settled, with_sent, change_of}
use Rattle.pb_rstp.proofs.BeforeLaws.{befores-moved, befores-settled}
use Rattle.pb_rstp.proofs.calls.run.Goals as goal

pub settle-requires : goal.settle-requires
settle-requires c =
    c.requires ∙ ap (λ ps. offer_by c.args.id ps) (sym (ap befores c.begin.ensures
    ∙ befores-moved (own_change c.args.own.now) (nows c.args.ports.now)))

pub returns-in-Ok-clause-ports : goal.returns-in-Ok-clause-ports
returns-in-Ok-clause-ports c =
    c.send.ensures ∙ ap with_sent (c.settle.ensures
    ∙ ap (λ ports. settled c.args.prompt c.args.id c.args.heard ports) c.begin.ensures)

pub returns-in-Ok-clause-change : goal.returns-in-Ok-clause-change
returns-in-Ok-clause-change c =
    c.in-Ok.ensures ∙ ap (λ ports. change_of c.args.id c.args.heard ports) (c.settle.ensures
    ∙ ap (λ ports. settled c.args.prompt c.args.id c.args.heard ports) c.begin.ensures)

pub returns-in-Err-clause-err : goal.returns-in-Err-clause-err
returns-in-Err-clause-err c =
    let before = nows c.args.ports.now in
    let change = own_change c.args.own.now in
    c.undo.ensures ∙ ap befores (c.settle.ensures
    ∙ ap (λ ports. settled c.args.prompt c.args.id c.args.heard ports) c.begin.ensures)
    ∙ befores-settled c.args.prompt c.args.id c.args.heard (moved_by change before) ∙ befores-moved change before
