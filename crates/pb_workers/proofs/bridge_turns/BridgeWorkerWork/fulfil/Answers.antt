use Rattle.std.proofs.Common.{◌≡◌, ◌↔◌, true, Ok, subst, sym}
use Rattle.pb_threads.specs.declared.turns.TurnStatus.{TurnStatus}
use Rattle.pb_threads.specs.declared.turns.TurnStatus.TheVariants.{Done}
use Rattle.pb_workers.proofs.SettingLemmas.{fulfilled_by}
use Rattle.pb_workers.proofs.bridge_turns.BridgeWorkerWork.fulfil.Goals as goal

pub returns-clause-fulfilled : goal.returns-clause-fulfilled
returns-clause-fulfilled g c =
    let set = c.set.ensures in
    fulfilled_by c.set.result c.args.self.now.bridge c.set.new.self.bridge c.args.wish c.stirred.result.status set.done
    set.left set.err
    (subst (λ (s : TurnStatus). (s ≡ Done) ↔ (c.set.result ≡ Ok true)) (sym c.stirred.ensures) c.turn.ensures)
