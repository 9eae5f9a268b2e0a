use Rattle.std.proofs.Common.{◌≡◌, All, [], arith, length, rules, sym, subst}
use Rattle.std.proofs.lemmas.Grind.{common_steps}
use Rattle.std.proofs.lemmas.List.Elements.{All-push}
use Rattle.std.specs.Vec.Iter.{into_iter_items}
use Rattle.pb_run_ports.proofs.MoveLemmas.{moved_over}
use Rattle.pb_run_ports.specs.Opened.{octets_at, shown}
use Rattle.pb_cmd_run.specs.Unsent.{waiting_at}
use Rattle.pb_cmd_run.proofs.OpenedLemmas.{moved_all}
use Rattle.pb_cmd_run.proofs.customer_ports.ports_of.Goals as goal

pub loop-port-preserved : goal.loop-port-preserved
loop-port-preserved g c =
    let before = c.loop-port.ports.items in
    let after = c.push.new.self.items in
    let left = into_iter_items c.loop-port.port-iterator in
    let rest = into_iter_items c.next.new.self in
    let was = c.loop-port.invariant in
    let port = c.in-Some.port in
    let grown = c.in_ok-push.ensures.items in
    let next = c.in-Some.ensures.steps.0 in
    let made = c.in_ok-port.ensures in
    record {
      count = grind (arith, common_steps);
      scripts = moved_over _ before after _ _ left rest port _ was.scripts grown next made.script;
      unread = moved_over _ before after _ _ left rest port _ was.unread grown next made.unread;
      outputs = moved_over _ before after _ _ left rest port _ was.outputs grown next made.output;
      fresh = subst (λ items. All (λ w. waiting_at g.O.FilePort.Port.waiting w.port ≡ []) items) (sym grown)
          (All-push (λ w. waiting_at g.O.FilePort.Port.waiting w.port ≡ []) before _ was.fresh made.fresh);
    }

pub returns-clause-scripts : goal.returns-clause-scripts
returns-clause-scripts g c =
    let left = into_iter_items c.loop-port.port-iterator in
    let none : length left ≡ 0 = search rules in
    let all : into_iter_items c.into_iter-port-iterator.result ≡ c.args.opened.items = search rules in
    moved_all _ _ _ left _ _ c.loop-port.invariant.scripts none all

pub returns-clause-unread : goal.returns-clause-unread
returns-clause-unread g c =
    let left = into_iter_items c.loop-port.port-iterator in
    let none : length left ≡ 0 = search rules in
    let all : into_iter_items c.into_iter-port-iterator.result ≡ c.args.opened.items = search rules in
    moved_all _ _ _ left _ _ c.loop-port.invariant.unread none all

pub returns-clause-outputs : goal.returns-clause-outputs
returns-clause-outputs g c =
    let left = into_iter_items c.loop-port.port-iterator in
    let none : length left ≡ 0 = search rules in
    let all : into_iter_items c.into_iter-port-iterator.result ≡ c.args.opened.items = search rules in
    moved_all _ _ _ left _ _ c.loop-port.invariant.outputs none all
