use Rattle.std.proofs.Common.{◌≡◌, ◌+◌, ◌++◌, ℕ, List, ap, sym, ◌∙◌, subst, arith, append_assoc, option_to_list}
use Rattle.rtrb.specs.Ring.{received as received_over}
use Rattle.pb_frame.specs.Lists.{IsBeginning}
use Rattle.pb_lan.specs.PortLists.{fed, delivered}
use Rattle.pb_lan.specs.Records.{received, transmitted}
use Rattle.pb_lan.specs.declared.step.Item.{Item}
use Rattle.pb_ring.specs.Rings.{shown_at}
use Rattle.pb_workers.proofs.bridge.BridgeWorker.meet_customer.Goals as goal

pub returns-clause-into : goal.returns-clause-into
returns-clause-into g c =
    let worker = c.args.self.now in let access = c.args.access.now in
    let place = c.index_of.result in
    let same : place + 1 ≡ c.args.port = omega (arith, c.requires.port.0, c.index_of.ensures) in
    let here = shown_at (λ i. received_over i.end) worker.ins.ends.items place in
    let came : here ≡ received c.args.port worker.bridge.steps = worker.took place
    ∙ ap (λ (r : ℕ). received r worker.bridge.steps) same in
    let Fed : List Item → Type 0 = λ items. IsBeginning here items in
    let Came : List Item → Type 0 = λ items. IsBeginning items (fed access.place.steps) in
    subst Came came (subst Fed access.fed c.meet.ensures.begins)

pub returns-clause-out : goal.returns-clause-out
returns-clause-out g c =
    let worker = c.args.self.now in let access = c.args.access.now in
    let place = c.index_of-2.result in
    let same : place + 1 ≡ c.args.port = omega (arith, c.requires.port.0, c.index_of-2.ensures) in
    let rest = c.meet-2.ensures.begins.0 in (
      option_to_list access.offered ++ rest,
      sym (append_assoc (delivered access.place.steps) (option_to_list access.offered) rest)
          ∙ ap (λ (items : List Item). items ++ rest) (sym access.drained) ∙ c.meet-2.ensures.begins.1
          ∙ worker.gave place ∙ ap (λ (r : ℕ). transmitted r worker.bridge.steps) same,
    )
