use Rattle.std.proofs.Common.{◌∙◌, ◌++◌, ◌∷◌, List, [], ap, refl, rules}
use Rattle.pb_lan.specs.Counts.{entered, left}
use Rattle.pb_lan.specs.declared.step.Step.{Step}
use Rattle.pb_port.specs.declared.answers.Polled.TheVariants.{Nothing, Fault}
use Rattle.pb_port.specs.declared.fault.PortFault.TheVariants.{Memory}
use Rattle.pb_workers.specs.Ports.{given_up}
use Rattle.pb_workers.specs.declared.access.Book.{Book}
use Rattle.pb_workers.proofs.PortLemmas.{keeps_frame, keeps_nothing, keeps_end, keeps_fault, keeps_same, over_same}
use Rattle.pb_workers.proofs.customer.CustomerWorker.poll.Goals as goal

pub returns-in-Frame-clause-port : goal.returns-in-Frame-clause-port
returns-in-Frame-clause-port g c =
    let polled = c.in-Frame.ensures in
    let taken = c.take_in.ensures in
    let asked = c.asks.ensures in
    keeps_frame c.in-Frame.frame c.requires polled.script polled.given polled.tally.0 polled.waiting.0
    (over_same _ _ _ _ polled.gone.0 polled.gone.1) polled.unread polled.tally.2
    (taken.entered ∙ ap (λ (steps : List Step). entered steps ++ c.in-Frame.frame ∷ []) asked.steps)
    (taken.left ∙ ap left asked.steps) (taken.given_up ∙ ap given_up asked.steps)
    (ap (λ (b : Book). b.last) (taken.same.book ∙ asked.same.book) ∙ asked.more (search rules))

pub returns-in-Nothing-clause-port : goal.returns-in-Nothing-clause-port
returns-in-Nothing-clause-port g c =
    let polled = c.in-Nothing.ensures in
    let asked = c.asks.ensures in
    keeps_nothing Nothing tt tt (keeps_same c.requires asked.steps (ap (λ (b : Book). b.last) asked.same.book))
    polled.script polled.given polled.tally.0 polled.waiting.0 (over_same _ _ _ _ polled.gone.0 polled.gone.1)
    polled.unread polled.tally.2

pub returns-in-End-clause-port : goal.returns-in-End-clause-port
returns-in-End-clause-port g c =
    let polled = c.in-End.ensures in
    keeps_end (keeps_same c.requires c.asks.ensures.steps refl) polled.script polled.given polled.tally.0
    polled.waiting.0 (over_same _ _ _ _ polled.gone.0 polled.gone.1) polled.unread polled.tally.2

pub returns-in-Fault-Memory-clause-port : goal.returns-in-Fault-Memory-clause-port
returns-in-Fault-Memory-clause-port g c =
    let polled = c.in-Fault-Memory.ensures in
    let asked = c.asks.ensures in
    keeps_nothing (Fault Memory) tt tt (keeps_same c.requires asked.steps (ap (λ (b : Book). b.last) asked.same.book))
    polled.script polled.given polled.tally.0 polled.waiting.0 (over_same _ _ _ _ polled.gone.0 polled.gone.1)
    (rw c.in-Fault-Memory.field-0-is at polled.unread) polled.tally.2

pub returns-in-Fault-clause-port : goal.returns-in-Fault-clause-port
returns-in-Fault-clause-port g c =
    let polled = c.in-Fault.ensures in
    keeps_fault c.in-Fault.fault (keeps_same c.requires c.asks.ensures.steps refl) polled.script
    polled.given polled.tally.0 polled.waiting.0 (over_same _ _ _ _ polled.gone.0 polled.gone.1) polled.unread
    polled.tally.2
