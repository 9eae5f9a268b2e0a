use Rattle.std.proofs.Common.{◌∙◌, ◌++◌, ◌∷◌, List, [], ap, refl, rules, arith}
use Rattle.pb_lan.specs.Counts.{entered, left}
use Rattle.pb_lan.specs.declared.step.Step.{Step}
use Rattle.pb_workers.specs.Ports.{given_up}
use Rattle.pb_workers.specs.declared.access.Book.{Book}
use Rattle.pb_workers.proofs.PortLemmas.{keeps_taken, keeps_given_up, keeps_still, never, over_same}
use Rattle.pb_workers.proofs.customer.CustomerWorker.deliver.Goals as goal

pub returns-then-len-ge65536-clause-port : goal.returns-then-len-ge65536-clause-port
returns-then-len-ge65536-clause-port g c =
    let out = c.let_out.ensures in
    let fetched = c.fetch.ensures in
    keeps_given_up c.in-Some.item.wire c.requires refl refl refl refl refl refl refl
    (λ _. omega (arith, c.len.ensures.value, c.if-len-ge65536.true)) (out.entered ∙ ap entered fetched.steps)
    (out.left c.in-Some.item (search rules) ∙ ap (λ (steps : List Step). left steps ++ []) fetched.steps)
    (out.given_up c.in-Some.item (search rules)
    ∙ ap (λ (steps : List Step). given_up steps ++ c.in-Some.item.wire ∷ []) fetched.steps)
    (ap (λ (b : Book). b.last) (out.same.book ∙ fetched.same.book))

pub returns-in-Taken-clause-port : goal.returns-in-Taken-clause-port
returns-in-Taken-clause-port g c =
    let offered = c.in-Taken.ensures in
    let out = c.let_out-in-Taken.ensures in
    let fetched = c.fetch.ensures in
    keeps_taken c.in-Some.item.wire c.requires offered.script.0 offered.script.1 offered.tally offered.offered.2
    (over_same _ _ _ _ offered.gone.0 offered.gone.1) offered.script.3 offered.output
    (out.entered ∙ ap entered fetched.steps)
    (out.left c.in-Some.item (search rules)
    ∙ ap (λ (steps : List Step). left steps ++ c.in-Some.item.wire ∷ []) fetched.steps)
    (out.given_up c.in-Some.item (search rules) ∙ ap (λ (steps : List Step). given_up steps ++ []) fetched.steps)
    (ap (λ (b : Book). b.last) (out.same.book ∙ fetched.same.book))

pub returns-in-Gone-clause-port : goal.returns-in-Gone-clause-port
returns-in-Gone-clause-port g c =
    let offered = c.in-Gone.ensures in
    let out = c.let_out-in-Gone.ensures in
    let fetched = c.fetch.ensures in
    keeps_given_up c.in-Some.item.wire c.requires offered.script.0 offered.script.1 offered.tally offered.offered.1
    (over_same _ _ _ _ offered.gone.0 offered.gone.1) offered.script.3 offered.output (never _ offered.offered.0)
    (out.entered ∙ ap entered fetched.steps)
    (out.left c.in-Some.item (search rules) ∙ ap (λ (steps : List Step). left steps ++ []) fetched.steps)
    (out.given_up c.in-Some.item (search rules)
    ∙ ap (λ (steps : List Step). given_up steps ++ c.in-Some.item.wire ∷ []) fetched.steps)
    (ap (λ (b : Book). b.last) (out.same.book ∙ fetched.same.book))

pub returns-in-Full-clause-port : goal.returns-in-Full-clause-port
returns-in-Full-clause-port g c =
    let offered = c.in-Full.ensures in
    let fetched = c.fetch.ensures in
    keeps_still c.requires offered.script.0 offered.script.1 offered.tally offered.offered.2
    (over_same _ _ _ _ offered.gone.0 offered.gone.1) offered.script.3 offered.output (ap entered fetched.steps)
    (ap left fetched.steps) (ap given_up fetched.steps) (ap (λ (b : Book). b.last) fetched.same.book)

pub returns-in-Memory-clause-port : goal.returns-in-Memory-clause-port
returns-in-Memory-clause-port g c =
    let offered = c.in-Memory.ensures in
    let fetched = c.fetch.ensures in
    keeps_still c.requires offered.script.0 offered.script.1 offered.tally offered.offered.2
    (over_same _ _ _ _ offered.gone.0 offered.gone.1) offered.script.3 offered.output (ap entered fetched.steps)
    (ap left fetched.steps) (ap given_up fetched.steps) (ap (λ (b : Book). b.last) fetched.same.book)
