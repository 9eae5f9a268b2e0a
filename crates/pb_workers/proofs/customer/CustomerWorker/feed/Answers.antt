use Rattle.std.proofs.Common.{ap, refl}
use Rattle.pb_workers.specs.declared.access.Book.{Book}
use Rattle.pb_workers.proofs.PortLemmas.{keeps_still}
use Rattle.pb_workers.proofs.customer.CustomerWorker.feed.Goals as goal

pub returns-clause-port : goal.returns-clause-port
returns-clause-port g c =
    let handed = c.hand_on.ensures in
    keeps_still c.requires refl refl refl refl refl refl refl handed.entered handed.left handed.given_up
    (ap (λ (b : Book). b.last) handed.same.book)
