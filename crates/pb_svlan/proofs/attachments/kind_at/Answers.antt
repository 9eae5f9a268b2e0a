use Rattle.std.proofs.Common.{◌≡◌, ◌<◌, ℕ, ltb, true, sym, arith}
use Rattle.std.proofs.lemmas.Bool.Decides.{nat_tests}
use Rattle.pb_svlan.proofs.ServiceLemmas.{found-there}
use Rattle.pb_svlan.proofs.attachments.kind_at.Goals as goal

within : (i n : ℕ) → true ≡ ltb i n → i < n
within i n h = grind (arith, nat_tests)

pub returns-in-Some : goal.returns-in-Some
returns-in-Some c =
    let there = c.in-Some.ensures.lookup in
    sym (found-there c.args.ports.now c.from.result c.args.port c.in-Some.attachment.now c.requires
    (within _ _ there.0) there.1 c.if-attachment-port.true)
