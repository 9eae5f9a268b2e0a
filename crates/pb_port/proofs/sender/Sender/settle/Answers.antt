use Rattle.std.proofs.Common.{◌≡◌, ◌+◌, ◌-◌, ◌++◌, ℕ, List, length, take, drop, sym, ap, ◌∙◌, subst, arith}
use Rattle.std.proofs.Common.{append_assoc, add-zero, length-drop, take-append-drop}
use Rattle.pb_port.specs.Sending.{Adds, IsNext}
use Rattle.pb_port.proofs.PuttingLemmas.{take_all}
use Rattle.pb_port.proofs.SendingLemmas.{adds_after}
use Rattle.pb_port.proofs.sender.Sender.settle.Goals as goal

pub returns-in-None-clause-octets : goal.returns-in-None-clause-octets
returns-in-None-clause-octets c =
    let m = c.loop-rest.count in
    let u = c.args.self.now in
    let w = c.advance.new.self in
    let added = c.loop-rest.invariant.added in
    let after : Adds (m + 0) c.args.now u w (added.0 ++ c.loop-rest.rest.now) =
    adds_after m 0 c.args.now u c.loop-rest.self w added.0 c.loop-rest.rest.now added.1 c.in-None.ensures.octets in
    let P : ℕ → Type 0 = λ k. Adds k c.args.now u w (added.0 ++ c.loop-rest.rest.now) in
    let Q : List ℕ → Type 0 = λ z. Adds m c.args.now u w z in
    subst Q added.2 (subst P (add-zero m) after)

pub loop-rest-preserved : goal.loop-rest-preserved
loop-rest-preserved c =
    let m = c.loop-rest.count in
    let n = c.in-Some.n in
    let u = c.args.self.now in
    let w = c.advance.new.self in
    let rest = c.loop-rest.rest.now in
    let added = c.loop-rest.invariant.added in
    let sent = c.in-Some.ensures.octets in
    let size : length rest - n ≡ length (drop n rest) = sym (length-drop n rest) in
    let left : take (length rest - n) (drop n rest) ≡ drop n rest = take_all (length rest - n) (drop n rest) size in
    let after : Adds (m + 1) c.args.now u w (added.0 ++ take n rest) =
    adds_after m 1 c.args.now u c.loop-rest.self w added.0 (take n rest) added.1 sent.adds in
    let same : (added.0 ++ take n rest) ++ take (length rest - n) (drop n rest) ≡ c.args.written.now =
    append_assoc added.0 (take n rest) (take (length rest - n) (drop n rest))
    ∙ ap (λ z. added.0 ++ (take n rest ++ z)) left
    ∙ ap (λ z. added.0 ++ z) (take-append-drop n rest) ∙ added.2 in
    let Next : List ℕ → Type 0 = λ z. IsNext c.args.now w z in
    let kept = c.advance.ensures.kept in record {
      added = (added.0 ++ take n rest, after, same);
      next = subst Next (sym left) sent.next;
      few = omega (arith, ap length left, length-drop n rest, sent.some, sent.within, c.loop-rest.invariant.few);
      capacity = kept.0 ∙ c.loop-rest.invariant.capacity;
      failed = kept.1 ∙ c.loop-rest.invariant.failed;
      shelved = kept.2 ∙ c.loop-rest.invariant.shelved;
    }
