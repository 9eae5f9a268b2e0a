use Rattle.std.proofs.Common.{◌≡◌, ◌+◌, ◌-◌, ◌<◌, length, refl, sym, ap, ◌∙◌, arith, rules, length-append}
use Rattle.pb_port.specs.Spelling.{spelled, first_of, head_of}
use Rattle.pb_port.proofs.SendingLemmas.{adds_part, sends_first, first_is}
use Rattle.pb_port.proofs.sender.Sender.advance.Goals as goal

pub returns-then-written-missing-clause-octets : goal.returns-then-written-missing-clause-octets
returns-then-written-missing-clause-octets c =
    let w = c.args.self.now in
    let f = first_of w.unsent.items in
    let some : 0 < length w.unsent.items = search rules in
    let first : f ≡ c.in-Some.frame.now = search (rules, first_is) in
    let whole : length (spelled w.framing w.fresh w.stamp f) ≡ c.head_len.result + c.len.result =
    length-append (head_of w.framing w.fresh w.stamp (length f)) f
    ∙ ap (λ k. k + length f) (c.head_len.ensures w.stamp (length f))
    ∙ ap (λ k. c.head_len.result + k) (ap length first ∙ sym c.len.ensures.value) in
    adds_part c.args.now w _ c.args.written.now c.requires.next some (omega arith) c.requires.some refl refl refl
    c.stamp-self.ensures refl

pub returns-clause-octets : goal.returns-clause-octets
returns-clause-octets c =
    let w = c.args.self.now in
    let f = first_of w.unsent.items in
    let some : 0 < length w.unsent.items = search rules in
    let first : f ≡ c.in-Some.frame.now = search (rules, first_is) in
    let whole : length (spelled w.framing w.fresh w.stamp f) ≡ c.head_len.result + c.len.result =
    length-append (head_of w.framing w.fresh w.stamp (length f)) f
    ∙ ap (λ k. k + length f) (c.head_len.ensures w.stamp (length f))
    ∙ ap (λ k. c.head_len.result + k) (ap length first ∙ sym c.len.ensures.value) in
    let k = c.head_len.result + c.len.result - w.done in
    sends_first c.args.now k w _ c.args.written.now c.requires.next some (omega (arith, w.within))
    (omega (arith, w.within)) (omega arith) refl refl c.let_go.ensures.rest refl
