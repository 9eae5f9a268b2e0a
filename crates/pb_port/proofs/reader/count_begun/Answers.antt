use Rattle.std.proofs.Common.{◌≡◌, ◌+◌, ◌-◌, ◌∙◌, List, ℕ, length, take, drop, sym, ap, subst, arith, length-drop}
use Rattle.pb_port.proofs.PuttingLemmas.{take_all}
use Rattle.pb_port.proofs.BeginningLemmas.{Counts, counts_frame, frame_moves, begins_cut, begins_all, some_left}
use Rattle.pb_port.proofs.BeginningLemmas.{none_left}
use Rattle.pb_port.proofs.reader.count_begun.Goals as goal

pub loop-rest-preserved : goal.loop-rest-preserved
loop-rest-preserved c =
    let field = c.args.field in
    let n = c.loop-rest.count in
    let rest = c.loop-rest.rest.now in
    let k = c.in-Frame.whole in
    let left : take (length rest - k) (drop k rest) ≡ drop k rest = take_all (length rest - k) (drop k rest)
    (sym (length-drop k rest)) in
    let P : List ℕ → Type 0 = λ z. Counts field (n + 1) c.args.octets.now z in record {
      counts = subst P (sym left) (counts_frame field n c.in-Frame.field-0 k c.args.octets.now rest
          c.loop-rest.invariant.counts c.in-Frame.ensures);
      few = omega (arith, ap length left, frame_moves field c.in-Frame.field-0 k rest c.in-Frame.ensures);
    }

pub returns-in_default : goal.returns-in_default
returns-in_default c =
    let rest = c.loop-rest.rest.now in
    begins_cut c.args.field c.look_at.result c.loop-rest.count c.args.octets.now rest c.loop-rest.invariant.counts
    c.look_at.ensures c.in_default.not-Frame (some_left rest (sym c.loop-rest-test.true ∙ c.is_empty.ensures))

pub returns : goal.returns
returns c = begins_all c.args.field c.loop-rest.count c.args.octets.now c.loop-rest.rest.now
    c.loop-rest.invariant.counts (none_left c.loop-rest.rest.now (sym c.loop-rest-test.false ∙ c.is_empty.ensures))
