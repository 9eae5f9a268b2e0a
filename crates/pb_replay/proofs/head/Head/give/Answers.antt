use Rattle.std.proofs.Common.{◌≡◌, ◌+◌, ◌-◌, ◌≤◌, ◌++◌, length, take, drop, slice_range, sym, ap, ◌∙◌, arith}
use Rattle.std.proofs.lemmas.List.{take_at, length-take}
use Rattle.pb_replay.proofs.HeadLemmas.{parted, length_held}
use Rattle.pb_replay.proofs.head.Head.give.Goals as goal

pub returns-clause-octets : goal.returns-clause-octets
returns-clause-octets c =
    let h = c.args.self.now in
    let n = c.min-count.result in
    let copied = c.copy_from_slice.new.self in
    let room : h.start + n ≤ h.end = grind (arith, length_held) in
    let same : (h.start + n) - h.start ≡ n = omega arith in
    let whole : copied ≡ take n (drop h.start h.octets) =
    c.copy_from_slice.ensures.after ∙ ap (λ k. take k (drop h.start h.octets)) same in
    let len : length copied ≡ n = grind (arith, length-take) in
    parted h.octets h.start h.end n room
    ∙ ap (λ z. z ++ slice_range h.octets (h.start + n) h.end)
    (sym (take_at copied (drop n c.args.buf.now) n len ∙ whole))
