use Rattle.std.proofs.Common.{◌≡◌, ◌+◌, ◌-◌, ◌≤◌, ◌<◌, ◌++◌, length, take, drop, slice_range, sym, ap, ◌∙◌, arith}
use Rattle.std.proofs.lemmas.List.{take-take}
use Rattle.pb_replay.specs.Held.{held}
use Rattle.pb_port.proofs.HeldLemmas.{held_more, keeps_read}
use Rattle.pb_replay.proofs.HeadLemmas.{length_held}
use Rattle.pb_replay.proofs.head.Head.fill.Goals as goal

pub returns-in-Moved-clause-unread : goal.returns-in-Moved-clause-unread
returns-in-Moved-clause-unread g c =
    let m = c.align.new.self in
    let n = c.in-Moved.count in
    let now = c.read_between.new.buf in
    let room = c.args.whole - m.end in
    let fits : n ≤ room = c.in-Moved.ensures.within in
    let bound : m.end ≤ length m.octets = omega (arith, c.align.ensures.len, m.within) in
    let more = held_more m.octets now m.start m.end n m.ordered bound c.read_between.ensures.kept in
    let part = take n (take room (drop m.end now)) in
    keeps_read (held c.args.self.now) (slice_range now m.start (m.end + n)) part
    (g.D.Device.unread c.args.device.now) (g.D.Device.unread c.read_between.new.device)
    (more ∙ ap (λ z. z ++ take n (drop m.end now)) c.align.ensures.held
    ∙ ap (λ z. held c.args.self.now ++ z) (sym (take-take n room (drop m.end now) fits)))
    c.in-Moved.ensures.octets.0

pub returns-in-Moved-clause-held : goal.returns-in-Moved-clause-held
returns-in-Moved-clause-held g c =
    let m = c.align.new.self in
    let n = c.in-Moved.count in
    let now = c.read_between.new.buf in
    let fits : n ≤ c.args.whole - m.end = c.in-Moved.ensures.within in
    let bound : m.end + n ≤ length now = omega (
      arith,
      c.read_between.ensures.len,
      c.requires.0,
      c.requires.1,
      c.align.ensures.place.1,
      fits,
    ) in
    length_held now m.start (m.end + n) bound
    ∙ omega (arith, c.align.ensures.place.0, c.align.ensures.place.1)

pub returns-in-Moved-clause-end : goal.returns-in-Moved-clause-end
returns-in-Moved-clause-end g c = λ none.
    let m = c.align.new.self in
    let now = c.read_between.new.buf in
    let fits : c.args.whole ≤ length now = omega (arith, c.read_between.ensures.len, c.requires.1) in
    let room : length (take (c.args.whole - m.end) (drop m.end now)) ≡ c.args.whole - m.end =
    length_held now m.end c.args.whole fits in
    let some : 0 < length (take (c.args.whole - m.end) (drop m.end now)) =
    omega (arith, room, c.requires.0, c.align.ensures.place.1) in
    c.in-Moved.ensures.octets.1 none some
