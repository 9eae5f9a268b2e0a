use Rattle.std.proofs.Common.{◌≡◌, length, refl}
use Rattle.pb_replay.specs.Held.{held}
use Rattle.pb_replay.proofs.UnreadLemmas.{ends_held}
use Rattle.pb_replay.proofs.paced.Paced.collect.Goals as goal

pub returns-in-Moved-eq0-clause-none : goal.returns-in-Moved-eq0-clause-none
returns-in-Moved-eq0-clause-none g c =
    let none : length (held c.fill.new.self) ≡ 0 = cc in
    let at_end = c.in-Moved-eq0.ensures.end c.in-Moved-eq0.field-0-test in (
      refl,
      c.fill.ensures.unread,
      ends_held (held c.fill.new.self) (g.D.Device.unread c.fill.new.device) none at_end,
    )
