use Rattle.std.proofs.Common.{◌≡◌, ◌⊎◌, ◌<◌, length, sym, subst, ◌∙◌}
use Rattle.pb_replay.specs.declared.paced.Stage.TheVariants.{Free}
use Rattle.pb_replay.specs.Held.{held}
use Rattle.pb_replay.specs.Pacing.{PassesInTime, HasRecord, NotesFirst}
use Rattle.pb_replay.proofs.PacingLemmas.{gives_in_time, leaves_record, notes_given}
use Rattle.pb_replay.proofs.paced.PacedDevice.read.Goals as goal
use Rattle.pb_replay.proofs.paced.PacedDevice.read.Goals.{then-self-eq0+in_default, else-self-eq0}

pub returns-clause-paced : goal.returns-clause-paced
returns-clause-paced g c =
    let old = c.args.self.now in
    let m = c.if-self-eq0.self in
    let new = c.give.new.self in
    let newest = g.C.Stopwatch.newest in
    elim c.if-self-eq0.branch [
      | then-self-eq0+in_default w ↦ λ e.
          let some = subst (λ p. (old.stage ≡ Free) ⊎ (0 < length (held p.head))) (sym w.self-is)
          w.in_default.ensures.part.0 in
          let passes = subst (λ p. PassesInTime old.stage old.speed old.origin (held p.head) (newest p.clock))
          (sym w.self-is) w.in_default.ensures.passes in
          gives_in_time c.give.result old.stage old.speed old.origin c.give.new.buf (held m.head) (held new.head)
          (newest new.clock) some c.give.ensures.held
          (subst (λ k. PassesInTime old.stage old.speed old.origin (held m.head) (newest k))
          (sym c.give.ensures.kept.1) passes)
      | else-self-eq0 w ↦ λ e. absurd (w.if-self-eq0.false e)
    ]

pub returns-clause-record : goal.returns-clause-record
returns-clause-record g c =
    let old = c.args.self.now in
    let m = c.if-self-eq0.self in
    let new = c.give.new.self in
    let stage : new.stage ≡ m.stage = c.give.ensures.kept.0 in
    elim c.if-self-eq0.branch [
      | then-self-eq0+in_default w ↦ λ e.
          let some = subst (λ p. (old.stage ≡ Free) ⊎ (0 < length (held p.head))) (sym w.self-is)
          w.in_default.ensures.part.0 in
          let has = subst (λ p. HasRecord old.stage (held p.head) p.stage p.left) (sym w.self-is)
          w.in_default.ensures.record in
          leaves_record c.give.result old.stage new.stage m.left new.left c.give.new.buf (held m.head)
          (held new.head) some c.give.ensures.held
          (subst (λ s. HasRecord old.stage (held m.head) s m.left) (sym stage) has)
          (λ ne. c.give.ensures.left (λ free. ne (stage ∙ free)))
      | else-self-eq0 w ↦ λ e. absurd (w.if-self-eq0.false e)
    ]

pub returns-clause-first : goal.returns-clause-first
returns-clause-first g c =
    let old = c.args.self.now in
    let m = c.if-self-eq0.self in
    let new = c.give.new.self in
    let newest = g.C.Stopwatch.newest in
    elim c.if-self-eq0.branch [
      | then-self-eq0+in_default w ↦ λ e.
          let some = subst (λ p. (old.stage ≡ Free) ⊎ (0 < length (held p.head))) (sym w.self-is)
          w.in_default.ensures.part.0 in
          let at_reach = subst (λ p. NotesFirst old.stage p.stage old.origin p.origin (held p.head) (newest p.clock))
          (sym w.self-is) w.in_default.ensures.first in
          let staged = subst (λ s. NotesFirst old.stage s old.origin m.origin (held m.head) (newest m.clock))
          (sym c.give.ensures.kept.0) at_reach in
          let timed = subst (λ k. NotesFirst old.stage new.stage old.origin m.origin (held m.head) (newest k))
          (sym c.give.ensures.kept.1) staged in
          notes_given c.give.result old.stage new.stage old.origin new.origin c.give.new.buf (held m.head)
          (held new.head) (newest new.clock) some c.give.ensures.held
          (subst (λ o. NotesFirst old.stage new.stage old.origin o (held m.head) (newest new.clock))
          (sym c.give.ensures.kept.3) timed)
      | else-self-eq0 w ↦ λ e. absurd (w.if-self-eq0.false e)
    ]
