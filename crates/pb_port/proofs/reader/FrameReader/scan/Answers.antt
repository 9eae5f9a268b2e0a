use Rattle.pb_port.specs.Held.{held}
use Rattle.pb_port.proofs.ReadingLemmas.{header_passed, record_passed}
use Rattle.pb_port.proofs.reader.FrameReader.scan.Goals as goal

pub returns-in-Header-clause-scanned : goal.returns-in-Header-clause-scanned
returns-in-Header-clause-scanned c =
    let s = c.args.self.now in
    let shows = rw c.held.ensures at c.in-Header.ensures in
    rw (c.take.ensures) (header_passed s.position c.in-Header.order (held s.intake) s.skipped shows.0 shows.1 shows.2
    s.counted)

pub returns-in-Skipped-clause-scanned : goal.returns-in-Skipped-clause-scanned
returns-in-Skipped-clause-scanned c =
    let s = c.args.self.now in
    let shows = rw c.held.ensures at c.in-Skipped.ensures in
    rw (c.take-in-Skipped.ensures, c.saturating_add-self.ensures)
    (record_passed s.position c.in-Skipped.whole (held s.intake) s.skipped shows.0 shows.1 shows.2)
