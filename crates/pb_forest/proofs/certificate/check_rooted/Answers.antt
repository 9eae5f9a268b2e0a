use Rattle.std.proofs.Common.{sym, subst}
use Rattle.pb_forest.proofs.CertificateLemmas.{shows-parts, stand-of, parts-of}
use Rattle.pb_forest.proofs.certificate.check_rooted.Goals as goal
use Rattle.pb_lan.specs.Forests.{Shows}

pub returns-then-has_all_entries : goal.returns-then-has_all_entries
returns-then-has_all_entries c =
    let plan = c.args.plan.now in
    let shape = c.args.shape.now in
    let rooted = c.args.rooted.now in
    let vid = c.vid_numbered-vid.result in
    let lengths = c.has_all_entries.ensures.0 c.if-has_all_entries.true in (
      (λ t.
          let e = c.entries_show.ensures.0 t in
          subst (λ v. Shows plan shape v rooted) c.vid_numbered-vid.ensures
          (shows-parts plan shape vid rooted lengths.0 lengths.1 e.0 e.1.0 e.1.1)),
      (λ s.
          let h = subst (λ v. Shows plan shape v rooted) (sym c.vid_numbered-vid.ensures) s in
          c.entries_show.ensures.1 (stand-of plan shape vid rooted h, parts-of plan shape vid rooted h)),
    )

pub returns-else-has_all_entries : goal.returns-else-has_all_entries
returns-else-has_all_entries c = ((λ t. absurd cc), (λ s. c.has_all_entries.ensures.1 (s.parents, s.depths)))
