use Rattle.std.proofs.Common.{◌<◌, string_bytes, subst}
use Rattle.pb_cmd_diff.specs.Reports.{ends_line}
use Rattle.pb_names.proofs.TextLemmas.{numbers_more}
use Rattle.pb_cmd_diff.proofs.report.put_links.Goals as goal

pub loop-place-preserved : goal.loop-place-preserved
loop-place-preserved c =
    numbers_more (ends_line c.args.old.now c.args.new.now c.args.olds.now c.args.news.now) c.args.old.now.links
    c.loop-place.place (string_bytes c.loop-place.out) (string_bytes c.put_link.new.out) _
    (subst (λ k. c.loop-place.place < k) c.len-place-end.ensures c.loop-place-test.true) c.in_ok-put_link.ensures
    c.loop-place.invariant
