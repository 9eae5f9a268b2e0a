use Rattle.std.proofs.Common.{◌<◌, string_bytes, subst}
use Rattle.pb_cmd_diff.specs.Reports.{service_lines}
use Rattle.pb_names.proofs.TextLemmas.{numbers_more}
use Rattle.pb_cmd_diff.proofs.report.put_services.Goals as goal

pub loop-place-preserved : goal.loop-place-preserved
loop-place-preserved c =
    numbers_more (service_lines c.args.old.now c.args.new.now c.args.base.now c.args.effects.now)
    c.args.base.now.services
    c.loop-place.place (string_bytes c.loop-place.out) (string_bytes c.put_service.new.out) _
    (subst (λ k. c.loop-place.place < k) c.len-place-end.ensures c.loop-place-test.true) c.in_ok-put_service.ensures
    c.loop-place.invariant
