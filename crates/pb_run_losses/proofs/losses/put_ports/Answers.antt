use Rattle.std.proofs.Common.{◌∙◌, ◌++◌, ap, flat_map, string_bytes}
use Rattle.pb_run_losses.specs.Losses.{port_lines}
use Rattle.pb_frame.proofs.TextLemmas.{numbers_more}
use Rattle.pb_history.specs.Losses.{refused_by, dropped_by, counts_at}
use Rattle.pb_run_losses.proofs.losses.put_ports.Goals as goal

pub loop-port-preserved : goal.loop-port-preserved
loop-port-preserved c =
    let name = c.args.name.now in
    let steps = c.args.tally.now in
    let port = c.loop-port.port in
    let old = string_bytes c.loop-port.out in
    let put = c.in_ok-put_port.ensures ∙ ap (λ x. old ++ port_lines name port x c.bpdus_not_queued.result)
    c.copies_not_queued-copies.ensures
    ∙ ap (λ x. old ++ port_lines name port (counts_at port (flat_map refused_by steps)) x) c.bpdus_not_queued.ensures in
    numbers_more (λ p. port_lines name p (counts_at p (flat_map refused_by steps))
    (counts_at p (flat_map dropped_by steps))) port port 17 old _ _ c.loop-port-test.true put c.loop-port.invariant
