use Rattle.std.proofs.Common.{◌∙◌}
use Rattle.pb_run_ports.specs.Opened.{asked, octets_at, octets_in, shown}
use Rattle.pb_cmd_run.proofs.TapLemmas.{front_within, front_same}
use Rattle.pb_cmd_run.proofs.outside.open_parts.Goals as goal

pub split_off-requires : goal.split_off-requires
split_off-requires g c =
    let grown = c.in_ok-put_taps.ensures in
    front_within c.args.specs.items grown.0 c.put_taps.new.specs.items _ _ grown.1
    (c.len-count.ensures ∙ c.args.specs.ok.0)
    (c.in_ok-ports.ensures.count ∙ c.put_taps.new.specs.ok.0)

pub returns-in-Ok-clause-count : goal.returns-in-Ok-clause-count
returns-in-Ok-clause-count g c = c.in-Ok.ensures.len ∙ c.len-count.ensures

pub returns-in-Ok-clause-shown : goal.returns-in-Ok-clause-shown
returns-in-Ok-clause-shown g c =
    let grown = c.in_ok-put_taps.ensures in
    front_same shown asked c.in_ok-ports.ports.items _ c.args.specs.items grown.0
    c.put_taps.new.specs.items _ c.in_ok-ports.ensures.shown grown.1 c.in-Ok.ensures.items
    (c.len-count.ensures ∙ c.args.specs.ok.0)

pub returns-in-Ok-clause-octets : goal.returns-in-Ok-clause-octets
returns-in-Ok-clause-octets g c =
    let grown = c.in_ok-put_taps.ensures in
    let opener = g.O.Openings in
    front_same (octets_at opener.unread) (octets_in (opener.holds c.args.opener.now)) c.in_ok-ports.ports.items _
    c.args.specs.items grown.0 c.put_taps.new.specs.items _ c.in_ok-ports.ensures.octets grown.1 c.in-Ok.ensures.items
    (c.len-count.ensures ∙ c.args.specs.ok.0)
