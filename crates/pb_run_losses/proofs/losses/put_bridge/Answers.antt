use Rattle.std.proofs.Common.{◌≡◌, ◌++◌, string_bytes, subst, OnOk}
use Rattle.pb_frame.proofs.TextLemmas.{last_piece}
use Rattle.pb_run_losses.specs.Losses.{source_lines}
use Rattle.pb_run_losses.proofs.losses.put_bridge.Goals as goal

pub returns : goal.returns
returns c =
    let name = c.args.name.now in
    let mid = string_bytes c.put_ports.new.out in
    let put = subst (λ sources. OnOk c.put_sources.result
    (string_bytes c.put_sources.new.out ≡ mid ++ source_lines name sources)) c.sources_not_learnt.ensures
    c.put_sources.ensures in
    last_piece c.put_sources.result _ mid _ _ _ c.in_ok-put_ports.ensures put
