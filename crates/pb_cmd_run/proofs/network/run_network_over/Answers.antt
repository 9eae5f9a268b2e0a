use Rattle.std.proofs.Common.{◌∙◌, inr}
use Rattle.pb_run.proofs.Values.{on_value}
use Rattle.pb_cmd_run.proofs.NetworkLemmas.{ports_per_plan}
use Rattle.pb_cmd_run.proofs.network.run_network_over.Goals as goal

pub run_opened-ran-requires-clause-count : goal.run_opened-ran-requires-clause-count
run_opened-ran-requires-clause-count g c = λ lifetimes alive.
    let network = c.in-Ok.field-0 in
    network.ports.ok.0 ∙ ports_per_plan c.args.file.now network.plan network.ports.items c.in-Ok.ensures.ok

pub returns-in_ok-plug-in-Ok-clause-ok : goal.returns-in_ok-plug-in-Ok-clause-ok
returns-in_ok-plug-in-Ok-clause-ok g c =
    let network = c.in-Ok.field-0 in
    on_value c.run_opened-ran.result c.run_opened-ran.ensures.ok
    (λ status ran. inr (record {
      plan = network.plan;
      specs = network.ports.items;
      told = c.in-Ok.ensures.ok;
      lossless = network.is_lossless;
      lossless_told = c.in-Ok.ensures.lossless;
      prints = ran;
    }))
