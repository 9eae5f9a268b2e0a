use Rattle.std.proofs.Common.{ap, length, sym, ◌∙◌}
use Rattle.std.proofs.lemmas.List.{length-map}
use Rattle.pb_cmd_run.specs.Carried.{written_path}
use Rattle.pb_run.proofs.Values.{on_value}
use Rattle.pb_cmd_run.proofs.network.run_opened.Goals as goal

pub run_ports-ran-requires-clause-paths : goal.run_ports-ran-requires-clause-paths
run_ports-ran-requires-clause-paths g c = λ lifetimes alive.
    let specs = c.args.specs in
    ap length c.in_ok-outside.ensures.start.paths_are ∙ length-map specs.items written_path ∙ sym specs.ok.0
    ∙ c.requires.count

pub returns-clause-ok : goal.returns-clause-ok
returns-clause-ok g c =
    on_value c.run_ports-ran.result c.run_ports-ran.ensures.ok
    (λ status ran. ran c.args.specs.items _ c.in_ok-outside.ensures.start)
