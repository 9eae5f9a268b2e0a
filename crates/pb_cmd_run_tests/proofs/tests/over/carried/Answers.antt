use Rattle.pb_cmd_run_tests.proofs.MovedLemmas.{all_moved}
use Rattle.pb_cmd_run_tests.proofs.tests.over.carried.Goals as goal

pub returns : goal.returns
returns g c = all_moved _ _ _ _ _ _ c.run_network_over.result c.run_network_over.ensures.ok
