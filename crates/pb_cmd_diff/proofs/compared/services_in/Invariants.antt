use Rattle.std.proofs.Common.{◌≡◌, ◌++◌, drop, map}
use Rattle.pb_cmd_diff.specs.Compared.{service_in}
use Rattle.pb_cmd_diff.proofs.compared.services_in.Given as goal

abbrev pub invariant-loop-service : goal.invariant-loop-service
invariant-loop-service l =
    l.news.items ++ map (service_in l.old l.new) (drop l.service-index l.services)
    ≡ l.initial.news.items ++ map (service_in l.old l.new) l.services
