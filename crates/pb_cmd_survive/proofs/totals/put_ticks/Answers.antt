use Rattle.std.proofs.Common.{[], ◌∷◌, string_bytes}
use Rattle.std.specs.Prelude.{codes}
use Rattle.pb_names.proofs.TextLemmas.{join_three}
use Rattle.pb_cmd_survive.specs.Reports.{counted}
use Rattle.pb_cmd_survive.proofs.totals.put_ticks.Goals as goal

pub returns : goal.returns
returns c =
    join_three (string_bytes c.args.out.now) (codes "converges within ") (counted c.args.ticks (codes "tick")) (10 ∷ [])
    (string_bytes c.push_str.new.self) (string_bytes c.put_counted.new.out) (string_bytes c.push_str-2.new.self)
    c.in_ok-push_str.ensures.bytes c.in_ok-put_counted.ensures c.in_ok-push_str-2.ensures.bytes
