-- What got better, and what got worse.
use Rattle.std.specs.Prelude.{Bool, List, ◌&&◌, ◌||◌, not}
use Rattle.std.specs.List.{list_any}
use Rattle.pb_cmd_survive.specs.Verdicts.{is_converged}
use Rattle.pb_cmd_diff.specs.Members.{are_disconnected, are_joined}
use Rattle.pb_cmd_diff.specs.declared.effect.Effect.{Effect}
use Rattle.pb_cmd_diff.specs.declared.effect.ServiceChange.{ServiceChange}

-- the service forms a loop in NEW, and not in OLD
abbrev pub forms_loop : ServiceChange → Bool
forms_loop s = s.was_forest && not s.is_forest

-- the service forms a loop in OLD, and not in NEW
abbrev pub ends_loop : ServiceChange → Bool
ends_loop s = s.is_forest && not s.was_forest

-- two ports of the service no longer reach each other, or it now forms a loop
abbrev pub harms : ServiceChange → Bool
harms s = are_disconnected s.members || forms_loop s

-- two ports of the service now reach each other, or it no longer forms a loop
abbrev pub helps : ServiceChange → Bool
helps s = are_joined s.members || ends_loop s

-- the bridges converge in OLD, and not in NEW
abbrev pub stops_converging : Effect → Bool
stops_converging o = is_converged o.old && not (is_converged o.new)

-- the bridges converge in NEW, and not in OLD
abbrev pub starts_converging : Effect → Bool
starts_converging o = is_converged o.new && not (is_converged o.old)

-- some service got worse, or the bridges no longer converge
abbrev pub is_worse : Effect → Bool
is_worse o = list_any harms o.services || stops_converging o

-- some service got better, or the bridges now converge
abbrev pub is_better : Effect → Bool
is_better o = list_any helps o.services || starts_converging o

-- something got worse, with nothing down or under a failure
abbrev pub worsens : Effect → List Effect → Bool
worsens base effects = is_worse base || list_any is_worse effects
