-- Whether the keys of the network agree with each other.
use Rattle.std.specs.Prelude.{◌≡◌, ◌⊎◌, ℕ, List, codes, nat_lt, ◌==◌, Bool, true, false, ◌&&◌}
use Rattle.pb_frame.specs.Admission.{same}
use Rattle.pb_lan.specs.declared.limits.Limits.{Limits}
use Rattle.pb_lan.specs.declared.plan.Spanning.{Spanning}
use Rattle.pb_lan.specs.declared.plan.Spanning.TheVariants.{Fixed, Rstp}
use Rattle.pb_service.specs.declared.fault.PlanFault.{PlanFault}
use Rattle.pb_service.specs.declared.fault.PlanFault.TheVariants.{Range, Memory}
use Rattle.pb_service.specs.declared.section.KeyTable.TheVariants.{Network}
use Rattle.pb_service.specs.Sections.{path_at}

-- bridges would tick both by turns and by time
abbrev pub has_two_clocks : Limits → Bool
has_two_clocks limits = nat_lt 0 limits.tick_every && nat_lt 0 limits.tick_ms

-- frames are held until a clock has ticked, and no clock ticks
abbrev pub holds_forever : Limits → Bool
holds_forever limits = nat_lt 0 limits.hold && (limits.tick_every == 0 && limits.tick_ms == 0)

-- records are to have the time of day, and no clock ticks by time
abbrev pub lacks_time : Limits → List ℕ → Bool
lacks_time limits stamp = same stamp (codes "time") && limits.tick_ms == 0

-- frames are to enter at the distances of their times, and no clock ticks by time
abbrev pub lacks_clock : Limits → Bool → Bool
lacks_clock limits replays = replays && limits.tick_ms == 0

-- ports would be prompt although the plan gives their states
abbrev pub is_vainly_prompt : Spanning → Bool → Bool
is_vainly_prompt Fixed prompt = prompt
is_vainly_prompt Rstp prompt = false

-- ports are to be prompt although no protocol decides their states, and the fault has the key
abbrev pub RefusesPrompt : Spanning → Bool → PlanFault → Type 0
RefusesPrompt spanning prompt (Range path) =
    (is_vainly_prompt spanning prompt ≡ true) × (path ≡ path_at Network (codes "prompt"))
RefusesPrompt spanning prompt Memory = Unit {0}
RefusesPrompt spanning prompt other = ⊥

-- the limits contradict each other, and the fault has the key that does
abbrev pub RefusesClocks : Limits → PlanFault → Type 0
RefusesClocks limits (Range path) =
    ((has_two_clocks limits ≡ true) × (path ≡ path_at Network (codes "tick_ms")))
    ⊎ ((holds_forever limits ≡ true) × (path ≡ path_at Network (codes "hold")))
RefusesClocks limits Memory = Unit {0}
RefusesClocks limits other = ⊥
