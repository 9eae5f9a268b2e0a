-- The lines for copies, BPDUs and sources that bridges dropped.
use Rattle.std.specs.Prelude.{ℕ, ◌==◌, if◌then◌else◌, List, [], ◌∷◌, ◌++◌, Some, None, flat_map, codes}
use Rattle.std.specs.Fmt.{decimal}
use Rattle.std.specs.List.{range_with_len, zip}
use Rattle.std.specs.declared.option.Option.{Option}
use Rattle.pb_lan.specs.declared.plan.Plan.{Plan}
use Rattle.pb_lan.specs.declared.record.Record.{Record}
use Rattle.pb_lan.specs.declared.step.Step.{Step}
use Rattle.pb_history.specs.Losses.{refused_by, dropped_by, unlearnt_by, counts_of, counts_at}
use Rattle.pb_history.specs.declared.cause_counts.CauseCounts.{CauseCounts}

-- the name of a bridge, or of one of its ports
abbrev pub place_words : List ℕ → Option ℕ → List ℕ
place_words name None = codes "bridge " ++ name
place_words name (Some port) = codes "bridge " ++ name ++ codes " port " ++ decimal port

-- the line of a count, or nothing if the count is 0
abbrev pub count_line : List ℕ → ℕ → List ℕ → List ℕ
count_line place count words = if count == 0 then [] else place ++ codes ": " ++ decimal count ++ codes " " ++ words ++ 10 ∷ []

-- the lines of a port: those of copies, then those of BPDUs
abbrev pub port_lines : List ℕ → ℕ → CauseCounts → CauseCounts → List ℕ
port_lines name port copies bpdus =
    count_line (place_words name (Some port)) copies.full (codes "copies not queued: full")
    ++ count_line (place_words name (Some port)) copies.memory (codes "copies not queued: memory")
    ++ count_line (place_words name (Some port)) bpdus.full (codes "BPDUs not queued: full")
    ++ count_line (place_words name (Some port)) bpdus.memory (codes "BPDUs not queued: memory")

-- the lines of sources that were not learnt
abbrev pub source_lines : List ℕ → CauseCounts → List ℕ
source_lines name sources =
    count_line (place_words name None) sources.full (codes "sources not learnt: full")
    ++ count_line (place_words name None) sources.memory (codes "sources not learnt: memory")

-- the lines of a bridge: those of its ports 1 to 16, then those of sources
abbrev pub bridge_lines : List ℕ → List Step → List ℕ
bridge_lines name steps =
    flat_map (λ port. port_lines name port (counts_at port (flat_map refused_by steps)) (counts_at port (flat_map dropped_by steps))) (range_with_len 1 16)
    ++ source_lines name (counts_of (flat_map unlearnt_by steps))

-- the lines of each bridge of the plan for which the record has a list
abbrev pub losses_text : Plan → Record → List ℕ
losses_text plan rec = flat_map (λ b. bridge_lines b.0.name b.1) (zip plan.bridges rec.bridges)
