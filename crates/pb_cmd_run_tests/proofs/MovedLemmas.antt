-- What a run between files says of them (used by `carried` of `over.rt`).
use Rattle.std.proofs.Common.{◌≡◌, ◌≢◌, ◌⊎◌, inl, inr, ℕ, List, ◌++◌, true, Option, Some, None, IfOk, refl, sym, subst}
use Rattle.std.specs.declared.result.Result.{Result}
use Rattle.pb_port.specs.Inputs.{decoded}
use Rattle.pb_port.specs.declared.stream_position.StreamPosition.TheVariants.{Header}
use Rattle.pb_run.proofs.Values.{on_value}
use Rattle.pb_run_losses.specs.declared.strictness.Strictness.{Strictness}
use Rattle.pb_workers.specs.Ports.{Frames}
use Rattle.pb_workers.specs.declared.access.Last.{Last}
use Rattle.pb_cmd_run.specs.Carried.{FileOctets, ReadsFile, WritesFile}
use Rattle.pb_cmd_run.specs.Networks.{PrintsNetworkOver, PrintsRunOf}
use Rattle.pb_cmd_run.specs.declared.network_fault.NetworkFault.{NetworkFault}
use Rattle.pb_cmd_run_tests.specs.Moved.{BeginsWith, HasMoved}

read_begins : (known : Option (List ℕ)) (octets : List ℕ) (frames : Frames) (last : Last) → known ≡ Some octets
    → ReadsFile known frames last → BeginsWith frames (decoded Header octets)
read_begins None octets frames last e reads = cc
read_begins (Some o) octets frames last e (unread, both, up) =
    let same : o ≡ octets = cc in
    record { more = unread; both = subst (λ o. decoded Header o ≡ frames ++ unread) same both }

wrote_begins : (known : Option (List ℕ)) (waiting frames : Frames) → WritesFile known waiting frames
    → (octets : List ℕ) × (known ≡ Some octets) × BeginsWith (decoded Header octets) frames
wrote_begins None waiting frames writes = absurd writes
wrote_begins (Some octets) waiting frames (both, captured) =
    (octets, refl, record { more = waiting; both = sym both })

of_run : (was now : FileOctets) (strictness : Strictness) (file : List ℕ) (status : ℕ) (before after : Option (List ℕ))
    → PrintsRunOf true was now strictness file status before after → HasMoved was now file
of_run was now strictness file status before after run =
    let ran = run.prints in
    record {
      plan = run.plan;
      specs = run.specs;
      told = run.told;
      rec = ran.rec;
      lawful = ran.lawful;
      read = λ number octets is. read_begins _ octets _ _ is (ran.carried.reads number);
      wrote = λ number path is own. wrote_begins (now path) _ _ (ran.carried.writes refl number path is own);
    }

moved : (was now : FileOctets) (strictness : Strictness) (file : List ℕ) (status : ℕ) (before after : Option (List ℕ))
    → status ≢ 1 → PrintsNetworkOver true was now strictness file status before after → HasMoved was now file
moved was now strictness file status before after other (inl refused) = absurd (other refused.0)
moved was now strictness file status before after other (inr run) =
    of_run was now strictness file status before after run

-- a run whose ports report their octets
pub all_moved : (was now : FileOctets) (strictness : Strictness) (file : List ℕ) (before after : Option (List ℕ))
    (r : Result ℕ NetworkFault) → IfOk r (λ status. PrintsNetworkOver true was now strictness file status before after)
    → IfOk r (λ status. status ≢ 1 → HasMoved was now file)
all_moved was now strictness file before after r is =
    on_value {P = λ status. PrintsNetworkOver true was now strictness file status before after}
    {Q = λ status. status ≢ 1 → HasMoved was now file} r is
    (λ status prints other. moved was now strictness file status before after other prints)
