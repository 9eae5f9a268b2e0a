-- Plans in files, and their ports (used by the functions of `network.rt`).
use Rattle.std.proofs.Common.{◌≡◌, ◌&&◌, ℕ, zero, suc, Bool, refl, List, [], ◌∷◌, length, map, ap, sym, subst, ◌∙◌}
use Rattle.std.proofs.Common.{◌⊎◌, inl, inr, Ok, Err, IfErr}
use Rattle.std.proofs.lemmas.Slice.Zip.{AllZip-long}
use Rattle.std.specs.declared.result.Result.{Result}
use Rattle.pb_lan.specs.Counts.{entered}
use Rattle.pb_lan.specs.Records.{steps_of}
use Rattle.pb_lan.specs.declared.plan.Plan.{Plan}
use Rattle.pb_lan.specs.declared.step.Step.{Step}
use Rattle.pb_run.specs.Runs.{ArePortsKept, frames_of, last_of, port_of}
use Rattle.pb_workers.specs.Ports.{PortFrames, in_front, IsEnded}
use Rattle.pb_workers.specs.declared.access.Last.{Last}
use Rattle.pb_service.specs.PlanFiles.{Tells, IsPlanOf}
use Rattle.pb_service.specs.declared.port_spec.PortSpec.{PortSpec}
use Rattle.pb_run.specs.declared.ended.Ended.{Ended}
use Rattle.pb_cmd_run.specs.Scripted.{AreScripted}
use Rattle.pb_cmd_run.specs.declared.network_fault.NetworkFault.{NetworkFault}
use Rattle.pb_cmd_run.specs.declared.network_fault.NetworkFault.TheVariants.{Write, Memory, Ports}
use Rattle.pb_run_ports.specs.Opened.{script_in}
use Rattle.pb_run_losses.specs.Strict.{exit_status, is_whole}
use Rattle.pb_run_losses.specs.declared.strictness.Strictness.{Strictness}
use Rattle.pb_run_losses.specs.declared.strictness.Strictness.TheVariants.{Strict, Lenient}

-- a file has as many ports as its plan
pub ports_per_plan : (file : List ℕ) (plan : Plan) (specs : List PortSpec)
    → Tells file (λ document. IsPlanOf document plan specs) → length specs ≡ length plan.customers
ports_per_plan file plan specs (document, parsed, told) = AllZip-long _ _ specs told.ports
    ∙ sym (AllZip-long _ _ plan.customers told.customers)

-- the exit status of a run by its loss report, which a strict run has, and its files
pub exits : (strictness : Strictness) (ended : Ended) (lost text : List ℕ) (files : Bool) (told : ℕ) (whole : Bool)
    (status : ℕ) → status ≡ exit_status strictness whole told → whole ≡ (is_whole ended lost && files)
    → (strictness ≡ Strict → lost ≡ text) → status ≡ exit_status strictness (is_whole ended text && files) told
exits Strict ended lost text files told whole status s w l = s
    ∙ ap (λ x. exit_status Strict x told) (w ∙ ap (λ text. is_whole ended text && files) (l refl))
exits Lenient ended lost text files told whole status s w l = s

-- a fault of one of these kinds is not of a third
pub not_ports : {A : Type 0} (r : Result A NetworkFault) → IfErr r (λ e. (e ≡ Write) ⊎ (e ≡ Memory))
    → IfErr r (λ e. e ≡ Ports → ⊥)
not_ports (Ok x) is = is
not_ports (Err e) (inl written) = λ ports. cc
not_ports (Err e) (inr lacked) = λ ports. cc

scripts_there : (ports : List PortFrames) (number : ℕ)
    → frames_of (map (λ p. p.script) ports) number ≡ (port_of ports number).script
scripts_there ports zero = refl
scripts_there [] (suc r) = refl
scripts_there (p ∷ ports) (suc zero) = refl
scripts_there (p ∷ ports) (suc (suc r)) = scripts_there ports (suc r)

-- the frames that entered at ports which had the listed frames
pub are_scripted : (specs : List PortSpec) (before after : List PortFrames) (customers : List (List Step))
    (lasts : List Last) → map (λ p. p.script) before ≡ map script_in specs → ArePortsKept before after customers lasts
    → AreScripted specs customers lasts
are_scripted specs before after customers lasts same kept = record {
  rest = map (λ p. p.script) after;
  begun = λ number. ap (λ scripts. frames_of scripts number) (sym same) ∙ scripts_there before number
      ∙ (kept.kept number).script
      ∙ ap (in_front (entered (steps_of customers number))) (sym (scripts_there after number));
  used_up = λ number. subst (IsEnded (last_of lasts number)) (sym (scripts_there after number))
      (kept.kept number).used_up;
}
