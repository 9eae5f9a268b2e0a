-- The meaning of a strict run's exit status.
use Rattle.std.proofs.Common.{◌≡◌, ◌⊎◌, ◌&&◌, ℕ, zero, suc, Bool, true, false, refl, sym, subst, ◌∙◌, List, [], ◌∷◌}
use Rattle.std.proofs.Common.{Option}
use Rattle.std.proofs.Common.{inl, inr}
use Rattle.std.proofs.Common.{IfOk}
use Rattle.std.specs.declared.result.Result.{Result}
use Rattle.pb_frame.proofs.Lists.{and-left}
use Rattle.pb_report.specs.Refusals.{PrintsRefusal}
use Rattle.pb_run.specs.declared.ended.Ended.{Ended}
use Rattle.pb_run.specs.declared.ended.Ended.TheVariants.{Drained, NoMemory, Limit, Stopped}
use Rattle.pb_cmd_run.specs.Carried.{unknown}
use Rattle.pb_cmd_run.specs.Networks.{PrintsNetwork, PrintsRunOf, HasCarriedAll}
use Rattle.pb_cmd_run.specs.Reports.{IsRunReport}
use Rattle.pb_run.proofs.Values.{on_value}
use Rattle.pb_run_losses.specs.Strict.{exit_status, is_whole, lost_text}
use Rattle.pb_run_losses.specs.declared.strictness.Strictness.{Strictness}
use Rattle.pb_run_losses.specs.declared.strictness.Strictness.TheVariants.{Strict}
use Rattle.pb_cmd_run.specs.declared.network_fault.NetworkFault.{NetworkFault}

whole_at : (whole : Bool) (told : ℕ) → 0 ≡ exit_status Strict whole told → whole ≡ true
whole_at true told e = refl
whole_at false zero e = cc
whole_at false (suc told) e = cc

drained_at : (ended : Ended) (lost : List ℕ) → is_whole ended lost ≡ true → ended ≡ Drained
drained_at Drained lost e = refl
drained_at NoMemory lost e = cc
drained_at Limit lost e = cc
drained_at Stopped lost e = cc

nothing_at : (ended : Ended) (lost : List ℕ) → is_whole ended lost ≡ true → lost ≡ []
nothing_at ended [] e = refl
nothing_at Drained (x ∷ lost) e = cc
nothing_at NoMemory (x ∷ lost) e = cc
nothing_at Limit (x ∷ lost) e = cc
nothing_at Stopped (x ∷ lost) e = cc

told_at : (whole : Bool) (told : ℕ) → 0 ≡ exit_status Strict whole told → told ≡ 0
told_at true told e = sym e
told_at false zero e = refl
told_at false (suc told) e = cc

of_run : (file : List ℕ) (status : ℕ) (before after : Option (List ℕ)) → status ≡ 0
    → PrintsRunOf false unknown unknown Strict file status before after → HasCarriedAll file before after
of_run file status before after e run =
    let ran = run.prints in
    let report = ran.report in
    let lost = lost_text run.plan ran.rec ran.settled ran.unsent in
    let status = sym e ∙ report.status_is in
    let whole = and-left (is_whole ran.ended lost) report.files_whole
    (whole_at (is_whole ran.ended lost && report.files_whole) report.told status) in
    let told = told_at (is_whole ran.ended lost && report.files_whole) report.told status in
    let drained = drained_at ran.ended lost whole in
    record {
      plan = run.plan;
      specs = run.specs;
      told = run.told;
      rec = ran.rec;
      lawful = ran.lawful;
      headline = ran.headline;
      lasts = ran.lasts;
      last_count = ran.last_count;
      ends = (ran.tells_ended.0 drained).0;
      scripted = ran.scripted;
      drained = (ran.tells_ended.0 drained).1;
      settled = ran.settled;
      unsent = ran.unsent;
      unsent_count = report.unsent_count;
      unsent_is = report.unsent_is;
      lost = nothing_at ran.ended lost whole;
      text = report.text;
      is_report = subst (λ s. IsRunReport run.plan ran.rec Drained ran.settled ran.lasts s report.text) told
          (subst (λ d. IsRunReport run.plan ran.rec d ran.settled ran.lasts report.told report.text) drained
          report.is_report);
      written = report.written;
    }

by_case : {A B C : Type 0} → A ⊎ B → (A → C) → (B → C) → C
by_case (inl a) f g = f a
by_case (inr b) f g = g b

neither : {C : Type 0} (status : ℕ) → status ≡ 0 → status ≡ 1 → C
neither status nil one = cc

-- a strict run with the exit status 0 has carried all (used by `strict_carried`)
pub zero_carried : (file : List ℕ) (status : ℕ) (before after : Option (List ℕ)) → status ≡ 0
    → PrintsNetwork Strict file status before after → HasCarriedAll file before after
zero_carried file status before after e prints =
    by_case {A = (status ≡ 1) × PrintsRefusal file before after}
    {B = PrintsRunOf false unknown unknown Strict file status before after}
    {C = HasCarriedAll file before after}
    prints (λ refusal. neither status e refusal.0) (λ run. of_run file status before after e run)

-- the same for the result of a run over the octets of a text (used by `carry`)
pub strict_carried : (strictness : Strictness) (file text : List ℕ) (before after : Option (List ℕ))
    (r : Result ℕ NetworkFault)
    → file ≡ text → IfOk r (λ status. PrintsNetwork strictness file status before after) → strictness ≡ Strict
    → IfOk r (λ status. status ≡ 0 → HasCarriedAll text before after)
strict_carried strictness file text before after r same p strict =
    on_value {P = λ status. PrintsNetwork strictness file status before after}
    {Q = λ status. status ≡ 0 → HasCarriedAll text before after} r p
    (λ status prints e. subst (λ f. HasCarriedAll f before after) same (zero_carried file status before after e
    (subst (λ s. PrintsNetwork s file status before after) strict prints)))
