-- What a read gives after the next part was reached, from what was held before it was given.
use Rattle.std.proofs.Common.{◌≡◌, ◌⊎◌, inl, inr, ℕ, ◌+◌, ◌<◌, List, ◌++◌, length, sym, ap, subst, ◌∙◌, Option}
use Rattle.pb_port.specs.declared.device.Got.{Got}
use Rattle.pb_port.specs.declared.device.Got.TheVariants.{Moved, Wait, Failed}
use Rattle.pb_replay.specs.declared.paced.Stage.{Stage}
use Rattle.pb_replay.specs.declared.paced.Stage.TheVariants.{Header, Records, Free}
use Rattle.pb_replay.specs.declared.paced.Origin.{Origin}
use Rattle.pb_replay.specs.Records.{captured_in}
use Rattle.pb_replay.specs.Pacing.{MayPass, GivesInTime, GivesHeld, LeavesFewer, LeavesRecord, PassesInTime, HasRecord}
use Rattle.pb_replay.specs.Pacing.{NotesFirst, NotesGiven, given}

-- the octets that are given may be given
pub gives_in_time : (got : Got) (stage : Stage) (speed : ℕ) (first : Option Origin) (buf old new : List ℕ)
    (now : Option ℕ) → (stage ≡ Free) ⊎ (0 < length old) → GivesHeld got buf old new
    → PassesInTime stage speed first old now → GivesInTime got stage speed first (given got buf ++ new) now
gives_in_time (Moved n) (Records format) speed first buf old new now (inl e) gives passes = absurd (cc e)
gives_in_time (Moved n) (Records format) speed first buf old new now (inr h) gives passes =
    λ some. subst (λ octets. MayPass speed first format octets now) (sym (gives h)) passes
gives_in_time (Moved n) Header speed first buf old new now some gives passes = tt
gives_in_time (Moved n) Free speed first buf old new now some gives passes = tt
gives_in_time Wait stage speed first buf old new now some gives passes = tt
gives_in_time Failed stage speed first buf old new now some gives passes = tt

-- the rest of the record is left
pub leaves_record : (got : Got) (stage after : Stage) (left rest : ℕ) (buf old new : List ℕ)
    → (stage ≡ Free) ⊎ (0 < length old) → GivesHeld got buf old new → HasRecord stage old after left
    → ((after ≡ Free → ⊥) → LeavesFewer got left rest)
    → LeavesRecord got stage (given got buf ++ new) after rest
leaves_record (Moved n) (Records format) (Records after) left rest buf old new (inl e) gives has fewer =
    absurd (cc e)
leaves_record (Moved n) (Records format) (Records after) left rest buf old new (inr h) gives has fewer =
    λ some. (has.0, fewer (λ e. cc e) ∙ has.1 ∙ ap (λ octets. 16 + captured_in format octets) (sym (gives h)))
leaves_record (Moved n) (Records format) Header left rest buf old new some gives has fewer = tt
leaves_record (Moved n) (Records format) Free left rest buf old new some gives has fewer = tt
leaves_record (Moved n) Header after left rest buf old new some gives has fewer = tt
leaves_record (Moved n) Free after left rest buf old new some gives has fewer = tt
leaves_record Wait stage after left rest buf old new some gives has fewer = tt
leaves_record Failed stage after left rest buf old new some gives has fewer = tt

-- the first record that is given is noted
pub notes_given : (got : Got) (stage after : Stage) (was is : Option Origin) (buf old new : List ℕ)
    (now : Option ℕ) → (stage ≡ Free) ⊎ (0 < length old) → GivesHeld got buf old new
    → NotesFirst stage after was is old now → NotesGiven got stage after was is (given got buf ++ new) now
notes_given (Moved n) (Records format) after was is buf old new now (inl e) gives notes = absurd (cc e)
notes_given (Moved n) (Records format) after was is buf old new now (inr h) gives notes =
    λ some. subst (λ octets. NotesFirst (Records format) after was is octets now) (sym (gives h)) notes
notes_given (Moved n) Header after was is buf old new now some gives notes = λ given. tt
notes_given (Moved n) Free after was is buf old new now some gives notes = λ given. tt
notes_given Wait stage after was is buf old new now some gives notes = tt
notes_given Failed stage after was is buf old new now some gives notes = tt
