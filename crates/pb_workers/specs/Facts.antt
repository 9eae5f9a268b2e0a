-- What the workers of customer ports keep is a fact: it holds in one way.
use mathlib.Core.HLevel.{is_prop→PathP, ⊥_prop}
use mathlib.Core.Logic.{∥∥₁_prop}
use mathlib.Core.Path.{sym, ◌∙◌}
use Rattle.std.proofs.lemmas.List.{append_cancel_right}
use Rattle.std.specs.Prelude.{◌≡◌, ◌≤◌, Bool, false, Option, Some, None, List, ◌++◌, [], All, length}
use Rattle.std.specs.Coded.{Coded, Coded-set, coded_list, coded_option, coded_ℕ, Unit-prop, ×_prop, Π_prop, →_prop, le_prop}
use Rattle.pb_lan.specs.Counts.{entered, left}
use Rattle.pb_lan.specs.declared.step.Step.{Step}
use Rattle.pb_port.specs.Outputs.{IsWrittenTo}
use Rattle.pb_workers.specs.Ports.{Frames, IsUsedUp, IsEnded, IsReadUp, HasRead, HasSent, PortFrames, KeepsPort, in_front}
use Rattle.pb_workers.specs.Ports.{given_up}
use Rattle.pb_workers.specs.declared.access.Last.{Last}
use Rattle.pb_workers.specs.declared.access.Last.TheVariants.{More, End, Fault}

-- frames are stored as lists of octets
abbrev coded_frames : Coded Frames
coded_frames = coded_list (coded_list coded_ℕ)

pub IsUsedUp-prop : (script : Option Frames) → IsProp (IsUsedUp script)
IsUsedUp-prop (Some list) = Coded-set coded_frames list []
IsUsedUp-prop None = Unit-prop

pub IsEnded-prop : (last : Last) (script : Option Frames) → IsProp (IsEnded last script)
IsEnded-prop More script = Unit-prop
IsEnded-prop End script = IsUsedUp-prop script
IsEnded-prop (Fault fault) script = Unit-prop

pub IsReadUp-prop : (last : Last) (unread : Frames) → IsProp (IsReadUp last unread)
IsReadUp-prop More unread = Unit-prop
IsReadUp-prop End unread = Coded-set coded_frames unread []
IsReadUp-prop (Fault fault) unread = →_prop (Coded-set coded_frames unread [])

pub HasRead-prop : (last : Last) (was : Option Frames) (frames : Frames) (unread : Option Frames)
    → IsProp (HasRead last was frames unread)
HasRead-prop last None frames unread = Unit-prop
HasRead-prop last (Some was) frames None = ⊥_prop
HasRead-prop last (Some was) frames (Some unread) =
    ×_prop (Coded-set coded_frames was (frames ++ unread)) (IsReadUp-prop last unread)

-- the frames that were sent are those before the ones that wait
pub HasSent-prop : (all waiting : Frames) → IsProp (HasSent all waiting)
HasSent-prop all waiting one other =
    let same = append_cancel_right one.sent other.sent waiting (one.both ∙ sym other.both) in
    λ i. record {
      sent = same i;
      both = is_prop→PathP (λ k. same k ++ waiting ≡ all) (λ k. Coded-set coded_frames (same k ++ waiting) all) one.both
          other.both i;
    }

pub AreLong-prop : (is_over : Bool) (frames : Frames) → IsProp (is_over ≡ false → All (λ f. 65536 ≤ length f) frames)
AreLong-prop is_over frames = →_prop (Π_prop (λ k. Π_prop (λ d. →_prop le_prop)))

pub KeepsPort-prop : (was port : PortFrames) (steps : List Step) (last : Last) → IsProp (KeepsPort was port steps last)
KeepsPort-prop was port steps last one other =
    let is_given = Coded-set coded_frames port.given (was.given ++ entered steps) in
    let is_taken = Coded-set coded_frames port.tally (was.tally ++ left steps) in
    let is_read = Coded-set (coded_option coded_frames) was.script (in_front (entered steps) port.script) in
    let unsent = HasSent-prop (was.waiting ++ left steps) port.waiting one.unsent other.unsent in
    λ i. record {
      given = is_given one.given other.given i;
      tally = is_taken one.tally other.tally i;
      script = is_read one.script other.script i;
      used_up = IsEnded-prop last port.script one.used_up other.used_up i;
      unsent = unsent i;
      read = HasRead-prop last was.unread (entered steps) port.unread one.read other.read i;
      wrote = is_prop→PathP (λ k. ∥ IsWrittenTo was.output port.output (unsent k).sent ∥₁) (λ k. ∥∥₁_prop) one.wrote
          other.wrote i;
      gone = AreLong-prop port.is_over (given_up steps) one.gone other.gone i;
    }
