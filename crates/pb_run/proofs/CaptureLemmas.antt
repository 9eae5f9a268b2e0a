-- What a port between two captures read and wrote, for `runs_carry_captures`.
use Rattle.std.proofs.Common.{◌≡◌, ℕ, List, ◌++◌, Option, Some, None, refl, ap, subst, ◌∙◌}
use Rattle.std.specs.Coded.{Coded-set, coded_list, coded_ℕ}
use mathlib.Core.HLevel.{⊥_prop}
use mathlib.Core.Logic.{∥∥₁_elim, ∥∥₁_map}
use Rattle.pb_lan.specs.Counts.{entered, left}
use Rattle.pb_lan.specs.declared.step.Step.{Step}
use Rattle.pb_port.specs.Inputs.{decoded}
use Rattle.pb_port.specs.Outputs.{OutputState, HasWritten, IsWrittenTo}
use Rattle.pb_port.specs.declared.stream_position.StreamPosition.TheVariants.{Header}
use Rattle.pb_port.proofs.ReadBackLemmas.{sent_read}
use Rattle.pb_run.specs.Captures.{StartsAt, CarriesCaptures, empty_capture}
use Rattle.pb_workers.specs.Ports.{Frames, PortFrames, KeepsPort, HasRead, IsReadUp}
use Rattle.pb_workers.specs.declared.access.Last.{Last}

was_read : (last : Last) (all : Frames) (was : Option Frames) (fs : Frames) (now : Option Frames) → was ≡ Some all
    → HasRead last was fs now → (rest : Frames) × (all ≡ fs ++ rest) × IsReadUp last rest
was_read last all None fs now e is = cc
was_read last all (Some w) fs None e is = absurd is
was_read last all (Some w) fs (Some rest) e is =
    let same : all ≡ w = cc in
    (rest, same ∙ is.0, is.1)

was_written : (start : OutputState) (was now : Option OutputState) (sent : Frames) → was ≡ Some start
    → ∥ IsWrittenTo was now sent ∥₁ → (w : OutputState) × (now ≡ Some w) × ∥ HasWritten start w sent ∥₁
was_written start None now sent e is = cc
was_written start (Some a) None sent e is = absurd (∥∥₁_elim is ⊥_prop (λ x. x))
was_written start (Some a) (Some w) sent e is =
    let same : a ≡ start = cc in
    (w, refl, ∥∥₁_map is (subst (λ z. HasWritten z w sent) same))

pub carries : (was port : PortFrames) (octets : List ℕ) (steps : List Step) (last : Last) → StartsAt was octets
    → KeepsPort was port steps last → CarriesCaptures port octets steps last
carries was port octets steps last starts kept =
    let read = was_read last (decoded Header octets) was.unread (entered steps) port.unread starts.unread kept.read in
    let sent = kept.unsent.sent in
    let wrote = was_written empty_capture was.output port.output sent starts.output kept.wrote in
    let w = wrote.0 in
    let frames = coded_list (coded_list coded_ℕ) in
    record {
      unread = read.0;
      reads = read.1;
      read_up = read.2;
      output = w;
      output_is = wrote.1;
      sent = sent;
      sent_are = kept.unsent.both ∙ ap (λ z. z ++ left steps) starts.waiting;
      writes = ∥∥₁_elim wrote.2 (Coded-set frames (decoded Header w.written) sent)
          (λ has. sent_read empty_capture w sent refl refl has);
    }
