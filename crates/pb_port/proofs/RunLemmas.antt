-- The results of successive polls are the reading of the input, for `polls_spell_the_reading`.
use Rattle.std.proofs.Common.{◌≡◌, ℕ, ◌+◌, List, [], ◌∷◌, refl, sym, ap, ◌∙◌}
use Rattle.std.proofs.Common.{subst, Option}
use Rattle.pb_port.specs.declared.fault.PortFault.{PortFault}
use Rattle.pb_port.specs.declared.fault.PortFault.TheVariants.{Memory}
use Rattle.pb_port.specs.declared.stream_position.StreamPosition.{StreamPosition}
use Rattle.pb_port.specs.declared.answers.Polled.{Polled}
use Rattle.pb_port.specs.declared.answers.Polled.TheVariants.{Frame, Nothing, End, Fault}
use Rattle.pb_port.specs.Ports.{Frames}
use Rattle.pb_port.specs.Reading.{Reached, Given, held_sum}
use Rattle.pb_port.specs.Whole.{Ends, IsStream}
use Rattle.pb_port.specs.Runs.{IsRun, frames_in}
use Rattle.pb_port.specs.Readable.{stream_behind_parts}
use Rattle.pb_port.proofs.ReadingLemmas.{held_sum-twice}

reads_on : (p q : StreamPosition) (xs ys : List ℕ) (fs : Frames) (s u t : ℕ) (fault : Option PortFault)
    → Reached p xs q ys s u
    → (n : ℕ) × IsStream q ys fs n fault × (t ≡ held_sum u n) → (n : ℕ) × IsStream p xs fs n fault × (t ≡ held_sum s n)
reads_on p q xs ys fs s u t fault (m, front, pass, e, counted) (n, stream, counted') =
    let P : List ℕ → Type 0 = λ z. IsStream p z fs (m + n) fault in (
      m + n,
      subst P (sym e) (stream_behind_parts p q m n front ys fs fault pass stream),
      counted' ∙ ap (λ z. held_sum z n) counted ∙ held_sum-twice s m n,
    )

reads_frame : (p q : StreamPosition) (xs ys f : List ℕ) (fs : Frames) (s u t : ℕ) (fault : Option PortFault)
    → Given p xs q ys s u f
    → (n : ℕ) × IsStream q ys fs n fault × (t ≡ held_sum u n) → (n : ℕ) × IsStream p xs (f ∷ fs) n fault
    × (t ≡ held_sum s n)
reads_frame p q xs ys f fs s u t fault (m, front, part, pass, is, e, counted) (n, stream, counted') = (
  m + n,
  (q, front, part, ys, m, n, pass, is, e, stream, refl),
  counted' ∙ ap (λ z. held_sum z n) counted ∙ held_sum-twice s m n,
)

reads_end : (p q : StreamPosition) (xs ys : List ℕ) (s t : ℕ) (fault : Option PortFault) → Reached p xs q ys s t
    → Ends q ys fault
    → (n : ℕ) × IsStream p xs [] n fault × (t ≡ held_sum s n)
reads_end p q xs ys s t fault (m, front, pass, e, counted) ends = (m, (q, front, ys, pass, e, ends), counted)

pub run_reads : (answers : List Polled) (p : StreamPosition) (xs : List ℕ) (s t : ℕ) (fault : Option PortFault)
    → IsRun answers p xs s t fault
    → (n : ℕ) × IsStream p xs (frames_in answers) n fault × (t ≡ held_sum s n)
run_reads [] p xs s t fault run = absurd run
run_reads (Frame f ∷ answers) p xs s t fault (q, ys, u, given, run) =
    reads_frame p q xs ys f (frames_in answers) s u t fault given (run_reads answers q ys u t fault run)
run_reads (Nothing ∷ answers) p xs s t fault (q, ys, u, reached, run) =
    reads_on p q xs ys (frames_in answers) s u t fault reached (run_reads answers q ys u t fault run)
run_reads (End ∷ answers) p xs s t fault (q, ys, (reached, empty, sound), none) =
    reads_end p q xs ys s t fault reached (sound ∙ sym none, λ _. empty)
run_reads (Fault Memory ∷ answers) p xs s t fault (q, ys, u, (reached, broken), run) =
    reads_on p q xs ys (frames_in answers) s u t fault reached (run_reads answers q ys u t fault run)
run_reads (Fault k ∷ answers) p xs s t fault (q, ys, (reached, broken), octets, is) =
    reads_end p q xs ys s t fault reached (broken octets ∙ sym is, λ none. cc)
