-- What ports read and wrote of captures, from the start of a run until they are closed (used by `run_ports`).
use Rattle.std.proofs.Common.{◌≡◌, ◌≢◌, ◌<◌, ◌≤◌, ◌+◌, ℕ, zero, suc, Bool, true, false, List, [], ◌∷◌, ◌++◌}
use Rattle.std.proofs.Common.{get_or, map, length, drop}
use Rattle.std.proofs.Common.{Option, Some, None, IfSome, is_some, All, refl, sym, ap, subst, ◌∙◌, append_assoc, arith}
use Rattle.std.proofs.Math.Seq.{drop-cons}
use Rattle.std.specs.Coded.{Coded-set, coded_list, coded_ℕ}
use mathlib.Core.HLevel.{⊥_prop}
use mathlib.Core.Logic.{∥∥₁_elim, ∥∥₁_map}
use Rattle.pb_lan.specs.Counts.{entered, left}
use Rattle.pb_lan.specs.Records.{steps_of}
use Rattle.pb_lan.specs.declared.step.Step.{Step}
use Rattle.pb_port.proofs.OutputLemmas.{written_on}
use Rattle.pb_port.proofs.ReadBackLemmas.{sent_read}
use Rattle.pb_port.specs.Inputs.{decoded}
use Rattle.pb_port.specs.Outputs.{OutputState, HasWritten, IsWrittenTo}
use Rattle.pb_port.specs.declared.stream_position.StreamPosition.TheVariants.{Header}
use Rattle.pb_run.specs.Captures.{empty_capture}
use Rattle.pb_run.specs.Runs.{ArePortsKept, port_of, last_of}
use Rattle.pb_run_ports.specs.Opened.{octets_in}
use Rattle.pb_service.specs.declared.port_spec.PortSpec.{PortSpec}
use Rattle.pb_workers.specs.Ports.{Frames, PortFrames, KeepsPort, HasRead}
use Rattle.pb_workers.specs.declared.access.Last.{Last}
use Rattle.pb_cmd_run.proofs.UnsentLemmas.{waiting_there}
use Rattle.pb_cmd_run.specs.AnyPorts.{of_any, of_file}
use Rattle.pb_cmd_run.specs.Carried.{FileOctets, frames_in, started, found, written_path, IsLast, ReadsFile, WritesFile}
use Rattle.pb_cmd_run.specs.Carried.{AreCarried, AreClosed, ClosesOne, Closes, HaveClosed, IsCaptureOf}
use Rattle.pb_cmd_run.specs.Unsent.{GoesOn, waiting_of}
use Rattle.pb_cmd_run.specs.declared.any_port.AnyPort.{AnyPort}
use Rattle.pb_cmd_run.specs.declared.any_port.AnyPort.TheVariants.{Memory, Capture, Socket, Staying, Datagrams}

-- no port has number 0
none_at_zero : (paths : List (Option (List ℕ))) (path : List ℕ) → found paths zero ≢ Some path
none_at_zero paths path = λ e. cc

-- ports after the first
later_paths : (p : Option (List ℕ)) (paths : List (Option (List ℕ))) (path : List ℕ)
    → ((later : ℕ) → zero < later → found (p ∷ paths) later ≢ Some path) → (later : ℕ) → found paths later ≢ Some path
later_paths p paths path none zero = none_at_zero paths path
later_paths p paths path none (suc later) = none (suc (suc later)) (omega arith)

-- one port with another path was closed, or one without a path
one_untouched : (was now : FileOctets) (output : Option OutputState) (p : Option (List ℕ)) (path : List ℕ)
    → ClosesOne was now output p → p ≢ Some path → now path ≡ was path
one_untouched was now output None path closed other = ap (λ f. f path) closed
one_untouched was now output (Some q) path closed other = closed.1 path (λ e. other (ap Some (sym e)))

-- a path that no port has
untouched : (was now : FileOctets) (outputs : List (Option OutputState)) (paths : List (Option (List ℕ)))
    → Closes was now outputs paths → (path : List ℕ)
    → ((later : ℕ) → zero < later → found paths later ≢ Some path) → now path ≡ was path
untouched was now [] paths closed path none = ap (λ f. f path) closed
untouched was now (o ∷ outputs) [] closed path none = ap (λ f. f path) closed
untouched was now (o ∷ outputs) (p ∷ paths) (mid, one, rest) path none =
    untouched mid now outputs paths rest path (λ later some. later_paths p paths path none later)
    ∙ one_untouched was mid o p path one (none 1 (omega arith))

own_later : (p : Option (List ℕ)) (paths : List (Option (List ℕ))) (r : ℕ) (path : List ℕ)
    → IsLast (p ∷ paths) (suc (suc r)) path → IsLast paths (suc r) path
own_later p paths r path own zero less = none_at_zero paths path
own_later p paths r path own (suc later) less = own (suc (suc later)) (omega (arith, less))

-- ports after the first, which has the path
past_first : (p : Option (List ℕ)) (paths : List (Option (List ℕ))) (path : List ℕ) → IsLast (p ∷ paths) (suc zero) path
    → (later : ℕ) → zero < later → found paths later ≢ Some path
past_first p paths path own zero less = none_at_zero paths path
past_first p paths path own (suc later) less = own (suc (suc later)) (omega arith)

first_closed : (was mid : FileOctets) (o : Option OutputState) (p : Option (List ℕ)) (w : OutputState) (path : List ℕ)
    → ClosesOne was mid o p → o ≡ Some w → p ≡ Some path → mid path ≡ Some w.written
first_closed was mid o p w path one out is =
    (subst (λ p. ClosesOne was mid (Some w) p) is (subst (λ o. ClosesOne was mid o p) out one)).0

-- the file of a port that no later port writes
closed_at : (number : ℕ) (was now : FileOctets) (outputs : List (Option OutputState)) (paths : List (Option (List ℕ)))
    → Closes was now outputs paths → (w : OutputState) (path : List ℕ) → found outputs number ≡ Some w
    → found paths number ≡ Some path → IsLast paths number path → now path ≡ Some w.written
closed_at zero was now outputs paths closed w path out is own = absurd (none_at_zero paths path is)
closed_at (suc r) was now [] paths closed w path out is own = absurd cc
closed_at (suc r) was now (o ∷ outputs) [] closed w path out is own = absurd cc
closed_at (suc zero) was now (o ∷ outputs) (p ∷ paths) (mid, one, rest) w path out is own =
    untouched mid now outputs paths rest path (past_first p paths path own) ∙ first_closed was mid o p w path one out is
closed_at (suc (suc r)) was now (o ∷ outputs) (p ∷ paths) (mid, one, rest) w path out is own =
    closed_at (suc r) mid now outputs paths rest w path out is (own_later p paths r path own)

output_there : (ports : List PortFrames) (number : ℕ)
    → found (map (λ p. p.output) ports) number ≡ (port_of ports number).output
output_there ports zero = refl
output_there [] (suc r) = refl
output_there (p ∷ ports) (suc zero) = refl
output_there (p ∷ ports) (suc (suc r)) = output_there ports (suc r)

-- what a port that read a file has read
reads_there : (octets : Option (List ℕ)) (last : Last) (was now : Option Frames) (fs : Frames)
    → IfSome octets (λ o. was ≡ Some (decoded Header o)) → HasRead last was fs now → ReadsFile octets fs last
reads_there None last was now fs e is = tt
reads_there (Some o) last None now fs e is = absurd cc
reads_there (Some o) last (Some w) None fs e is = absurd is
reads_there (Some o) last (Some w) (Some rest) fs e is =
    let same : decoded Header o ≡ w = cc in
    (rest, same ∙ is.0, is.1)

was_written : (was now : Option OutputState) (sent : Frames) → was ≡ Some empty_capture → ∥ IsWrittenTo was now sent ∥₁
    → (w : OutputState) × (now ≡ Some w) × ∥ HasWritten empty_capture w sent ∥₁
was_written None now sent e is = cc
was_written (Some a) None sent e is = absurd (∥∥₁_elim is ⊥_prop (λ x. x))
was_written (Some a) (Some w) sent e is =
    let same : a ≡ empty_capture = cc in
    (w, refl, ∥∥₁_map is (subst (λ z. HasWritten z w sent) same))

is_capture : (w : OutputState) (sent : Frames) → decoded Header w.written ≡ sent → HasWritten empty_capture w sent
    → IsCaptureOf w.written (decoded Header w.written)
is_capture w sent read has = record {
  stamped = has.stamped;
  frames_are = has.frames_are ∙ sym read;
  begun = w.begun;
  octets_are = has.appended ∙ has.encodes;
}

-- what a port that wrote an empty file has written until it was closed
wrote_there : (before after last : PortFrames) (steps : List Step) (end : Last) → KeepsPort before after steps end
    → GoesOn after last → before.output ≡ Some empty_capture → before.waiting ≡ []
    → (w : OutputState) × (last.output ≡ Some w) × (decoded Header w.written ++ last.waiting ≡ left steps)
    × ∥ IsCaptureOf w.written (decoded Header w.written) ∥₁
wrote_there before after last steps end kept went start none =
    let sent = kept.unsent.sent ++ went.unsent.sent in
    let whole : ∥ IsWrittenTo before.output last.output sent ∥₁ =
    ∥∥₁_map kept.wrote (λ first. written_on before.output after.output last.output kept.unsent.sent went.unsent.sent
    first went.wrote) in
    let wrote = was_written before.output last.output sent start whole in
    let w = wrote.0 in
    let frames = coded_list (coded_list coded_ℕ) in
    let read : decoded Header w.written ≡ sent =
    ∥∥₁_elim wrote.2 (Coded-set frames (decoded Header w.written) sent)
    (λ has. sent_read empty_capture w sent refl refl has) in (
      w,
      wrote.1,
      ap (λ z. z ++ last.waiting) read ∙ append_assoc kept.unsent.sent went.unsent.sent last.waiting
          ∙ ap (λ z. kept.unsent.sent ++ z) went.unsent.both ∙ kept.unsent.both ∙ ap (λ z. z ++ left steps) none,
      ∥∥₁_map wrote.2 (is_capture w sent read),
    )

writes_there : (now : Option (List ℕ)) (octets : List ℕ) (waiting frames : Frames) → now ≡ Some octets
    → (decoded Header octets ++ waiting ≡ frames) × ∥ IsCaptureOf octets (decoded Header octets) ∥₁
    → WritesFile now waiting frames
writes_there now octets waiting frames e is = subst (λ o. WritesFile o waiting frames) (sym e) is

-- ports that started over files, ran, and were closed
pub are_carried : (reports : Bool) (was now : FileOctets) (specs : List PortSpec) (before after : List PortFrames)
    (customers : List (List Step)) (lasts : List Last) (unsent : List Frames) (paths : List (Option (List ℕ)))
    → ((number : ℕ) → IfSome (found (map (octets_in was) specs) number)
    (λ o. (port_of before number).unread ≡ Some (decoded Header o)))
    → (reports ≡ true → (number : ℕ) (path : List ℕ) → found (map written_path specs) number ≡ Some path
    → (port_of before number).output ≡ Some empty_capture)
    → ((number : ℕ) → (port_of before number).waiting ≡ []) → paths ≡ map written_path specs
    → ArePortsKept before after customers lasts → HaveClosed after unsent now paths
    → AreCarried reports was now specs customers lasts unsent
are_carried reports was now specs before after customers lasts unsent paths reading writing none same kept closed =
    record {
      reads = λ number. reads_there (found (map (octets_in was) specs) number) (last_of lasts number)
          (port_of before number).unread (port_of after number).unread (entered (steps_of customers number))
          (reading number) (kept.kept number).read;
      writes = λ known number path is own.
          let steps = steps_of customers number in
          let wrote = wrote_there (port_of before number) (port_of after number) (port_of closed.last number) steps
          (last_of lasts number) (kept.kept number) (closed.went_on.each number) (writing known number path is)
          (none number) in
          let w = wrote.0 in
          let waits : waiting_of unsent number ≡ (port_of closed.last number).waiting =
          ap (λ lists. waiting_of lists number) closed.unsent_are ∙ waiting_there closed.last number in
          writes_there (now path) w.written (waiting_of unsent number) (left steps)
          (closed_at number closed.was now (map (λ p. p.output) closed.last) paths closed.closed.closes w path
          (output_there closed.last number ∙ wrote.1) (ap (λ z. found z number) same ∙ is)
          (subst (λ z. IsLast z number path) (sym same) own))
          (ap (λ z. decoded Header w.written ++ z) waits ∙ wrote.2, wrote.3);
    }

-- nothing was closed that has known octets
pub one_still : (was : FileOctets) (path : Option (List ℕ)) → ClosesOne was was None path
one_still was None = refl
one_still was (Some path) = (tt, λ other different. refl)

-- ports that report no octets
pub not_started : (writes : Bool) → None ≡ started writes false
not_started true = refl
not_started false = refl

-- what a thing has if it is there
pub has_if_some : {X : Type 0} (x : Option X) → IfSome x (λ v. x ≡ Some v)
has_if_some None = tt
has_if_some (Some v) = refl

from_seen : (octets : Option (List ℕ)) (seen unread : Option Frames) → seen ≡ frames_in octets
    → IfSome seen (λ fs. unread ≡ Some fs) → IfSome octets (λ o. unread ≡ Some (decoded Header o))
from_seen None seen unread e is = tt
from_seen (Some o) seen unread e is = subst (λ s. IfSome s (λ fs. unread ≡ Some fs)) e is

-- ports that read files of known octets, before a run
pub start_reading : {B : Type 0} (view : B → PortFrames) (seen : B → Option Frames)
    → ((b : B) → IfSome (seen b) (λ fs. (view b).unread ≡ Some fs)) → (was : FileOctets) (ports : List B)
    (specs : List PortSpec) → map seen ports ≡ map (λ spec. frames_in (octets_in was spec)) specs → (number : ℕ)
    → IfSome (found (map (octets_in was) specs) number)
    (λ o. (port_of (map view ports) number).unread ≡ Some (decoded Header o))
start_reading view seen known was ports specs same zero = tt
start_reading view seen known was ports [] same (suc r) = tt
start_reading view seen known was [] (spec ∷ specs) same (suc r) = absurd cc
start_reading view seen known was (b ∷ ports) (spec ∷ specs) same (suc zero) =
    let here : seen b ≡ frames_in (octets_in was spec) = cc in
    from_seen (octets_in was spec) (seen b) (view b).unread here (known b)
start_reading view seen known was (b ∷ ports) (spec ∷ specs) same (suc (suc r)) =
    let rest : map seen ports ≡ map (λ spec. frames_in (octets_in was spec)) specs = cc in
    start_reading view seen known was ports specs rest (suc r)

from_started : (reports : Bool) (path : Option (List ℕ)) (p : List ℕ) (seen output : Option OutputState)
    → seen ≡ started (is_some path) reports → reports ≡ true → path ≡ Some p
    → IfSome seen (λ o. output ≡ Some o) → output ≡ Some empty_capture
from_started reports path p seen output e known is all =
    let seen_is : seen ≡ started true true = e ∙ ap (λ z. started (is_some z) reports) is ∙ ap (started true) known in
    subst (λ s. IfSome s (λ o. output ≡ Some o)) seen_is all

-- ports that write files and report their octets, before a run
pub start_writing : {B : Type 0} (view : B → PortFrames) (seen : B → Option OutputState)
    → ((b : B) → IfSome (seen b) (λ o. (view b).output ≡ Some o)) → (reports : Bool) (ports : List B)
    (specs : List PortSpec) → map seen ports ≡ map (λ spec. started (is_some (written_path spec)) reports) specs
    → reports ≡ true → (number : ℕ) (path : List ℕ) → found (map written_path specs) number ≡ Some path
    → (port_of (map view ports) number).output ≡ Some empty_capture
start_writing view seen known reports ports specs same on zero path is = absurd cc
start_writing view seen known reports ports [] same on (suc r) path is = absurd cc
start_writing view seen known reports [] (spec ∷ specs) same on (suc r) path is = absurd cc
start_writing view seen known reports (b ∷ ports) (spec ∷ specs) same on (suc zero) path is =
    let here : seen b ≡ started (is_some (written_path spec)) reports = cc in
    from_started reports (written_path spec) path (seen b) (view b).output here on is (known b)
start_writing view seen known reports (b ∷ ports) (spec ∷ specs) same on (suc (suc r)) path is =
    let rest : map seen ports ≡ map (λ spec. started (is_some (written_path spec)) reports) specs = cc in
    start_writing view seen known reports ports specs rest on (suc r) path is

-- what a port over files has is what the port has, where other kinds of ports have nothing
pub file_known : {M C S T U X : Type 0} (m : M → Option X) (c : C → Option X) (s : S → Option X) (t : T → Option X)
    (u : U → Option X) (p : AnyPort M C S T U) → IfSome (of_file c p) (λ x. of_any m c s t u p ≡ Some x)
file_known m c s t u (Memory port) = tt
file_known m c s t u (Capture port) = has_if_some (c port)
file_known m c s t u (Socket port) = tt
file_known m c s t u (Staying port) = tt
file_known m c s t u (Datagrams port) = tt

-- the port at the next place was closed, and then the others
pub closed_next : {B : Type 0} (f : B → Option OutputState) (b c end : FileOctets) (left rest : List B) (x : B)
    (paths : List (Option (List ℕ))) (n m : ℕ) (path : Option (List ℕ)) → left ≡ x ∷ rest → m ≡ n + 1
    → n < length paths → path ≡ get_or paths n path → ClosesOne b c (f x) path
    → AreClosed c end (map f rest) (drop m paths) → AreClosed b end (map f left) (drop n paths)
closed_next f b c end left rest x paths n m path next count less is one closed =
    let outputs : map f left ≡ f x ∷ map f rest = ap (map f) next in
    let after : suc n ≡ m = omega (arith, count) in
    let cut : drop n paths ≡ path ∷ drop m paths =
    drop-cons paths n path less ∙ ap (λ p. p ∷ drop (suc n) paths) (sym is) ∙ ap (λ k. path ∷ drop k paths) after in
    record {
      closes = subst (λ outputs. Closes b end outputs (drop n paths)) (sym outputs)
          (subst (λ some. Closes b end (f x ∷ map f rest) some) (sym cut) (c, one, closed.closes));
    }

-- no port is left to close
pub closed_none : {B : Type 0} (f : B → Option OutputState) (b : FileOctets) (left : List B)
    (paths : List (Option (List ℕ))) → length left ≡ 0 → AreClosed b b (map f left) paths
closed_none f b [] paths none = record { closes = refl }
closed_none f b (x ∷ left) paths none = absurd (omega arith)

-- all ports were closed, if none was before
pub closed_first : (b end : FileOctets) (outputs : List (Option OutputState)) (paths : List (Option (List ℕ))) (n : ℕ)
    → n ≡ 0 → AreClosed b end outputs (drop n paths) → AreClosed b end outputs paths
closed_first b end outputs paths n none closed = subst (λ n. AreClosed b end outputs (drop n paths)) none closed

-- the same ports were closed
pub closed_whole : {B : Type 0} (f : B → Option OutputState) (b end : FileOctets) (left all : List B)
    (paths : List (Option (List ℕ))) → left ≡ all → AreClosed b end (map f left) paths → AreClosed b end (map f all) paths
closed_whole f b end left all paths same closed = subst (λ xs. AreClosed b end (map f xs) paths) same closed

-- ports with these outputs were closed
pub closed_alike : (was now : FileOctets) (outputs others : List (Option OutputState)) (paths : List (Option (List ℕ)))
    → outputs ≡ others → AreClosed was now outputs paths → AreClosed was now others paths
closed_alike was now outputs others paths same closed = subst (λ some. AreClosed was now some paths) same closed
