-- A run over lines, line by line (used by `answer_lines` and `run_flat`).
use Rattle.std.proofs.Common.{◌≢◌, ◌≡◌, ℕ, suc, ◌+◌, ◌-◌, ◌^◌, ◌≤◌, List, [], ◌∷◌, ◌++◌, length, take}
use Rattle.std.proofs.Common.{map, Option, Some, None, refl, sym, ap, subst, ◌∙◌, arith, append_assoc, append-nil}
use Rattle.std.proofs.Common.{add-one, length-append}
use Rattle.std.specs.Io.KnownBytes.{Appends, Keeps}
use Rattle.std.proofs.KnownBytes.{Appends-trans, Appends-kept, Appends-nil}
use Rattle.pb_lines.specs.Lines.{lines_of, cut_lines, GivesLine, HasNoLine}
use Rattle.pb_cmd_flat.specs.Answers.{Answer, blank, frame, bad, Answers}
use Rattle.pb_cmd_flat.specs.Receipts.{Receipt, receipts}
use Rattle.pb_cmd_flat.specs.Switches.{IsFlatPast}
use Rattle.pb_cmd_flat.specs.Words.{IsFrameLine}
use Rattle.pb_messages.proofs.LineLemmas.{whole_line, uncut, parts_of_map}
use Rattle.pb_lan.specs.declared.step.Step.{Step}
use Rattle.pb_cmd_flat.specs.Progress.{Prints, PrintsBeginning, Progress, least_frames}
use Rattle.pb_messages.specs.declared.fault.CommandFault.{CommandFault}
use Rattle.pb_messages.specs.declared.fault.CommandFault.TheVariants.{Read, Write, Steps, Memory}

-- the output of the first lines, and that of one more
Answers-snoc : (limit ports n : ℕ) (front : List (List ℕ)) (line : List ℕ) (old mid new : List Receipt)
    (text more : List ℕ)
    → Answers limit ports n front old mid text → Answer limit ports (n + length front) line mid new more
    → Answers limit ports n (front ++ line ∷ []) old new (text ++ more)
Answers-snoc limit ports n [] line old mid new text more so_far here =
    let at_n : n + 0 ≡ n = omega arith in
    let first : Answer limit ports n line old new more = rw (at_n, so_far.0) at here in
    (new, more, [], first, (refl, refl), ap (λ z. z ++ more) so_far.1 ∙ sym (append-nil more))
Answers-snoc limit ports n (l ∷ front) line old mid new text more (between, head, tail, first, others, e) here =
    let at_n : n + suc (length front) ≡ suc n + length front = omega arith in (
      between,
      head,
      tail ++ more,
      first,
      Answers-snoc limit ports (suc n) front line between mid new tail more others (rw at_n at here),
      ap (λ z. z ++ more) e ∙ append_assoc head tail more,
    )

-- a line that was cut to one octet above the limit has the output of the whole line
Answer-uncut : (limit ports n : ℕ) (line : List ℕ) (old new : List Receipt) (text : List ℕ)
    → Answer limit ports n (take (limit + 1) line) old new text → Answer limit ports n line old new text
Answer-uncut limit ports n [] old new text a =
    let nothing : take {A = ℕ} (limit + 1) [] ≡ [] = rw add-one refl in
    subst (λ z. Answer limit ports n z old new text) nothing a
Answer-uncut limit ports n (x ∷ line) old new text (blank e s t) = let wrong : x ∷ take limit line ≡ [] =
    rw add-one at e in cc
Answer-uncut limit ports n (x ∷ line) old new text (frame r l s t) =
    frame r (subst (λ z. IsFrameLine limit ports z r.port r.wire) (whole_line limit (x ∷ line) l.short) l) s t
Answer-uncut limit ports n (x ∷ line) old new text (bad e none s t) =
    bad (λ q. cc) (λ port octets l. none port octets
    (subst (λ z. IsFrameLine limit ports z port octets) (sym (uncut limit (x ∷ line) l.short)) l)) s t

Answers-uncut : (limit ports n : ℕ) (lines : List (List ℕ)) (old new : List Receipt) (text : List ℕ)
    → Answers limit ports n (map (λ line. take (limit + 1) line) lines) old new text
    → Answers limit ports n lines old new text
Answers-uncut limit ports n [] old new text a = a
Answers-uncut limit ports n (line ∷ lines) old new text (mid, front, back, first, others, e) = (
  mid,
  front,
  back,
  Answer-uncut limit ports n line old mid front first,
  Answers-uncut limit ports (suc n) lines
      mid new back others,
  e,
)

least_taken : (fault : CommandFault) (got : List Receipt) → (fault ≡ Steps → 2 ^ 60 - 1 ≤ length got)
    → least_frames fault ≤ length got
least_taken Read got many = omega arith
least_taken Write got many = omega arith
least_taken Steps got many = many refl
least_taken Memory got many = omega arith

-- before line 1 nothing is written
pub starts : (limit ports : ℕ) (input : Option (List ℕ)) (held : List ℕ) (before : Option (List ℕ)) → held ≡ []
    → Progress limit ports 1 input held input before before []
starts limit ports None held before e = tt
starts limit ports (Some octets) held before e = record {
  front = [];
  lines = ap (λ z. cut_lines limit (z ++ octets)) (sym e);
  number = refl;
  text = [];
  written = Appends-nil before;
  answers = (refl, refl);
}

-- progress goes on with the output of a line
pub goes_on : (limit ports n : ℕ) (input mid left before now after : Option (List ℕ)) (held held' line text : List ℕ)
    (old new : List Receipt)
    → Progress limit ports n input held mid before now old → GivesLine limit mid held left held' line
    → Answer limit ports n line old new text
    → Appends now after text → Progress limit ports (n + 1) input held' left before after new
goes_on limit ports n None mid left before now after held held' line text old new p gives a w = tt
goes_on limit ports n (Some octets) None left before now after held held' line text old new p gives a w = absurd p
goes_on limit ports n (Some octets) (Some rest) None before now after held held' line text old new p gives a w =
    absurd gives
goes_on limit ports n (Some octets) (Some rest) (Some rest') before now after held held' line text old new p gives a w =
    let at_n : 1 + length p.front ≡ n = omega (arith, p.number) in
    record {
      front = p.front ++ line ∷ [];
      lines = p.lines ∙ ap (λ z. p.front ++ z) gives
          ∙ sym (append_assoc p.front (line ∷ []) (cut_lines limit (held' ++ rest')));
      number = omega (arith, p.number, length-append p.front (line ∷ []));
      text = p.text ++ text;
      written = Appends-trans before now after p.text text p.written w;
      answers = Answers-snoc limit ports 1 p.front line [] old new p.text text p.answers (rw at_n a);
    }

-- the output is complete if no line remains
pub finishes : (limit ports n : ℕ) (input left before now after : Option (List ℕ)) (held : List ℕ) (steps : List Step)
    → IsFlatPast ports steps → Progress limit ports n input held left before now (receipts steps)
    → HasNoLine limit left held → Keeps now after
    → Prints limit ports input before after
finishes limit ports n None left before now after held steps past p none k = tt
finishes limit ports n (Some octets) None before now after held steps past p none k = absurd p
finishes limit ports n (Some octets) (Some rest) before now after held steps past p none k =
    let all : cut_lines limit octets ≡ p.front = p.lines ∙ ap (λ z. p.front ++ z) none ∙ append-nil p.front in (
      p.text,
      Appends-kept before now after p.text p.written k,
      (steps, past, Answers-uncut limit ports 1 (lines_of octets) [] (receipts steps) p.text (rw all p.answers)),
    )

-- before any line, the output of the first lines is written whole
pub has_begun : (fault : CommandFault) (limit ports n : ℕ) (input left before now : Option (List ℕ)) (held : List ℕ)
    (steps : List Step)
    → IsFlatPast ports steps → Progress limit ports n input held left before now (receipts steps)
    → (fault ≡ Steps → 2 ^ 60 - 1 ≤ length (receipts steps))
    → PrintsBeginning fault limit ports input before now
has_begun fault limit ports n None left before now held steps past p many = tt
has_begun fault limit ports n (Some octets) None before now held steps past p many = absurd p
has_begun fault limit ports n (Some octets) (Some rest) before now held steps past p many =
    let parts = parts_of_map (limit + 1) (lines_of octets) p.front (cut_lines limit (held ++ rest)) p.lines in (
      p.text,
      p.written,
      (
        parts.0,
        parts.1,
        parts.2,
        steps,
        past,
        Answers-uncut limit ports 1 parts.0 [] (receipts steps) p.text (rw parts.3 at p.answers),
        least_taken fault (receipts steps) many,
      ),
    )

-- a bridge that has taken no step has a lawful past
pub fresh : (ports : ℕ) → IsFlatPast ports []
fresh ports = record { lawful = tt; clear = tt }

-- before anything is read, nothing is written
pub begins : (fault : CommandFault) (limit ports : ℕ) (input before : Option (List ℕ)) → fault ≢ Steps
    → PrintsBeginning fault limit ports input before before
begins fault limit ports None before ne = tt
begins fault limit ports (Some octets) before ne = (
  [],
  Appends-nil before,
  (
    [],
    lines_of octets,
    refl,
    [],
    fresh ports,
    (refl, refl),
    least_taken fault []
        (λ e. absurd (ne e)),
  ),
)
