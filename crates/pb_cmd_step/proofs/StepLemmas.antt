-- A network that is driven line by line (used by the functions of `steps.rt`).
use Rattle.std.proofs.Common.{true, ◌≢◌, ◌≡◌, ℕ, suc, ◌+◌, List, [], ◌∷◌, ◌++◌, length, take, map, Option, Some, None}
use Rattle.std.proofs.Common.{Ok, Err, IfErr, refl, sym, ap, subst, ◌∙◌, arith, append_assoc, append-nil}
use Rattle.std.proofs.Common.{length-append}
use Rattle.std.specs.Io.KnownBytes.{Appends, Keeps}
use Rattle.std.specs.declared.result.Result.{Result}
use Rattle.std.proofs.KnownBytes.{Appends-trans, Appends-kept, Appends-nil}
use Rattle.pb_lines.specs.Lines.{lines_of, cut_lines, GivesLine, HasNoLine}
use Rattle.pb_lan.specs.Records.{IsLawfulRecord}
use Rattle.pb_relay.specs.Protocol.{spanning_tree}
use Rattle.pb_lan.specs.declared.event.Event.{Event}
use Rattle.pb_lan.specs.declared.plan.Plan.{Plan}
use Rattle.pb_lan.specs.declared.plan.Spanning.TheVariants.{Rstp}
use Rattle.pb_lan.specs.declared.record.Record.{Record}
use Rattle.pb_lan.specs.Events.{has_place}
use Rattle.pb_lan.specs.Plans.{IsSound}
use Rattle.pb_lan.specs.declared.step.Place.{Place}
use Rattle.pb_lan.specs.declared.step.Step.{Step}
use Rattle.pb_net.specs.Answers.{NetView, IsAnswer}
use Rattle.pb_net.specs.declared.did.Did.TheVariants.{Idle, Done}
use Rattle.pb_net.specs.declared.fault.NetFault.TheVariants.{NoSuch}
use Rattle.pb_step_script.specs.Answers.{step_line, idle_line, no_such_line}
use Rattle.pb_cmd_step.proofs.PlaceLemmas.{named_place}
use Rattle.pb_step_script.specs.Lines.{Asks}
use Rattle.pb_cmd_step.specs.Modes.{TestView, noted, TestAnswer, comment, expectation, asked, LineAnswer, LineAnswers}
use Rattle.pb_cmd_step.specs.Modes.{PrintsLines, PrintsLinesBeginning, HaveAnswered, StepsProgress}
use Rattle.pb_cmd_step.specs.Steps.{newest_at, StepAnswer, bad, absent, idle, done, StepAnswers, start_of}
use Rattle.pb_cmd_step.specs.Steps.{IsReport, IsAtLimit, no_report, part_report, PrintsSteps}
use Rattle.pb_cmd_step.specs.Steps.{PrintsStepsBeginning}
use Rattle.pb_cmd_step.specs.Tests.{Notes, no_notes, Expects, is_comment}
use Rattle.pb_cmd_step.specs.declared.testing.Mode.{Mode}
use Rattle.pb_cmd_step.specs.declared.testing.Mode.TheVariants.{Script, Test}
use Rattle.pb_messages.specs.BadLines.{bad_line}
use Rattle.pb_messages.specs.declared.fault.CommandFault.{CommandFault}
use Rattle.pb_report.specs.RecordTexts.{IsRecordText}
use Rattle.pb_messages.specs.declared.fault.CommandFault.TheVariants.{Steps, Memory}
use Rattle.pb_messages.proofs.LineLemmas.{whole_line, uncut, parts_of_map}

-- the output of the first lines, and that of one more
LineAnswers-snoc : (mode : Mode) (limit n : ℕ) (front : List (List ℕ)) (line : List ℕ) (old mid new : TestView)
    (text more : List ℕ)
    → LineAnswers mode limit n front old mid text → LineAnswer mode limit (n + length front) line mid new more
    → LineAnswers mode limit n (front ++ line ∷ []) old new (text ++ more)
LineAnswers-snoc mode limit n [] line old mid new text more so_far here =
    let at_n : n + 0 ≡ n = omega arith in
    let first : LineAnswer mode limit n line old new more = rw (at_n, so_far.0) at here in
    (new, more, [], first, (refl, refl), ap (λ z. z ++ more) so_far.1 ∙ sym (append-nil more))
LineAnswers-snoc mode limit n (l ∷ front) line old mid new text more (between, head, tail, first, others, e) here =
    let at_n : n + suc (length front) ≡ suc n + length front = omega arith in (
      between,
      head,
      tail ++ more,
      first,
      LineAnswers-snoc mode limit (suc n) front line between mid new tail more others (rw at_n at here),
      ap (λ z. z ++ more) e ∙ append_assoc head tail more,
    )

-- a line that was cut to one octet above the limit asks for the event of the whole line
Asks-uncut : (limit : ℕ) (plan : Plan) (line : List ℕ) (event : Event) → Asks limit plan (take (limit + 1) line) event
    → Asks limit plan line event
Asks-uncut limit plan line event a = subst (λ z. Asks limit plan z event) (whole_line limit line a.short) a

Asks-cut : (limit : ℕ) (plan : Plan) (line : List ℕ) (event : Event) → Asks limit plan line event
    → Asks limit plan (take (limit + 1) line) event
Asks-cut limit plan line event a = subst (λ z. Asks limit plan z event) (sym (uncut limit line a.short)) a

StepAnswer-uncut : (limit n : ℕ) (line : List ℕ) (old new : NetView) (text : List ℕ)
    → StepAnswer limit n (take (limit + 1) line) old new text → StepAnswer limit n line old new text
StepAnswer-uncut limit n line old new text (bad none s t) =
    bad (λ event a. none event (Asks-cut limit old.plan line event a)) s t
StepAnswer-uncut limit n line old new text (absent event a i t) =
    absent event (Asks-uncut limit old.plan line event a) i t
StepAnswer-uncut limit n line old new text (idle event a i t) = idle event (Asks-uncut limit old.plan line event a) i t
StepAnswer-uncut limit n line old new text (done event place step a i l w t) =
    done event place step (Asks-uncut limit old.plan line event a) i l w t

-- a line that was cut to one octet above the limit is a comment if the whole line is one
is_comment-uncut : (limit : ℕ) (line : List ℕ) → is_comment (take (limit + 1) line) ≡ is_comment line
is_comment-uncut limit [] = grind arith
is_comment-uncut limit (c ∷ line) = grind arith

-- a cut line expects what the whole line expects
Expects-uncut : (limit : ℕ) (line wanted : List ℕ) → Expects limit (take (limit + 1) line) wanted
    → Expects limit line wanted
Expects-uncut limit line wanted e = subst (λ z. Expects limit z wanted) (whole_line limit line e.short) e

Expects-cut : (limit : ℕ) (line wanted : List ℕ) → Expects limit line wanted
    → Expects limit (take (limit + 1) line) wanted
Expects-cut limit line wanted e = subst (λ z. Expects limit z wanted) (sym (uncut limit line e.short)) e

TestAnswer-uncut : (limit n : ℕ) (line : List ℕ) (old new : TestView) (text : List ℕ)
    → TestAnswer limit n (take (limit + 1) line) old new text → TestAnswer limit n line old new text
TestAnswer-uncut limit n line old new text (comment is s t) = comment (sym (is_comment-uncut limit line) ∙ is) s t
TestAnswer-uncut limit n line old new text (expectation wanted is e s k t) =
    expectation wanted (sym (is_comment-uncut limit line) ∙ is) (Expects-uncut limit line wanted e) s k t
TestAnswer-uncut limit n line old new text (asked is none a k) =
    asked (sym (is_comment-uncut limit line) ∙ is) (λ wanted e. none wanted (Expects-cut limit line wanted e))
    (StepAnswer-uncut limit n line old.net new.net text a) k

LineAnswer-uncut : (mode : Mode) (limit n : ℕ) (line : List ℕ) (old new : TestView) (text : List ℕ)
    → LineAnswer mode limit n (take (limit + 1) line) old new text → LineAnswer mode limit n line old new text
LineAnswer-uncut Script limit n line old new text (a, s) = (StepAnswer-uncut limit n line old.net new.net text a, s)
LineAnswer-uncut Test limit n line old new text a = TestAnswer-uncut limit n line old new text a

LineAnswers-uncut : (mode : Mode) (limit n : ℕ) (lines : List (List ℕ)) (old new : TestView) (text : List ℕ)
    → LineAnswers mode limit n (map (λ line. take (limit + 1) line) lines) old new text
    → LineAnswers mode limit n lines old new text
LineAnswers-uncut mode limit n [] old new text a = a
LineAnswers-uncut mode limit n (line ∷ lines) old new text (mid, front, back, first, others, e) = (
  mid,
  front,
  back,
  LineAnswer-uncut mode limit n line old mid front first,
  LineAnswers-uncut mode limit (suc n) lines mid
      new back others,
  e,
)

-- the lines of a script that is no test have the output of their events
plain_answers : (limit n : ℕ) (lines : List (List ℕ)) (old new : TestView) (text : List ℕ)
    → LineAnswers Script limit n lines old new text → StepAnswers limit n lines old.net new.net text
plain_answers limit n [] old new text a = (ap (λ (v : TestView). v.net) a.0, a.1)
plain_answers limit n (line ∷ lines) old new text (mid, front, back, first, others, e) =
    (mid.net, front, back, first.0, plain_answers limit (suc n) lines mid new back others, e)

-- a script that is no test prints the output of its events and the report
pub plain_prints : (limit : ℕ) (plan : Plan) (input : Option (List ℕ)) (old new : Notes)
    (before after : Option (List ℕ))
    → PrintsLines Script limit plan input old new before after → PrintsSteps limit plan input before after
plain_prints limit plan None old new before after p = tt
plain_prints limit plan (Some octets) old new before after (text, written, is) = (
  text,
  written,
  record {
    last = is.last;
    answers = is.answers;
    are_answers = plain_answers limit 1 (lines_of octets) (noted (start_of plan) old) (noted is.last new) is.answers
        is.are_answers;
    lawful = is.lawful;
    report = is.report;
    is_report = is.is_report;
    text_is = is.text_is;
  },
)

pub plain_begins : (fault : CommandFault) (limit : ℕ) (plan : Plan) (input : Option (List ℕ)) (old : Notes)
    (before after : Option (List ℕ))
    → PrintsLinesBeginning fault Script limit plan input old before after
    → PrintsStepsBeginning fault limit plan input before after
plain_begins fault limit plan None old before after p = tt
plain_begins fault limit plan (Some octets) old before after (text, new, written, is) = (
  text,
  written,
  record {
    front = is.front;
    back = is.back;
    lines = is.lines;
    last = is.last;
    answers = is.answers;
    are_answers = plain_answers limit 1 is.front (noted (start_of plan) old) (noted is.last new) is.answers
        is.are_answers;
    steps = is.steps;
    more = is.more;
    follows = is.follows;
    text_is = is.text_is;
  },
)

-- the limit of steps that the next cut line meets is met by the next line
IsAtLimit-uncut : (limit : ℕ) (net : NetView) (lines : List (List ℕ)) (line : List ℕ) (rest : List (List ℕ))
    → line ∷ rest ≡ map (λ l. take (limit + 1) l) lines
    → IsAtLimit limit net (line ∷ []) → IsAtLimit limit net lines
IsAtLimit-uncut limit net [] line rest e at = cc
IsAtLimit-uncut limit net (l ∷ lines) line rest e (event, asks, met) =
    let same : line ≡ take (limit + 1) l = cc in
    (event, Asks-uncut limit net.plan l event (subst (λ z. Asks limit net.plan z event) same asks), met)

-- before line 1 nothing is written
pub steps_start : (mode : Mode) (limit : ℕ) (plan : Plan) (notes : Notes) (input : Option (List ℕ)) (held : List ℕ)
    (before : Option (List ℕ)) (net : NetView) → held ≡ [] → net ≡ start_of plan
    → StepsProgress mode limit 1 plan input held input notes before before (noted net notes)
steps_start mode limit plan notes None held before net e f = tt
steps_start mode limit plan notes (Some octets) held before net e f = record {
  front = [];
  lines = ap (λ z. cut_lines limit (z ++ octets)) (sym e);
  number = refl;
  text = [];
  written = Appends-nil before;
  answers = (ap (λ n. noted n notes) f, refl);
}

-- progress goes on with the output of a line
pub steps_go_on : (mode : Mode) (limit n : ℕ) (plan : Plan) (notes : Notes)
    (input mid left before now after : Option (List ℕ))
    (held held' line text : List ℕ) (old new : TestView)
    → StepsProgress mode limit n plan input held mid notes before now old → GivesLine limit mid held left held' line
    → LineAnswer mode limit n line old new text
    → Appends now after text → StepsProgress mode limit (n + 1) plan input held' left notes before after new
steps_go_on mode limit n plan notes None mid left before now after held held' line text old new p gives a w = tt
steps_go_on mode limit n plan notes (Some octets) None left before now after held held' line text old new p gives a w =
    absurd p
steps_go_on mode limit n plan notes (Some octets) (Some rest) None before now after held held' line text old new p gives
    a w = absurd gives
steps_go_on mode limit n plan notes (Some octets) (Some rest) (Some rest') before now after held held' line text old new
    p gives a w =
    let at_n : 1 + length p.front ≡ n = omega (arith, p.number) in
    record {
      front = p.front ++ line ∷ [];
      lines = p.lines ∙ ap (λ z. p.front ++ z) gives
          ∙ sym (append_assoc p.front (line ∷ []) (cut_lines limit (held' ++ rest')));
      number = omega (arith, p.number, length-append p.front (line ∷ []));
      text = p.text ++ text;
      written = Appends-trans before now after p.text text p.written w;
      answers = LineAnswers-snoc mode limit 1 p.front line (noted (start_of plan) notes) old new p.text text p.answers
          (rw at_n a);
    }

-- the output is complete if no line remains
pub steps_end : (mode : Mode) (limit n : ℕ) (plan : Plan) (notes : Notes) (input left before now : Option (List ℕ))
    (held : List ℕ) (last : TestView)
    → StepsProgress mode limit n plan input held left notes before now last → HasNoLine limit left held
    → HaveAnswered mode limit plan input notes before now last
steps_end mode limit n plan notes None left before now held last p none = tt
steps_end mode limit n plan notes (Some octets) None before now held last p none = absurd p
steps_end mode limit n plan notes (Some octets) (Some rest) before now held last p none =
    let all : cut_lines limit octets ≡ p.front = p.lines ∙ ap (λ z. p.front ++ z) none ∙ append-nil p.front in (
      p.text,
      p.written,
      LineAnswers-uncut mode limit 1 (lines_of octets) (noted (start_of plan) notes) last p.text (rw all p.answers),
    )

-- the output of the first lines is the text after a fault
steps_left : (fault : CommandFault) (mode : Mode) (limit n : ℕ) (plan : Plan) (notes : Notes)
    (octets held rest : List ℕ) (before now : Option (List ℕ)) (last : TestView)
    → StepsProgress mode limit n plan (Some octets) held (Some rest) notes before now last
    → ((back : List (List ℕ)) → cut_lines limit (held ++ rest) ≡ map (λ line. take (limit + 1) line) back
    → fault ≡ Steps → IsAtLimit limit last.net back)
    → PrintsLinesBeginning fault mode limit plan (Some octets) notes before now
steps_left fault mode limit n plan notes octets held rest before now last p at =
    let parts = parts_of_map (limit + 1) (lines_of octets) p.front (cut_lines limit (held ++ rest)) p.lines in (
      p.text,
      last.notes,
      p.written,
      record {
        front = parts.0;
        back = parts.1;
        lines = parts.2;
        last = last.net;
        answers = p.text;
        are_answers = LineAnswers-uncut mode limit 1 parts.0 (noted (start_of plan) notes) last p.text
            (rw parts.3 at p.answers);
        steps = at parts.1 parts.4;
        more = [];
        follows = no_report refl;
        text_is = sym (append-nil p.text);
      },
    )

-- before any line, the output of the first lines is written whole
pub steps_begun : (fault : CommandFault) (mode : Mode) (limit n : ℕ) (plan : Plan) (notes : Notes)
    (input left before now : Option (List ℕ)) (held : List ℕ) (last : TestView)
    → StepsProgress mode limit n plan input held left notes before now last → fault ≢ Steps
    → PrintsLinesBeginning fault mode limit plan input notes before now
steps_begun fault mode limit n plan notes None left before now held last p ne = tt
steps_begun fault mode limit n plan notes (Some octets) None before now held last p ne = absurd p
steps_begun fault mode limit n plan notes (Some octets) (Some rest) before now held last p ne =
    steps_left fault mode limit n plan notes octets held rest before now last p (λ back same e. absurd (ne e))

-- the same if the next line was read
pub steps_stopped : (fault : CommandFault) (mode : Mode) (limit n : ℕ) (plan : Plan) (notes : Notes)
    (input mid left before now : Option (List ℕ)) (held held' line : List ℕ) (last : TestView)
    → StepsProgress mode limit n plan input held mid notes before now last → GivesLine limit mid held left held' line
    → (fault ≡ Steps → IsAtLimit limit last.net (line ∷ []))
    → PrintsLinesBeginning fault mode limit plan input notes before now
steps_stopped fault mode limit n plan notes None mid left before now held held' line last p gives at = tt
steps_stopped fault mode limit n plan notes (Some octets) None left before now held held' line last p gives at =
    absurd p
steps_stopped fault mode limit n plan notes (Some octets) (Some rest) None before now held held' line last p gives at =
    absurd gives
steps_stopped fault mode limit n plan notes (Some octets) (Some rest) (Some rest') before now held held' line last p
    gives at =
    steps_left fault mode limit n plan notes octets held rest before now last p
    (λ back same e. IsAtLimit-uncut limit last.net back line (cut_lines limit (held' ++ rest')) (sym gives ∙ same)
    (at e))

-- before anything is read, nothing is written
pub steps_unread : (fault : CommandFault) (mode : Mode) (limit : ℕ) (plan : Plan) (notes : Notes)
    (input before : Option (List ℕ)) → fault ≢ Steps
    → PrintsLinesBeginning fault mode limit plan input notes before before
steps_unread fault mode limit plan notes None before ne = tt
steps_unread fault mode limit plan notes (Some octets) before ne = (
  [],
  notes,
  Appends-nil before,
  record {
    front = [];
    back = lines_of octets;
    lines = refl;
    last = start_of plan;
    answers = [];
    are_answers = (refl, refl);
    steps = λ e. absurd (ne e);
    more = [];
    follows =
        no_report refl;
    text_is = refl;
  },
)

-- the output of all lines, and the report
pub reported : (mode : Mode) (limit : ℕ) (plan : Plan) (notes : Notes) (input before now after : Option (List ℕ))
    (last : TestView) (rec : Record) (report : List ℕ)
    → HaveAnswered mode limit plan input notes before now last → rec ≡ last.net.rec
    → IsLawfulRecord spanning_tree plan rec → Appends now after report → IsReport plan rec report
    → PrintsLines mode limit plan input notes last.notes before after
reported mode limit plan notes None before now after last rec report a e lawful w r = tt
reported mode limit plan notes (Some octets) before now after last rec report (text, written, answers) e lawful w r = (
  text ++ report,
  Appends-trans before now after text report written w,
  record {
    last = last.net;
    answers = text;
    are_answers = answers;
    lawful = subst (λ x. IsLawfulRecord spanning_tree plan x) e lawful;
    report = report;
    is_report = subst (λ x. IsReport plan x report) e r;
    text_is = refl;
  },
)

-- the output of all lines, without the report
pub unreported : (fault : CommandFault) (mode : Mode) (limit : ℕ) (plan : Plan) (notes : Notes)
    (input before now after : Option (List ℕ)) (last : TestView)
    → HaveAnswered mode limit plan input notes before now last → Keeps now after → fault ≢ Steps
    → PrintsLinesBeginning fault mode limit plan input notes before after
unreported fault mode limit plan notes None before now after last a k ne = tt
unreported fault mode limit plan notes (Some octets) before now after last (text, written, answers) k ne = (
  text,
  last.notes,
  Appends-kept before now after text written k,
  record {
    front = lines_of octets;
    back = [];
    lines = sym (append-nil (lines_of octets));
    last = last.net;
    answers = text;
    are_answers = answers;
    steps = λ e. absurd (ne e);
    more = [];
    follows = no_report refl;
    text_is =
        sym (append-nil text);
  },
)

-- the output of all lines, and the report without its last line, if an allocation for that line failed
pub part_reported : (fault : CommandFault) (mode : Mode) (limit : ℕ) (plan : Plan) (notes : Notes)
    (input before now after : Option (List ℕ)) (last : TestView) (rec : Record) (more : List ℕ)
    → HaveAnswered mode limit plan input notes before now last → rec ≡ last.net.rec
    → IsLawfulRecord spanning_tree plan rec
    → fault ≡ Memory → plan.spanning ≡ Rstp
    → Appends now after more → IsRecordText plan rec more
    → PrintsLinesBeginning fault mode limit plan input notes before after
part_reported fault mode limit plan notes None before now after last rec more a e lawful m rstp w told = tt
part_reported fault mode limit plan notes (Some octets) before now after last rec more (text, written, answers) e lawful
    m rstp w told = (
      text ++ more,
      last.notes,
      Appends-trans before now after text more written w,
      record {
        front = lines_of octets;
        back = [];
        lines = sym (append-nil (lines_of octets));
        last = last.net;
        answers = text;
        are_answers = answers;
        steps = λ s. let clash : Memory ≡ Steps = sym m ∙ s in cc;
        more = more;
        follows = part_report m rstp refl (subst (λ x. IsLawfulRecord spanning_tree plan x) e lawful)
            (subst (λ x. IsRecordText plan x more) e told);
        text_is = refl;
      },
    )

-- before anything is read, a script that is no test has written nothing
pub plain_unread : (fault : CommandFault) (limit : ℕ) (plan : Plan) (input before : Option (List ℕ)) → fault ≢ Steps
    → PrintsStepsBeginning fault limit plan input before before
plain_unread fault limit plan input before ne =
    plain_begins fault limit plan input no_notes before before
    (steps_unread fault Script limit plan no_notes input before ne)

-- two facts of an error give a third
pub on_err : {A E : Type 0} {P Q S : E → Type 0} (r : Result A E) → ((e : E) → P e → Q e → S e) → IfErr r P
    → IfErr r Q → IfErr r S
on_err (Ok x) f p q = p
on_err (Err e) f p q = f e p q

-- the place of an event that was done exists, and has taken one more step
pub place_there : (plan : Plan) → IsSound plan → (old new : NetView) (event : Event) (place : Place) → old.plan ≡ plan
    → IsAnswer old event (Ok (Done place)) new
    → has_place new.plan place ≡ true
place_there plan sound old new event place e h =
    subst (λ p. has_place p place ≡ true) (sym h.2)
    (subst (λ q. has_place old.plan q ≡ true) (sym h.1)
    (named_place old.plan (subst (λ p. IsSound p) (sym e) sound) event h.0.named))

-- the output of a line whose event was done, for a network with the plan by which the line was read
pub answered_done : (limit n : ℕ) (line : List ℕ) (plan : Plan) (old new : NetView) (event : Event) (place : Place)
    (step : Step) (out out' : List ℕ)
    → old.plan ≡ plan → Asks limit plan line event → IsAnswer old event (Ok (Done place)) new
    → IsLawfulRecord spanning_tree new.plan new.rec → newest_at new.rec place ≡ Some step
    → out' ≡ out ++ step_line plan place step → (text : List ℕ) × (out' ≡ out ++ text)
    × StepAnswer limit n line old new text
answered_done limit n line plan old new event place step out out' e asks is lawful newest t = (
  step_line plan place step,
  t,
  done event place step (subst (λ p. Asks limit p line event) (sym e) asks) is lawful newest
      (ap (λ p. step_line p place step) (sym e)),
)

pub answered_idle : (limit n : ℕ) (line : List ℕ) (plan : Plan) (old new : NetView) (event : Event) (out out' : List ℕ)
    → old.plan ≡ plan → Asks limit plan line event → IsAnswer old event (Ok Idle) new → out' ≡ out ++ idle_line
    → (text : List ℕ) × (out' ≡ out ++ text) × StepAnswer limit n line old new text
answered_idle limit n line plan old new event out out' e asks is t =
    (idle_line, t, idle event (subst (λ p. Asks limit p line event) (sym e) asks) is refl)

pub answered_absent : (limit n : ℕ) (line : List ℕ) (plan : Plan) (old new : NetView) (event : Event)
    (out out' : List ℕ)
    → old.plan ≡ plan → Asks limit plan line event → IsAnswer old event (Err NoSuch) new → out' ≡ out ++ no_such_line
    → (text : List ℕ) × (out' ≡ out ++ text) × StepAnswer limit n line old new text
answered_absent limit n line plan old new event out out' e asks is t =
    (no_such_line, t, absent event (subst (λ p. Asks limit p line event) (sym e) asks) is refl)

pub answered_bad : (limit n : ℕ) (line : List ℕ) (plan : Plan) (net : NetView) (out out' : List ℕ)
    → net.plan ≡ plan → ((event : Event) → Asks limit plan line event → ⊥) → out' ≡ out ++ bad_line n
    → (text : List ℕ) × (out' ≡ out ++ text) × StepAnswer limit n line net net text
answered_bad limit n line plan net out out' e none t =
    (bad_line n, t, bad (λ event asks. none event (subst (λ p. Asks limit p line event) e asks)) refl refl)
