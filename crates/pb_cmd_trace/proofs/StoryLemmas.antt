-- Frames that are injected one after the other.
use Rattle.std.proofs.Common.{◌≡◌, ◌<◌, ◌+◌, ℕ, true, false, List, [], ◌∷◌, ◌++◌, take, length, get_or}
use Rattle.std.proofs.Common.{string_bytes, Option, Ok, refl, sym, ap, subst, ◌∙◌, append_assoc, append-nil}
use Rattle.std.proofs.lemmas.List.{take_more}
use Rattle.pb_frame.proofs.Things.{here_is}
use Rattle.pb_lan.specs.Events.{has_place}
use Rattle.pb_lan.specs.declared.event.Event.TheVariants.{Poll}
use Rattle.pb_lan.specs.declared.plan.Plan.{Plan}
use Rattle.pb_lan.specs.declared.step.Place.{Place}
use Rattle.pb_lan.specs.declared.step.Place.TheVariants.{Customer}
use Rattle.pb_net.specs.Answers.{NetView, IsAnswer}
use Rattle.pb_net.specs.declared.did.Did.TheVariants.{Done}
use Rattle.pb_cmd_step.specs.Steps.{HasGrown}
use Rattle.pb_names.specs.Numbers.{port_named}
use Rattle.pb_cmd_trace.specs.Stories.{AnswersEntry, sent, unsent, AnswersFrame, followed, waits, absent, AreStories}
use Rattle.pb_cmd_trace.specs.Stories.{IsRoundStory, IsSent, IsConclusion, IsEntry, IsFollowed}
use Rattle.pb_report.specs.PlanFiles.{IsToldBy}
use Rattle.pb_converge.specs.Falls.{HaveFallen}
use Rattle.pb_cmd_trace.specs.Traces.{HasTraced, HasTold}
use Rattle.pb_cmd_trace.specs.Tracings.{EndsTracing, IsTracing}
use Rattle.pb_cmd_trace.specs.Walks.{HasWalked}
use Rattle.pb_cmd_trace.specs.declared.asked.Asked.{Asked}
use Rattle.pb_cmd_trace.specs.declared.end.TraceEnd.{TraceEnd}
use Rattle.pb_cmd_trace.specs.declared.end.TraceEnd.TheVariants.{Told, Refused, NoPort, NoFrame, NoDown}
use Rattle.pb_cmd_trace.specs.declared.entry.Entry.{Entry}
use Rattle.pb_cmd_trace.specs.declared.frame.Fate.{Fate}
use Rattle.pb_cmd_trace.specs.declared.frame.Fate.TheVariants.{Ended as fate_ended, GoesRound as fate_round}
use Rattle.pb_cmd_trace.specs.declared.frame.Fate.TheVariants.{NoPort as fate_no_port, NoFrame as fate_no_frame}
use Rattle.pb_cmd_trace.specs.declared.lines.TraceLine.{TraceLine}
use Rattle.pb_cmd_trace.specs.declared.onward.Onward.TheVariants.{Feed}
use Rattle.pb_cmd_trace.specs.declared.round.FrameId.{FrameId}
use Rattle.pb_cmd_trace.specs.declared.tracing.Tracing.{Tracing}
use Rattle.pb_cmd_trace.specs.declared.tracing.Tracing.TheVariants.{Told as Traced, NoPort as LacksPortAt}
use Rattle.pb_cmd_trace.specs.declared.tracing.Tracing.TheVariants.{NoFrame as LacksFrameAt, NoDown as IsNoDown}
use Rattle.pb_cmd_trace.specs.declared.walk.Course.{Course}
use Rattle.pb_cmd_trace.specs.declared.walk.Course.TheVariants.{Ended, GoesRound}

-- one more trace after several, for the loop of travel
stories-snoc : (plan : Plan) (entries : List Entry) (entry : Entry) (old mid new : NetView) (text more : List TraceLine)
    → AreStories plan entries old mid text → AnswersEntry plan entry fate_ended mid new more
    → AreStories plan (entries ++ entry ∷ []) old new (text ++ more)
stories-snoc plan [] entry old mid new text more (same, none) here = (
  new,
  more,
  [],
  subst (λ v. AnswersEntry plan entry fate_ended v new more) same here,
  (refl, refl),
  ap
      (λ z. z ++ more) none ∙ sym (append-nil more),
)
stories-snoc plan (e ∷ entries) entry old mid new text more (between, front, back, first, others, is) here = (
  between,
  front,
  back ++ more,
  first,
  stories-snoc plan entries entry between mid new back more others here,
  ap (λ z. z ++ more) is ∙ append_assoc front back more,
)

pub stories-more : (plan : Plan) (entries : List Entry) (k : ℕ) (entry : Entry) (old mid new : NetView)
    (first text more out out' : List TraceLine) → k < length entries → entry ≡ get_or entries k entry
    → out ≡ first ++ text → AreStories plan (take k entries) old mid text → out' ≡ out ++ more
    → AnswersEntry plan entry fate_ended mid new more
    → (all : List TraceLine) × (out' ≡ first ++ all) × AreStories plan (take (k + 1) entries) old new all
stories-more plan entries k entry old mid new first text more out out' within is so_far stories out_is here = (
  text ++ more,
  out_is ∙ ap (λ z. z ++ more) so_far ∙ append_assoc first text more,
  subst (λ es. AreStories plan es old new (text ++ more))
      (ap (λ x. take k entries ++ x ∷ []) is ∙ sym (take_more entries k entry within))
      (stories-snoc plan (take k entries) entry old mid new text more stories here),
)

-- three lists of reports after one another
join_lines : (out head body rest one two out' : List TraceLine) → one ≡ out ++ head → two ≡ one ++ body
    → out' ≡ two ++ rest → out' ≡ out ++ (head ++ body ++ rest)
join_lines out head body rest one two out' e f g =
    g ∙ ap (λ z. z ++ rest) (f ∙ ap (λ z. z ++ body) e ∙ append_assoc out head body)
    ∙ append_assoc out (head ++ body) rest

-- entry, walk and conclusion make up the trace of a frame, for the contract of follow
pub follow_joined : (plan : Plan) (port number : ℕ) (old walked new : NetView) (course : Course) (fate : Fate)
    (head body rest out one two out' : List TraceLine)
    → IsEntry port number old head → HasWalked plan (Feed port ∷ []) course old walked body
    → IsConclusion course fate number walked new rest
    → one ≡ out ++ head → two ≡ one ++ body → out' ≡ two ++ rest
    → (text : List TraceLine) × (out' ≡ out ++ text) × IsFollowed plan port fate old new text
follow_joined plan port number old walked new course fate head body rest out one two out' entry walk conclusion e f g
    = (
      head ++ body ++ rest,
      join_lines out head body rest one two out' e f g,
      record {
        number = number;
        head = head;
        entry = entry;
        course = course;
        walked = walked;
        body = body;
        walk = walk;
        rest = rest;
        conclusion = conclusion;
        lines_are = refl;
      },
    )

-- the frame was injected before it was followed, for the contract of trace_frame
pub frame_followed : (plan : Plan) (port : ℕ) (frame : List ℕ) (fate : Fate) (place : Place)
    (old polled new : NetView) (text : List TraceLine)
    → IsAnswer old (Poll port frame) (Ok (Done place)) polled → IsFollowed plan port fate polled new text
    → AnswersFrame plan port frame fate old new text
frame_followed plan port frame fate place old polled new text h f =
    followed polled (subst (λ q. IsAnswer old (Poll port frame) (Ok (Done q)) polled) h.1 h) f

-- the customer port of an injected frame exists, and has taken one more step
pub port_there : (port : ℕ) (frame : List ℕ) (place : Place) (old new : NetView)
    → IsAnswer old (Poll port frame) (Ok (Done place)) new → has_place new.plan (Customer port) ≡ true
port_there port frame place old new h = subst (λ p. has_place p (Customer port) ≡ true) (sym h.2) h.0.named

pub port_grew : (port : ℕ) (frame : List ℕ) (place : Place) (old new : NetView)
    → IsAnswer old (Poll port frame) (Ok (Done place)) new → HasGrown new.rec (Customer port)
port_grew port frame place old new h = (old.rec, h.3.0, h.3.2)

-- a walk ends with a frame that went as far as it goes or is in a loop, so no port and no frame is missing
not_lacking : (course : Course) (fate : Fate) (number : ℕ) (walked new : NetView) (rest : List TraceLine)
    → IsConclusion course fate number walked new rest
    → (fate ≡ fate_no_port → ⊥) × (fate ≡ fate_no_frame → ⊥)
not_lacking Ended fate number walked new rest c = (
  λ e. let f : fate_ended ≡ fate_no_port = sym c.0 ∙ e in cc,
  λ e. let f : fate_ended ≡ fate_no_frame = sym c.0
      ∙ e in cc,
)
not_lacking GoesRound fate number walked new rest c = (
  λ e. let f : fate_round number ≡ fate_no_port = sym c.0 ∙ e in cc,
  λ e. let f : fate_round number ≡ fate_no_frame
      = sym c.0 ∙ e in cc,
)

-- the fate NoPort shows that the plan lacks the port
no_port : (plan : Plan) (port : ℕ) (frame : List ℕ) (fate : Fate) (old new : NetView) (text : List TraceLine)
    → fate ≡ fate_no_port → AnswersFrame plan port frame fate old new text
    → has_place old.plan (Customer port) ≡ false
no_port plan port frame fate old new text e (followed polled h f) =
    absurd ((not_lacking f.course fate f.number f.walked new f.rest f.conclusion).0 e)
no_port plan port frame fate old new text e (waits is h t) = let f : fate_ended ≡ fate_no_port = sym is ∙ e in cc
no_port plan port frame fate old new text e (absent is h t) = h.0

pub entry_lacks_port : (plan : Plan) (entry : Entry) (old new : NetView) (text : List TraceLine) → old.plan ≡ plan
    → AnswersEntry plan entry fate_no_port old new text
    → has_place plan (Customer (port_named plan (string_bytes entry.port))) ≡ false
entry_lacks_port plan entry old new text e (sent frame s h) =
    subst (λ p. has_place p (Customer (port_named plan (string_bytes entry.port))) ≡ false) e
    (no_port plan (port_named plan (string_bytes entry.port)) frame fate_no_port old new text refl h)
entry_lacks_port plan entry old new text e (unsent is none same t) = cc

-- the digits of an injected frame are a frame, so the fate NoFrame does not come
is_a_frame : (plan : Plan) (port : ℕ) (frame : List ℕ) (fate : Fate) (old new : NetView) (text : List TraceLine)
    → fate ≡ fate_no_frame → AnswersFrame plan port frame fate old new text → ⊥
is_a_frame plan port frame fate old new text e (followed polled h f) =
    (not_lacking f.course fate f.number f.walked new f.rest f.conclusion).1 e
is_a_frame plan port frame fate old new text e (waits is h t) = let f : fate_ended ≡ fate_no_frame = sym is ∙ e in cc
is_a_frame plan port frame fate old new text e (absent is h t) = let f : fate_no_port ≡ fate_no_frame = sym is ∙ e in cc

pub entry_is_none : (plan : Plan) (entry : Entry) (old new : NetView) (text : List TraceLine)
    → AnswersEntry plan entry fate_no_frame old new text → (frame : List ℕ) → IsSent entry frame → ⊥
entry_is_none plan entry old new text (sent given s h) = λ frame is. is_a_frame plan
    (port_named plan (string_bytes entry.port)) given fate_no_frame old new text refl h
entry_is_none plan entry old new text (unsent is none same t) = none

-- a frame in a loop ends the traces, for the loop of travel
pub round_told : (plan : Plan) (entries : List Entry) (k : ℕ) (entry : Entry) (frame : FrameId)
    (old mid new : NetView) (first text more out out' : List TraceLine) → k < length entries
    → entry ≡ get_or entries k entry
    → out ≡ first ++ text → AreStories plan (take k entries) old mid text → out' ≡ out ++ more
    → AnswersEntry plan entry (fate_round frame.number) mid new more
    → frame.port ≡ port_named plan (string_bytes entry.port) → (all : List TraceLine) × (out' ≡ first ++ all)
    × IsRoundStory plan entries frame old new all
round_told plan entries k entry frame old mid new first text more out out' within is so_far stories out_is here port = (
  text ++ more,
  out_is ∙ ap (λ z. z ++ more) so_far ∙ append_assoc first text more,
  record {
    index = k;
    entry = entry;
    there = here_is entries k entry within is;
    between = mid;
    front = text;
    stories =
        stories;
    back = more;
    story = here;
    port = port;
    lines_are = refl;
  },
)

-- the traces after what the names disable was disabled, for trace_plan
pub fallen_trace : (plan : Plan) (asked : Asked) (end : Tracing) (fallen : NetView)
    → HaveFallen plan asked.downs.now fallen → EndsTracing plan asked fallen end → IsTracing plan asked end
fallen_trace plan asked (Traced report) fallen falls traced =
    record { fallen = fallen; falls = falls; traced = traced }
fallen_trace plan asked (LacksPortAt index) fallen falls lacks = lacks
fallen_trace plan asked (LacksFrameAt index) fallen falls lacks = lacks
fallen_trace plan asked (IsNoDown fault) fallen falls none = absurd none

-- what the command has written for the plan of a file, for the contract of run_trace
pub told_of : (file : List ℕ) (plan : Plan) (asked : Asked) (end : TraceEnd) (before after : Option (List ℕ))
    → IsToldBy file plan → HasTraced plan asked end before after → HasTold file asked end before after
told_of file plan asked Told before after told h = (plan, told, h)
told_of file plan asked Refused before after told h = absurd h
told_of file plan asked (NoPort index) before after told h = (plan, told, h)
told_of file plan asked (NoFrame index) before after told h = (plan, told, h)
told_of file plan asked (NoDown fault) before after told h = (plan, told, h)
