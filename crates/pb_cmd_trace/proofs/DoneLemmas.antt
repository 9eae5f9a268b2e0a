-- The events that a trace performs.
use Rattle.std.proofs.Common.{◌+◌, true, length, unwrap_or, refl, arith}
use Rattle.std.proofs.Common.{◌≡◌, ℕ, zero, suc, List, [], ◌∷◌, ◌++◌, Option, Some, None, take}
use Rattle.std.proofs.Common.{string_bytes}
use Rattle.pb_converge.proofs.DriveLemmas.{done-append, done-one}
use Rattle.pb_converge.proofs.FewLemmas.{few-append, few-lower, few-none, few-onward, few-poll}
use Rattle.pb_converge.proofs.LimitLemmas.{rested-done}
use Rattle.pb_converge.specs.Drives.{is_onward, AreFew, HaveDone}
use Rattle.pb_converge.specs.declared.convergence.Convergence.{Convergence}
use Rattle.pb_lan.specs.Events.{place_of}
use Rattle.pb_lan.specs.declared.event.Event.{Event}
use Rattle.pb_lan.specs.declared.event.Event.TheVariants.{Poll}
use Rattle.pb_lan.specs.declared.plan.Plan.{Plan}
use Rattle.pb_names.specs.Numbers.{port_named}
use Rattle.pb_net.specs.Answers.{NetView}
use Rattle.pb_cmd_trace.specs.Onwards.{event_of}
use Rattle.pb_cmd_trace.specs.Stories.{AnswersEntry, sent, unsent, AnswersFrame, followed, waits, absent, AreStories}
use Rattle.pb_cmd_trace.specs.Stories.{HasBegun, HasJourneyed, IsConclusion, IsFollowed}
use Rattle.pb_cmd_trace.specs.Walks.{HasWalked, Walks}
use Rattle.pb_cmd_trace.specs.declared.entry.Entry.{Entry}
use Rattle.pb_cmd_trace.specs.declared.frame.Fate.{Fate}
use Rattle.pb_cmd_trace.specs.declared.frame.Fate.TheVariants.{Ended as fate_ended, GoesRound as fate_round}
use Rattle.pb_cmd_trace.specs.declared.journey.Journey.TheVariants.{Told}
use Rattle.pb_cmd_trace.specs.declared.round.FrameId.{FrameId}
use Rattle.pb_cmd_trace.specs.declared.lines.TraceLine.{TraceLine}
use Rattle.pb_cmd_trace.specs.declared.onward.Onward.{Onward}
use Rattle.pb_cmd_trace.specs.declared.onward.Onward.TheVariants.{Feed, Deliver, Receive, Transmit, Take, Put}
use Rattle.pb_cmd_trace.specs.declared.walk.Course.{Course}
use Rattle.pb_cmd_trace.specs.declared.walk.Course.TheVariants.{Ended, GoesRound}

-- events were performed between two states of a network, among them at most so many ticks of each bridge and so many
-- that poll a frame, and none that enables or disables a port
abbrev pub HasRun : ℕ → ℕ → NetView → NetView → Type 0
HasRun ticks polls old new = (events : List Event) × HaveDone old events new × AreFew ticks polls 0 events

run-append : {t p t' p' : ℕ} (old mid new : NetView) → HasRun t p old mid → HasRun t' p' mid new
    → HasRun (t + t') (p + p') old new
run-append old mid new f s =
    (f.0 ++ s.0, done-append old mid new f.0 s.0 f.1 s.1, few-append f.0 s.0 f.2 s.2)

-- the event of a frame on its way carries it on
goes_on : (onward : Onward) → is_onward (event_of onward) ≡ true
goes_on (Feed port) = refl
goes_on (Deliver port) = refl
goes_on (Receive bridge port) = refl
goes_on (Transmit bridge port) = refl
goes_on (Take lane) = refl
goes_on (Put lane) = refl

pub walks-run : (n : ℕ) (plan : Plan) (start : List Onward) (old : NetView) (todo : List Onward) (new : NetView)
    (text : List TraceLine) → Walks n plan start old todo new text → HasRun 0 0 old new
walks-run zero plan start old todo new text h = ([], h.1, few-none 0 0 0)
walks-run (suc n) plan start old todo new text (between, others, onward, next, before, line, walks, gone, t, x) =
    let event = event_of onward in
    let step = done-one between new event (place_of event) gone.done in
    run-append old between new (walks-run n plan start old (others ++ onward ∷ []) between before walks)
    (event ∷ [], step, few-onward (event ∷ []) (goes_on onward, tt))

pub walked-run : (plan : Plan) (start : List Onward) (course : Course) (old new : NetView) (text : List TraceLine)
    → HasWalked plan start course old new text → HasRun 0 0 old new
walked-run plan start course old new text w = walks-run w.count plan start old w.todo new text w.walks

concluded-run : (course : Course) (fate : Fate) (number : ℕ) (old new : NetView) (text : List TraceLine)
    → IsConclusion course fate number old new text → HasRun 0 0 old new
concluded-run Ended fate number old new text c =
    let gone = c.1.1.gone in
    (gone.events, gone.done, few-onward gone.events gone.kinds)
concluded-run GoesRound fate number old new text c = ([], c.1, few-none 0 0 0)

followed-run : (plan : Plan) (port : ℕ) (fate : Fate) (old new : NetView) (text : List TraceLine)
    → IsFollowed plan port fate old new text → HasRun 0 0 old new
followed-run plan port fate old new text f =
    run-append old f.walked new (walked-run plan (Feed port ∷ []) f.course old f.walked f.body f.walk)
    (concluded-run f.course fate f.number f.walked new f.rest f.conclusion)

frame-run : (plan : Plan) (port : ℕ) (frame : List ℕ) (fate : Fate) (old new : NetView) (text : List TraceLine)
    → AnswersFrame plan port frame fate old new text → HasRun 0 1 old new
frame-run plan port frame fate old new text (followed polled h f) =
    let rest = followed-run plan port fate polled new text f in (
      Poll port frame ∷ rest.0,
      (polled, h, rest.1),
      few-append (Poll port frame ∷ []) rest.0 (few-poll port frame) rest.2,
    )
frame-run plan port frame fate old new text (waits is h t) = ([], h.2, few-none 0 1 0)
frame-run plan port frame fate old new text (absent is h t) = ([], h.1, few-none 0 1 0)

entry-run : (plan : Plan) (entry : Entry) (fate : Fate) (old new : NetView) (text : List TraceLine)
    → AnswersEntry plan entry fate old new text → HasRun 0 1 old new
entry-run plan entry fate old new text (sent frame s h) =
    frame-run plan (port_named plan (string_bytes entry.port)) frame fate old new text h
entry-run plan entry fate old new text (unsent is none same t) = ([], same, few-none 0 1 0)

pub stories-run : (plan : Plan) (entries : List Entry) (old new : NetView) (text : List TraceLine)
    → AreStories plan entries old new text → HasRun 0 (length entries) old new
stories-run plan [] old new text (same, none) = ([], same, few-none 0 0 0)
stories-run plan (entry ∷ entries) old new text (between, front, back, first, others, is) =
    let r = run-append old between new (entry-run plan entry fate_ended old between front first)
    (stories-run plan entries between new back others) in
    (r.0, r.1, few-lower r.0 (omega arith) (omega arith) (omega arith) r.2)

-- the events of all frames
pub journey-done : (plan : Plan) (entries : List Entry) (round : Option FrameId) (old new : NetView)
    (text : List TraceLine)
    → HasJourneyed plan entries (Told round) old new text → (events : List Event) × HaveDone old events new
journey-done plan entries None old new text h = let r = stories-run plan entries old new text h in (r.0, r.1)
journey-done plan entries (Some frame) old new text h =
    let r = run-append old h.between new (stories-run plan (take h.index entries) old h.between h.front h.stories)
    (entry-run plan h.entry (fate_round frame.number) h.between new h.back h.story) in
    (r.0, r.1)

pub begun-run : (most : Option ℕ) (old new : NetView) (convergence : Option Convergence) → HasBegun most old new convergence
    → HasRun (unwrap_or most 0) 0 old new
begun-run (Some ticks) old new convergence h = rested-done ticks 1000000000 h.0 old new h.1
begun-run None old new convergence h = ([], h.0, few-none 0 0 0)
