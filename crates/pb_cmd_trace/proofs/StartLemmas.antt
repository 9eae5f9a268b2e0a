-- The network at which the frames of a trace begin.
use Rattle.std.proofs.Common.{◌≡◌, ◌⊎◌, inl, inr, ℕ, zero, suc, true, List, [], ◌∷◌, Option, Some, None, is_some}
use Rattle.std.proofs.Common.{take, string_bytes, refl, subst}
use Rattle.pb_lan.specs.Events.{has_place}
use Rattle.pb_lan.specs.Numbering.{numbered}
use Rattle.pb_lan.specs.Records.{IsLawfulRecord}
use Rattle.pb_lan.specs.declared.plan.CustomerPlan.{CustomerPlan}
use Rattle.pb_lan.specs.declared.plan.Plan.{Plan}
use Rattle.pb_lan.specs.declared.step.Place.TheVariants.{Customer}
use Rattle.pb_names.specs.Numbers.{port_named}
use Rattle.pb_net.specs.Answers.{NetView}
use Rattle.pb_relay.specs.Protocol.{spanning_tree}
use Rattle.pb_cmd_trace.specs.Stories.{AnswersEntry, sent, unsent, AnswersFrame, followed, waits, absent, AreStories}
use Rattle.pb_cmd_trace.specs.Stories.{HasJourneyed}
use Rattle.pb_cmd_trace.specs.declared.entry.Entry.{Entry}
use Rattle.pb_cmd_trace.specs.declared.frame.Fate.{Fate}
use Rattle.pb_cmd_trace.specs.declared.frame.Fate.TheVariants.{Ended as fate_ended, GoesRound as fate_round}
use Rattle.pb_cmd_trace.specs.declared.frame.Fate.TheVariants.{NoPort as fate_no_port, NoFrame as fate_no_frame}
use Rattle.pb_cmd_trace.specs.declared.journey.Journey.TheVariants.{Told}
use Rattle.pb_cmd_trace.specs.declared.lines.TraceLine.{TraceLine}
use Rattle.pb_cmd_trace.specs.declared.round.FrameId.{FrameId}

-- a plan with any customer port has a first one
first_there : (customers : List CustomerPlan) (number : ℕ) → is_some (numbered customers number) ≡ true
    → is_some (numbered customers 1) ≡ true
first_there [] zero h = cc
first_there [] (suc n) h = cc
first_there (c ∷ customers) number h = refl

frame_port : (plan : Plan) (port : ℕ) (frame : List ℕ) (fate : Fate) (old new : NetView) (text : List TraceLine)
    → (fate ≡ fate_no_port → ⊥) → AnswersFrame plan port frame fate old new text
    → has_place old.plan (Customer 1) ≡ true
frame_port plan port frame fate old new text there (followed polled h f) =
    first_there old.plan.customers port h.0.named
frame_port plan port frame fate old new text there (waits is h t) = first_there old.plan.customers port h.0
frame_port plan port frame fate old new text there (absent is h t) = absurd (there is)

-- a network that a frame has entered has a customer port
entry_port : (plan : Plan) (entry : Entry) (fate : Fate) (old new : NetView) (text : List TraceLine)
    → (fate ≡ fate_no_port → ⊥) → (fate ≡ fate_no_frame → ⊥) → AnswersEntry plan entry fate old new text
    → has_place old.plan (Customer 1) ≡ true
entry_port plan entry fate old new text there given (sent frame s h) =
    frame_port plan (port_named plan (string_bytes entry.port)) frame fate old new text there h
entry_port plan entry fate old new text there given (unsent is none same t) = absurd (given is)

stories_port : (plan : Plan) (entries : List Entry) (old new : NetView) (text : List TraceLine)
    → AreStories plan entries old new text → (new ≡ old) ⊎ (has_place old.plan (Customer 1) ≡ true)
stories_port plan [] old new text (same, none) = inl same
stories_port plan (entry ∷ entries) old new text (between, front, back, first, others, is) =
    inr (entry_port plan entry fate_ended old between front (λ e. cc) (λ e. cc) first)

round_port : (old between : NetView) → (between ≡ old) ⊎ (has_place old.plan (Customer 1) ≡ true)
    → has_place between.plan (Customer 1) ≡ true → has_place old.plan (Customer 1) ≡ true
round_port old between (inl same) there = subst (λ n. has_place n.plan (Customer 1) ≡ true) same there
round_port old between (inr first) there = first

-- a trace without frames leaves the network as it was, and any other is of a network with a customer port
journey_port : (plan : Plan) (entries : List Entry) (round : Option FrameId) (old new : NetView) (text : List TraceLine)
    → HasJourneyed plan entries (Told round) old new text → (new ≡ old) ⊎ (has_place old.plan (Customer 1) ≡ true)
journey_port plan entries None old new text h = stories_port plan entries old new text h
journey_port plan entries (Some frame) old new text h =
    inr (round_port old h.between (stories_port plan (take h.index entries) old h.between h.front h.stories)
    (entry_port plan h.entry (fate_round frame.number) h.between new h.back (λ e. cc) (λ e. cc) h.story))

lawful_by : (plan : Plan) (old new : NetView) → old.plan ≡ plan
    → (has_place old.plan (Customer 1) ≡ true → IsLawfulRecord spanning_tree old.plan old.rec)
    → IsLawfulRecord spanning_tree plan new.rec → (new ≡ old) ⊎ (has_place old.plan (Customer 1) ≡ true)
    → IsLawfulRecord spanning_tree plan old.rec
lawful_by plan old new planned shown last (inl same) = subst (λ n. IsLawfulRecord spanning_tree plan n.rec) same last
lawful_by plan old new planned shown last (inr there) =
    subst (λ p. IsLawfulRecord spanning_tree p old.rec) planned (shown there)

-- the record at which the frames begin is lawful, for the contract of put_stories
pub start_lawful : (plan : Plan) (entries : List Entry) (round : Option FrameId) (old new : NetView)
    (text : List TraceLine)
    → old.plan ≡ plan → (has_place old.plan (Customer 1) ≡ true → IsLawfulRecord spanning_tree old.plan old.rec)
    → IsLawfulRecord spanning_tree plan new.rec → HasJourneyed plan entries (Told round) old new text
    → IsLawfulRecord spanning_tree plan old.rec
start_lawful plan entries round old new text planned shown last journey =
    lawful_by plan old new planned shown last (journey_port plan entries round old new text journey)
