-- The state of a bridge after it has relayed a frame.
use Rattle.std.proofs.Common.{◌≡◌, ℕ, ◌<◌, ◌≤◌, Bool, true, false, cond, not, ◌&&◌, Some, None, List, [], ◌∷◌, ◌++◌}
use Rattle.std.proofs.Common.{length, get_or, ◌==◌, refl, sym, ap, ◌∙◌, subst, arith, append-nil, ◌-◌}
use Rattle.std.specs.List.{AllByRecursion, list_any}
use Rattle.std.specs.declared.option.Option.{Option}
use Rattle.pb_frame.specs.Frames.{src_of}
use Rattle.pb_frame.specs.Stations.{Sighting, News, is_fresh, standing, live}
use Rattle.pb_frame.specs.Stations.News.{Seen}
use Rattle.pb_frame.specs.declared.learnt.Learnt.{Learnt}
use Rattle.pb_lan.proofs.SentWasQueued.{waiting_from-append}
use Rattle.pb_lan.specs.Ports.{port_at}
use Rattle.pb_lan.specs.Queues.{Waiting, waiting, copies, copy_of, class_of, priority_in, vid_in, is_refused, is_full}
use Rattle.pb_lan.specs.Queues.{capacity_of}
use Rattle.pb_lan.specs.Choice.{news_of, is_noted, sighting}
use Rattle.pb_lan.specs.BridgeLists.{AreRefused, is_named_full, Fits}
use Rattle.pb_lan.specs.declared.plan.Plan.{Plan}
use Rattle.pb_lan.specs.declared.shape.PortState.{PortState}
use Rattle.pb_lan.specs.declared.step.Item.{Item}
use Rattle.pb_lan.specs.declared.step.NoRoom.{NoRoom}
use Rattle.pb_lan.specs.declared.step.Outcome.{Outcome}
use Rattle.pb_lan.specs.declared.step.Outcome.TheVariants.{Relayed}
use Rattle.pb_lan.specs.declared.step.Step.{Step}
use Rattle.pb_lan.specs.declared.step.Step.TheVariants.{Receive}
use Rattle.pb_relay.specs.Backlogs.{capacity_in, is_full_in}
use Rattle.pb_relay.specs.Classes.{by_class}
use Rattle.pb_relay.specs.declared.backlog.Capacity.{Capacity}
use Rattle.pb_fdb.proofs.LawLemmas.{stands-more}
use Rattle.pb_relay.proofs.GrowthLemmas.{Grows, full_by_class, copied as copied_there}
use Rattle.pb_relay.proofs.StandingLemmas.{kept_at, gets_copy, copy_for, has_place, after_step}
use Rattle.pb_relay.specs.Copies.{AreSeparate, AreCopied}
use Rattle.pb_relay.specs.Standing.{IsStanding}
use Rattle.pb_relay.specs.Protocol.{spanning_tree}
use Rattle.pb_relay.specs.Tables.{seen_anew, HasLearnt}
use Rattle.pb_relay.proofs.TableLemmas.{fresh_now, seen_live}
use Rattle.pb_relay.proofs.StepLemmas.{states_stay, news_more}

-- two tests of full queues that agree on the chosen ports refuse the same
refused-same : (f g : ℕ → Bool) (chosen : List ℕ) (refused : List (ℕ × NoRoom))
    → AllByRecursion (λ p. f p ≡ g p) chosen → AreRefused f chosen refused → AreRefused g chosen refused
refused-same f g chosen refused e h = (h.0, go chosen e h.1)
  where
    go : (ps : List ℕ) → AllByRecursion (λ p. f p ≡ g p) ps → AllByRecursion (λ p. f p ≡ is_named_full refused p) ps
        → AllByRecursion (λ p. g p ≡ is_named_full refused p) ps
    go [] a b = tt
    go (p ∷ ps) a b = (sym a.0 ∙ b.0, go ps a.1 b.1)

-- after a step of relaying, what waits is what waited before and the copy
waiting-relayed : (plan : Plan) (b r port : ℕ) (steps : List Step) (item : Item) (learnt : Option Learnt)
    (chosen : List ℕ) (refused : List (ℕ × NoRoom))
    → waiting plan b r (steps ++ Receive port item learnt (Relayed chosen refused) None ∷ [])
    ≡ waiting plan b r steps ++ copies plan b port item (Relayed chosen refused) r
waiting-relayed plan b r port steps item learnt chosen refused =
    waiting_from-append plan b r [] steps (Receive port item learnt (Relayed chosen refused) None)
    ∙ ap (λ ws. waiting plan b r steps ++ ws) (append-nil (copies plan b port item (Relayed chosen refused) r))

-- the live stations after a station is learnt, or is not
newer_by : (ageing now : ℕ) (noted : Bool) (s : Sighting) (table newer : List Sighting) (news : List News)
    → is_fresh ageing now s ≡ true
    → live ageing now newer ≡ cond noted (seen_anew s (live ageing now table)) (live ageing now table)
    → live ageing now table ≡ standing ageing now news
    → live ageing now newer ≡ standing ageing now (news ++ (cond noted (Seen s ∷ []) [] ++ []))
newer_by ageing now true s table newer news fresh h stands =
    h ∙ sym (seen_live ageing now s table fresh) ∙ stands-more ageing now table news (Seen s) stands
newer_by ageing now false s table newer news fresh h stands =
    h ∙ stands ∙ ap (standing ageing now) (sym (append-nil news))

pub newer_stands : (plan : Plan) (b : ℕ) (steps : List Step) (states : List PortState)
    (queues : List (List (List Item))) (now : ℕ) (table newer : List Sighting) (port : ℕ) (item : Item)
    (learnt : Learnt) (outcome : Outcome)
    → 0 < plan.ageing → IsStanding plan b steps states queues now table
    → HasLearnt plan.ageing now (vid_in plan (port_at plan b port) item.wire) port (src_of item.wire) table learnt newer
    → live plan.ageing now newer ≡ standing plan.ageing now
    (news_of plan b (steps ++ Receive port item (Some learnt) outcome None ∷ []))
newer_stands plan b steps states queues now table newer port item learnt outcome ageing s h =
    newer_by plan.ageing now (is_noted (Some learnt)) (sighting plan b now port item.wire) table newer
    (news_of plan b steps)
    (fresh_now plan.ageing now (sighting plan b now port item.wire).vid port
    (sighting plan b now port item.wire).mac ageing)
    h.table s.stations
    ∙ ap (λ n. standing plan.ageing now
    (news_of plan b steps ++ (cond (is_noted (Some learnt)) (Seen (sighting plan b n port item.wire) ∷ []) []
    ++ []))) s.clock
    ∙ ap (standing plan.ageing now) (sym (news_more plan b steps (Receive port item (Some learnt) outcome None)))

abbrev one : ℕ → Item → List Waiting
one class item = record { class = class; item = item } ∷ []

same_copy : (a c : Bool) (class : ℕ) (i j : Item) → (a ≡ true → i ≡ j)
    → cond (a && not c) (one class i) [] ≡ cond (a && not c) (one class j) []
same_copy true c class i j e = ap (λ (z : Item). cond (not c) (one class z) []) (e refl)
same_copy false c class i j e = refl

-- the bridge's state follows from its steps after it has relayed a frame
pub after_relayed : (plan : Plan) (b : ℕ) (steps : List Step) (states : List PortState)
    (queues new : List (List (List Item))) (now : ℕ) (table newer : List Sighting) (port : ℕ) (item : Item)
    (learnt : Learnt) (chosen : List ℕ) (refused : List (ℕ × NoRoom)) (capacity : Capacity) (class : ℕ)
    (item_at : ℕ → Item)
    → IsStanding plan b steps states queues now table
    → Fits spanning_tree plan b steps (Receive port item (Some learnt) (Relayed chosen refused) None)
    → AreRefused (is_full plan b steps class) chosen refused
    → AreCopied capacity class item_at queues chosen refused new → length new ≡ 16
    → class ≡ class_of (priority_in (port_at plan b port) item.wire) → class < 8
    → ((p : ℕ) → list_any (λ q. q == p) chosen ≡ true → item_at p ≡ copy_of plan (port_at plan b port)
    (port_at plan b p) item)
    → 0 < plan.ageing
    → HasLearnt plan.ageing now (vid_in plan (port_at plan b port) item.wire) port (src_of item.wire) table learnt newer
    → IsStanding plan b (steps ++ Receive port item (Some learnt) (Relayed chosen refused) None ∷ []) states new now
    newer
after_relayed plan b steps states queues new now table newer port item learnt chosen refused capacity class item_at s
    fits full copied count same small at ageing learns =
    let step : Step = Receive port item (Some learnt) (Relayed chosen refused) None in
    after_step plan b steps states states queues new now now table newer step capacity class item_at chosen refused s
    fits (s.kept_states ∙ sym (states_stay plan b steps step refl)) copied count
    (λ r. subst (Grows plan.queues (capacity_of plan b) class (item_at r) (gets_copy chosen refused r)
    (waiting plan b r steps)) (sym (waits r))
    (copied_there plan.queues (capacity_of plan b) class (item_at r) (gets_copy chosen refused r)
    (waiting plan b r steps) small (s.classes r) (s.within r)
    (has_place (is_full plan b steps class) chosen refused r full))) (omega arith)
    (newer_stands plan b steps states queues now table newer port item learnt (Relayed chosen refused) ageing s learns)
  where
    waits : (r : ℕ) → waiting plan b r (steps ++ Receive port item (Some learnt) (Relayed chosen refused) None ∷ [])
        ≡ waiting plan b r steps ++ copy_for class item_at chosen refused r
    waits r = waiting-relayed plan b r port steps item (Some learnt) chosen refused
        ∙ ap (λ k. waiting plan b r steps ++ cond (gets_copy chosen refused r)
        (record { class = k; item = copy_of plan (port_at plan b port) (port_at plan b r) item } ∷ []) [])
        (sym same)
        ∙ ap (λ zs. waiting plan b r steps ++ zs)
        (same_copy (list_any (λ p. p == r) chosen) (is_refused refused r) class
        (copy_of plan (port_at plan b port) (port_at plan b r) item) (item_at r) (λ t. sym (at r t)))

-- ports that are refused by the queued items are refused by the waiting items
pub refusals_are : (plan : Plan) (b : ℕ) (steps : List Step) (states : List PortState)
    (queues : List (List (List Item))) (now : ℕ) (table : List Sighting) (capacity : Capacity) (class : ℕ)
    (chosen : List ℕ) (refused : List (ℕ × NoRoom))
    → IsStanding plan b steps states queues now table → capacity ≡ capacity_in plan b → class < 9 → AreSeparate chosen
    → AreRefused (λ port. is_full_in capacity class (get_or queues (port - 1) [])) chosen refused
    → AreRefused (is_full plan b steps class) chosen refused
refusals_are plan b steps states queues now table capacity class chosen refused s c l a h =
    refused-same (λ port. is_full_in capacity class (get_or queues (port - 1) [])) (is_full plan b steps class) chosen
    refused (each chosen a) h
  where
    one-port : (p : ℕ) → (1 ≤ p) × (p ≤ 16)
        → is_full_in capacity class (get_or queues (p - 1) []) ≡ is_full plan b steps class p
    one-port p within =
        ap (is_full_in capacity class) (kept_at plan b steps states queues now table p s within)
        ∙ ap (λ (z : Capacity). is_full_in z class (by_class (waiting plan b p steps))) c
        ∙ full_by_class plan.queues (capacity_of plan b) class (waiting plan b p steps) l (s.classes p)

    each : (ps : List ℕ) → AreSeparate ps
        → AllByRecursion (λ p. is_full_in capacity class (get_or queues (p - 1) []) ≡ is_full plan b steps class p) ps
    each [] z = tt
    each (p ∷ ps) z = (one-port p z.0, each ps z.2)
