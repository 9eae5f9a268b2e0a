-- The room for the copies of an item that a bridge has not received yet.
use Rattle.std.proofs.Common.{◌≡◌, ℕ, zero, suc, ◌+◌, ◌-◌, ◌<◌, ◌||◌, Bool, true, false, cond, not, nat_le}
use Rattle.std.proofs.Common.{None, List, [], ◌∷◌, ◌++◌, take, get_or, length, refl, sym, ap, ◌∙◌, arith}
use Rattle.std.proofs.lemmas.List.{take_more}
use Rattle.std.specs.List.{AllByRecursion, filter, list_any}
use Rattle.std.specs.declared.option.Option.{Option}
use Rattle.pb_fdb.specs.Tables.{where_in as place_in}
use Rattle.pb_frame.proofs.Lists.{All-passed, false-unless, true-false, list_any-rest}
use Rattle.pb_frame.specs.Frames.{dst_of, is_group}
use Rattle.pb_lan.specs.BridgeLists.{ruling}
use Rattle.pb_lan.specs.BridgeLists.Ruling.{Carries}
use Rattle.pb_lan.specs.Ports.{port_at, local_ports}
use Rattle.pb_lan.specs.Shapes.{changes_of}
use Rattle.pb_lan.specs.declared.step.Item.{Item}
use Rattle.pb_relay.proofs.ChosenLemmas.{all_up, chosen_ports_are}
use Rattle.pb_relay.proofs.EntryLemmas.{forwards}
use Rattle.pb_relay.proofs.FoundLemmas.{found_is}
use Rattle.pb_relay.proofs.Keeping.{Keeps}
use Rattle.pb_relay.proofs.StandingLemmas.{number_at}
use Rattle.pb_relay.proofs.TableLemmas.{found_in}
use Rattle.pb_relay.specs.Classes.{number_in}
use Rattle.pb_relay.specs.Loads.{is_choice}
use Rattle.pb_relay.specs.Protocol.{spanning_tree}
use Rattle.pb_relay.specs.Room.{has_room_for, is_filled, ports_under}
use Rattle.pb_relay.specs.declared.bridge.Bridge.TheInside.{Inside}

none_with : (test : ℕ → Bool) (xs : List ℕ) (x : ℕ) → list_any test xs ≡ false → test x ≡ false
    → list_any test (xs ++ x ∷ []) ≡ false
none_with test xs x none one =
    false-unless (list_any test (xs ++ x ∷ []))
    (λ some. true-false (list_any test (x ∷ [])) (list_any-rest test xs (x ∷ []) none some) (ap (λ b. b || false) one))

-- one more port passes no test
pub none_more : (test : ℕ → Bool) (ps : List ℕ) (i : ℕ) → i < length ps → list_any test (take i ps) ≡ false
    → test (get_or ps i 0) ≡ false → list_any test (take (i + 1) ps) ≡ false
none_more test ps i l none one =
    ap (list_any test) (take_more ps i 0 l) ∙ none_with test (take i ps) (get_or ps i 0) none one

-- a port of the list passes the test
pub some_there : (test : ℕ → Bool) (ps : List ℕ) (i : ℕ) → i < length ps → test (get_or ps i 0) ≡ true
    → list_any test ps ≡ true
some_there test [] i l t = absurd (omega arith)
some_there test (p ∷ ps) zero l t = ap (λ b. b || list_any test ps) t
some_there test (p ∷ ps) (suc i) l t = elim (test p) as (λ b. (b || list_any test ps) ≡ true)
    [ true ↦ refl | false ↦ some_there test ps i (omega arith) t ]

any_same : (f g : ℕ → Bool) (xs : List ℕ) → AllByRecursion (λ x. f x ≡ g x) xs → list_any f xs ≡ list_any g xs
any_same f g [] a = refl
any_same f g (x ∷ xs) a = ap (λ b. b || list_any f xs) a.0 ∙ ap (λ b. g x || b) (any_same f g xs a.1)

-- the room of the queues at the chosen ports is that of the definition
pub room_is : (s : Inside) (port vid queue : ℕ) (item : Item) (at : Option ℕ) (chosen : List ℕ) → Keeps s
    → ruling spanning_tree s.plan s.number s.steps.steps port item ≡ Carries vid
    → at ≡ cond (is_group (dst_of item.wire)) None (place_in s.forwarding.table s.clock vid (dst_of item.wire))
    → chosen ≡ filter (is_choice s.ports s.forwarding.states port vid at) local_ports
    → not (list_any (λ p. nat_le queue (number_in (get_or s.forwarding.backlog.ports (p - 1) []))) chosen)
    ≡ has_room_for s.plan s.number s.steps.steps queue port item
room_is s port vid queue item at chosen k r e c =
    let old = s.forwarding in
    let steps = s.steps.steps in
    let counted : ℕ → Bool = λ p. nat_le queue (number_in (get_or old.backlog.ports (p - 1) [])) in
    let filled : ℕ → Bool = is_filled s.plan s.number steps queue in
    let choice : ℕ → Bool = is_choice s.ports old.states port vid at in
    let same : AllByRecursion (λ p. counted p ≡ filled p) local_ports =
    all_up (λ p. counted p ≡ filled p) 16 1
    (λ p a b. ap (nat_le queue) (number_at s.plan s.number steps old.states old.backlog.ports s.clock
    old.table.sightings p k.1 (a, omega arith))) in
    let sought : at ≡ cond (is_group (dst_of item.wire)) None _ = e
    ∙ ap (λ o. cond (is_group (dst_of item.wire)) None o)
    (found_in s.plan s.clock vid (dst_of item.wire) old.table k.3.ageing
    ∙ found_is s.plan s.number steps old.states old.backlog.ports s.clock old.table.sightings vid (dst_of item.wire)
    k.1) in
    ap (λ ps. not (list_any counted ps)) c
    ∙ ap not (any_same counted filled (filter choice local_ports)
    (All-passed (λ p. counted p ≡ filled p) choice local_ports same))
    ∙ ap (λ ps. not (list_any filled ps))
    (chosen_ports_are s.plan s.number steps s.ports old.states old.backlog.capacity s.limit port vid item.wire at k.0
    k.1.kept_states (forwards s.plan (port_at s.plan s.number port) port (changes_of steps) item vid r) sought)
    ∙ ap (λ g. not (list_any filled (ports_under s.plan s.number steps port item.wire g))) (sym r)
