-- Lines that are no request.
use Rattle.std.proofs.Common.{◌≡◌, ◌≢◌, ◌⊎◌, inl, inr, ℕ, Bool, true, false, List, Option, Some, None, IfNone}
use Rattle.std.proofs.Common.{Result, Ok, Err, refl, sym, subst, ◌∙◌}
use Rattle.pb_frame.proofs.Things.{same_parts}
use Rattle.pb_lan.specs.Names.{is_name}
use Rattle.pb_lan.specs.declared.plan.Plan.{Plan}
use Rattle.pb_step_script.specs.Lines.{IsBridgePort}
use Rattle.pb_messages.specs.Words.{cut}
use Rattle.pb_control_socket.specs.Requests.{way_word, IsColonPort, AsksFor, AsksToSet}
use Rattle.pb_control_socket.specs.Requests.{AsksForStations, Asks, Reads, IsNoWord}
use Rattle.pb_control_socket.specs.declared.request.Request.{Request}
use Rattle.pb_control_socket.specs.declared.request.Request.TheVariants.{Stop, Counts, Tree, Drops, Stations, Help}
use Rattle.pb_control_socket.specs.declared.request.Request.TheVariants.{Set, SetPart}
use Rattle.pb_control_socket.specs.declared.request.Refused.{Refused}
use Rattle.pb_control_socket.specs.declared.request.Refused.TheVariants.{NoSuch, Bad}

-- the two words differ
same_way : (a b : Bool) → way_word a ≡ way_word b → a ≡ b
same_way true true e = refl
same_way true false e = cc
same_way false true e = cc
same_way false false e = refl

-- what follows where there is no value
pub if_none : {A : Type 0} {P Q : Type 0} (o : Option A) → (P → Q) → IfNone o P → IfNone o Q
if_none None f h = f h
if_none (Some x) f h = tt

-- arguments that are no port in either form name none
pub neither_port : (plan : Plan) (words : List ℕ) → ((bridge port : ℕ) → IsBridgePort plan words bridge port → ⊥)
    → ((bridge port : ℕ) → IsColonPort plan words bridge port → ⊥)
    → (bridge port : ℕ) → IsBridgePort plan words bridge port ⊎ IsColonPort plan words bridge port → ⊥
neither_port plan words spaced colon bridge port (inl at) = spaced bridge port at
neither_port plan words spaced colon bridge port (inr at) = colon bridge port at

-- arguments that are no port and no name ask for nothing
pub asks_nothing : (plan : Plan) (words : List ℕ) (up : Bool)
    → ((bridge port : ℕ) → IsBridgePort plan words bridge port ⊎ IsColonPort plan words bridge port → ⊥)
    → is_name words ≡ false → (request : Request) → AsksFor plan words up request → ⊥
asks_nothing plan words up no_port no_name Stop asks = asks
asks_nothing plan words up no_port no_name Counts asks = asks
asks_nothing plan words up no_port no_name Tree asks = asks
asks_nothing plan words up no_port no_name Drops asks = asks
asks_nothing plan words up no_port no_name (Stations bridge) asks = asks
asks_nothing plan words up no_port no_name Help asks = asks
asks_nothing plan words up no_port no_name (Set bridge port way) asks = no_port bridge port asks.1
asks_nothing plan words up no_port no_name (SetPart part way) asks =
    let named = asks.1 in cc

-- a line whose first argument is neither `up` nor `down` sets nothing
pub no_way : (plan : Plan) (line word words : List ℕ) → cut line ≡ Some (word, words)
    → ((up : Bool) → word ≡ way_word up → ⊥) → (request : Request) → AsksToSet plan line request → ⊥
no_way plan line word words parts none request w =
    none w.up (sym (same_parts (way_word w.up) w.words word words (sym w.parts ∙ parts)).0)

-- a line whose other arguments ask for nothing sets nothing
pub no_change : (plan : Plan) (line word words : List ℕ) (up : Bool) → cut line ≡ Some (word, words)
    → word ≡ way_word up → ((request : Request) → AsksFor plan words up request → ⊥)
    → (request : Request) → AsksToSet plan line request → ⊥
no_change plan line word words up parts way none request w =
    let same = same_parts (way_word w.up) w.words word words (sym w.parts ∙ parts) in
    let there = subst (λ t. AsksFor plan t w.up request) same.1 w.asks in
    none request (subst (λ b. AsksFor plan words b request) (same_way w.up up (same.0 ∙ way)) there)

-- a line that sets something is a request
pub set_asks : (plan : Plan) (line : List ℕ) (request : Request) → AsksToSet plan line request → Asks plan line request
set_asks plan line Stop w = absurd w.asks
set_asks plan line Counts w = absurd w.asks
set_asks plan line Tree w = absurd w.asks
set_asks plan line Drops w = absurd w.asks
set_asks plan line (Stations bridge) w = absurd w.asks
set_asks plan line Help w = absurd w.asks
set_asks plan line (Set bridge port up) w = w
set_asks plan line (SetPart part up) w = w

-- a line that is no single argument, sets nothing and asks for no stations is no request
no_request : (plan : Plan) (line : List ℕ) → IsNoWord line → ((request : Request) → AsksToSet plan line request → ⊥)
    → ((bridge : ℕ) → AsksForStations plan line bridge → ⊥) → (request : Request) → Asks plan line request → ⊥
no_request plan line no_word no_set no_stations Stop asks = no_word.0 asks
no_request plan line no_word no_set no_stations Counts asks = no_word.1 asks
no_request plan line no_word no_set no_stations Tree asks = no_word.2 asks
no_request plan line no_word no_set no_stations Drops asks = no_word.3 asks
no_request plan line no_word no_set no_stations (Stations bridge) asks = no_stations bridge asks
no_request plan line no_word no_set no_stations Help asks = no_word.4 asks
no_request plan line no_word no_set no_stations (Set bridge port up) asks = no_set (Set bridge port up) asks
no_request plan line no_word no_set no_stations (SetPart part up) asks = no_set (SetPart part up) asks

-- what is read of a line that is no single argument
pub reads_set : (plan : Plan) (line : List ℕ) (r : Result Request Refused) → IsNoWord line
    → (r ≢ Err Bad → Reads plan line r) → (r ≡ Err Bad → (request : Request) → AsksToSet plan line request → ⊥)
    → (r ≡ Err Bad → (bridge : ℕ) → AsksForStations plan line bridge → ⊥) → Reads plan line r
reads_set plan line (Ok request) no_word read unset unshown = read (λ e. cc)
reads_set plan line (Err NoSuch) no_word read unset unshown = read (λ e. cc)
reads_set plan line (Err Bad) no_word read unset unshown = no_request plan line no_word (unset refl) (unshown refl)
