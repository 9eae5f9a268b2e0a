-- The ports to which a frame is relayed are among those by what the bridge learnt before it.
use Rattle.std.proofs.Common.{◌≡◌, ◌-◌, ◌==◌, ◌&&◌, ◌++◌, ℕ, zero, suc, Bool, true, false, not, cond}
use Rattle.std.proofs.Common.{nat_lt, List, [], ◌∷◌, Option, Some, None, inl, inr, refl, sym, ap, ◌∙◌, subst, arith}
use Rattle.std.proofs.Common.{append-nil, ◌⊎◌}
use Rattle.std.proofs.lemmas.Bool.{eqb-true}
use Rattle.std.proofs.lemmas.Bool.Decides.{nat_tests}
use Rattle.std.specs.List.{AllByRecursion, filter, list_any}
use Rattle.std.specs.Option.{option_map}
use Rattle.pb_fdb.proofs.LawLemmas.{stands-more}
use Rattle.pb_frame.proofs.Lists.{and-left, and-right, same-one, same-self}
use Rattle.pb_frame.proofs.StationLaws.{table_tells_what_stands}
use Rattle.pb_frame.proofs.Lists.{eqb-refl}
use Rattle.pb_frame.specs.Frames.{dst_of, is_group}
use Rattle.pb_frame.specs.declared.learnt.Learnt.{Learnt}
use Rattle.pb_lan.specs.Choice.{chosen_ports, flood, found, is_noted, narrowed, news_of, now_after, sighting, sightings}
use Rattle.pb_lan.specs.Ports.{is_member, local_ports, port_at}
use Rattle.pb_lan.specs.Shapes.{changes_of, is_forwarding, state_after, state_by}
use Rattle.pb_lan.specs.declared.plan.Plan.{Plan}
use Rattle.pb_lan.specs.declared.shape.PortState.{PortState}
use Rattle.pb_lan.specs.declared.step.Item.{Item}
use Rattle.pb_lan.specs.declared.step.Outcome.{Outcome}
use Rattle.pb_lan.specs.declared.step.Step.{Step}
use Rattle.pb_lan.specs.declared.step.Step.TheVariants.{Receive}
use Rattle.pb_relay.proofs.StepLemmas.{changes_more, news_more, now_more}
use Rattle.pb_frame.specs.Admission.{same}
use Rattle.pb_frame.specs.Lists.{first}
use Rattle.pb_frame.specs.Stations.{News, Sighting, after_all, is_fresh, is_sighted, overrides, standing, where_is}
use Rattle.pb_frame.specs.Stations.News.{Flushed, Seen}
use Rattle.pb_relay.proofs.TableLemmas.{seen_live}
use Rattle.pb_relay.specs.Tables.{seen_anew}

-- the first sighting that passes the test, after those that pass it gave way to another that does
first_anew : (test : Sighting → Bool) (table : List Sighting) (s : Sighting) → test s ≡ true
    → first test (filter (λ t. not (test t)) table ++ s ∷ []) ≡ Some s
first_anew test [] s e = ap (λ b. cond b (Some s) None) e
first_anew test (t ∷ table) s e =
    elim (test t) as (λ b. test t ≡ b
    → first test (cond (not b) (t ∷ filter (λ t. not (test t)) table) (filter (λ t. not (test t)) table) ++ s ∷ [])
    ≡ Some s) [
      | true ↦ λ is. first_anew test table s e
      | false ↦ λ is. ap (λ b. cond b (Some t) (first test (filter (λ t. not (test t)) table ++ s ∷ []))) is
          ∙ first_anew test table s e
    ] refl

-- the first sighting that passes a test, if those that gave way and the new one do not pass it
first_kept : (test gives : Sighting → Bool) (table : List Sighting) (s : Sighting) → test s ≡ false
    → ((t : Sighting) → gives t ≡ true → test t ≡ false)
    → first test (filter (λ t. not (gives t)) table ++ s ∷ []) ≡ first test table
first_kept test gives [] s e apart = ap (λ b. cond b (Some s) None) e
first_kept test gives (t ∷ table) s e apart =
    elim (gives t) as (λ b. gives t ≡ b
    → first test (cond (not b) (t ∷ filter (λ t. not (gives t)) table) (filter (λ t. not (gives t)) table) ++ s ∷ [])
    ≡ cond (test t) (Some t) (first test table)) [
      | true ↦ λ is. first_kept test gives table s e apart
          ∙ ap (λ b. cond b (Some t) (first test table)) (sym (apart t is))
      | false ↦ λ is. ap (λ o. cond (test t) (Some t) o) (first_kept test gives table s e apart)
    ] refl

-- a sighting of the station that is seen is not of another
apart_from : (vid : ℕ) (mac : List ℕ) (s t : Sighting) → is_sighted vid mac s ≡ false
    → is_sighted s.vid s.mac t ≡ true → is_sighted vid mac t ≡ false
apart_from vid mac s t apart is =
    let v : t.vid ≡ s.vid = eqb-true t.vid s.vid (and-left _ _ is) in
    let m : t.mac ≡ s.mac = same-one t.mac s.mac (and-right _ _ is) in
    ap (λ n. (n == vid) && same t.mac mac) v ∙ ap (λ a. (s.vid == vid) && same a mac) m ∙ apart

-- where a station is in a table after one is seen: where it was, or where that one is
where_anew : (vid : ℕ) (mac : List ℕ) (table : List Sighting) (s : Sighting)
    → (option_map (λ x. x.port) (first (is_sighted vid mac) (seen_anew s table))
    ≡ option_map (λ x. x.port) (first (is_sighted vid mac) table))
    ⊎ (option_map (λ x. x.port) (first (is_sighted vid mac) (seen_anew s table)) ≡ Some s.port)
where_anew vid mac table s =
    elim (is_sighted vid mac s) as (λ b. is_sighted vid mac s ≡ b
    → (option_map (λ x. x.port) (first (is_sighted vid mac) (seen_anew s table))
    ≡ option_map (λ x. x.port) (first (is_sighted vid mac) table))
    ⊎ (option_map (λ x. x.port) (first (is_sighted vid mac) (seen_anew s table)) ≡ Some s.port)) [
      | true ↦ λ is.
          let v : s.vid ≡ vid = eqb-true s.vid vid (and-left _ _ is) in
          let m : s.mac ≡ mac = same-one s.mac mac (and-right _ _ is) in
          inr (subst (λ (v : ℕ). option_map (λ x. x.port) (first (is_sighted v mac) (seen_anew s table)) ≡ Some s.port) v
          (subst (λ (m : List ℕ). option_map (λ x. x.port) (first (is_sighted s.vid m) (seen_anew s table))
          ≡ Some s.port) m
          (ap (λ o. option_map (λ x. x.port) o) (first_anew (is_sighted s.vid s.mac) table s
          (ap (λ a. a && same s.mac s.mac) (eqb-refl s.vid) ∙ same-self s.mac)))))
      | false ↦ λ apart. inl (ap (λ o. option_map (λ x. x.port) o)
          (first_kept (is_sighted vid mac) (is_sighted s.vid s.mac) table s apart
          (λ t is. apart_from vid mac s t apart is)))
    ] refl

-- if nothing is ever fresh, nothing is in force
none_stands : (now : ℕ) (news : List News) → standing 0 now news ≡ []
none_stands now [] = refl
none_stands now (Flushed port ∷ later) = none_stands now later
none_stands now (Seen s ∷ later) =
    let stale : is_fresh 0 now s ≡ false = grind (arith, nat_tests) in
    ap (λ b. cond (b && not (list_any (λ n. overrides s n) later)) (s ∷ standing 0 now later) (standing 0 now later)) stale
    ∙ none_stands now later

zero_less : (n : ℕ) → nat_lt 0 (suc n) ≡ true
zero_less n = grind (arith, nat_tests)

-- a station that is seen at this moment is fresh, unless nothing is ever fresh
fresh_or_none : (ageing now : ℕ) (s : Sighting) → s.moment ≡ now → (is_fresh ageing now s ≡ true) ⊎ (ageing ≡ 0)
fresh_or_none zero now s m = inr refl
fresh_or_none (suc ageing) now s m =
    let none : now - s.moment ≡ 0 = omega (arith, m) in
    inl (ap (λ n. nat_lt n (suc ageing)) none ∙ zero_less ageing)

-- where a station is after one is seen: where it was, or where that one is
pub where_after : (ageing now : ℕ) (news : List News) (s : Sighting) (vid : ℕ) (mac : List ℕ) → s.moment ≡ now
    → (where_is ageing now (news ++ Seen s ∷ []) vid mac ≡ where_is ageing now news vid mac)
    ⊎ (where_is ageing now (news ++ Seen s ∷ []) vid mac ≡ Some s.port)
where_after ageing now news s vid mac m = by (fresh_or_none ageing now s m)
  where
    by : (is_fresh ageing now s ≡ true) ⊎ (ageing ≡ 0)
        → (where_is ageing now (news ++ Seen s ∷ []) vid mac ≡ where_is ageing now news vid mac)
        ⊎ (where_is ageing now (news ++ Seen s ∷ []) vid mac ≡ Some s.port)
    by (inl fresh) =
        let told = table_tells_what_stands ageing now news in
        let more : standing ageing now (news ++ Seen s ∷ []) ≡ seen_anew s (standing ageing now news) =
        sym (stands-more ageing now (after_all [] news) news (Seen s) told)
        ∙ seen_live ageing now s (after_all [] news) fresh
        ∙ ap (seen_anew s) told in
        subst (λ (table : List Sighting). (option_map (λ x. x.port) (first (is_sighted vid mac) table)
        ≡ where_is ageing now news vid mac)
        ⊎ (option_map (λ x. x.port) (first (is_sighted vid mac) table) ≡ Some s.port)) (sym more)
        (where_anew vid mac (standing ageing now news) s)
    by (inr none) =
        let empty : (ns : List News) → standing ageing now ns ≡ [] = λ ns.
        ap (λ a. standing a now ns) none ∙ none_stands now ns in
        inl (ap (λ table. option_map (λ x. x.port) (first (is_sighted vid mac) table))
        (empty (news ++ Seen s ∷ []) ∙ sym (empty news)))

-- where a station is after a step of receiving: where it was, or at the port at which the frame arrived
found_after : (plan : Plan) (b q v : ℕ) (earlier : List Step) (item : Item) (learnt : Option Learnt) (outcome : Outcome)
    (mac : List ℕ)
    → (found plan b (earlier ++ Receive q item learnt outcome None ∷ []) v mac ≡ found plan b earlier v mac)
    ⊎ (found plan b (earlier ++ Receive q item learnt outcome None ∷ []) v mac ≡ Some q)
found_after plan b q v earlier item learnt outcome mac =
    let step : Step = Receive q item learnt outcome None in
    let now = now_after earlier in
    let later : now_after (earlier ++ step ∷ []) ≡ now = now_more earlier step ∙ omega arith in
    let same : found plan b (earlier ++ step ∷ []) v mac
    ≡ where_is plan.ageing now (news_of plan b earlier ++ (sightings plan b now step ++ [])) v mac =
    ap (λ n. where_is plan.ageing n (news_of plan b (earlier ++ step ∷ [])) v mac) later
    ∙ ap (λ ns. where_is plan.ageing now ns v mac) (news_more plan b earlier step) in
    subst (λ (o : Option ℕ). (o ≡ found plan b earlier v mac) ⊎ (o ≡ Some q)) (sym same) (noted (is_noted learnt))
  where
    noted : (is : Bool) → (where_is plan.ageing (now_after earlier) (news_of plan b earlier
        ++ (cond is (Seen (sighting plan b (now_after earlier) q item.wire) ∷ []) [] ++ [])) v mac
        ≡ found plan b earlier v mac)
        ⊎ (where_is plan.ageing (now_after earlier) (news_of plan b earlier
        ++ (cond is (Seen (sighting plan b (now_after earlier) q item.wire) ∷ []) [] ++ [])) v mac ≡ Some q)
    noted true = where_after plan.ageing (now_after earlier) (news_of plan b earlier)
        (sighting plan b (now_after earlier) q item.wire) v mac refl
    noted false = inl (ap (λ ns. where_is plan.ageing (now_after earlier) ns v mac) (append-nil (news_of plan b earlier)))

-- no frame is relayed back to the port at which it arrived
none_back : (q : ℕ) (test : ℕ → Bool) (ps : List ℕ)
    → filter (λ p. p == q) (filter (λ p. not (p == q) && test p) ps) ≡ []
none_back q test [] = refl
none_back q test (p ∷ ps) =
    elim (p == q) as (λ b. (p == q) ≡ b
    → filter (λ p. p == q) (cond (not b && test p) (p ∷ filter (λ p. not (p == q) && test p) ps)
    (filter (λ p. not (p == q) && test p) ps)) ≡ []) [
      | true ↦ λ is. none_back q test ps
      | false ↦ λ other. elim (test p) as (λ t. filter (λ p. p == q) (cond t (p ∷ filter (λ p. not (p == q) && test p) ps)
          (filter (λ p. not (p == q) && test p) ps)) ≡ []) [
            | true ↦ ap (λ b. cond b (p ∷ filter (λ p. p == q) (filter (λ p. not (p == q) && test p) ps))
                (filter (λ p. p == q) (filter (λ p. not (p == q) && test p) ps))) other ∙ none_back q test ps
            | false ↦ none_back q test ps
          ]
    ] refl

-- what holds of each port that is chosen before a frame is received holds of each that is chosen when it is
pub chosen_before : (P : ℕ → Type 0) (plan : Plan) (b q v : ℕ) (earlier : List Step) (item : Item)
    (learnt : Option Learnt) (outcome : Outcome)
    → AllByRecursion P (chosen_ports plan b earlier q v item.wire)
    → AllByRecursion P (chosen_ports plan b (earlier ++ Receive q item learnt outcome None ∷ []) q v item.wire)
chosen_before P plan b q v earlier item learnt outcome all =
    let step : Step = Receive q item learnt outcome None in
    let still : changes_of (earlier ++ step ∷ []) ≡ changes_of earlier =
    changes_more earlier step ∙ append-nil (changes_of earlier) in
    subst (λ (cs : List (ℕ × PortState)). AllByRecursion P (cond (is_forwarding (state_by plan.spanning (port_at plan b q) q cs))
    (cond (is_group (dst_of item.wire)) (flood_by cs)
    (narrowed (flood_by cs) (found plan b (earlier ++ step ∷ []) v (dst_of item.wire)))) [])) (sym still)
    (by (found_after plan b q v earlier item learnt outcome (dst_of item.wire)))
  where
    test_by : List (ℕ × PortState) → ℕ → Bool
    test_by cs p = is_forwarding (state_by plan.spanning (port_at plan b p) p cs) && is_member plan v (port_at plan b p)

    flood_by : List (ℕ × PortState) → List ℕ
    flood_by cs = filter (λ p. not (p == q) && (is_forwarding (state_by plan.spanning (port_at plan b p) p cs)
        && is_member plan v (port_at plan b p))) local_ports

    back : AllByRecursion P (narrowed (flood plan b earlier q v) (Some q))
    back = subst (λ (ps : List ℕ). AllByRecursion P ps)
        (sym (none_back q (test_by (changes_of earlier)) local_ports)) tt

    by : (found plan b (earlier ++ Receive q item learnt outcome None ∷ []) v (dst_of item.wire)
        ≡ found plan b earlier v (dst_of item.wire))
        ⊎ (found plan b (earlier ++ Receive q item learnt outcome None ∷ []) v (dst_of item.wire) ≡ Some q)
        → AllByRecursion P (cond (is_forwarding (state_after plan b earlier q))
        (cond (is_group (dst_of item.wire)) (flood plan b earlier q v)
        (narrowed (flood plan b earlier q v) (found plan b (earlier ++ Receive q item learnt outcome None ∷ []) v
        (dst_of item.wire)))) [])
    by (inl same) = subst (λ (at : Option ℕ). AllByRecursion P (cond (is_forwarding (state_after plan b earlier q))
        (cond (is_group (dst_of item.wire)) (flood plan b earlier q v) (narrowed (flood plan b earlier q v) at)) []))
        (sym same) all
    by (inr here) = subst (λ (at : Option ℕ). AllByRecursion P (cond (is_forwarding (state_after plan b earlier q))
        (cond (is_group (dst_of item.wire)) (flood plan b earlier q v) (narrowed (flood plan b earlier q v) at)) []))
        (sym here)
        (elim (is_forwarding (state_after plan b earlier q)) as
        (λ f. AllByRecursion P (cond f (cond (is_group (dst_of item.wire)) (flood plan b earlier q v)
        (narrowed (flood plan b earlier q v) (found plan b earlier v (dst_of item.wire)))) [])
        → AllByRecursion P (cond f (cond (is_group (dst_of item.wire)) (flood plan b earlier q v)
        (narrowed (flood plan b earlier q v) (Some q))) [])) [
          | true ↦ elim (is_group (dst_of item.wire)) as
              (λ g. AllByRecursion P (cond g (flood plan b earlier q v)
              (narrowed (flood plan b earlier q v) (found plan b earlier v (dst_of item.wire))))
              → AllByRecursion P (cond g (flood plan b earlier q v) (narrowed (flood plan b earlier q v) (Some q))))
              [ true ↦ λ a. a | false ↦ λ a. back ]
          | false ↦ λ a. tt
        ] all)
