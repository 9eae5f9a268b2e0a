-- An effect is worse, or better, exactly if a service or the bridges are.
use Rattle.std.proofs.Common.{◌≡◌, ◌⊎◌, ◌↔◌, ℕ, zero, suc, Bool, true, not, ◌==◌, ◌&&◌, ◌||◌}
use Rattle.std.proofs.Common.{List, [], ◌∷◌, Option, Some, None, map, inl, inr, refl, sym, ap, ◌∙◌, subst, arith}
use Rattle.std.specs.List.{Any, Contains, zip, list_any}
use Rattle.pb_forest.specs.ServiceVids.{vid_numbered}
use Rattle.pb_frame.proofs.Lists.{first-numbered, first-finds, true-false, false-unless, or-left, or-right}
use Rattle.pb_lan.specs.LastShapes.{last_shape}
use Rattle.pb_lan.specs.declared.plan.Plan.{Plan}
use Rattle.pb_lan.specs.declared.shape.Shape.{Shape}
use Rattle.pb_names.specs.Names.{port_name}
use Rattle.pb_names.specs.Numbers.{port_named}
use Rattle.pb_converge.specs.declared.convergence.Convergence.{Convergence}
use Rattle.pb_cmd_survive.specs.Failures.{is_out}
use Rattle.pb_cmd_survive.specs.Groups.{ports_of, AreGroups}
use Rattle.pb_cmd_survive.specs.Impacts.{IsImpact}
use Rattle.pb_cmd_survive.specs.Reach.{CanReach}
use Rattle.pb_cmd_survive.specs.Verdicts.{is_converged}
use Rattle.pb_cmd_survive.specs.Views.{IsView, AreViews}
use Rattle.pb_cmd_survive.specs.declared.impact.Impact.{Impact}
use Rattle.pb_cmd_survive.specs.declared.sites.Site.{Site}
use Rattle.pb_cmd_survive.proofs.GroupLemmas.{contained}
use Rattle.pb_cmd_survive.specs.declared.view.View.{View}
use Rattle.pb_cmd_diff.specs.Compared.{service_in}
use Rattle.pb_cmd_diff.specs.Effects.{change_of, effect_of, IsEffect}
use Rattle.pb_cmd_diff.specs.Losses.{port_in, AreShared, HaveReached, DoReach, Loses, Gains}
use Rattle.pb_cmd_diff.specs.Losses.{IsHarmed, IsHelped, Differ, AreHarmed, AreHelped}
use Rattle.pb_cmd_diff.specs.Members.{site_in, member_by, members, is_disconnected, is_joined}
use Rattle.pb_cmd_diff.specs.Members.{are_disconnected, are_joined}
use Rattle.pb_cmd_diff.specs.Verdicts.{harms, helps, is_worse, is_better}
use Rattle.pb_cmd_diff.specs.declared.case.Case.{Case}
use Rattle.pb_cmd_diff.specs.declared.effect.Effect.{Effect}
use Rattle.pb_cmd_diff.specs.declared.effect.ServiceChange.{ServiceChange}
use Rattle.pb_cmd_diff.specs.declared.member.Member.{Member}
use Rattle.pb_relay.proofs.StandingLemmas.{and-true}
use Rattle.pb_cmd_diff.proofs.MemberLemmas.{contains_none, contains_cases, at_of, contains_map}
use Rattle.pb_cmd_diff.proofs.MemberLemmas.{contains_unmap, contains_flat, contains_unflat, pair_of, pair_passes}
use Rattle.pb_cmd_diff.proofs.MemberLemmas.{and_not, either, same_passes, passes_same}

-- a member, and the port that it is in both networks
record IsMade (old new : Plan) (olds news : List Site) (m : Member) : Type 0 where
  s : Site
  s_there : Contains olds s
  t : Site
  t_there : Contains news t
  named : t.port ≡ port_in old new s.port
  was : m.old ≡ s.group
  is : m.new ≡ t.group

-- the port that is found in NEW has the name
found_named : (old new : Plan) (news : List Site) (s t : Site) → site_in old new news s ≡ Some t
    → Contains news t × (t.port ≡ port_in old new s.port)
found_named old new news s t e =
    let at = first-numbered (λ v. v.port == port_named new (port_name old s.port)) news t e in
    (contained news at.0 t at.1, passes_same t.port (port_named new (port_name old s.port)) at.2)

-- each member is made of a port of both
made_of : (old new : Plan) (olds news : List Site) (m : Member) → Contains (members old new olds news) m
    → IsMade old new olds news m
made_of old new olds news m c =
    let at = contains_unflat (λ s. member_by s (site_in old new news s)) olds m c in
    by at.0 at.1 (site_in old new news at.0) refl at.2
  where
    by : (s : Site) → Contains olds s → (o : Option Site) → site_in old new news s ≡ o → Contains (member_by s o) m
        → IsMade old new olds news m
    by s d None e h = absurd (contains_none m h)
    by s d (Some t) e h = with_member s d t e (contains_cases (record { port = s.port; old = s.group; new = t.group })
        [] m h)
      where
        with_member : (s : Site) → Contains olds s → (t : Site) → site_in old new news s ≡ Some t
            → (record { port = s.port; old = s.group; new = t.group } ≡ m) ⊎ Contains [] m
            → IsMade old new olds news m
        with_member s d t e (inr h) = absurd (contains_none m h)
        with_member s d t e (inl h) =
            let found = found_named old new news s t e in
            record {
              s = s;
              s_there = d;
              t = t;
              t_there = found.0;
              named = found.1;
              was = ap (λ (v : Member). v.old) (sym h);
              is = ap (λ (v : Member). v.new) (sym h);
            }

-- a port of both is a member
member_of : (old new : Plan) (olds news : List Site) (s t : Site) → Contains olds s → Contains news t
    → t.port ≡ port_in old new s.port
    → (m : Member) × Contains (members old new olds news) m × (u : Site) × Contains news u
    × (u.port ≡ port_in old new s.port) × (m.old ≡ s.group) × (m.new ≡ u.group)
member_of old new olds news s t c d e =
    let at = at_of news t d in
    let found = first-finds (λ v. v.port == port_named new (port_name old s.port)) news at.0 t at.1
    (same_passes t.port (port_named new (port_name old s.port)) e) in
    let u = found.0 in
    let named = found_named old new news s u found.1 in
    let m : Member = record { port = s.port; old = s.group; new = u.group } in (
      m,
      contains_flat (λ v. member_by v (site_in old new news v)) olds s m c
          (subst (λ o. Contains (member_by s o) m) (sym found.1) (0, omega arith, refl)),
      u,
      named.0,
      named.1,
      refl,
      refl,
    )

-- two members, and two ports of the service
record ArePair (old new : Plan) (before after : Shape) (what : Case) (service : ℕ) (m n : Member) (p q : ℕ) : Type 0
  where
    shared : AreShared old new service p q
    was : (m.old ≡ n.old) ↔ HaveReached old before what service p q
    is : (m.new ≡ n.new) ↔ DoReach old new after what service p q

-- the groups of a service's ports in both networks
record AreBoth (old new : Plan) (before after : Shape) (what : Case) (service : ℕ) (olds news : List Site) : Type 0
  where
    groups_old : AreGroups old before (is_out old [] what.old) service (vid_numbered old service) olds
    groups_new : AreGroups new after (is_out new [] what.new) (service_in old new service)
        (vid_numbered new (service_in old new service)) news

-- the members of four ports are a pair
pair_by : (old new : Plan) (before after : Shape) (what : Case) (service : ℕ) (olds news : List Site)
    → AreBoth old new before after what service olds news
    → (m n : Member) (s t u v : Site) → Contains olds s → Contains news t → Contains olds u → Contains news v
    → t.port ≡ port_in old new s.port → v.port ≡ port_in old new u.port
    → m.old ≡ s.group → m.new ≡ t.group → n.old ≡ u.group → n.new ≡ v.group
    → ArePair old new before after what service m n s.port u.port
pair_by old new before after what service olds news b m n s t u v cs ct cu cv e f ms mt nu nv = record {
  shared = record {
    p_was = in_old s cs;
    q_was = in_old u cu;
    p_is = in_new s t ct e;
    q_is = in_new u v cv f;
  };
  was = (
    λ h. (b.groups_old.together s u cs cu).0 (sym ms ∙ h ∙ nu),
    λ r. ms ∙ (b.groups_old.together s u cs cu).1 r ∙ sym nu,
  );
  is = (
    λ h. subst (λ x. CanReach new after (is_out new [] what.new) vid x (port_in old new u.port)) e
        (subst (λ x. CanReach new after (is_out new [] what.new) vid t.port x) f
        ((b.groups_new.together t v ct cv).0 (sym mt ∙ h ∙ nv))),
    λ r. mt ∙ (b.groups_new.together t v ct cv).1
        (subst (λ x. CanReach new after (is_out new [] what.new) vid x v.port) (sym e)
        (subst (λ x. CanReach new after (is_out new [] what.new) vid (port_in old new s.port) x) (sym f) r)) ∙ sym nv,
  );
}
  where
    vid : ℕ
    vid = vid_numbered new (service_in old new service)

    in_old : (x : Site) → Contains olds x → Contains (ports_of old service) x.port
    in_old x c = subst (λ ps. Contains ps x.port) b.groups_old.ports (contains_map (λ (y : Site). y.port) olds x c)

    in_new : (x y : Site) → Contains news y → y.port ≡ port_in old new x.port
        → Contains (ports_of new (service_in old new service)) (port_in old new x.port)
    in_new x y c h = subst (λ k. Contains (ports_of new (service_in old new service)) k) h
        (subst (λ ps. Contains ps y.port) b.groups_new.ports (contains_map (λ (z : Site). z.port) news y c))

-- two members are a pair
pair_made : (old new : Plan) (before after : Shape) (what : Case) (service : ℕ) (olds news : List Site)
    → AreBoth old new before after what service olds news
    → (m n : Member) → Contains (members old new olds news) m → Contains (members old new olds news) n
    → (p q : ℕ) × ArePair old new before after what service m n p q
pair_made old new before after what service olds news b m n c d =
    let i = made_of old new olds news m c in
    let j = made_of old new olds news n d in (
      i.s.port,
      j.s.port,
      pair_by old new before after what service olds news b m n i.s i.t j.s j.t i.s_there i.t_there j.s_there j.t_there
          i.named j.named i.was i.is j.was j.is,
    )

-- a port of the service in both plans, with its sites
record IsPlaced (old new : Plan) (olds news : List Site) (p : ℕ) : Type 0 where
  s : Site
  s_there : Contains olds s
  m : Member
  m_there : Contains (members old new olds news) m
  u : Site
  u_there : Contains news u
  named : u.port ≡ port_in old new s.port
  was : m.old ≡ s.group
  is : m.new ≡ u.group
  port : s.port ≡ p

placed : (old new : Plan) (before after : Shape) (what : Case) (service : ℕ) (olds news : List Site)
    → AreBoth old new before after what service olds news → (p : ℕ) → Contains (ports_of old service) p
    → Contains (ports_of new (service_in old new service)) (port_in old new p) → IsPlaced old new olds news p
placed old new before after what service olds news b p c d =
    let one = contains_unmap (λ (y : Site). y.port) olds p (subst (λ ps. Contains ps p) (sym b.groups_old.ports) c) in
    let other = contains_unmap (λ (y : Site). y.port) news (port_in old new p)
    (subst (λ ps. Contains ps (port_in old new p)) (sym b.groups_new.ports) d) in
    let made = member_of old new olds news one.0 other.0 one.1 other.1 (other.2 ∙ ap (port_in old new) (sym one.2)) in
    record {
      s = one.0;
      s_there = one.1;
      m = made.0;
      m_there = made.1;
      u = made.2;
      u_there = made.3;
      named = made.4;
      was = made.5;
      is = made.6;
      port = one.2;
    }

-- two shared ports are a pair of members
pair_placed : (old new : Plan) (before after : Shape) (what : Case) (service : ℕ) (olds news : List Site)
    → AreBoth old new before after what service olds news → (p q : ℕ) → AreShared old new service p q
    → (m n : Member) × Contains (members old new olds news) m × Contains (members old new olds news) n
    × ArePair old new before after what service m n p q
pair_placed old new before after what service olds news b p q h =
    let i = placed old new before after what service olds news b p h.p_was h.p_is in
    let j = placed old new before after what service olds news b q h.q_was h.q_is in (
      i.m,
      j.m,
      i.m_there,
      j.m_there,
      subst (λ x. ArePair old new before after what service i.m j.m x q) i.port
          (subst (λ x. ArePair old new before after what service i.m j.m i.s.port x) j.port
          (pair_by old new before after what service olds news b i.m j.m i.s i.u j.s j.u i.s_there i.u_there j.s_there
          j.u_there
          i.named j.named i.was i.is j.was j.is)),
    )

-- ports are disconnected exactly if the service loses two
loses_tells : (old new : Plan) (before after : Shape) (what : Case) (service : ℕ) (olds news : List Site)
    → AreBoth old new before after what service olds news
    → (are_disconnected (members old new olds news) ≡ true) ↔ Loses old new before after what service
loses_tells old new before after what service olds news b = (to, from)
  where
    ms : List Member
    ms = members old new olds news

    to : are_disconnected ms ≡ true → Loses old new before after what service
    to h =
        let two = pair_of is_disconnected ms h in
        let m = two.0 in
        let n = two.1 in
        let disconnected = and-true (m.old == n.old) (m.new == n.new) two.4 in
        let pair = pair_made old new before after what service olds news b m n two.2 two.3 in
        record {
          p = pair.0;
          q = pair.1;
          shared = pair.2.shared;
          reached = pair.2.was.0 (passes_same m.old n.old disconnected.0);
          lost = λ r. true-false (m.new == n.new) (same_passes m.new n.new (pair.2.is.1 r)) disconnected.1;
        }

    from : Loses old new before after what service → are_disconnected ms ≡ true
    from l =
        let two = pair_placed old new before after what service olds news b l.p l.q l.shared in
        let m = two.0 in
        let n = two.1 in
        pair_passes is_disconnected ms m n two.2 two.3
        (and_not (m.old == n.old) (m.new == n.new) (same_passes m.old n.old (two.4.was.1 l.reached))
        (false-unless (m.new == n.new) (λ h. l.lost (two.4.is.0 (passes_same m.new n.new h)))))

-- ports are joined exactly if the service gains two
gains_tells : (old new : Plan) (before after : Shape) (what : Case) (service : ℕ) (olds news : List Site)
    → AreBoth old new before after what service olds news
    → (are_joined (members old new olds news) ≡ true) ↔ Gains old new before after what service
gains_tells old new before after what service olds news b = (to, from)
  where
    ms : List Member
    ms = members old new olds news

    to : are_joined ms ≡ true → Gains old new before after what service
    to h =
        let two = pair_of is_joined ms h in
        let m = two.0 in
        let n = two.1 in
        let joined = and-true (m.new == n.new) (m.old == n.old) two.4 in
        let pair = pair_made old new before after what service olds news b m n two.2 two.3 in
        record {
          p = pair.0;
          q = pair.1;
          shared = pair.2.shared;
          apart = λ r. true-false (m.old == n.old) (same_passes m.old n.old (pair.2.was.1 r)) joined.1;
          gained = pair.2.is.0 (passes_same m.new n.new joined.0);
        }

    from : Gains old new before after what service → are_joined ms ≡ true
    from g =
        let two = pair_placed old new before after what service olds news b g.p g.q g.shared in
        let m = two.0 in
        let n = two.1 in
        pair_passes is_joined ms m n two.2 two.3
        (and_not (m.new == n.new) (m.old == n.old) (same_passes m.new n.new (two.4.is.1 g.gained))
        (false-unless (m.old == n.old) (λ h. g.apart (two.4.was.0 (passes_same m.old n.old h)))))

-- one holds and the other does not, by tests that tell
differ_tells : {A B : Type 0} (a b : Bool) → (a ≡ true) ↔ A → (b ≡ true) ↔ B → ((a && not b) ≡ true) ↔ (A × (B → ⊥))
differ_tells {A} {B} a b f g = (to, from)
  where
    to : (a && not b) ≡ true → A × (B → ⊥)
    to h = let two = and-true a b h in (f.0 two.0, λ x. true-false b (g.1 x) two.1)

    from : A × (B → ⊥) → (a && not b) ≡ true
    from (x, y) = and_not a b (f.1 x) (false-unless b (λ h. y (g.0 h)))

-- one of two holds, by tests that tell
either_tells : {A B : Type 0} (a b : Bool) → (a ≡ true) ↔ A → (b ≡ true) ↔ B → ((a || b) ≡ true) ↔ (A ⊎ B)
either_tells {A} {B} a b f g = (to, from)
  where
    side : (a ≡ true) ⊎ (b ≡ true) → A ⊎ B
    side (inl h) = inl (f.0 h)
    side (inr h) = inr (g.0 h)

    to : (a || b) ≡ true → A ⊎ B
    to h = side (either a b h)

    from : A ⊎ B → (a || b) ≡ true
    from (inl x) = or-left a b (f.1 x)
    from (inr y) = or-right a b (g.1 y)

-- the views of a service in both networks
record AreSeen (old new : Plan) (before after : Shape) (what : Case) (service : ℕ) (was is : View) : Type 0 where
  old_view : IsView old before (is_out old [] what.old) service was
  new_view : IsView new after (is_out new [] what.new) (service_in old new service) is

both_of : (old new : Plan) (before after : Shape) (what : Case) (service : ℕ) (was is : View)
    → AreSeen old new before after what service was is
    → AreBoth old new before after what service was.sites is.sites
both_of old new before after what service was is v = record {
  groups_old = v.old_view.groups;
  groups_new = v.new_view.groups;
}

-- a service is harmed exactly if its change says so
harms_tells : (old new : Plan) (before after : Shape) (what : Case) (service : ℕ) (was is : View)
    → AreSeen old new before after what service was is
    → (harms (change_of old new (was, is)) ≡ true) ↔ IsHarmed old new before after what service
harms_tells old new before after what service was is v =
    either_tells (are_disconnected (members old new was.sites is.sites)) (was.is_forest && not is.is_forest)
    (loses_tells old new before after what service was.sites is.sites
    (both_of old new before after what service was is v))
    (differ_tells was.is_forest is.is_forest v.old_view.forest v.new_view.forest)

-- a service is helped exactly if its change says so
helps_tells : (old new : Plan) (before after : Shape) (what : Case) (service : ℕ) (was is : View)
    → AreSeen old new before after what service was is
    → (helps (change_of old new (was, is)) ≡ true) ↔ IsHelped old new before after what service
helps_tells old new before after what service was is v =
    either_tells (are_joined (members old new was.sites is.sites)) (is.is_forest && not was.is_forest)
    (gains_tells old new before after what service was.sites is.sites
    (both_of old new before after what service was is v))
    (differ_tells is.is_forest was.is_forest v.new_view.forest v.old_view.forest)

-- the first change, or some later one, passes a test exactly if the first service, or some later one, has what it tells
first_tells : (P : ℕ → Type 0) (s : ℕ) (ss : List ℕ) (a b : Bool) → (a ≡ true) ↔ P s → (b ≡ true) ↔ Any P ss
    → ((a || b) ≡ true) ↔ Any P (s ∷ ss)
first_tells P s ss a b here later = (to, from)
  where
    side : (a ≡ true) ⊎ (b ≡ true) → Any P (s ∷ ss)
    side (inl h) = (0, s, omega arith, refl, here.0 h)
    side (inr h) = let r = later.0 h in (suc r.0, r.1, omega (arith, r.2), r.3, r.4)

    to : (a || b) ≡ true → Any P (s ∷ ss)
    to h = side (either a b h)

    from : Any P (s ∷ ss) → (a || b) ≡ true
    from (zero, z, less, e, p) = or-left a b (here.1 (subst P (sym e) p))
    from (suc k, z, less, e, p) = or-right a b (later.1 (k, z, omega (arith, less), e, p))

-- some change passes a test exactly if some service has what the test tells
some_tells : (old new : Plan) (before after : Shape) (what : Case) (test : ServiceChange → Bool) (P : ℕ → Type 0)
    → ((service : ℕ) (was is : View) → AreSeen old new before after what service was is
    → (test (change_of old new (was, is)) ≡ true) ↔ P service)
    → (services : List ℕ) (olds news : List View)
    → AreViews old before (is_out old [] what.old) services olds
    → AreViews new after (is_out new [] what.new) (map (service_in old new) services) news
    → (list_any test (map (change_of old new) (zip olds news)) ≡ true) ↔ Any P services
some_tells old new before after what test P each [] [] [] v w = (λ h. cc, λ a. absurd (omega (arith, a.2)))
some_tells old new before after what test P each [] [] (y ∷ ys) v w = absurd w
some_tells old new before after what test P each [] (x ∷ xs) news v w = absurd v
some_tells old new before after what test P each (s ∷ ss) [] news v w = absurd v
some_tells old new before after what test P each (s ∷ ss) (x ∷ xs) [] v w = absurd w
some_tells old new before after what test P each (s ∷ ss) (x ∷ xs) (y ∷ ys) v w =
    first_tells P s ss (test (change_of old new (x, y))) (list_any test (map (change_of old new) (zip xs ys)))
    (each s x y (record { old_view = v.0; new_view = w.0 }))
    (some_tells old new before after what test P each ss xs ys v.1 w.1)

-- the bridges converge in one network and not in the other
convergence_tells : (was is : Convergence) → ((is_converged was && not (is_converged is)) ≡ true) ↔ Differ was is
convergence_tells was is = (
  λ h. and-true (is_converged was) (is_converged is) h,
  λ d. and_not (is_converged was) (is_converged is) d.0 d.1,
)

-- two impacts, and the effect that compares them
pub effect_is : (old new : Plan) (services : List ℕ) (ticks events : ℕ) (what : Case) (before after : Impact)
    (effect : Effect)
    → IsImpact old [] services ticks events what.old before
    → IsImpact new [] (map (service_in old new) services) ticks events what.new after
    → effect ≡ effect_of old new what before after
    → IsEffect old new services ticks events what effect
effect_is old new services ticks events what before after effect b a e = record {
  before = before;
  is_before = b;
  after = after;
  is_after = a;
  compared = e;
  worse = subst (λ x. (is_worse x ≡ true) ↔ AreHarmed old new services was is what before.convergence after.convergence)
      (sym e)
      (either_tells (list_any harms changes) (is_converged before.convergence && not (is_converged after.convergence))
      (some_tells old new was is what harms (IsHarmed old new was is what) (harms_tells old new was is what)
      services before.views after.views b.views a.views)
      (convergence_tells before.convergence after.convergence));
  better = subst
      (λ x. (is_better x ≡ true) ↔ AreHelped old new services was is what before.convergence after.convergence) (sym e)
      (either_tells (list_any helps changes) (is_converged after.convergence && not (is_converged before.convergence))
      (some_tells old new was is what helps (IsHelped old new was is what) (helps_tells old new was is what)
      services before.views after.views b.views a.views)
      (convergence_tells after.convergence before.convergence));
}
  where
    was : Shape
    was = last_shape old b.last.rec

    is : Shape
    is = last_shape new a.last.rec

    changes : List ServiceChange
    changes = map (change_of old new) (zip before.views after.views)
