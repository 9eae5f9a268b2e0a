-- The record of the worked examples meets all conditions of the laws: a broadcast goes over one link and leaves
-- another port of its service. This shows that the laws are not empty.
use Rattle.std.proofs.Common.{false, ◌≡◌, ℕ, subst, zero, suc, [], ◌∷◌, refl, true, Some, None, inr, arith, inl}
use Rattle.std.specs.List.{AllByRecursion, IsDistinct}
use Rattle.pb_forest.proofs.DrainedBalance.{tells-drained}
use Rattle.pb_forest.specs.Benches.{CanArrive}
use Rattle.pb_frame.proofs.Lists.{Some-injective}
use Rattle.pb_lan.proofs.RowRecord.{rec, record_lawful}
use Rattle.pb_lan.proofs.Rows.{no_bpdus, an_end, bridge_of, customer_of, link_of, plan}
use Rattle.pb_lan.specs.Counts.{IsUnhindered, hinders, IsHandledUnder}
use Rattle.pb_lan.specs.Forests.{Shows, LeadsUp, HasOneChild}
use Rattle.pb_lan.specs.Laws.{IsTraced, IsReached}
use Rattle.pb_lan.specs.Numbering.{numbered}
use Rattle.pb_lan.specs.Plans.{IsSound, IsSoundBridge, IsNumber, IsSoundEnd, IsSoundCustomer}
use Rattle.pb_lan.specs.Records.{steps_of}
use Rattle.pb_lan.specs.Shapes.{start_shape, is_active}
use Rattle.pb_lan.specs.declared.plan.LinkPlan.{LinkPlan}
use Rattle.pb_lan.specs.declared.plan.CustomerPlan.{CustomerPlan}
use Rattle.pb_lan.specs.declared.shape.Rooted.{Rooted}
use Rattle.pb_lan.specs.declared.shape.Shape.{Shape}
use Rattle.pb_lan.specs.declared.step.Mark.{Mark}

abbrev shape : Shape
shape = start_shape plan

abbrev mark : Mark
mark = record { port = 1; number = 0 }

abbrev entry : CustomerPlan
entry = customer_of 1 1 2 1

plan_sound : IsSound plan
unfolding IsDistinct
plan_sound = record {
  limits = record {
    bridges = omega arith;
    links = omega arith;
    services = omega arith;
    customers = omega arith;
    ring = (omega arith, omega arith);
    steps = (omega arith, omega arith);
    ageing = (omega arith, omega arith);
  };
  names = record {
    bridges = ((refl, tt), (tt, tt));
    links = (tt, tt);
    services = ((refl, tt), (tt, tt));
    customers = ((refl, (refl, tt)), ((refl, tt), (tt, tt)));
  };
  bridges = (sound_bridge 1, (sound_bridge 2, tt));
  addresses = ((refl, tt), (tt, tt));
  ends = (sound_end 1 (omega arith, omega arith), (sound_end 2 (omega arith, omega arith), tt));
  losses = ((tt, tt), tt);
  vids = ((omega arith, omega arith), ((omega arith, omega arith), tt));
  distinct_vids = ((refl, tt), (tt, tt));
  customers = (
    sound_customer 1 1 2 1 (omega arith, omega arith) (omega arith, omega arith) (omega arith, omega arith),
    (
      sound_customer 2 2 2 1 (omega arith, omega arith) (omega arith, omega arith) (omega arith, omega arith),
      (sound_customer 3 2 3 2 (omega arith, omega arith) (omega arith, omega arith) (omega arith, omega arith), tt),
    ),
  );
  ports = (
    (refl, (refl, (refl, (refl, tt)))),
    ((refl, (refl, (refl, tt))), ((refl, (refl, tt)), ((refl, tt), (tt, tt)))),
  );
}
  where
    sound_bridge : (n : ℕ) → IsSoundBridge (bridge_of n 64)
    sound_bridge n = record { address = refl; priority = (refl, omega arith); queue = (omega arith, omega arith) }

    sound_end : (n : ℕ) → IsNumber n 2 → IsSoundEnd plan (an_end n 1)
    sound_end n h = record {
      bridge = h;
      port = (omega arith, omega arith);
      cost = (omega arith, omega arith);
      priority = (refl, omega arith);
      services = tt;
    }

    sound_customer : (n bridge port service : ℕ) → IsNumber bridge 2 → IsNumber port 16 → IsNumber service 2
        → IsSoundCustomer plan (customer_of n bridge port service)
    sound_customer n bridge port service b p s =
        record { bridge = b; port = p; service = s; priority = omega arith; queue = (omega arith, omega arith) }

traced : IsTraced plan shape rec mark entry
traced = record { planned = refl; forest = (rooted, shows); handled = handled }
  where
    rooted : Rooted
    rooted = record { up = None ∷ Some 1 ∷ []; depth = 0 ∷ 1 ∷ [] }

    shows : Shows plan shape 100 rooted
    shows = record { parents = refl; depths = refl; ways_up = ways_up; roots = roots; children = children }
      where
        ways_up : (bridge number : ℕ) → numbered rooted.up bridge ≡ Some (Some number)
            → LeadsUp plan shape 100 rooted bridge number
        ways_up (suc (suc zero)) number h =
            subst (LeadsUp plan shape 100 rooted 2) (Some-injective (Some-injective h)) (record {
              near = an_end 2 1;
              far = an_end 1 1;
              crosses = record { link = link_of 1 1 1; numbered_so = refl; active = refl; ends = inr (refl, refl) };
              from = refl;
              depth = 0;
              depth_above = refl;
              depth_here = refl;
            })
        ways_up _ number h = cc

        roots : (bridge : ℕ) → numbered rooted.up bridge ≡ Some None → numbered rooted.depth bridge ≡ Some 0
        roots (suc zero) h = refl
        roots (suc (suc zero)) h = cc
        roots _ h = cc

        only : (other : ℕ) → numbered rooted.up other ≡ Some (Some 1) → other ≡ 2
        only (suc (suc zero)) h = refl
        only _ h = cc

        children : (number : ℕ) (link : LinkPlan) → numbered plan.links number ≡ Some link
            → is_active plan shape 100 link ≡ true → HasOneChild rooted number
        children (suc zero) link h a = record { child = 2; up = refl; only = only }
        children _ link h a = cc

    handled : IsHandledUnder plan shape rec mark
    handled (suc zero) = (λ m. refl, (tt, tt))
    handled (suc (suc zero)) = (λ m. refl, (tt, tt))
    handled _ = tt

free : IsUnhindered plan shape 100 rec mark
free = record { bridges = bridges; lanes = lanes; customers = customers }
  where
    bridges : (number : ℕ) → AllByRecursion (λ step. hinders plan shape 100 mark number step ≡ false)
        (steps_of rec.bridges number)
    bridges (suc zero) = (refl, (refl, tt))
    bridges (suc (suc zero)) = (refl, (refl, tt))
    bridges _ = tt

    lanes : (number : ℕ) → AllByRecursion (λ step. hinders plan shape 100 mark number step ≡ false)
        (steps_of rec.lanes number)
    lanes (suc zero) = (refl, (refl, tt))
    lanes (suc (suc zero)) = tt
    lanes _ = tt

    customers : (number : ℕ) → AllByRecursion (λ step. hinders plan shape 100 mark number step ≡ false)
        (steps_of rec.customers number)
    customers (suc zero) = (refl, (refl, tt))
    customers (suc (suc zero)) = (refl, tt)
    customers (suc (suc (suc zero))) = tt
    customers _ = tt

reached : IsReached plan shape mark entry 2 (customer_of 2 2 2 1) (1 ∷ [])
unfolding IsDistinct
reached = record {
  other = λ h. omega (arith, h);
  planned = refl;
  service = refl;
  path_there = (
    (
      an_end 1 1,
      an_end 2 1,
      record {
        link = link_of 1 1 1;
        numbered_so = refl;
        active = refl;
        ends = inl (refl, refl);
      },
      refl,
      refl,
    ),
    (tt, tt),
  );
}

pub can_arrive : CanArrive
can_arrive = record {
  rules = no_bpdus;
  plan = plan;
  shape = shape;
  rec = rec;
  mark = mark;
  entry = entry;
  sound = plan_sound;
  lawful = record_lawful;
  traced = traced;
  drained = (tells-drained no_bpdus plan plan_sound rec record_lawful).0 refl mark;
  unhindered = free;
  number = 2;
  there = customer_of 2 2 2 1;
  link = 1;
  reached = reached;
}
