-- The local ports that a plan uses.
use Rattle.std.proofs.Common.{◌≡◌, ℕ, true, ◌||◌, Some, None, is_some}
use Rattle.std.proofs.Common.{refl, ◌∙◌}
use Rattle.std.specs.List.{list_any}
use Rattle.std.specs.declared.option.Option.{Option}
use Rattle.pb_frame.specs.Lists.{first}
use Rattle.pb_lan.proofs.StateLemmas.{is_some-first, is_some-ends}
use Rattle.pb_lan.specs.Ports.{Port, port_at, is_used, is_customer_at, is_end_at, all_ends, customer_or_else}
use Rattle.pb_lan.specs.Ports.{provider_or_unused}
use Rattle.pb_lan.specs.declared.plan.CustomerPlan.{CustomerPlan}
use Rattle.pb_lan.specs.declared.plan.End.{End}
use Rattle.pb_lan.specs.declared.plan.Plan.{Plan}

some_customer : (o : Option CustomerPlan) (other : Port) → is_some o ≡ true → is_used (customer_or_else o other) ≡ true
some_customer None other e = cc
some_customer (Some c) other e = refl

pub customer_used : (plan : Plan) (b q : ℕ) → list_any (is_customer_at b q) plan.customers ≡ true
    → is_used (port_at plan b q) ≡ true
customer_used plan b q e =
    some_customer (first (is_customer_at b q) plan.customers)
    (provider_or_unused (first (is_end_at b q) (all_ends plan)))
    (is_some-first (is_customer_at b q) plan.customers ∙ e)

some_port : (o : Option CustomerPlan) (p : Option End) → is_some p ≡ true
    → is_used (customer_or_else o (provider_or_unused p)) ≡ true
some_port None None e = cc
some_port None (Some d) e = refl
some_port (Some c) p e = refl

pub end_used : (plan : Plan) (b q : ℕ) → list_any (λ l. is_end_at b q l.a || is_end_at b q l.b) plan.links ≡ true
    → is_used (port_at plan b q) ≡ true
end_used plan b q e =
    some_port (first (is_customer_at b q) plan.customers) (first (is_end_at b q) (all_ends plan))
    (is_some-ends (is_end_at b q) plan.links ∙ e)
