-- The neighbour at a bridge's port, by links and by their ends.
use Rattle.std.proofs.Common.{◌≡◌, ◌||◌, ℕ, Bool, true, false, List, [], ◌∷◌, Option, Some, None, is_some, cond}
use Rattle.std.proofs.Common.{flat_map, Bor, refl, ap, ◌∙◌}
use Rattle.std.specs.Option.{option_copied}
use Rattle.pb_frame.specs.Lists.{first}
use Rattle.pb_lan.specs.Ports.{port_at, customer_or_else, is_end_at, ends_of, provider_or_unused, is_provider}
use Rattle.pb_lan.specs.declared.plan.Plan.{Plan}
use Rattle.pb_lan.specs.declared.plan.End.{End}
use Rattle.pb_lan.specs.declared.plan.LinkPlan.{LinkPlan}
use Rattle.pb_names.specs.Places.{customer_at, has_end, link_at}

-- the first end at the port exists exactly if the first link at it does
first_end : (one other : Bool) (link : LinkPlan) (later : Option LinkPlan) (end : Option End)
    → is_some later ≡ is_provider (provider_or_unused end)
    → is_some (cond (one || other) (Some link) later)
    ≡ is_provider (provider_or_unused (cond one (Some link.a) (cond other (Some link.b) end)))
first_end true other link later end e = refl
first_end false true link later end e = refl
first_end false false link later end e = e

-- a link ends at the port exactly if the port leads to another bridge
link_leads_on : (bridge port : ℕ) (links : List LinkPlan)
    → is_some (first (has_end bridge port) links)
    ≡ is_provider (provider_or_unused (first (is_end_at bridge port) (flat_map ends_of links)))
link_leads_on bridge port [] = refl
link_leads_on bridge port (link ∷ links) =
    first_end (is_end_at bridge port link.a) (is_end_at bridge port link.b) link (first (has_end bridge port) links)
    (first (is_end_at bridge port) (flat_map ends_of links)) (link_leads_on bridge port links)

pub provider_there : (plan : Plan) (bridge port : ℕ) → None ≡ customer_at plan bridge port
    → is_some (link_at plan bridge port) ≡ is_provider (port_at plan bridge port)
provider_there plan bridge port none =
    let end = first (is_end_at bridge port) (flat_map ends_of plan.links) in
    link_leads_on bridge port plan.links ∙ ap (λ c. is_provider (customer_or_else c (provider_or_unused end))) none

-- a copied value exists exactly if its reference does
pub copied_there : {A : Type 0} (o : Option (Bor A)) → is_some o ≡ is_some (option_copied o)
copied_there None = refl
copied_there (Some x) = refl
