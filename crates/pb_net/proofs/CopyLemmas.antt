-- The tables of a network's copy.
use Rattle.std.proofs.Common.{◌≡◌, Some, length, slice_get, ap, subst, ◌∙◌}
use Rattle.pb_lan.specs.declared.plan.Plan.{Plan}
use Rattle.pb_net.specs.Slots.{AreTables}
use Rattle.pb_net.specs.declared.slots.Slots.{Slots}

-- equal lists are tables of the same plan
pub tables_over : (plan : Plan) (old new : Slots) → new.uses.items ≡ old.uses.items → new.lanes.items ≡ old.lanes.items
    → new.customers.items ≡ old.customers.items → AreTables plan old → AreTables plan new
tables_over plan old new uses lanes customers t = record {
  use_count = ap length uses ∙ t.use_count;
  lane_count = ap length lanes ∙ t.lane_count;
  customer_count = ap length customers ∙ t.customer_count;
  uses = λ s here there. t.uses s here (subst (λ xs. slice_get xs s ≡ Some here) uses there);
  lanes = λ r at there. t.lanes r at (subst (λ xs. slice_get xs r ≡ Some at) lanes there);
  customers = λ r s there. t.customers r s (subst (λ xs. slice_get xs r ≡ Some s) customers there);
}
