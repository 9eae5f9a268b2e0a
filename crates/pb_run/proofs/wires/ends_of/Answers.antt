use Rattle.std.proofs.Common.{◌≡◌, ◌+◌, [], ◌∷◌, Some, length, slice_get, sym, ap, ◌∙◌, arith, length-append}
use Rattle.rtrb.specs.Ring.{sent, received}
use Rattle.pb_run.proofs.EndsThere.{one_more_there}
use Rattle.pb_run.proofs.Lists.{none_there, there_more}
use Rattle.pb_run.proofs.Wiring.{first_named, others_named, first_new, others_new}
use Rattle.pb_run.proofs.wires.ends_of.Goals as goal

pub loop-ring-init : goal.loop-ring-init
loop-ring-init g c =
    let same = c.into_iter-ring-iterator.ensures.into_iter_gives.0 in
    let none : length c.in_ok-outlets.outlets.items ≡ 0 = ap length c.in_ok-outlets.ensures.items in
    record {
      counted = ap length c.in_ok-inlets.ensures.items ∙ sym none;
      sending = λ n o h. absurd (none_there _ n _ c.in_ok-outlets.ensures.items h);
      receiving = λ n i h. absurd (none_there _ n _ c.in_ok-inlets.ensures.items h);
      outlets_there = λ n less. absurd (omega (arith, less, none));
      inlets_there = λ n less. absurd (omega (arith, less, ap length c.in_ok-inlets.ensures.items));
      come = omega (arith, none);
      new = λ n ring h. c.requires.new n ring (ap (λ xs. slice_get xs n) (sym same) ∙ h);
      named = λ n ring h.
          let named = c.requires.named n ring (ap (λ xs. slice_get xs n) (sym same) ∙ h) in
          let e : length c.in_ok-outlets.outlets.items + n ≡ n = omega (arith, none) in
          (ap (slice_get g.W.Wiring.rings) e ∙ named.0, ap (slice_get g.W.Wiring.rings) e ∙ named.1);
    }

pub new-requires : goal.new-requires
new-requires g c =
    let named = first_named (length c.loop-ring.outlets.items) g.W.Wiring.rings c.in-Some.ring _ _
    c.in-Some.ensures.steps.0 c.loop-ring.invariant.named in
    let e : c.len-number.result ≡ length c.loop-ring.outlets.items =
    omega (arith, c.len-number.ensures, c.loop-ring.outlets.ok) in
    ap (slice_get g.W.Wiring.rings) e ∙ named.0

pub new-requires-in-loop-ring : goal.new-requires-in-loop-ring
new-requires-in-loop-ring g c =
    let named = first_named (length c.loop-ring.outlets.items) g.W.Wiring.rings c.in-Some.ring _ _
    c.in-Some.ensures.steps.0 c.loop-ring.invariant.named in
    let e : c.len-number.result ≡ length c.loop-ring.outlets.items =
    omega (arith, c.len-number.ensures, c.loop-ring.outlets.ok) in
    ap (slice_get g.W.Wiring.rings) e ∙ named.1

pub loop-ring-preserved : goal.loop-ring-preserved
loop-ring-preserved g c =
    let k = length c.loop-ring.outlets.items in
    let i = c.loop-ring.invariant in
    let e = c.in-Some.ensures.steps.0 in
    let number : c.len-number.result ≡ k = omega (arith, c.len-number.ensures, c.loop-ring.outlets.ok) in
    let outlets = ap length c.in_ok-push.ensures.items
    ∙ length-append c.loop-ring.outlets.items (Some c.new.result ∷ []) in
    let inlets = ap length c.in_ok-push-2.ensures.items
    ∙ length-append c.loop-ring.inlets.items (Some c.new-in-loop-ring.result ∷ []) in
    let new = first_new c.in-Some.ring _ _ e i.new in
    record {
      counted = inlets ∙ ap (λ n. n + 1) i.counted ∙ sym outlets;
      sending = there_more _ c.loop-ring.outlets.items c.push.new.self.items c.new.result c.in_ok-push.ensures.items
          i.sending
          (c.new.ensures.number ∙ number, ap sent c.new.ensures.end ∙ new.1);
      receiving = there_more _ c.loop-ring.inlets.items c.push-in-loop-ring.new.self.items c.new-in-loop-ring.result
          c.in_ok-push-2.ensures.items i.receiving (
            c.new-in-loop-ring.ensures.number ∙ number ∙ sym i.counted,
            ap received c.new-in-loop-ring.ensures.end
                ∙ new.2,
          );
      outlets_there = one_more_there c.loop-ring.outlets.items c.push.new.self.items c.new.result
          c.in_ok-push.ensures.items i.outlets_there;
      inlets_there = one_more_there c.loop-ring.inlets.items c.push-in-loop-ring.new.self.items
          c.new-in-loop-ring.result c.in_ok-push-2.ensures.items i.inlets_there;
      come = omega (arith, outlets, i.come, ap length e);
      new = others_new c.in-Some.ring _ _ e i.new;
      named = λ n ring h.
          let named = others_named k g.W.Wiring.rings c.in-Some.ring _ _ e i.named n ring h in
          let at = ap (λ m. slice_get g.W.Wiring.rings (m + n)) outlets in
          (at ∙ named.0, at ∙ named.1);
    }
