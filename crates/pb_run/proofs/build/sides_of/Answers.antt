use Rattle.std.proofs.Common.{◌≡◌, ◌+◌, ℕ, length, ap, arith}
use Rattle.rtrb.specs.Ring.{sent, received}
use Rattle.pb_ring.specs.declared.ends.Inlet.{Inlet}
use Rattle.pb_ring.specs.declared.ends.Outlet.{Outlet}
use Rattle.pb_run.specs.Wires.{ring_into, ring_out}
use Rattle.pb_run.proofs.Lists.{numbers_more, none_shown, nothing_more}
use Rattle.pb_run.proofs.build.sides_of.Goals as goal

pub inner-inlet-requires : goal.inner-inlet-requires
inner-inlet-requires g c = c.loop-place.invariant.there (c.loop-place.place + 1) (omega arith) (omega arith)

pub loop-place-init : goal.loop-place-init
loop-place-init g c =
    let I : Type 0 = Inlet g.row.W.Denot g.W.Wiring in
    let O : Type 0 = Outlet g.row.W.Denot g.W.Wiring in
    record {
      count = (c.in_ok-inlets.ensures.len, c.in_ok-outlets.ensures.len);
      into = λ q less. absurd (omega (arith, less));
      out = λ q less. absurd (omega (arith, less));
      received = none_shown (λ (end : I). received end.end) c.in_ok-inlets.inlets.items c.in_ok-inlets.ensures.items;
      sent = none_shown (λ (end : O). sent end.end) c.in_ok-outlets.outlets.items c.in_ok-outlets.ensures.items;
      there = λ port above within. c.requires port (omega arith, within);
      inner = λ at other h. h;
      outer = λ at h. h;
    }

pub loop-place-preserved : goal.loop-place-preserved
loop-place-preserved g c =
    let I : Type 0 = Inlet g.row.W.Denot g.W.Wiring in
    let O : Type 0 = Outlet g.row.W.Denot g.W.Wiring in
    let i = c.loop-place.invariant in
    let place = c.loop-place.place in
    let counted_in : length c.loop-place.inlets.items ≡ place = omega (arith, i.count.0, c.loop-place.inlets.ok) in
    let counted_out : length c.loop-place.outlets.items ≡ place = omega (arith, i.count.1, c.loop-place.outlets.ok) in
    record {
      count = (
        omega (arith, i.count.0, c.in_ok-push.ensures.len),
        omega
            (arith, i.count.1, c.in_ok-push-2.ensures.len),
      );
      into = rw c.in_ok-push.ensures.items
          (numbers_more (λ (end : I). end.number) (λ q. ring_into c.args.bridge (q + 1)) c.loop-place.inlets.items
          c.inner-inlet.result.0 place counted_in i.into c.inner-inlet.ensures.inlet.0);
      out = rw c.in_ok-push-2.ensures.items
          (numbers_more (λ (end : O). end.number) (λ q. ring_out c.args.bridge (q + 1)) c.loop-place.outlets.items
          c.inner-inlet.result.1 place counted_out i.out c.inner-inlet.ensures.outlet.0);
      received = rw c.in_ok-push.ensures.items (nothing_more (λ (end : I). received end.end) c.loop-place.inlets.items
          c.inner-inlet.result.0 i.received c.inner-inlet.ensures.inlet.1);
      sent = rw c.in_ok-push-2.ensures.items (nothing_more (λ (end : O). sent end.end) c.loop-place.outlets.items
          c.inner-inlet.result.1 i.sent c.inner-inlet.ensures.outlet.1);
      there = λ port above within.
          c.inner-inlet.ensures.inner (c.args.bridge, port)
          (λ same. let next : port ≡ place + 1 = ap (λ (at : ℕ × ℕ). at.1) same in omega arith)
          (i.there port (omega arith) within);
      inner = λ at other h. c.inner-inlet.ensures.inner at (λ same. other (ap (λ (z : ℕ × ℕ). z.0) same))
          (i.inner at other h);
      outer = λ at h. c.inner-inlet.ensures.outer at (i.outer at h);
    }
