use Rattle.std.proofs.Common.{◌≡◌, ◌++◌, ◌∙◌, ap, map, refl, rules}
use Rattle.std.proofs.lemmas.Result.{err_from_is_err_and}
use Rattle.std.specs.List.{flat_map}
use Rattle.std.specs.Vec.Iter.{into_iter_items}
use Rattle.pb_run_ports.specs.Opened.{asked, entering, octets_at, octets_in, shown}
use Rattle.pb_run_ports.proofs.DeedLemmas.{begun_none, begun_more, has_begun_more}
use Rattle.pb_run_ports.proofs.MoveLemmas.{moved_over}
use Rattle.pb_run_ports.proofs.opened.open_ins.Goals as goal

pub loop-spec-init : goal.loop-spec-init
loop-spec-init g c = record {
  ports = ap (λ ports. map shown ports ++ map asked (into_iter_items c.into_iter-spec-iterator.result))
      c.new-ports.ensures.items;
  octets = ap (λ ports. map (octets_at g.O.Openings.unread) ports
      ++ map (octets_in (g.O.Openings.holds c.args.opener.now)) (into_iter_items c.into_iter-spec-iterator.result))
      c.new-ports.ensures.items;
  same = refl;
  done = begun_none _ _;
}

pub loop-spec-preserved : goal.loop-spec-preserved
loop-spec-preserved g c = record {
  ports = moved_over shown c.loop-spec.ports.items c.push.new.self.items c.in_ok-port.port asked
      (into_iter_items c.loop-spec.spec-iterator) (into_iter_items c.next.new.self)
      c.in-Some.spec _ c.loop-spec.invariant.ports c.in_ok-push.ensures.items c.in-Some.ensures.steps.0
      c.in_ok-port.ensures.ok.1;
  octets = moved_over (octets_at g.O.Openings.unread) c.loop-spec.ports.items c.push.new.self.items c.in_ok-port.port
      (octets_in (g.O.Openings.holds c.args.opener.now)) (into_iter_items c.loop-spec.spec-iterator)
      (into_iter_items c.next.new.self) c.in-Some.spec _ c.loop-spec.invariant.octets c.in_ok-push.ensures.items
      c.in-Some.ensures.steps.0
      (c.in_ok-port.ensures.octets ∙ ap (λ holds. octets_in holds c.in-Some.spec) c.loop-spec.invariant.same);
  same = c.in_ok-port.ensures.same ∙ c.loop-spec.invariant.same;
  done = begun_more _ _ _ _ _ (entering c.in-Some.spec) (flat_map entering (into_iter_items c.next.new.self))
      c.loop-spec.invariant.done
      (ap (flat_map entering) c.in-Some.ensures.steps.0) c.in_ok-port.ensures.ok.0;
}

pub returns-in_err-push-clause-err : goal.returns-in_err-push-clause-err
returns-in_err-push-clause-err g c =
    let p = err_from_is_err_and c.from_residual-in_err-push.result c.from_residual-in_err-push.ensures.1 in
    let given : into_iter_items c.into_iter-spec-iterator.result ≡ c.args.specs.items = search rules in
    rw p.1 (
      p.2,
      has_begun_more _ _ _ _ _ (entering c.in-Some.spec) (flat_map entering (into_iter_items c.next.new.self)) _
          c.loop-spec.invariant.done
          (ap (flat_map entering) c.in-Some.ensures.steps.0) c.in_ok-port.ensures.ok.0 (ap (flat_map entering) given),
    )
