use Rattle.std.proofs.Common.{◌≡◌, ◌++◌, ap, map, rules}
use Rattle.std.proofs.lemmas.Result.{err_from_is_err_and}
use Rattle.std.specs.Vec.Iter.{into_iter_items}
use Rattle.pb_run_ports.specs.Opened.{octets_at, opening, shown, written}
use Rattle.pb_run_ports.proofs.DeedLemmas.{begun_none, begun_more, has_begun_more, has_begun_still}
use Rattle.pb_run_ports.proofs.MoveLemmas.{moved_over}
use Rattle.pb_run_ports.proofs.opened.open_outs.Goals as goal

pub loop-port-init : goal.loop-port-init
loop-port-init g c = record {
  ports = ap (λ ports. map shown ports ++ map shown (into_iter_items c.into_iter-port-iterator.result)) c.requires;
  octets = ap (λ ports. map (octets_at g.O.Openings.unread) ports
      ++ map (octets_at g.O.Openings.unread) (into_iter_items c.into_iter-port-iterator.result)) c.requires;
  done = begun_none _ _;
}

pub loop-port-preserved : goal.loop-port-preserved
loop-port-preserved g c = record {
  ports = moved_over shown c.loop-port.whole.items c.push.new.self.items c.in_ok-port.port shown
      (into_iter_items c.loop-port.port-iterator) (into_iter_items c.next.new.self)
      c.in-Some.port _ c.loop-port.invariant.ports c.in_ok-push.ensures.items c.in-Some.ensures.steps.0
      c.in_ok-port.ensures.ok.1;
  octets = moved_over (octets_at g.O.Openings.unread) c.loop-port.whole.items c.push.new.self.items c.in_ok-port.port
      (octets_at g.O.Openings.unread) (into_iter_items c.loop-port.port-iterator) (into_iter_items c.next.new.self)
      c.in-Some.port _ c.loop-port.invariant.octets c.in_ok-push.ensures.items c.in-Some.ensures.steps.0
      c.in_ok-port.ensures.octets;
  done = begun_more _ _ _ _ _ (opening (shown c.in-Some.port).write)
      (written (map shown (into_iter_items c.next.new.self))) c.loop-port.invariant.done
      (ap (λ ports. written (map shown ports)) c.in-Some.ensures.steps.0) c.in_ok-port.ensures.ok.0;
}

pub returns-in_err-push-clause-err : goal.returns-in_err-push-clause-err
returns-in_err-push-clause-err g c =
    let p = err_from_is_err_and c.from_residual-in_err-push.result c.from_residual-in_err-push.ensures.1 in
    let given : into_iter_items c.into_iter-port-iterator.result ≡ c.args.ports.items = search rules in
    rw p.1 (
      p.2,
      has_begun_more _ _ _ _ _ (opening (shown c.in-Some.port).write)
          (written (map shown (into_iter_items c.next.new.self))) _ c.loop-port.invariant.done
          (ap (λ ports. written (map shown ports)) c.in-Some.ensures.steps.0) c.in_ok-port.ensures.ok.0
          (ap (λ ports. written (map shown ports)) given),
    )

pub returns-in_err-port-clause-err : goal.returns-in_err-port-clause-err
returns-in_err-port-clause-err g c =
    let p = err_from_is_err_and c.from_residual.result c.from_residual.ensures.1 in
    let given : into_iter_items c.into_iter-port-iterator.result ≡ c.args.ports.items = search rules in
    rw (p.1, p.2) (
      c.in_err-port.ensures.err.0,
      has_begun_still _ _ _ _ _ _ c.loop-port.invariant.done c.in_err-port.ensures.err.1
          (ap (λ ports. written (map shown ports)) given),
    )
