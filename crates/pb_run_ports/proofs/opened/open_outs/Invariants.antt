use Rattle.std.proofs.Common.{◌≡◌, ◌++◌, map}
use Rattle.std.specs.Vec.Iter.{into_iter_items}
use Rattle.pb_run_ports.specs.Deeds.{Begun}
use Rattle.pb_run_ports.specs.Opened.{octets_at, shown, written}
use Rattle.pb_run_ports.proofs.opened.open_outs.Given as goal

abbrev pub invariant-loop-port : goal.invariant-loop-port
invariant-loop-port g l = record {
  ports : map shown l.whole.items ++ map shown (into_iter_items l.port-iterator) ≡ map shown
      (into_iter_items l.initial.port-iterator);
  octets : map (octets_at g.O.Openings.unread) l.whole.items
      ++ map (octets_at g.O.Openings.unread) (into_iter_items l.port-iterator)
      ≡ map (octets_at g.O.Openings.unread) (into_iter_items l.initial.port-iterator);
  done : Begun (g.O.Openings.done l.initial.opener) (g.O.Openings.done l.opener)
      (written (map shown (into_iter_items l.initial.port-iterator)))
      (written (map shown (into_iter_items l.port-iterator)));
}
