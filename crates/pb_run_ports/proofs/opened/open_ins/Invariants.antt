use Rattle.std.proofs.Common.{◌≡◌, ◌++◌, map}
use Rattle.std.specs.List.{flat_map}
use Rattle.std.specs.Vec.Iter.{into_iter_items}
use Rattle.pb_run_ports.specs.Deeds.{Begun}
use Rattle.pb_run_ports.specs.Opened.{asked, entering, octets_at, octets_in, shown}
use Rattle.pb_run_ports.proofs.opened.open_ins.Given as goal

abbrev pub invariant-loop-spec : goal.invariant-loop-spec
invariant-loop-spec g l = record {
  ports : map shown l.ports.items ++ map asked (into_iter_items l.spec-iterator) ≡ map asked
      (into_iter_items l.initial.spec-iterator);
  octets : map (octets_at g.O.Openings.unread) l.ports.items
      ++ map (octets_in (g.O.Openings.holds l.initial.opener)) (into_iter_items l.spec-iterator)
      ≡ map (octets_in (g.O.Openings.holds l.initial.opener)) (into_iter_items l.initial.spec-iterator);
  same : g.O.Openings.holds l.opener ≡ g.O.Openings.holds l.initial.opener;
  done : Begun (g.O.Openings.done l.initial.opener) (g.O.Openings.done l.opener)
      (flat_map entering (into_iter_items l.initial.spec-iterator))
      (flat_map entering (into_iter_items l.spec-iterator));
}
