use Rattle.std.proofs.Common.{◌≡◌, suc, ◌+◌, ◌<◌, ◌∷◌, ◌++◌, [], ℕ, List, drop, get_or, ap, sym, subst, ◌∙◌, arith}
use Rattle.std.proofs.Common.{append_assoc}
use Rattle.std.proofs.Math.Seq.{drop-cons}
use Rattle.std.specs.List.{AllByRecursion}
use Rattle.pb_frame.proofs.Lists.{All-append}
use Rattle.pb_lan.specs.PortSets.{AreAscending}
use Rattle.pb_lan.proofs.port_set.PortSet.from_slice.Goals as goal

pub push-requires : goal.push-requires
push-requires c = record {
  first = omega (arith, c.if-port-last.false);
  last = omega (arith, c.if-from-gt-PORTS.false, c.from.ensures);
  after = c.loop-port.invariant.before (get_or c.args.ports.now c.loop-port.port-index 0)
      (omega (arith, c.if-port-last.false));
}

pub loop-port-preserved : goal.loop-port-preserved
loop-port-preserved c =
    let i = c.loop-port.port-index in
    let p = get_or c.args.ports.now i 0 in
    let s : suc i ≡ i + 1 = omega arith in
    let above : c.loop-port.last < p = omega (arith, c.if-port-last.false) in
    let cells : drop i c.args.ports.now ≡ p ∷ drop (i + 1) c.args.ports.now =
    drop-cons c.args.ports.now i 0 (omega (arith, c.loop-port-test.true)) ∙ ap (λ k. p ∷ drop k c.args.ports.now) s in
    record {
      set = ap (λ ps. ps ++ drop (i + 1) c.args.ports.now) c.push.ensures
          ∙ append_assoc c.loop-port.set (p ∷ []) (drop (i + 1) c.args.ports.now)
          ∙ ap (λ ps. c.loop-port.set ++ ps) (sym cells) ∙ c.loop-port.invariant.set;
      before = λ b l. subst (λ (ps : List ℕ). AllByRecursion (λ q. q < b) ps) (sym c.push.ensures)
          (All-append (λ q. q < b) c.loop-port.set (p ∷ []) (c.loop-port.invariant.before b (omega (arith, above, l)))
          (l, tt));
      last = omega (arith, c.if-from-gt-PORTS.false, c.from.ensures);
      behind = λ a. (subst (λ (ps : List ℕ). AreAscending c.loop-port.last ps) cells
          (c.loop-port.invariant.behind a)).2;
    }
