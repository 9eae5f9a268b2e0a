use Rattle.std.proofs.Common.{◌≡◌, suc, ◌+◌, ◌<◌, ◌∷◌, ◌++◌, [], ℕ, List, drop, get_or, map, ap, sym, subst, ◌∙◌}
use Rattle.std.proofs.Common.{arith, append_assoc}
use Rattle.std.proofs.Math.Seq.{drop-cons}
use Rattle.std.specs.List.{AllByRecursion}
use Rattle.pb_frame.proofs.Lists.{All-append}
use Rattle.std.proofs.lemmas.List.{map-append}
use Rattle.pb_lan.specs.PortSets.{AreAscending}
use Rattle.pb_lan.specs.declared.step.NoRoom.{NoRoom}
use Rattle.pb_lan.specs.declared.step.NoRoom.TheVariants.{Full}
use Rattle.pb_lan.proofs.refusals.Refusals.from_slice.Goals as goal

pub push-requires : goal.push-requires
push-requires c = record {
  first = omega (arith, c.if-port-last.false);
  last = omega (arith, c.if-from-gt-PORTS.false, c.from.ensures);
  after = c.loop-refusal.invariant.before (get_or c.args.refusals.now c.loop-refusal.refusal-index (0, Full)).0
      (omega (arith, c.if-port-last.false));
}

pub loop-refusal-preserved : goal.loop-refusal-preserved
loop-refusal-preserved c =
    let i = c.loop-refusal.refusal-index in
    let r = get_or c.args.refusals.now i (0, Full) in
    let s : suc i ≡ i + 1 = omega arith in
    let above : c.loop-refusal.last < r.0 = omega (arith, c.if-port-last.false) in
    let cells : drop i c.args.refusals.now ≡ r ∷ drop (i + 1) c.args.refusals.now =
    drop-cons c.args.refusals.now i (0, Full) (omega (arith, c.loop-refusal-test.true))
    ∙ ap (λ k. r ∷ drop k c.args.refusals.now) s in
    record {
      set = ap (λ rs. rs ++ drop (i + 1) c.args.refusals.now) c.push.ensures
          ∙ append_assoc c.loop-refusal.set (r ∷ []) (drop (i + 1) c.args.refusals.now)
          ∙ ap (λ rs. c.loop-refusal.set ++ rs) (sym cells) ∙ c.loop-refusal.invariant.set;
      before = λ b l. subst (λ (rs : List (ℕ × NoRoom)). AllByRecursion (λ q. q < b) (map (λ x. x.0) rs))
          (sym c.push.ensures)
          (subst (λ (ps : List ℕ). AllByRecursion (λ q. q < b) ps)
          (sym (map-append (λ x. x.0) c.loop-refusal.set (r ∷ [])))
          (All-append (λ q. q < b) (map (λ x. x.0) c.loop-refusal.set) (r.0 ∷ [])
          (c.loop-refusal.invariant.before b (omega (arith, above, l))) (l, tt)));
      last = omega (arith, c.if-from-gt-PORTS.false, c.from.ensures);
      behind = λ a. (subst (λ (rs : List (ℕ × NoRoom)). AreAscending c.loop-refusal.last (map (λ x. x.0) rs)) cells
          (c.loop-refusal.invariant.behind a)).2;
    }
