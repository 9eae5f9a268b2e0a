use Rattle.std.proofs.Common.{◌≡◌, ◌∙◌, ap, arith, get_or, length, rules}
use Rattle.std.proofs.lemmas.Grind.{common_steps}
use Rattle.std.specs.Vec.Iter.{into_iter_items}
use Rattle.pb_run_ports.proofs.MoveLemmas.{moved_over}
use Rattle.pb_cmd_run.proofs.CarriedLemmas.{closed_next, closed_none, closed_first, closed_whole}
use Rattle.pb_cmd_run.proofs.rest.close_all.Goals as goal

pub loop-watched-init : goal.loop-watched-init
loop-watched-init g c =
    let none = c.new-rests.result.ok.0 ∙ ap length c.new-rests.ensures.items in
    let all : into_iter_items c.into_iter-watched-iterator.result ≡ c.args.ports.items = search rules in
    record {
      count = search rules;
      both = omega (arith, none, ap length all, c.args.ports.ok.0, c.requires);
      rests = search rules;
      closed = λ end closed. closed_first _ end _ _ _ none closed;
    }

pub loop-watched-preserved : goal.loop-watched-preserved
loop-watched-preserved g c =
    let was = c.loop-watched.invariant in
    let left = into_iter_items c.loop-watched.watched-iterator in
    let rest = into_iter_items c.next.new.self in
    let watched = c.in-Some.watched in
    let paths = c.args.paths.now in
    let path = c.index-paths-place.result in
    let grown = c.in_ok-push.ensures in
    let next = c.in-Some.ensures.steps.0 in
    record {
      count = grind (arith, common_steps);
      both = omega (arith, was.both, ap length next, grown.len);
      rests = moved_over _ c.loop-watched.rests.items c.push.new.self.items _ _ left rest watched _ was.rests
          grown.items next c.in_ok-unsent.ensures.waiting;
      closed = λ end closed.
          was.closed end (closed_next _ _ _ end left rest watched paths _ _ path next grown.len
          (omega (arith, was.both, ap length next))
          (c.index-paths-place.is ∙ ap (λ k. get_or paths k path) c.len-place.ensures)
          c.in_ok-unsent.ensures.file closed);
    }

pub returns-clause-files : goal.returns-clause-files
returns-clause-files g c =
    let left = into_iter_items c.loop-watched.watched-iterator in
    let none : length left ≡ 0 = search rules in
    let all : into_iter_items c.into_iter-watched-iterator.result ≡ c.args.ports.items = search rules in
    closed_whole _ _ _ _ _ _ all (c.loop-watched.invariant.closed _ (closed_none _ _ left _ none))
