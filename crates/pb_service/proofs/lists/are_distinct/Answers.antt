use Rattle.std.proofs.Common.{sym, rules, arith}
use Rattle.pb_service.proofs.Texts.{none_found, found_next, found_twice}
use Rattle.pb_service.proofs.lists.are_distinct.Goals as goal

pub loop-index-init : goal.loop-index-init
loop-index-init c = none_found c.args.items.now c.new-seen.result c.new-seen.ensures.empty

pub returns-then-not-is_new : goal.returns-then-not-is_new
returns-then-not-is_new c =
    sym (found_twice c.args.items.now c.loop-index.index _ c.index-items-index.result c.text_in.result
    c.loop-index.seen (omega (arith, c.loop-index-test.true)) c.loop-index.invariant c.index-items-index.is
    c.text_in.ensures (search rules))

pub loop-index-preserved : goal.loop-index-preserved
loop-index-preserved c =
    found_next c.args.items.now c.loop-index.index _ c.index-items-index.result c.text_in.result c.loop-index.seen
    c.insert.new.self c.requires (omega (arith, c.loop-index-test.true)) c.loop-index.invariant c.index-items-index.is
    c.text_in.ensures c.in-Ok.ensures.updates (search rules)

pub returns : goal.returns
returns c = search rules
