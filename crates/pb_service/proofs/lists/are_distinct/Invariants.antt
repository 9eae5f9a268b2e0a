use Rattle.pb_service.proofs.Texts.{HasTexts}
use Rattle.pb_service.proofs.lists.are_distinct.Given as goal

abbrev pub invariant-loop-index : goal.invariant-loop-index
invariant-loop-index l = HasTexts l.items l.index l.seen
