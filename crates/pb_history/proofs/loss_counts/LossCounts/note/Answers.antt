use Rattle.std.proofs.Common.{length, ap, arith}
use Rattle.pb_history.proofs.loss_counts.LossCounts.note.Goals as goal

pub note_copies-requires : goal.note_copies-requires
note_copies-requires c = omega (arith, c.self.invariant.few_copies, ap length c.self.view_is, c.requires)

pub note_bpdus-requires : goal.note_bpdus-requires
note_bpdus-requires c = omega (arith, c.self.invariant.few_bpdus, ap length c.self.view_is, c.requires)
