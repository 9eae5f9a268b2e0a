use Rattle.std.proofs.Common.{List, ℕ, ◌++◌, drop}
use Rattle.toml.specs.View.{items_view}
use Rattle.pb_service.specs.Tables.{AreFrames}
use Rattle.pb_service.proofs.port.frames_of.Given as goal

abbrev pub invariant-loop-item : goal.invariant-loop-item
invariant-loop-item l = (more : List (List ℕ)) → AreFrames (items_view (drop l.item-index l.items)) more
    → AreFrames (items_view l.items) (l.frames.items ++ more)
