use Rattle.std.proofs.Common.{◌∙◌, sym, ap}
use Rattle.std.proofs.lemmas.List.{get_or-replicate}
use Rattle.std.specs.List.{count_by}
use Rattle.pb_history.specs.Drops.{is_just, place_of}
use Rattle.pb_history.proofs.drops.Drops.new.Goals as goal

pub invariant_of-result : goal.invariant_of-result
invariant_of-result c place within = get_or-replicate 170 place 0 0 within
    ∙ ap (count_by (λ step. is_just place (place_of step))) (sym c.new.ensures)
