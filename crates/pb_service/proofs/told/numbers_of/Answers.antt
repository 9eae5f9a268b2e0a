use Rattle.std.proofs.Common.{◌≡◌, ℕ, List, length, take, map, ap, sym, ◌∙◌, Bor}
use Rattle.std.specs.Prelude.{min}
use Rattle.std.proofs.lemmas.List.{take_min, take-map}
use Rattle.pb_service.proofs.told.numbers_of.Goals as goal

first_ones : (names : List (Bor (List ℕ))) (k : ℕ) → k ≡ min 64 (length names)
    → map (λ n. n.now) (take k names) ≡ take 64 (map (λ n. n.now) names)
first_ones names k e = rw e (ap (map (λ n. n.now)) (take_min 64 names) ∙ sym (take-map (λ n. n.now) 64 names))

pub returns-clause-ok : goal.returns-clause-ok
returns-clause-ok c = rw (← first_ones c.args.names.now c.min.result c.min.ensures) c.numbers_among.ensures.ok
