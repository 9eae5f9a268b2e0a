use Rattle.std.proofs.Common.{All, subst}
use Rattle.std.proofs.lemmas.List.{take_all}
use Rattle.std.proofs.lemmas.List.Elements.{All-more}
use Rattle.pb_run_ports.specs.Addresses.{IsInside}
use Rattle.pb_run_ports.proofs.addresses.find_exposed.Goals as goal

pub loop-place-preserved : goal.loop-place-preserved
loop-place-preserved c =
    All-more IsInside c.args.specs.now c.loop-place.place c.index-specs-place.result c.loop-place-test.true
    c.loop-place.invariant (subst IsInside c.index-specs-place.is c.in_default.ensures)

pub returns-clause-none : goal.returns-clause-none
returns-clause-none c = λ _. subst (All IsInside) (take_all c.loop-place.place c.args.specs.now c.loop-place-test.false)
    c.loop-place.invariant
