use Rattle.std.proofs.Common.{All, sym, subst}
use Rattle.pb_threads.proofs.WishLemmas.{none_at_all}
use Rattle.pb_threads.specs.Together.{AllFit}
use Rattle.pb_threads.specs.Wishes.{Giving, HasFulfilledGiven}
use Rattle.pb_threads.specs.declared.threads.Places.{Places}
use Rattle.pb_threads.proofs.threads.run_known.Goals as goal

pub returns-in_default-clause-wishes : goal.returns-in_default-clause-wishes
returns-in_default-clause-wishes g c =
    none_at_all (g.G.Gate.gives c.args.gate.now) g.C.Work.named g.C.Work.given g.C.Work.fulfilled g.L.Work.named
    g.L.Work.given g.L.Work.fulfilled g.B.Work.named g.B.Work.given g.B.Work.fulfilled c.args.places c.requires.fresh

pub returns-in-Err-clause-wishes : goal.returns-in-Err-clause-wishes
returns-in-Err-clause-wishes g c =
    let gives = g.G.Gate.gives c.args.gate.now in
    subst (λ (places : Places g.row.C.Denot g.row.L.Denot g.row.B.Denot). AllFit
    (HasFulfilledGiven gives g.C.Work.named g.C.Work.given g.C.Work.fulfilled)
    (HasFulfilledGiven gives g.L.Work.named g.L.Work.given g.L.Work.fulfilled)
    (HasFulfilledGiven gives g.B.Work.named g.B.Work.given g.B.Work.fulfilled) places) (sym c.in-Err.ensures)
    (none_at_all gives g.C.Work.named g.C.Work.given g.C.Work.fulfilled g.L.Work.named g.L.Work.given
    g.L.Work.fulfilled g.B.Work.named g.B.Work.given g.B.Work.fulfilled c.args.places c.requires.fresh)

pub returns-clause-wishes : goal.returns-clause-wishes
returns-clause-wishes g c = (
  subst (λ (gives : Giving). All (HasFulfilledGiven gives g.C.Work.named g.C.Work.given g.C.Work.fulfilled)
      c.collect_row.result.items) c.requires.rosters.1.0 c.collect_row.ensures.wishes,
  subst (λ (gives : Giving). All (HasFulfilledGiven gives g.L.Work.named g.L.Work.given g.L.Work.fulfilled)
      c.collect_row-2.result.items) c.requires.rosters.1.1 c.collect_row-2.ensures.wishes,
  subst (λ (gives : Giving). All (HasFulfilledGiven gives g.B.Work.named g.B.Work.given g.B.Work.fulfilled)
      c.collect_row-3.result.items) c.requires.rosters.1.2 c.collect_row-3.ensures.wishes,
)
