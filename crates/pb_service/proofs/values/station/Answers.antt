use Rattle.pb_service.proofs.values.station.Goals as goal

pub returns-in-None-clause-none : goal.returns-in-None-clause-none
returns-in-None-clause-none c = λ a. c.in-None.ensures.none a.0 a.1

pub returns-in-None-clause-some : goal.returns-in-None-clause-some
returns-in-None-clause-some c = λ a. absurd (c.in-None.ensures.none a.0 a.1)
