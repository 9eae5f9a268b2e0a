-- Plans and places have codes, so that what workers are given with them has one.
use Rattle.std.specs.Coded.{Coded, codes}
use Rattle.pb_lan.specs.declared.plan.Plan.{Plan}
use Rattle.pb_lan.specs.declared.step.Place.{Place}

pub coded_plan : Coded Plan
coded_plan = hlevel codes

pub coded_place : Coded Place
coded_place = hlevel codes
