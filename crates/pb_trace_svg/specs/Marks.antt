-- The hops of a picture, with their numbers.
use Rattle.std.specs.Prelude.{◌≡◌, List, map}
use Rattle.pb_lan.specs.Numbering.{numbers_from}
use Rattle.pb_trace_svg.specs.declared.hops.Hop.{Hop}
use Rattle.pb_trace_svg.specs.declared.marks.HopMark.{HopMark}

-- each hop has one mark, in order, and they are numbered from 1
pub record AreMarksOf (hops : List Hop) (marks : List HopMark) : Type 0 where
  pub hops_are : map (λ m. m.hop) marks ≡ hops
  pub numbers_are : map (λ m. m.number) marks ≡ numbers_from 1 marks
