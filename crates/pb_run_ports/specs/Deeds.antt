-- The operations on files and sockets, in order.
use Rattle.std.specs.Prelude.{◌≡◌, List, ◌++◌, Option, Some, None}
use Rattle.pb_run_ports.specs.declared.deed.Deed.{Deed}

-- these operations followed the earlier ones, if those are known
abbrev pub Adds : Option (List Deed) → Option (List Deed) → List Deed → Type 0
Adds None after deeds = Unit {0}
Adds (Some before) after deeds = after ≡ Some (before ++ deeds)

-- the first of these operations were done, and the rest were not
pub record Begun (before after : Option (List Deed)) (all rest : List Deed) : Type 0 where
  pub first : List Deed
  pub done : Adds before after first
  pub whole : first ++ rest ≡ all

-- the first of these operations were done, and no others
abbrev pub HasBegun : Option (List Deed) → Option (List Deed) → List Deed → Type 0
HasBegun before after all = (rest : List Deed) × Begun before after all rest
