-- The looks of a watch at the machines of a network's bridges.
use Rattle.std.specs.Prelude.{◌≡◌, ◌⊎◌, ◌+◌, ◌-◌, ◌%◌, ℕ, true, false, List}
use Rattle.pb_rstp.specs.Ports.{Machine}
use Rattle.pb_converge.specs.declared.recurrence.Watch.{Watch}

-- the machines after so many rounds are marked
pub record IsMarkedAnew (rounds : ℕ) (machines : List Machine) (old new : Watch) : Type 0 where
  pub marked : new.marked ≡ rounds
  pub machines_are : new.machines.items ≡ machines
  pub kept : (new.is_open ≡ old.is_open) × (new.most ≡ old.most) × (new.end ≡ old.end)

-- the machines after so many rounds are the marked ones: whole periods since the mark lead from the end to the limit
pub record HasFound (rounds : ℕ) (machines : List Machine) (old new : Watch) : Type 0 where
  pub watched : old.is_open ≡ true
  pub same : old.machines.items ≡ machines
  pub end : new.end ≡ rounds + (old.most - rounds) % (rounds - old.marked)
  pub closed : new.is_open ≡ false
  pub kept : (new.marked ≡ old.marked) × (new.machines ≡ old.machines) × (new.most ≡ old.most)

-- a look at the machines after so many rounds: nothing changes, or one of these
abbrev pub Notes : ℕ → List Machine → Watch → Watch → Type 0
Notes rounds machines old new =
    (new ≡ old) ⊎ (IsMarkedAnew rounds machines old new ⊎ HasFound rounds machines old new)
