use Rattle.std.proofs.Common.{◌≡◌, ◌+◌, ℕ, List, drop, unwrap_or, bytes_eq}
use Rattle.std.specs.HashMap.{get_by}
use Rattle.pb_frame.specs.Admission.{same}
use Rattle.pb_lan.specs.Events.{number_of}
use Rattle.pb_step_script.proofs.names.numbers.Given as goal

abbrev pub invariant-loop-place : goal.invariant-loop-place
invariant-loop-place l =
    (q : List ℕ) → unwrap_or (get_by (λ k. bytes_eq q k.now) l.numbers) 0 ≡ number_of (λ n. same n.now q)
    (l.place + 1) (drop l.place l.names)
