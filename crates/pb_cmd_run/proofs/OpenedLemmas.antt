-- Opened ports that agree with the plan file (used by `open_files` and `open_ports`).
use Rattle.std.proofs.Common.{◌≡◌, ℕ, Bool, List, [], ◌∷◌, ◌++◌, Option, is_some, length, map, ap, sym, ◌∙◌, arith}
use Rattle.std.proofs.Common.{append-nil, subst, Ok, IfOk}
use Rattle.std.specs.declared.result.Result.{Result}
use Rattle.std.proofs.lemmas.List.{length-map}
use Rattle.std.proofs.lemmas.Simd.{map-map}
use Rattle.pb_port.specs.Outputs.{OutputState}
use Rattle.pb_run_ports.specs.Opened.{Shown, asked, octets_at, octets_in, shown}
use Rattle.pb_run_ports.specs.declared.opened.Opened.{Opened}
use Rattle.pb_service.specs.declared.port_spec.PortSpec.{PortSpec}
use Rattle.pb_workers.specs.Ports.{Frames}
use Rattle.pb_cmd_run.specs.Carried.{FileOctets, frames_in, started, StartOver}

-- what follows from equal parts is equal
alike : {X Y A Z : Type 0} (f : X → A) (g : Y → A) (h : A → Z) (xs : List X) (ys : List Y) → map f xs ≡ map g ys
    → map (λ x. h (f x)) xs ≡ map (λ y. h (g y)) ys
alike f g h xs ys same = sym (map-map h f xs) ∙ ap (map h) same ∙ map-map h g ys

-- all things have moved, and what is compared of them is the same
pub moved_all : {X Y Z : Type 0} (f : X → Z) (g : Y → Z) (xs : List X) (left start all : List Y)
    → map f xs ++ map g left ≡ map g start → length left ≡ 0 → start ≡ all → map f xs ≡ map g all
moved_all f g xs [] start all moved none same = sym (append-nil (map f xs)) ∙ moved ∙ ap (map g) same
moved_all f g xs (y ∷ left) start all moved none same = absurd (omega arith)

-- a fact of a result that is a value
pub of_value : {A E : Type 0} (P : A → Type 0) (r : Result A E) (x : A) → r ≡ Ok x → IfOk r P → P x
of_value {A} {E} P r x e is = subst (λ (r : Result A E). IfOk r P) e is

-- there are as many
pub shows_length : {I O S U : Type 0} (ports : List (Opened I O S U)) (specs : List PortSpec)
    → map shown ports ≡ map asked specs → length ports ≡ length specs
shows_length ports specs same = sym (length-map ports shown) ∙ ap length same ∙ length-map specs asked

-- they have what the plan lists and what their files hold, and nothing is written yet
pub start_over : {I O S U : Type 0} (reports : Bool) (was : FileOctets) (specs : List PortSpec)
    (opened : List (Opened I O S U)) (unread : I → Option (List ℕ)) (scripts unreads : List (Option Frames))
    (outputs : List (Option OutputState)) (paths : List (Option (List ℕ)))
    → map shown opened ≡ map asked specs → map (octets_at unread) opened ≡ map (octets_in was) specs
    → scripts ≡ map (λ port. (shown port).frames) opened
    → unreads ≡ map (λ port. frames_in (octets_at unread port)) opened
    → outputs ≡ map (λ port. started (is_some (shown port).write) reports) opened
    → paths ≡ map (λ port. (shown port).write) opened → StartOver reports was specs scripts unreads outputs paths
start_over reports was specs opened unread scripts unreads outputs paths same octets one two three four = record {
  scripts_are = one ∙ alike shown asked (λ (s : Shown). s.frames) opened specs same;
  unread_are = two ∙ alike (octets_at unread) (octets_in was) frames_in opened specs octets;
  outputs_are = three ∙ alike shown asked (λ (s : Shown). started (is_some s.write) reports) opened specs same;
  paths_are = four ∙ alike shown asked (λ (s : Shown). s.write) opened specs same;
}
