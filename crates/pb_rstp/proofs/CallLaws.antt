-- The code of each call computes what its definition says.
use Rattle.std.proofs.Common.{◌≡◌, ℕ, Bool, true, false, List, Some, None, Ok, Err, ap, sym, ◌∙◌, if◌then◌else◌}
use Rattle.std.specs.declared.option.Option.{Option}
use Rattle.std.specs.declared.result.Result.{Result}
use Rattle.pb_bpdu.specs.Reading.{reading}
use Rattle.pb_bpdu.specs.declared.fault.BpduFault.{BpduFault}
use Rattle.pb_lan.specs.Rules.{Cause}
use Rattle.pb_lan.specs.Rules.Cause.{Hears, Ticks, Sets}
use Rattle.pb_rstp.specs.Changes.{IsSamePort}
use Rattle.pb_rstp.specs.Profile.{after, hear_read}
use Rattle.pb_rstp.proofs.MovingLaws.{same_hearing, same_ticking, same_setting}
use Rattle.pb_bpdu.specs.declared.bpdu.Bpdu.{Bpdu}
use Rattle.pb_rstp.specs.Machine.{settle, unchanged, heard_at, hearing, hear_at, hear_by, after_hear, moved_by}
use Rattle.pb_rstp.specs.Machine.{ticking, is_hello_tick, hello_when_after, after_tick}
use Rattle.pb_rstp.specs.Machine.{setting, is_same_setting, admin_at}
use Rattle.pb_rstp.specs.Machine.{admin_by, after_admin, After}
use Rattle.pb_rstp.specs.Ports.{Machine, port_of, fwd_delay_of}
use Rattle.pb_rstp.specs.Roles.{root_vector}
use Rattle.pb_rstp.specs.declared.moving.Heard.{Heard}
use Rattle.pb_rstp.specs.declared.moving.Moving.{Moving}
use Rattle.pb_rstp.specs.declared.port.Port.{Port}
use Rattle.pb_rstp.specs.declared.vector.Vector.{Vector}

-- what the code of `hear` computes is what the definitions say of a received BPDU
pub hears : (old now : Machine) (port : ℕ) (m : Bpdu) (p : Port) (heard : Heard) (root : Vector) (ports : List Moving)
    → old ≡ now → port_of old.ports port ≡ Some p → p.port_enabled ≡ true → heard ≡ heard_at m p
    → root ≡ root_vector old.id old.ports
    → ports ≡ moved_by (hearing root p.number m) old.ports
    → settle now.prompt now.id old.hello_when (Some heard) ports ≡ after_hear now port m
hears old now port m p heard root ports same found enabled h r e =
    ap (λ x. settle now.prompt now.id old.hello_when (Some x) ports) h
    ∙ ap (λ ps. settle now.prompt now.id old.hello_when (Some (heard_at m p)) ps)
    (e ∙ ap (λ x. moved_by (hearing x p.number m) old.ports) r)
    ∙ ap (λ (x : Machine). settle now.prompt now.id x.hello_when (Some (heard_at m p))
    (moved_by (hearing (root_vector x.id x.ports) p.number m) x.ports)) same
    ∙ ap (λ b. if b then hear_at now m p else unchanged now) (sym enabled)
    ∙ ap (λ o. hear_by now m o) (sym (ap (λ (x : Machine). port_of x.ports port) (sym same) ∙ found))

-- what the code of `tick` computes is what the definitions say of a second
pub ticks : (old now : Machine) (fwd_delay : ℕ) (hello : Bool) (hello_when : ℕ) (ports : List Moving)
    → old ≡ now → fwd_delay ≡ fwd_delay_of old.ports → hello ≡ is_hello_tick old → hello_when ≡ hello_when_after old
    → ports ≡ moved_by (ticking fwd_delay hello) old.ports
    → settle now.prompt now.id hello_when None ports ≡ after_tick now
ticks old now fwd_delay hello hello_when ports same d h l e =
    ap (λ n. settle now.prompt now.id n None ports) l
    ∙ ap (λ ps. settle now.prompt now.id (hello_when_after old) None ps)
    (e ∙ ap (λ x. moved_by (ticking x hello) old.ports) d ∙ ap
    (λ b. moved_by (ticking (fwd_delay_of old.ports) b) old.ports) h)
    ∙ ap (λ (x : Machine). settle now.prompt now.id (hello_when_after x) None
    (moved_by (ticking (fwd_delay_of x.ports) (is_hello_tick x)) x.ports)) same

-- what the code of `admin` computes is what the definitions say of a port that is enabled or disabled
pub sets : (old now : Machine) (port : ℕ) (up : Bool) (p : Port) (ports : List Moving)
    → old ≡ now → port_of old.ports port ≡ Some p → is_same_setting p.port_enabled up ≡ false
    → ports ≡ moved_by (setting port up) old.ports
    → settle now.prompt now.id old.hello_when None ports ≡ after_admin now port up
sets old now port up p ports same found other e =
    ap (λ ps. settle now.prompt now.id old.hello_when None ps) e
    ∙ ap (λ (x : Machine). settle now.prompt now.id x.hello_when None (moved_by (setting port up) x.ports)) same
    ∙ ap (λ b. if b then unchanged now else admin_at now port up) (sym other)
    ∙ ap (λ o. admin_by now port up o) (sym (ap (λ (x : Machine). port_of x.ports port) (sym same) ∙ found))

-- for proofs about every call: what holds without a change and after each change of the ports holds after every cause
pub after-each : (P : After → Type 0) (machine : Machine) → P (unchanged machine)
    → ((hello_when : ℕ) (heard : Option Heard) (change : Port → Port) → ((p : Port) → IsSamePort p (change p))
    → P (settle machine.prompt machine.id hello_when heard (moved_by change machine.ports)))
    → (cause : Cause) → P (after machine cause)
after-each P machine same each Ticks =
    each (hello_when_after machine) None (ticking (fwd_delay_of machine.ports) (is_hello_tick machine))
    (same_ticking (fwd_delay_of machine.ports) (is_hello_tick machine))
after-each P machine same each (Hears port wire) = by_read (reading wire)
  where
    by_enabled : (m : Bpdu) (p : Port) (b : Bool) → P (if b then hear_at machine m p else unchanged machine)
    by_enabled m p true =
        each machine.hello_when (Some (heard_at m p)) (hearing (root_vector machine.id machine.ports) p.number m)
        (same_hearing (root_vector machine.id machine.ports) p.number m)
    by_enabled m p false = same

    by_port : (m : Bpdu) (o : Option Port) → P (hear_by machine m o)
    by_port m None = same
    by_port m (Some p) = by_enabled m p p.port_enabled

    by_read : (x : Result Bpdu BpduFault) → P (hear_read machine port x)
    by_read (Ok m) = by_port m (port_of machine.ports port)
    by_read (Err fault) = same
after-each P machine same each (Sets port up) = by_port (port_of machine.ports port)
  where
    by_same : (b : Bool) → P (if b then unchanged machine else admin_at machine port up)
    by_same true = same
    by_same false = each machine.hello_when None (setting port up) (same_setting port up)

    by_port : (o : Option Port) → P (admin_by machine port up o)
    by_port None = same
    by_port (Some p) = by_same (is_same_setting p.port_enabled up)
