-- Topology changes, given the port that received one.
use Rattle.std.proofs.Common.{◌≡◌, ℕ, ◌≤◌, List, ◌++◌, sym, ap, ◌∙◌, Bool, true, ◌==◌, ◌&&◌, ◌||◌, not, if◌then◌else◌}
use Rattle.std.proofs.Common.{map, length, drop, append-nil}
use Rattle.std.specs.declared.option.Option.{Option}
use Rattle.std.specs.List.{list_any, filter}
use Rattle.std.proofs.lemmas.List.{drop_all}
use Rattle.pb_rstp.specs.Ports.{is_root_or_designated}
use Rattle.pb_rstp.specs.Settling.{has_opened, has_closed, changed_at, with_tc_while, is_reporting, flushed}
use Rattle.pb_rstp.specs.declared.moving.Heard.{Heard}
use Rattle.pb_rstp.specs.declared.moving.Moving.{Moving}
use Rattle.pb_rstp.specs.declared.port.Port.{Port}

-- the port starts to report, if some port became Forwarding or another port is among these
abbrev pub telling : Bool → Bool → List ℕ → Port → Port → Port
telling prompt is_any_opened changed was now =
    if is_root_or_designated now.role
    && (is_any_opened || list_any (λ number. not (number == now.number)) changed)
    && not (is_reporting prompt now)
    then record now { tc_while = 3; new_info = true } else now

-- ports report what became Forwarding and what was received
pub telling_is : (prompt : Bool) (heard : Option Heard) (ports : List Moving) (is_any_opened : Bool) (changed : List ℕ)
    → is_any_opened ≡ list_any has_opened ports → changed ≡ changed_at heard ports
    → telling prompt is_any_opened changed ≡ with_tc_while prompt heard ports
telling_is prompt heard ports is_any_opened changed opened received =
    ap (λ any. telling prompt any changed) opened ∙ ap (λ numbers. telling prompt (list_any has_opened ports) numbers) received

-- the stations of a port are forgotten, if another port became Forwarding or is among these, or the port closed
abbrev pub flushed_by : List ℕ → List Moving → Moving → Bool
flushed_by changed ports p =
    (list_any (λ q. has_opened q && not (q.now.number == p.now.number)) ports
    || list_any (λ other. not (other == p.now.number)) changed)
    || has_closed p

-- the numbers of the ports whose stations are forgotten
abbrev pub numbers_by : List ℕ → List Moving → List Moving → List ℕ
numbers_by changed all ports = map (λ p. p.now.number) (filter (flushed_by changed all) ports)

-- after the last port, all such ports are listed
pub flushed_all : (heard : Option Heard) (changed : List ℕ) (ports : List Moving) (i : ℕ) (numbers : List ℕ)
    → length ports ≤ i → changed ≡ changed_at heard ports
    → numbers ++ numbers_by changed ports (drop i ports) ≡ numbers_by changed ports ports
    → numbers ≡ flushed heard ports
flushed_all heard changed ports i numbers past is listed =
    sym (append-nil numbers)
    ∙ ap (λ ms. numbers ++ numbers_by changed ports ms) (sym (drop_all i ports past))
    ∙ listed ∙ ap (λ cs. numbers_by cs ports ports) is
