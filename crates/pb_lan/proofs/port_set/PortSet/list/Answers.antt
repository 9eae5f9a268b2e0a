use Rattle.std.proofs.Common.{◌≤◌, ◌+◌, ◌-◌, ◌%◌, ◌==◌, ◌∷◌, ◌++◌, [], ℕ, Bool, true, false, List, length, cond}
use Rattle.std.proofs.Common.{refl, ap}
use Rattle.std.proofs.Common.{sym, ◌∙◌, arith, append-nil, length-append}
use Rattle.pb_lan.specs.PortSets.{ports_in}
use Rattle.pb_lan.proofs.PortBits.{ports_end, no_ports, port_listed}
use Rattle.pb_lan.proofs.port_set.PortSet.list.Goals as goal

-- at most one port more is listed
one_more : (list : List ℕ) (port : ℕ) (is_set : Bool) → length (list ++ cond is_set (port ∷ []) []) ≤ length list + 1
one_more list port true = omega (arith, length-append list (port ∷ []))
one_more list port false = omega (arith, ap length (append-nil list))

pub returns-then-rest-eq0-clause-ports : goal.returns-then-rest-eq0-clause-ports
returns-then-rest-eq0-clause-ports c =
    sym (append-nil c.loop-port.list)
    ∙ sym (ap (λ ps. c.loop-port.list ++ ps) (no_ports (17 - c.loop-port.port) c.loop-port.port))
    ∙ sym (ap (λ b. c.loop-port.list ++ ports_in (17 - c.loop-port.port) c.loop-port.port b) c.if-rest-eq0.true)
    ∙ c.loop-port.invariant.listed

pub loop-port-preserved : goal.loop-port-preserved
loop-port-preserved c =
    let is_set : Bool = c.loop-port.rest % 2 == 1 in
    record {
      listed = port_listed c.loop-port.port c.loop-port.rest c.loop-port.list c.push_if.new.self c.args.self.now is_set
          (omega (arith, c.loop-port-test.true)) c.loop-port.invariant.listed refl c.push_if.ensures;
      few = omega (
        arith,
        ap length c.push_if.ensures,
        one_more c.loop-port.list c.loop-port.port is_set,
        c.loop-port.invariant.few,
      );
    }

pub returns-clause-ports : goal.returns-clause-ports
returns-clause-ports c =
    sym (append-nil c.loop-port.list)
    ∙ sym (ap (λ xs. c.loop-port.list ++ xs) (ports_end c.loop-port.port c.loop-port.rest (omega arith)))
    ∙ c.loop-port.invariant.listed
