use Rattle.std.proofs.Common.{◌≡◌, ◌≤◌, ◌-◌, ◌^◌, ◌∙◌, Err, length, true, ap, sym, subst}
use Rattle.pb_cmd_flat.specs.Switches.{SwitchView, HasHandled}
use Rattle.pb_cmd_flat.proofs.AdmitLaws.{used-alone}
use Rattle.pb_cmd_flat.proofs.HandleLaws.{received_admitted, drained_admitted, steps_admitted, used_admitted, handled}
use Rattle.pb_cmd_flat.proofs.HandleLaws.{view_of}
use Rattle.std.proofs.lemmas.Result.{err_from_is_err_and}
use Rattle.pb_cmd_flat.specs.Receipts.{receipts}
use Rattle.pb_cmd_flat.proofs.switch.Switch.handle.Goals as goal

pub admit-requires-clause-used : goal.admit-requires-clause-used
admit-requires-clause-used c =
    let s = c.self.inside in
    let quiet = c.self.invariant.2
    (subst (λ (v : SwitchView). v.is_ready ≡ true) (sym c.self.view_is) c.requires.ready) in
    let to = subst (λ (v : SwitchView). c.args.port ≤ v.ports) (sym c.self.view_is) c.requires.to in
    used-alone s.ports s.bridge quiet.alone c.args.port c.requires.from to

pub admit-requires-clause-counted : goal.admit-requires-clause-counted
admit-requires-clause-counted c =
    (c.self.invariant.2 (subst (λ (v : SwitchView). v.is_ready ≡ true) (sym c.self.view_is)
    c.requires.ready)).alone.counted

pub tell-requires-clause-exits : goal.tell-requires-clause-exits
tell-requires-clause-exits c = c.as_slice.ensures.ports ∙ c.exits_of-exits.ensures

pub tell-requires-clause-digits : goal.tell-requires-clause-digits
tell-requires-clause-digits c = received_admitted c.args.port c.args.frame c.args.digits.now c.in_ok-step.step
    c.self.inside.bridge
    c.admit.new.bridge c.requires.digits c.in_ok-step.ensures.ok

pub drain-requires : goal.drain-requires
drain-requires c =
    let s = c.self.inside in
    let quiet = c.self.invariant.2
    (subst (λ (v : SwitchView). v.is_ready ≡ true) (sym c.self.view_is) c.requires.ready) in
    used_admitted s.ports c.args.port c.args.frame c.as_slice-2.result.now c.in_ok-step.step s.bridge
    c.admit.new.bridge quiet
    c.in_ok-step.ensures.ok (c.as_slice-2.ensures.ports ∙ c.exits_of-exits.ensures)

pub invariant_of-self-2 : goal.invariant_of-self-2
invariant_of-self-2 c =
    let s = c.self.inside in
    let quiet = c.self.invariant.2
    (subst (λ (v : SwitchView). v.is_ready ≡ true) (sym c.self.view_is) c.requires.ready) in
    let to = subst (λ (v : SwitchView). c.args.port ≤ v.ports) (sym c.self.view_is) c.requires.to in
    let drain = drained_admitted s.ports c.args.port c.args.frame c.as_slice-2.result.now c.in_ok-step.step s.bridge
    c.admit.new.bridge c.drain.new.bridge quiet c.self.invariant.1 c.requires.from to c.in_ok-step.ensures.ok
    (c.as_slice-2.ensures.ports ∙ c.exits_of-exits.ensures) c.in_ok-drain.ensures.ok in (
      c.self.invariant.0,
      c.self.invariant.1,
      λ e. (handled s.ports c.args.port c.args.frame c.args.out.now.items c.tell.new.out.items c.in_ok-step.step
          s.bridge c.admit.new.bridge c.drain.new.bridge true quiet c.in_ok-step.ensures.ok c.in_ok-tell.ensures.ok
          drain c.in_ok-drain.ensures.lawful).0,
    )

pub returns-clause-ok : goal.returns-clause-ok
returns-clause-ok c =
    let s = c.self.inside in
    let quiet = c.self.invariant.2
    (subst (λ (v : SwitchView). v.is_ready ≡ true) (sym c.self.view_is) c.requires.ready) in
    let to = subst (λ (v : SwitchView). c.args.port ≤ v.ports) (sym c.self.view_is) c.requires.to in
    let drain = drained_admitted s.ports c.args.port c.args.frame c.as_slice-2.result.now c.in_ok-step.step s.bridge
    c.admit.new.bridge c.drain.new.bridge quiet c.self.invariant.1 c.requires.from to c.in_ok-step.ensures.ok
    (c.as_slice-2.ensures.ports ∙ c.exits_of-exits.ensures) c.in_ok-drain.ensures.ok in
    let done = (handled s.ports c.args.port c.args.frame c.args.out.now.items c.tell.new.out.items c.in_ok-step.step
    s.bridge c.admit.new.bridge c.drain.new.bridge s.is_ready quiet c.in_ok-step.ensures.ok c.in_ok-tell.ensures.ok
    drain c.in_ok-drain.ensures.lawful).1 in
    subst (λ (v : SwitchView). HasHandled v c.args.port c.args.frame c.args.out.now.items
    (view_of s.ports c.drain.new.bridge true) c.tell.new.out.items) c.self.view_is done

pub returns-in_err-drain-clause-steps : goal.returns-in_err-drain-clause-steps
returns-in_err-drain-clause-steps c = λ e.
    let p = err_from_is_err_and c.from_residual-in_err-drain.result c.from_residual-in_err-drain.ensures.1 in
    let s = c.self.inside in
    let quiet = c.self.invariant.2
    (subst (λ (v : SwitchView). v.is_ready ≡ true) (sym c.self.view_is) c.requires.ready) in
    let to = subst (λ (v : SwitchView). c.args.port ≤ v.ports) (sym c.self.view_is) c.requires.to in
    let many = steps_admitted s.ports c.args.port c.args.frame c.as_slice-2.result.now c.in_ok-step.step s.bridge
    c.admit.new.bridge quiet c.self.invariant.1 c.requires.from to c.in_ok-step.ensures.ok
    (c.as_slice-2.ensures.ports ∙ c.exits_of-exits.ensures)
    (c.in_err-drain.ensures.steps (ap Err (sym p.2) ∙ sym p.1 ∙ e)) in
    subst (λ (v : SwitchView). 2 ^ 60 - 1 ≤ length (receipts v.steps)) c.self.view_is many
