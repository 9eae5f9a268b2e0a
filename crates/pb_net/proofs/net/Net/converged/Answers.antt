use Rattle.std.proofs.Common.{◌≡◌, Some, map, refl, sym, ap, subst, ◌∙◌}
use Rattle.pb_lan.specs.declared.plan.Spanning.{Spanning}
use Rattle.pb_net.specs.Answers.{NetView}
use Rattle.pb_net.specs.Nets.{record_of}
use Rattle.pb_relay.specs.Settled.{TellsConverged, TellsConvergedBy, machines_in}
use Rattle.pb_net.proofs.SettledLemmas.{tells_converged}
use Rattle.pb_net.proofs.net.Net.converged.Goals as goal

pub returns-in_ok-machines-in-Rstp : goal.returns-in_ok-machines-in-Rstp
returns-in_ok-machines-in-Rstp c =
    let s = c.self.inside in
    let rec = record_of s.bridges.items s.lanes.items s.customers.items in
    let yes = c.is_converged.result in
    let e : map (λ m. m.now) c.as_slice.result.now ≡ machines_in s.plan rec =
    ap (map (λ m. m.now)) c.as_slice.ensures.value ∙ c.in_ok-machines-in-Rstp.ensures
    ∙ ap (λ (v : NetView). machines_in v.plan v.rec) (sym c.self.view_is) in
    subst (λ (v : NetView). TellsConverged v.plan v.rec (Some yes)) c.self.view_is
    (subst (λ (z : Spanning). TellsConvergedBy z s.plan (machines_in s.plan rec) (Some yes)) (sym c.in-Rstp.is) (
      yes,
      refl,
      tells_converged s.plan rec (map (λ m. m.now) c.as_slice.result.now) yes e c.self.invariant.0.sound
          c.planned_are_machines.ensures c.is_converged.ensures.converged c.is_converged.ensures.forest,
    ))
