use Rattle.std.proofs.Common.{◌∙◌, ap, map}
use Rattle.pb_run.proofs.SettledLemmas.{tells}
use Rattle.pb_run.proofs.settled.whether_settled.Goals as goal

pub returns-in_ok-machines-in-Rstp : goal.returns-in_ok-machines-in-Rstp
returns-in_ok-machines-in-Rstp g c = λ rec lists.
    tells c.args.plan.now rec (map (λ m. m.now) c.as_slice.result.now) c.is_settled.result c.in-Rstp.is
    (ap (map (λ m. m.now)) c.as_slice.ensures.value ∙ c.in_ok-machines-in-Rstp.ensures rec lists)
    c.requires.sound c.planned_are_machines.ensures c.is_settled.ensures.settled c.is_settled.ensures.forest
