use Rattle.pb_service.proofs.document.read_limits.Goals as goal

pub returns-clause-accepted : goal.returns-clause-accepted
returns-clause-accepted c = (
  c.in_ok-limits.field-0.plan,
  c.in_ok-limits.field-0.ports.items,
  c.in_ok-limits.ensures.ok,
  c.in_ok-limits.ensures.sound,
)
