use Rattle.pb_relay.proofs.start.join.Goals as goal

pub returns-in-Ok : goal.returns-in-Ok
returns-in-Ok c =
    let joined = c.in-Ok.ensures.ok in
    record { join = joined.0; vid = joined.1; pcp = joined.2; table = joined.3 }
