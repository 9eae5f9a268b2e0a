use Rattle.std.proofs.Common.{rules, refl, ◌+◌, ◌*◌}
use Rattle.pb_frame_options.proofs.tag.ethertype_of.Goals as goal

-- the number of the two octets is a length
pub returns-then-number-lt-LEAST_TYPE-clause-fault : goal.returns-then-number-lt-LEAST_TYPE-clause-fault
returns-then-number-lt-LEAST_TYPE-clause-fault c =
    (c.in-Some.high * 256 + c.in-Some.low, (c.in-Some.high, c.in-Some.low, search rules, refl), search rules)
