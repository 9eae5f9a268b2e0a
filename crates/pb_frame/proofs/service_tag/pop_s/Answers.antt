use Rattle.std.proofs.Common.{◌≡◌, true, arith, rules}
use Rattle.pb_frame.specs.Tags.{control, control_of, untagged, has_service_type}
use Rattle.pb_frame.proofs.TagLaws.{tagged-untagged, type-octets}
use Rattle.pb_frame.proofs.service_tag.pop_s.Goals as goal

pub returns-clause-ok : goal.returns-clause-ok
returns-clause-ok c =
    let f = c.as_slice-octets.result.now in
    let t = c.of-tci.result in
    let number : control t.pcp t.dei t.vid ≡ control_of f = omega arith in
    let rest : c.in_ok-without_tag.field-0 ≡ untagged f = search rules in
    let typed : has_service_type f ≡ true = search rules in
    let octets = type-octets f typed in
    let same = tagged-untagged f t.pcp t.dei t.vid (omega arith) octets.0 octets.1 number (omega arith) in
    rw (← c.as_slice-octets.ensures, rest) same
