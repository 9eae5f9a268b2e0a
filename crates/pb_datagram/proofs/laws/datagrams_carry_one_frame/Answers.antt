use Rattle.pb_datagram.proofs.HeaderLemmas.{one_frame, refused_or_carried}
use Rattle.pb_datagram.proofs.laws.datagrams_carry_one_frame.Goals as goal

pub returns-clause-one : goal.returns-clause-one
returns-clause-one c = one_frame

pub returns-clause-refused : goal.returns-clause-refused
returns-clause-refused c = refused_or_carried
