use Rattle.pb_printable.proofs.PrintableLemmas.{one_line, no_control}
use Rattle.pb_printable.proofs.printable_is_one_line.Goals as goal

pub returns-clause-octets : goal.returns-clause-octets
returns-clause-octets c = one_line c.args.text.now

pub returns-clause-characters : goal.returns-clause-characters
returns-clause-characters c = no_control c.args.text.now c.utf8.text
