use Rattle.pb_printable.proofs.PrintableLemmas.{other_kept}
use Rattle.pb_printable.proofs.printable_keeps_other_texts.Goals as goal

pub returns : goal.returns
returns c = other_kept c.args.text.now c.utf8.text
