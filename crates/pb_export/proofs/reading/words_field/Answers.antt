use Rattle.std.proofs.lemmas.Bool.{false≢true}
use Rattle.pb_export.proofs.FitLemmas.{words_none}
use Rattle.pb_export.proofs.reading.words_field.Goals as goal

pub returns-in-None-clause-whole : goal.returns-in-None-clause-whole
returns-in-None-clause-whole c =
    let words = rw c.in-None.is at c.in_ok-words.ensures.words in
    λ back. words_none c.args.until.now c.args.text.now c.in-Some.front.now c.in-Some.rest.now back
    c.in-Some.ensures.first (λ are. false≢true (words.1 are))
