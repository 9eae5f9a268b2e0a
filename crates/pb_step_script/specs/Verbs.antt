-- The verbs of script lines.
use Rattle.std.specs.Prelude.{ℕ, List, codes}
use Rattle.pb_step_script.specs.declared.verb.Verb.{Verb}
use Rattle.pb_step_script.specs.declared.verb.Verb.TheVariants.{Poll, Feed, Deliver, Receive, Transmit, Tick, Admin, Take, Put}

abbrev pub verb_word : Verb → List ℕ
verb_word Poll = codes "poll"
verb_word Feed = codes "feed"
verb_word Deliver = codes "deliver"
verb_word Receive = codes "receive"
verb_word Transmit = codes "transmit"
verb_word Tick = codes "tick"
verb_word Admin = codes "admin"
verb_word Take = codes "take"
verb_word Put = codes "put"
