use Rattle.std.proofs.Common.{◌∙◌, ap, Some, option_map, string_bytes}
use Rattle.pb_accept.specs.Acceptances.{accept_keys}
use Rattle.pb_service.proofs.KeyLemmas.{first_unknown-find}
use Rattle.pb_accept.proofs.told.unknown_key.Goals as goal

pub returns-in-None : goal.returns-in-None
returns-in-None c = ap (option_map string_bytes) c.in-None.ensures
    ∙ first_unknown-find accept_keys c.args.row.now.entries

pub returns-in-Some : goal.returns-in-Some
returns-in-Some c = ap Some c.as_str.ensures.value ∙ ap (option_map string_bytes) c.in-Some.ensures
    ∙ first_unknown-find accept_keys c.args.row.now.entries
