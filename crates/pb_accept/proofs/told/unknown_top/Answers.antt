use Rattle.std.proofs.Common.{◌∙◌, ap, Some, option_map, string_bytes}
use Rattle.pb_accept.specs.Acceptances.{top_keys}
use Rattle.pb_service.proofs.KeyLemmas.{first_unknown-find}
use Rattle.pb_accept.proofs.told.unknown_top.Goals as goal

pub returns-in-None : goal.returns-in-None
returns-in-None c = ap (option_map string_bytes) c.in-None.ensures
    ∙ first_unknown-find top_keys c.args.document.now.entries

pub returns-in-Some : goal.returns-in-Some
returns-in-Some c = ap Some c.as_str.ensures.value ∙ ap (option_map string_bytes) c.in-Some.ensures
    ∙ first_unknown-find top_keys c.args.document.now.entries
