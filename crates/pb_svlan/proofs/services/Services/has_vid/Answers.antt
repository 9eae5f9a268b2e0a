use Rattle.std.proofs.Common.{ap, ◌∙◌, ◌==◌}
use Rattle.std.specs.List.{list_any}
use Rattle.pb_svlan.specs.ServiceTables.{has_vid}
use Rattle.pb_svlan.proofs.ServiceLemmas.{list_any-keys}
use Rattle.pb_svlan.proofs.services.Services.has_vid.Goals as goal

pub returns : goal.returns
returns c =
    c.contains_vid.ensures
    ∙ ap (list_any (λ v. v == c.args.vid)) (c.as_slice.ensures ∙ c.keys.ensures.rest)
    ∙ list_any-keys (λ v. v == c.args.vid) c.self.inside.services.entries
    ∙ ap (λ t. has_vid t c.args.vid) c.self.view_is
