use Rattle.std.proofs.Common.{ap, ◌∙◌}
use Rattle.std.specs.List.{list_any}
use Rattle.pb_frame.specs.Admission.{same}
use Rattle.pb_svlan.specs.ServiceTables.{has_name}
use Rattle.pb_svlan.proofs.ServiceLemmas.{list_any-values}
use Rattle.pb_svlan.proofs.services.Services.has_name.Goals as goal

pub returns : goal.returns
returns c =
    c.contains_name.ensures
    ∙ ap (list_any (λ n. same n c.args.name.now)) (c.as_slice.ensures ∙ c.values.ensures.rest)
    ∙ list_any-values (λ n. same n c.args.name.now) c.self.inside.services.entries
    ∙ ap (λ t. has_name t c.args.name.now) c.self.view_is
