use Rattle.std.proofs.Common.{map, arith}
use Rattle.std.proofs.lemmas.List.{length-map}
use Rattle.pb_frame.specs.Admission.{same}
use Rattle.pb_step_script.proofs.NameLemmas.{number_of-few}
use Rattle.pb_step_script.proofs.names.Names.link.Goals as goal

pub returns-clause-few : goal.returns-clause-few
returns-clause-few c =
    let names = c.args.self.now in
    let q = c.args.name.now in
    let few = number_of-few (λ other. same other q) 0 (map (λ l. l.name) names.plan.now.links) in
    let as_long = length-map names.plan.now.links (λ l. l.name) in
    omega (arith, few, as_long, c.find.ensures, names.links_found q, names.few_links)
