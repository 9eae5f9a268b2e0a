use Rattle.std.proofs.Common.{◌≡◌, ◌++◌, List, [], ◌∷◌, flat_map, string_bytes, ap, ◌∙◌}
use Rattle.std.specs.List.{zip}
use Rattle.std.specs.Prelude.{codes}
use Rattle.pb_names.specs.Names.{port_name}
use Rattle.pb_cmd_survive.specs.Reports.{lost_text}
use Rattle.pb_cmd_survive.specs.declared.sites.Site.{Site}
use Rattle.pb_cmd_survive.proofs.ListLemmas.{rejoin}
use Rattle.pb_cmd_survive.proofs.service_lines.put_cut_off.Goals as goal

pub returns : goal.returns
returns c =
    let old = string_bytes c.args.out.now in
    let start = string_bytes c.write.new.self in
    let told = λ (before now : List Site). flat_map (lost_text c.args.plan.now c.args.criteria (zip before now))
    (zip before now) in
    let pairs = zip c.args.old.now.sites c.args.new.now.sites in
    let lost = flat_map (lost_text c.args.plan.now c.args.criteria pairs) pairs in
    let head : string_bytes c.write.new.self ≡ old
    ++ (codes "  " ++ (port_name c.args.plan.now c.args.port ++ codes " cut off from:")) =
    c.in_ok-write.ensures.bytes ∙ ap (λ n. old ++ (codes "  " ++ (n ++ codes " cut off from:"))) c.port_name.ensures in
    c.in_ok-push_str.ensures.bytes
    ∙ ap (λ z. z ++ 10 ∷ []) c.in_ok-put_lost.ensures
    ∙ ap (λ z. (start ++ told z c.as_slice-now.result.now) ++ 10 ∷ []) c.as_slice-before.ensures
    ∙ ap (λ z. (start ++ told c.args.old.now.sites z) ++ 10 ∷ []) c.as_slice-now.ensures
    ∙ ap (λ z. (z ++ lost) ++ 10 ∷ []) head
    ∙ rejoin old (codes "  ") (port_name c.args.plan.now c.args.port) (codes " cut off from:") lost (10 ∷ [])
