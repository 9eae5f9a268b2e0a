use Rattle.std.proofs.Common.{◌++◌, [], ◌∷◌, string_bytes, ap, ◌∙◌}
use Rattle.std.specs.Prelude.{codes, count_by}
use Rattle.pb_cmd_survive.specs.Failures.{is_link, is_bridge, is_pair}
use Rattle.pb_cmd_survive.specs.Reports.{counted, kind_text}
use Rattle.pb_cmd_survive.proofs.ListLemmas.{rejoin_five}
use Rattle.pb_cmd_survive.proofs.totals.put_checked.Goals as goal

pub returns : goal.returns
returns c =
    let impacts = c.args.impacts.now in
    let front = codes "checked " in
    let links = counted (count_by (λ o. is_link o.failure) impacts) (codes "link") in
    let bridges = kind_text (count_by (λ o. is_bridge o.failure) impacts) (codes "bridge") in
    let pairs = kind_text (count_by (λ o. is_pair o.failure) impacts) (codes "pair") in
    c.in_ok-push_str-2.ensures.bytes
    ∙ ap (λ z. z ++ 10 ∷ []) c.in_ok-put_kind-2.ensures
    ∙ ap (λ n. (string_bytes c.put_kind.new.out ++ kind_text n (codes "pair")) ++ 10 ∷ []) c.count_pairs.ensures
    ∙ ap (λ z. (z ++ pairs) ++ 10 ∷ []) c.in_ok-put_kind.ensures
    ∙ ap (λ n. ((string_bytes c.put_counted.new.out ++ kind_text n (codes "bridge")) ++ pairs) ++ 10 ∷ [])
    c.count_bridges.ensures
    ∙ ap (λ z. ((z ++ bridges) ++ pairs) ++ 10 ∷ []) c.in_ok-put_counted.ensures
    ∙ ap (λ n. (((string_bytes c.push_str.new.self ++ counted n (codes "link")) ++ bridges) ++ pairs) ++ 10 ∷ [])
    c.count_links.ensures
    ∙ ap (λ z. (((z ++ links) ++ bridges) ++ pairs) ++ 10 ∷ []) c.in_ok-push_str.ensures.bytes
    ∙ rejoin_five (string_bytes c.args.out.now) front links bridges pairs (10 ∷ [])
