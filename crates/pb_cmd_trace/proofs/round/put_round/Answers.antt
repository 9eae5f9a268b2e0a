use Rattle.std.proofs.Common.{◌++◌, ◌∷◌, [], string_bytes, sym, ap, ◌∙◌}
use Rattle.std.specs.Prelude.{codes}
use Rattle.pb_cmd_trace.specs.Summaries.{passed_words, round_line}
use Rattle.pb_names.proofs.TextLemmas.{join_three}
use Rattle.pb_cmd_trace.proofs.round.put_round.Goals as goal

pub returns : goal.returns
returns c =
    let old = string_bytes c.args.out.now in
    let plan = c.args.plan.now in
    let rec = c.args.rec.now in
    join_three old (codes "loops over") (passed_words plan rec c.in-Some.frame)
    (codes "; ended after 1000 events" ++ 10 ∷ [])
    (string_bytes c.push_str.new.self) (string_bytes c.put_all_passed.new.out) (string_bytes c.writeln.new.self)
    c.in_ok-push_str.ensures.bytes c.in_ok-put_all_passed.ensures c.in_ok-writeln.ensures.bytes
    ∙ ap (λ r. old ++ round_line plan rec r) (sym c.in-Some.is)
