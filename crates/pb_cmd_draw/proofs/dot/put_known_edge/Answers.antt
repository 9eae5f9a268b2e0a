use Rattle.std.proofs.Common.{◌++◌, string_bytes}
use Rattle.pb_cmd_draw.specs.Dot.{edge_head, tone_style}
use Rattle.pb_cmd_draw.specs.Titles.{link_words}
use Rattle.pb_frame.proofs.TextLemmas.{with_piece, last_piece}
use Rattle.pb_cmd_draw.proofs.dot.put_known_edge.Goals as goal

pub returns : goal.returns
returns c =
    let plan = c.args.plan.now in
    let lists = c.args.lists in
    let link = c.args.link.now in
    let facts = c.args.facts in
    let old = string_bytes c.args.out.now in
    let words = string_bytes c.put_link_words.new.out in
    let told = link_words plan link facts in
    let with_words = with_piece old (string_bytes c.put_edge_head.new.out) words (edge_head plan lists link facts) told
    c.in_ok-put_edge_head.ensures c.in_ok-put_link_words.ensures in
    last_piece c.put_tone.result old words (string_bytes c.put_tone.new.out) (edge_head plan lists link facts ++ told)
    (tone_style facts.tone) with_words c.put_tone.ensures
