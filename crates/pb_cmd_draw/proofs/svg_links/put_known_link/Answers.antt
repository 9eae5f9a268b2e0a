use Rattle.std.proofs.Common.{◌++◌, codes, string_bytes}
use Rattle.pb_cmd_draw.specs.SvgLinks.{link_group, route_text}
use Rattle.pb_cmd_draw.specs.Titles.{link_words}
use Rattle.pb_frame.proofs.TextLemmas.{with_piece}
use Rattle.pb_cmd_draw.proofs.svg_links.put_known_link.Goals as goal

pub returns : goal.returns
returns c =
    let plan = c.args.plan.now in
    let link = c.args.link.now in
    let mark = c.args.mark.now in
    let old = string_bytes c.args.out.now in
    let opened = string_bytes c.push_str.new.self in
    let worded = string_bytes c.put_link_words.new.out in
    let begun = string_bytes c.push_str-2.new.self in
    let drawn = string_bytes c.put_route.new.out in
    let group = link_group (codes "link") plan link mark.facts in
    let words = link_words plan link mark.facts in
    let titled = with_piece old (string_bytes c.put_link_group.new.out) opened group (codes "<title>")
    c.in_ok-put_link_group.ensures c.in_ok-push_str.ensures.bytes in
    let told = with_piece old opened worded (group ++ codes "<title>") words titled c.in_ok-put_link_words.ensures in
    let path = with_piece old worded begun (group ++ codes "<title>" ++ words) (codes "</title><path d=\"") told
    c.in_ok-push_str-2.ensures.bytes in
    let way = with_piece old begun drawn (group ++ codes "<title>" ++ words ++ codes "</title><path d=\"")
    (route_text mark.route) path c.in_ok-put_route.ensures in
    with_piece old drawn (string_bytes c.push_str-3.new.self)
    (group ++ codes "<title>" ++ words ++ codes "</title><path d=\"" ++ route_text mark.route) (codes "\"/></g>\n") way
    c.in_ok-push_str-3.ensures.bytes
