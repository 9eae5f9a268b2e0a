use Rattle.std.proofs.Common.{◌≡◌, ◌++◌, ◌==◌, [], OnOk, string_bytes, if◌then◌else◌, ap, ne_eqb, subst, sym}
use Rattle.pb_frame.proofs.TextLemmas.{last_piece}
use Rattle.pb_cmd_draw.specs.SvgLists.{list_plate, list_texts}
use Rattle.pb_cmd_draw.proofs.svg_lists.put_known_lists.Goals as goal

pub returns : goal.returns
returns c =
    let plan = c.args.plan.now in
    let link = c.args.link.now in
    let half = c.args.half in
    let old = string_bytes c.args.out.now in
    let new = string_bytes c.put_list_texts.new.out in
    let lines = c.line_count-lines.result in
    let all = list_plate half lines ++ list_texts plan link in
    let both = last_piece c.put_list_texts.result old (string_bytes c.put_list_plate.new.out) new
    (list_plate half lines)
    (list_texts plan link) c.in_ok-put_list_plate.ensures c.put_list_texts.ensures in
    let some : (if lines == 0 then [] else all) ≡ all =
    ap (λ b. if b then [] else all) (ne_eqb lines 0 c.if-lines-eq0.false) in
    subst
    (λ n. OnOk c.put_list_texts.result
    (new ≡ old ++ (if n == 0 then [] else list_plate half n ++ list_texts plan link)))
    c.line_count-lines.ensures.exact (subst (λ t. OnOk c.put_list_texts.result (new ≡ old ++ t)) (sym some) both)
