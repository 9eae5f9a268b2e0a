use Rattle.std.proofs.Common.{◌++◌, string_bytes, refl}
use Rattle.std.proofs.lemmas.Result.{on_ok_weaker}
use Rattle.pb_frame.proofs.TextLemmas.{with_piece}
use Rattle.pb_cmd_report.specs.Pages.{top_text, tables_text, source_text, page_text}
use Rattle.pb_cmd_report.proofs.page.put_page.Goals as goal

pub returns : goal.returns
returns c =
    let plan = c.args.standing.now.plan.now in
    let title = c.args.title.now in
    let source = c.args.source.now in
    let change = c.args.change.now in
    let base = c.args.base.now in
    let analyses = c.args.analyses.now in
    let old = string_bytes c.args.out.now in
    let drawn = c.in_ok-put_top.ensures in
    let told = c.in_ok-put_tables.ensures in
    let top = top_text title drawn.0 base analyses in
    let tables = tables_text plan told.0 base analyses in
    let one = string_bytes c.put_top.new.out in
    let two = string_bytes c.push_str.new.self in
    let three = string_bytes c.put_tables.new.out in
    let changed = with_piece old one two top change drawn.1 c.in_ok-push_str.ensures.bytes in
    let before = with_piece old two three (top ++ change) tables changed told.1 in
    on_ok_weaker c.put_source.result
    (λ e. (
      page_text plan title source change drawn.0 told.0 base analyses,
      with_piece old three (string_bytes c.put_source.new.out) (top ++ change ++ tables) (source_text source) before e,
      record { picture = drawn.0; is_picture = drawn.2; trees = told.0; are_trees = told.2; text_is = refl },
    )) c.put_source.ensures
