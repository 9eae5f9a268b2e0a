use Rattle.std.proofs.Common.{string_bytes}
use Rattle.pb_names.proofs.TextLemmas.{join_three}
use Rattle.pb_cmd_report.specs.Html.{table_of}
use Rattle.pb_cmd_report.specs.declared.texts.TheConstants.{TREE, TABLE_END}
use Rattle.pb_cmd_report.proofs.page.put_tree.Goals as goal

pub returns : goal.returns
unfolding table_of
returns c =
    let told = c.in_ok-put_tree_rows.ensures in (
      told.0,
      join_three (string_bytes c.args.out.now) TREE.now told.0 TABLE_END.now
          (string_bytes c.push_str.new.self) (string_bytes c.put_tree_rows.new.out) (string_bytes c.push_str-2.new.self)
          c.in_ok-push_str.ensures.bytes told.1 c.in_ok-push_str-2.ensures.bytes,
      told.2,
    )
