use Rattle.std.proofs.Common.{◌≡◌, ◌++◌, ◌≤◌, codes, string_bytes, sym, ap, subst, ◌∙◌, append_assoc, arith}
use Rattle.serde_json.specs.Data.{depth, object}
use Rattle.serde_json.specs.View.{view}
use Rattle.serde_json.specs.Written.{IsInOrder}
use Rattle.pb_export.specs.Documents.{IsJson, document_of, report_members}
use Rattle.pb_export.specs.Heads.{head_text, with_head}
use Rattle.pb_export.proofs.DepthLemmas.{depth-document}
use Rattle.pb_export.proofs.HeadLemmas.{headed}
use Rattle.pb_export.proofs.as_json.json_of.Goals as goal

pub returns : goal.returns
returns c =
    let form = c.args.form.now in
    let head = c.args.head.now in
    let rows = c.in_ok-rows.rows.items in
    let rest = c.in-Some.rest.now in
    let written = c.in_ok-report.ensures in
    let seen : view c.in_ok-value.value ≡ document_of form rows = c.in_ok-value.ensures
    ∙ ap (document_of form) c.as_slice.ensures.value in
    let shallow : depth (view c.in_ok-value.value) ≤ 127 = rw seen (let few = depth-document form rows in omega arith)
    in
    let report : string_bytes c.in_ok-report.report ≡ codes "{\n" ++ (codes "  \"" ++ rest) =
    sym c.as_str.ensures.value ∙ c.in-Some.ensures in
    let json : IsJson (document_of form rows) (codes "{\n" ++ (codes "  \"" ++ rest)) =
    subst (IsJson (document_of form rows)) report (record {
      in_order = rw seen at written.order;
      reads_back = rw seen at (written.reads_back shallow);
    }) in
    let text : string_bytes c.push_str-2.new.self ≡ head_text head ++ (codes "  \"" ++ rest) =
    c.in_ok-push_str-2.ensures.bytes
    ∙ ap (λ k. k ++ rest) (c.in_ok-push_str.ensures.bytes ∙ ap (λ k. k ++ codes "  \"") c.in_ok-json.ensures)
    ∙ append_assoc (head_text head) (codes "  \"") rest in (
      rows,
      c.in_ok-rows.ensures,
      record {
        in_order = subst (λ t. IsInOrder t (object (with_head head (report_members form rows)))) (sym text)
            (headed head (report_members form rows) rest json.in_order);
        rest = codes "  \"" ++ rest;
        text_is = text;
        report = json;
      },
    )
