use Rattle.std.proofs.Common.{◌≡◌, ◌++◌, ◌∙◌, ap, subst, string_bytes, OnOk, ℕ, List, []}
use Rattle.std.specs.Io.KnownBytes.{Appends}
use Rattle.pb_cmd_init.specs.PlanTexts.{whole_text, plan_text}
use Rattle.pb_cmd_init.proofs.plan_file.write_plan.Goals as goal

-- the octets of a text that was appended to an empty one; the text is a variable, so that no proof computes it
appended_to_nothing : (octets whole before text : List ℕ) → octets ≡ whole → whole ≡ before ++ text → before ≡ []
    → octets ≡ text
appended_to_nothing octets whole before text are_octets is_whole is_empty =
    are_octets ∙ is_whole ∙ ap (λ start. start ++ text) is_empty

-- the same text with the number of services by another name
renamed : (text : ℕ → List ℕ) (whole before : List ℕ) (given asked : ℕ) → whole ≡ before ++ text given
    → given ≡ asked → whole ≡ before ++ text asked
renamed text whole before given asked is_whole same = is_whole ∙ ap (λ n. before ++ text n) same

pub returns-clause-ok : goal.returns-clause-ok
returns-clause-ok g c =
    let topology = c.args.topology in
    let text = plan_text topology c.args.services in
    let whole = string_bytes c.put_plan.new.out in
    let start = string_bytes c.new-out.result in
    let is_whole = renamed (whole_text topology) whole start c.services_of.result _ c.in_ok-put_plan.ensures
    c.services_of.ensures in
    let are_text = appended_to_nothing c.as_bytes.result.now whole start text c.as_bytes.ensures.value is_whole
    c.new-out.ensures.bytes in
    subst (λ octets. OnOk c.write_whole.result
    (Appends (g.W.Write.contents c.args.writer.now) (g.W.Write.contents c.write_whole.new.writer) octets)) are_text
    c.write_whole.ensures.ok
