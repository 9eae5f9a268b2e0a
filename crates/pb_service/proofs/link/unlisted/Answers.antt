use Rattle.std.proofs.Common.{◌≡◌, ◌∙◌, sym, true}
use Rattle.toml.specs.View.{view}
use Rattle.pb_frame.specs.Admission.{same}
use Rattle.pb_frame.proofs.Lists.{same-self}
use Rattle.pb_service.specs.Values.{text_in}
use Rattle.pb_service.proofs.Items.{any_at}
use Rattle.pb_service.proofs.link.unlisted.Goals as goal

pub returns-then-not-is_one_of-clause-some : goal.returns-then-not-is_one_of-clause-some
returns-then-not-is_one_of-clause-some c =
    let own : same c.text_in-name.result.now (text_in (view c.item-item.result)) ≡ true =
    rw (← c.text_in-name.ensures) (same-self c.text_in-name.result.now) in
    record {
      stands = any_at (λ d. same c.text_in-name.result.now (text_in d)) c.args.listed.now c.loop-item.item-index _ _
          c.loop-item-test.true c.item-item.is own;
      unknown = sym c.is_one_of.ensures ∙ c.if-not-is_one_of.true;
    }
