use Rattle.std.proofs.Common.{Option, Some, None}
use Rattle.std.specs.Prelude.{IfSome, MatchOption}
use Rattle.std.proofs.lemmas.Str.Pattern.{split_text_parts}
use Rattle.pb_plan_errors.proofs.path.parted.Goals as goal

some_part : {T : Type 0} (r : Option T) (P : Type 0) (Q : T → Type 0) → MatchOption r P Q → IfSome r Q
some_part None P Q h = tt
some_part (Some x) P Q h = h

pub returns : goal.returns
returns c =
    some_part c.split_once.result _ _
    (split_text_parts c.args.separator.now c.args.text.now c.split_once.result c.split_once.ensures.cases)
