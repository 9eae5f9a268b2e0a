use Rattle.std.proofs.Common.{◌≡◌, ◌++◌, length}
use Rattle.pb_export.specs.Fitting.{HasGroups}
use Rattle.pb_export.specs.Rows.{groups_text}
use denote.Shadow.{shadow}
use denote.Text.{Utf8}
use Rattle.pb_export.proofs.words.groups_in.Given as goal

abbrev pub invariant-groups : goal.invariant-groups
invariant-groups l = record {
  text_is : l.fn.text ≡ groups_text l.groups.items ++ l.rest;
  next : HasGroups l.fn.text → HasGroups l.rest;
  back : HasGroups l.rest → HasGroups l.fn.text;
  utf8 : shadow (Utf8 l.rest);
}

abbrev pub decreases-groups : goal.decreases-groups
decreases-groups l = length l.rest
