use Rattle.std.proofs.Common.{◌≡◌, ◌++◌, drop, take}
use Rattle.pb_export.specs.Fitting.{FitSlots}
use Rattle.pb_export.specs.Rows.{fields_text, AreFilled}
use denote.Shadow.{shadow}
use denote.Text.{Utf8}
use Rattle.pb_export.proofs.reading.fields_of.Given as goal

abbrev pub invariant-loop-slot : goal.invariant-loop-slot
invariant-loop-slot l = record {
  filled : AreFilled (take l.slot-index l.slots) l.fields.items;
  text_is : l.fn.text
      ≡ fields_text l.fields.items ++ l.rest;
  next : FitSlots l.slots l.fn.text → FitSlots (drop l.slot-index l.slots) l.rest;
  back : FitSlots (drop l.slot-index l.slots) l.rest → FitSlots l.slots l.fn.text;
  utf8 : shadow (Utf8 l.rest);
}
