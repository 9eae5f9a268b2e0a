use Rattle.std.proofs.Common.{◌≡◌, ◌≤◌, length, map, take}
use Rattle.pb_lan.specs.PortSets.{refusal_code}
use Rattle.pb_lan.proofs.refusals.Refusals.codes.Given as goal

abbrev pub invariant-loop-refusal : goal.invariant-loop-refusal
invariant-loop-refusal l = record {
  codes : l.codes ≡ map refusal_code (take l.refusal-index l.refusal-items);
  few : length l.codes ≤ l.refusal-index;
}
