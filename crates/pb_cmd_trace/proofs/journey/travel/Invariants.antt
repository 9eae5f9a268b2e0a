use Rattle.std.proofs.Common.{◌≡◌, ◌++◌, List, take}
use Rattle.pb_cmd_trace.specs.Stories.{AreStories}
use Rattle.pb_cmd_trace.specs.declared.lines.TraceLine.{TraceLine}
use Rattle.pb_cmd_trace.proofs.journey.travel.Given as goal

abbrev pub invariant-loop-index : goal.invariant-loop-index
invariant-loop-index l = record {
  told : (more : List TraceLine) × (l.lines.items ≡ l.initial.lines.items ++ more)
      × AreStories l.plan (take l.index l.entries) l.initial.net l.net more;
  plan : l.net.plan ≡ l.plan;
}
