use Rattle.std.proofs.Common.{is_ok}
use Rattle.pb_run.proofs.FreshTaps.{fresh_push}
use Rattle.pb_run.proofs.taps.LaneTaps.push.Goals as goal

pub invariant_of-self : goal.invariant_of-self
invariant_of-self g c = record {
  fresh = fresh_push (is_ok c.push.result) c.args.self.now.list.items c.push.new.self.items c.args.tap
      c.push.ensures.items c.args.self.now.fresh c.requires;
}
