use Rattle.std.proofs.Common.{ap, subst, sym, ◌∙◌}
use Rattle.pb_lan.specs.Records.{IsLawfulRecord}
use Rattle.pb_relay.specs.Protocol.{spanning_tree}
use Rattle.pb_cmd_survive.specs.Impacts.{IsCalm}
use Rattle.pb_cmd_diff.proofs.ends.ends_of.Goals as goal

pub returns : goal.returns
returns c =
    let s = c.args.standing.now in
    let plan = s.plan.now in
    let last = c.in_ok-net.net in
    let planned = ap (λ n. n.plan) c.in_ok-net.ensures ∙ c.requires.up.calm_plan in
    record {
      convergence = s.convergence;
      last = last;
      calm = subst (λ ns. IsCalm plan ns s.patience.ticks s.patience.events s.convergence last) c.requires.whole
          (subst (λ n. IsCalm plan s.names.now s.patience.ticks s.patience.events s.convergence n)
          (sym c.in_ok-net.ensures)
          c.requires.up.is_calm);
      planned = planned;
      lawful = subst (λ p. IsLawfulRecord spanning_tree p last.rec) planned c.in_ok-ends_in.ensures.lawful;
      enough = c.in_ok-ends_in.ensures.enough;
      ends_are = c.in_ok-ends_in.ensures.ends;
    }
