use Rattle.std.proofs.Common.{ap, subst, ◌∙◌}
use Rattle.pb_net.specs.Answers.{HaveRun}
use Rattle.pb_cmd_survive.specs.Failures.{downs}
use Rattle.pb_cmd_survive.proofs.drive.fail.Goals as goal

pub take_down-requires-clause-plan : goal.take_down-requires-clause-plan
take_down-requires-clause-plan c = ap (λ n. n.plan) c.in_ok-net.ensures ∙ c.requires.up_plan

pub returns-clause-ok : goal.returns-clause-ok
returns-clause-ok c =
    let s = c.args.standing.now in
    let down = c.take_down.new.net in
    record {
      first = s.convergence;
      calm = s.calm;
      is_calm = c.requires.is_calm;
      stood = s.up;
      stands = c.requires.stands;
      fails = record {
        down = down;
        set_down = subst (λ n. HaveRun n (downs s.plan.now c.args.failure) down) c.in_ok-net.ensures
            c.in_ok-take_down.ensures.ok;
        converges = c.in_ok-convergence.ensures.ok;
      };
    }
