use Rattle.std.proofs.Common.{ap, ◌∙◌, subst}
use Rattle.std.specs.List.{list_all}
use Rattle.pb_rstp.specs.Laws.{IsInLine}
use Rattle.pb_rstp.specs.Settling.{nows}
use Rattle.pb_rstp.specs.Tree.{is_quiet}
use Rattle.pb_rstp.proofs.NetworkLaws.{quiet_tests}
use Rattle.pb_rstp.proofs.network.is_in_line.Goals as goal

pub returns : goal.returns
returns c =
    let line : IsInLine c.args.bridge.now = subst IsInLine c.bridge.view_is c.bridge.invariant.in_line in (
      λ _. line,
      λ _. c.are_quiet.ensures ∙ ap (λ ps. list_all is_quiet (nows ps)) c.deref.ensures.value ∙ quiet_tests
          (nows c.bridge.inside.ports.items) c.bridge.invariant.in_line.states,
    )
