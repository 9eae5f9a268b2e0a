use Rattle.std.proofs.Common.{ap, sym, ◌∙◌}
use Rattle.std.specs.Option.{option_copied}
use Rattle.pb_rstp.proofs.NetworkLaws.{numbered-map}
use Rattle.pb_rstp.proofs.network.bridge_at.Goals as goal

pub returns : goal.returns
returns c =
    ap option_copied (c.copied.ensures ∙ c.numbered.ensures)
    ∙ sym (numbered-map (λ m. m.now) c.args.bridges.now c.args.number)
