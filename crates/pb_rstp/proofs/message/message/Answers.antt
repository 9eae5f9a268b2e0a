use Rattle.std.proofs.Common.{refl, rules}
use Rattle.pb_bpdu.proofs.Equal.{bpdu_eq}
use Rattle.pb_rstp.specs.Messages.{message}
use Rattle.pb_rstp.proofs.message.message.Goals as goal

pub returns : goal.returns
returns c = bpdu_eq _ (message c.args.id c.args.offer.now.root c.args.offer.now.times c.args.p.now)
    (search rules) (search rules) (search rules) (search rules) (search rules) refl refl refl refl
    (search rules) refl refl refl refl
