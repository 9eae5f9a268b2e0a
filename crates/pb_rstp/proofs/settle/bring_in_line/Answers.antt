use Rattle.std.proofs.Common.{◌≡◌, List, ap, sym, ◌∙◌, if◌then◌else◌}
use Rattle.pb_rstp.specs.Roles.{root_vector}
use Rattle.pb_rstp.specs.Settling.{befores, nows, each, with_role, with_roles, without_agreement, with_agreements}
use Rattle.pb_rstp.specs.Settling.{with_infos, with_states}
use Rattle.pb_rstp.specs.Vectors.{is_same_vector}
use Rattle.pb_rstp.specs.declared.moving.Moving.{Moving}
use Rattle.pb_rstp.specs.declared.vector.Vector.{Vector}
use Rattle.pb_rstp.proofs.BeforeLaws.{befores-roles}
use Rattle.pb_rstp.proofs.RoleLaws.{roles-first}
use Rattle.pb_rstp.proofs.settle.bring_in_line.Goals as goal

pub returns : goal.returns
returns c =
    let id = c.args.id in
    let ports : List Moving = c.args.ports.now in
    let roles : List Moving = with_roles id ports in
    let root = c.root_vector-root in
    let was : c.args.before.now ≡ root_vector id (befores roles) =
    c.requires ∙ ap (λ ps. root_vector id ps) (sym (befores-roles id ports)) in
    let is : root.result ≡ root_vector id (nows roles) = root.ensures ∙ sym (roles-first id ports).0 in
    let first : c.give_roles.new.ports ≡ roles =
    c.give_roles.ensures ∙ ap (λ v. each (with_role id v) ports) root.ensures in
    let choice = λ (v w : Vector) (ms : List Moving). if is_same_vector v w then ms else each without_agreement ms in
    let second : c.clear_agreements.new.ports ≡ with_agreements id roles =
    c.clear_agreements.ensures
    ∙ ap (λ ms. choice c.args.before.now root.result ms) first
    ∙ ap (λ v. choice v root.result roles) was
    ∙ ap (λ v. choice (root_vector id (befores roles)) v roles) is in
    c.give_states.ensures ∙ ap with_states (c.clear_infos.ensures ∙ ap with_infos second)
