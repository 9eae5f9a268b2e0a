use Rattle.std.proofs.Common.{◌≡◌}
use Rattle.std.proofs.lemmas.List.Elements.{same_from_all_zip}
use Rattle.std.specs.Global.{Global}
use Rattle.std.specs.List.{AllZip}
use Rattle.std.specs.VecDeque.{deque_len}
use Rattle.std.specs.declared.collections.VecDeque.{VecDeque}
use Rattle.pb_lan.specs.declared.step.Item.{Item}
use Rattle.pb_relay.proofs.ListCopies.{same_queues, if_ok}
use Rattle.pb_net.proofs.copying.copied_boxes.Goals as goal

-- a queue and its copy
abbrev IsCopy : VecDeque Item Global → VecDeque Item Global → Type 0
IsCopy q w = AllZip (λ (x y : Item). y ≡ x) q.items w.items × (deque_len w ≡ deque_len q)

pub returns : goal.returns
returns c =
    if_ok c.clone.result _ _ _
    (λ copy z. same_queues (λ q. q.items) IsCopy
    (λ q w one. same_from_all_zip (λ x y. y ≡ x) q.items w.items one.0 (λ x y e. e)) c.args.boxes.now.items copy.items
    z.0)
    c.clone.ensures.cases
