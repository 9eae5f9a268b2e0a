use Rattle.std.proofs.Common.{◌-◌, ◌≡◌, length, take, drop, ◌++◌, ap, ◌∙◌, arith, length-drop}
use Rattle.pb_port.proofs.PuttingLemmas.{take_all, head_then_frame, frame_only}
use Rattle.pb_port.proofs.run.put_part.Goals as goal

pub returns-then-done-head-clause-octets : goal.returns-then-done-head-clause-octets
returns-then-done-head-clause-octets c =
    let run = c.args.run.now in
    let head = c.args.head.now in
    let done = c.args.done in
    let room = length run - c.args.at in
    let left = length c.put-behind.new.run - c.put-behind.result in
    let part : take (length head - done) (drop done head) ≡ drop done head = take_all (length head - done)
    (drop done head) (omega (arith, length-drop done head)) in
    let less : left ≡ room - length (drop done head) =
    omega (arith, ap length part, c.put-behind.ensures.end, c.put-behind.auto.run) in
    let is : take c.put.result c.put.new.run ≡ (take c.args.at run ++ take room (drop done head))
    ++ take left c.args.frame.now =
    c.put.ensures.octets ∙ ap (λ z. z ++ take left c.args.frame.now)
    (c.put-behind.ensures.octets ∙ ap (λ z. take c.args.at run ++ take room z) part) in
    head_then_frame (take c.args.at run) (take c.put.result c.put.new.run) head c.args.frame.now room left done
    (omega arith) less is

pub returns-clause-octets : goal.returns-clause-octets
returns-clause-octets c =
    let front = take c.args.at c.args.run.now in
    let room = length c.args.run.now - c.args.at in
    c.put-2.ensures.octets ∙ ap (λ z. front ++ take room z)
    (frame_only c.args.head.now c.args.frame.now c.args.done (omega arith))
