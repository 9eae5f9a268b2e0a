use Rattle.std.proofs.Common.{rules, ◌≤◌, length, map, ap, arith}
use Rattle.std.proofs.lemmas.List.{length-map}
use Rattle.std.specs.Option.{option_to_list}
use Rattle.std.specs.declared.option.Option.{Option}
use Rattle.pb_lan.specs.declared.step.Item.{Item}
use Rattle.pb_relay.specs.Classes.{number_in}
use Rattle.pb_relay.proofs.ClassLemmas.{number_few}
use Rattle.pb_relay.proofs.OwnLemmas.{number_own}
use Rattle.pb_relay.proofs.queues.PortQueues.len.Goals as goal

pub overflow_add-result : goal.overflow_add-result
overflow_add-result c =
    let few = number_few (map (λ q. q.items) c.self.inside.classes.items) c.self.invariant.4 in
    let n = length-map c.self.inside.classes.items (λ q. q.items) in
    let small : c.self.inside.count ≤ 32768 = omega (arith, few, n, c.self.invariant.0, c.self.invariant.1) in
    search rules

pub returns-in-Some : goal.returns-in-Some
returns-in-Some c =
    let all = number_own (map (λ q. q.items) c.self.inside.classes.items) (option_to_list c.self.inside.own) in
    let one = ap (λ (o : Option Item). length (option_to_list o)) c.in-Some.is in
    omega (arith, all, one, c.self.invariant.1, ap number_in c.self.view_is)

pub returns-in-None : goal.returns-in-None
returns-in-None c =
    let all = number_own (map (λ q. q.items) c.self.inside.classes.items) (option_to_list c.self.inside.own) in
    let none = ap (λ (o : Option Item). length (option_to_list o)) c.in-None.is in
    omega (arith, all, none, c.self.invariant.1, ap number_in c.self.view_is)
