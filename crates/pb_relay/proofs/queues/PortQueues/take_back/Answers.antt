use Rattle.std.proofs.Common.{◌≡◌, ◌<◌, ◌++◌, false, is_some, None, Some, List, arith, ap, sym, ◌∙◌, subst}
use Rattle.std.proofs.Common.{append-nil, map, [], ◌∷◌}
use Rattle.std.proofs.lemmas.Grind.{common_steps}
use Rattle.std.proofs.lemmas.List.{length-set, length-map}
use Rattle.std.specs.declared.option.Option.{Option}
use Rattle.std.specs.Option.{option_to_list}
use Rattle.pb_lan.specs.declared.step.Item.{Item}
use Rattle.pb_relay.specs.Classes.{number_in, without_last, IsNoneFrom, AreFew}
use Rattle.pb_relay.proofs.ClassLemmas.{lost_at, taken_last, unchanged_at, fewer_still}
use Rattle.pb_relay.proofs.OwnLemmas.{lost_own}
use Rattle.pb_relay.proofs.queues.PortQueues.take_back.Goals as goal

pub overflow_sub-self : goal.overflow_sub-self
overflow_sub-self c =
    let queue = c.index_mut-queue.result.now in
    let some : 0 < queue.len = grind (arith, common_steps) in
    (taken_last (λ q. q.items) c.self.inside.classes.items c.args.class queue c.pop_back.new.self queue.len
    c.self.inside.count c.self.inside.bound
    (omega arith) c.index_mut-queue.ensures.value queue.ok.0 some c.pop_back.ensures.rest c.self.invariant.1
    c.self.invariant.3).0

pub invariant_of-self : goal.invariant_of-self
invariant_of-self c =
    let queue = c.index_mut-queue.result.now in
    let some : 0 < queue.len = grind (arith, common_steps) in
    let taken = taken_last (λ q. q.items) c.self.inside.classes.items c.args.class queue c.pop_back.new.self queue.len
    c.self.inside.count c.self.inside.bound
    (omega arith) c.index_mut-queue.ensures.value queue.ok.0 some c.pop_back.ensures.rest c.self.invariant.1
    c.self.invariant.3 in
    let lost = lost_at (λ q. q.items) c.self.inside.classes.items c.args.class queue c.pop_back.new.self queue.len
    (omega arith) c.index_mut-queue.ensures.value queue.ok.0 c.pop_back.ensures.rest in (
      length-set _ _ _ ∙ c.self.invariant.0,
      taken.1,
      c.self.invariant.2,
      taken.2,
      subst AreFew (sym lost) (fewer_still (map (λ q. q.items) c.self.inside.classes.items) c.args.class
          c.self.invariant.4),
    )

pub returns-then-is_some : goal.returns-then-is_some
returns-then-is_some c =
    let queue = c.index_mut-queue.result.now in
    let own = option_to_list c.self.inside.own in
    ap (λ z. z ++ own ∷ []) (lost_at (λ q. q.items) c.self.inside.classes.items c.args.class queue c.pop_back.new.self
    queue.len (omega arith) c.index_mut-queue.ensures.value queue.ok.0 c.pop_back.ensures.rest)
    ∙ sym (lost_own (map (λ q. q.items) c.self.inside.classes.items) c.args.class own
    (omega (arith, length-map c.self.inside.classes.items (λ q. q.items))))
    ∙ ap (without_last c.args.class) c.self.view_is

-- an empty class stays empty
none_taken : (taken : Option Item) (old new : List Item) → is_some taken ≡ false → old ≡ new ++ option_to_list taken
    → new ≡ old
none_taken None old new n e = sym (e ∙ append-nil new)
none_taken (Some item) old new n e = cc

pub invariant_of-self-else-is_some : goal.invariant_of-self-else-is_some
invariant_of-self-else-is_some c =
    let queue = c.index_mut-queue.result.now in
    let same = unchanged_at (λ q. q.items) c.self.inside.classes.items c.args.class queue c.pop_back.new.self
    (omega arith) c.index_mut-queue.ensures.value
    (none_taken c.pop_back.result queue.items c.pop_back.new.self.items (cc) c.pop_back.ensures.items) in (
      length-set _ _ _ ∙ c.self.invariant.0,
      c.self.invariant.1 ∙ sym (ap number_in same),
      c.self.invariant.2,
      subst (λ (qs : List (List Item)). IsNoneFrom c.self.inside.bound qs) (sym same) c.self.invariant.3,
      subst AreFew (sym same) c.self.invariant.4,
    )

pub returns-else-is_some : goal.returns-else-is_some
returns-else-is_some c =
    let queue = c.index_mut-queue.result.now in
    let own = option_to_list c.self.inside.own in
    ap (λ z. z ++ own ∷ []) (lost_at (λ q. q.items) c.self.inside.classes.items c.args.class queue c.pop_back.new.self
    queue.len (omega arith) c.index_mut-queue.ensures.value queue.ok.0 c.pop_back.ensures.rest)
    ∙ sym (lost_own (map (λ q. q.items) c.self.inside.classes.items) c.args.class own
    (omega (arith, length-map c.self.inside.classes.items (λ q. q.items))))
    ∙ ap (without_last c.args.class) c.self.view_is
