use Rattle.std.proofs.Common.{◌≡◌, ◌<◌, ◌+◌, ◌++◌, ◌∷◌, [], List, ℕ, arith, map, length, drop, get_or, ap, sym, ◌∙◌}
use Rattle.std.proofs.Common.{subst, None, Some, slice_get}
use Rattle.std.proofs.lemmas.List.{length-set, length-map, length-drop}
use Rattle.std.specs.Option.{option_to_list}
use Rattle.pb_lan.specs.declared.step.Item.{Item}
use Rattle.pb_relay.specs.Classes.{number_in, first_out, after_first, IsNoneFrom, AreFew}
use Rattle.pb_relay.proofs.ClassLemmas.{none_set, none_taken, map_at, taken_at, number_taken, few_set, few_at}
use Rattle.pb_relay.proofs.OwnLemmas.{own_there, first_none, rest_none}
use Rattle.pb_relay.proofs.queues.PortQueues.pop_class.Goals as goal

-- no BPDU waits in the place of its own
no_own : (qs : List (List Item)) (own : List Item) (now : List (List Item)) → length qs ≡ 8 → qs ++ own ∷ [] ≡ now
    → get_or now 8 [] ≡ [] → own ≡ []
no_own qs own now n e h = sym (own_there qs own)
    ∙ ap (λ k. get_or (qs ++ own ∷ []) k []) n ∙ ap (λ z. get_or z 8 []) e ∙ h

-- what the classes give is what the queues give
first_is : (qs : List (List Item)) (own : List Item) (now : List (List Item)) → length qs ≡ 8 → qs ++ own ∷ [] ≡ now
    → get_or now 8 [] ≡ [] → first_out now ≡ first_out qs
first_is qs own now n e h =
    ap first_out (sym e) ∙ ap (λ z. first_out (qs ++ z ∷ [])) (no_own qs own now n e h) ∙ first_none qs

rest_is : (qs : List (List Item)) (own : List Item) (now : List (List Item)) → length qs ≡ 8 → qs ++ own ∷ [] ≡ now
    → get_or now 8 [] ≡ [] → after_first qs ++ own ∷ [] ≡ after_first now
rest_is qs own now n e h =
    let none = no_own qs own now n e h in
    ap (λ z. after_first qs ++ z ∷ []) none ∙ sym (rest_none qs)
    ∙ ap (λ z. after_first (qs ++ z ∷ [])) (sym none) ∙ ap after_first e

pub returns-in_err-class-clause-first : goal.returns-in_err-class-clause-first
returns-in_err-class-clause-first c =
    let qs = map (λ q. q.items) c.self.inside.classes.items in
    let h : first_out qs ≡ None = rw (← c.as_slice.ensures.value) c.in_err-class.ensures.highest in
    let n = length-map c.self.inside.classes.items (λ q. q.items) ∙ c.self.invariant.0 in
    c.from_residual.ensures ∙ sym (first_is qs (option_to_list c.self.inside.own) c.args.self.now n c.self.view_is
    c.requires ∙ h)

pub returns-in_err-class-clause-rest : goal.returns-in_err-class-clause-rest
returns-in_err-class-clause-rest c =
    let qs = map (λ q. q.items) c.self.inside.classes.items in
    let own = option_to_list c.self.inside.own in
    let h : first_out qs ≡ None = rw (← c.as_slice.ensures.value) c.in_err-class.ensures.highest in
    let n = length-map c.self.inside.classes.items (λ q. q.items) ∙ c.self.invariant.0 in
    sym c.self.view_is ∙ ap (λ z. z ++ own ∷ []) (sym (none_taken qs h))
    ∙ rest_is qs own c.args.self.now n c.self.view_is c.requires

pub overflow_sub-self : goal.overflow_sub-self
overflow_sub-self c =
    let h = rw c.as_slice.ensures.value at c.in_ok-class.ensures.highest in
    omega (arith, number_taken _ _ h.0 h.1, c.self.invariant.1)

pub invariant_of-self-2 : goal.invariant_of-self-2
invariant_of-self-2 c =
    let qs = map (λ q. q.items) c.self.inside.classes.items in
    let h = rw c.as_slice.ensures.value at c.in_ok-class.ensures.highest in
    let e = taken_at (λ q. q.items) c.self.inside.classes.items c.in_ok-class.class c.index_mut-queue.result.now
    c.pop_front.new.self
    (subst (λ (n : ℕ). c.in_ok-class.class < n) (length-map _ _) h.0) c.index_mut-queue.ensures.value
    c.pop_front.ensures.rest in (
      length-set _ _ _ ∙ c.self.invariant.0,
      omega (arith, number_taken _ _ h.0 h.1, c.self.invariant.1, ap number_in e),
      omega (arith, h.0, length-map c.self.inside.classes.items (λ q. q.items), c.self.invariant.0),
      subst (λ (qs : List (List Item)). IsNoneFrom (c.in_ok-class.class + 1) qs) (sym e)
          (none_set (map (λ q. q.items) c.self.inside.classes.items) (c.in_ok-class.class + 1) c.in_ok-class.class
          (c.in_ok-class.class + 1) _ (omega arith) (omega arith)
          (rw c.as_slice.ensures.value at c.in_ok-class.ensures.above)),
      subst AreFew (sym e)
          (few_set qs c.in_ok-class.class (drop 1 (get_or qs c.in_ok-class.class [])) c.self.invariant.4
          (omega (
            arith,
            length-drop 1 (get_or qs c.in_ok-class.class []),
            few_at qs c.in_ok-class.class c.self.invariant.4,
          ))),
    )

pub returns-clause-first : goal.returns-clause-first
returns-clause-first c =
    let qs = map (λ q. q.items) c.self.inside.classes.items in
    let h = rw c.as_slice.ensures.value at c.in_ok-class.ensures.highest in
    let n = length-map c.self.inside.classes.items (λ q. q.items) ∙ c.self.invariant.0 in
    let f = first_is qs (option_to_list c.self.inside.own) c.args.self.now n c.self.view_is c.requires in
    let t : Some c.in_ok-item.item ≡ slice_get (get_or qs c.in_ok-class.class []) 0 =
    sym (ap (λ q. slice_get q 0)
    (map_at (λ q. q.items) c.self.inside.classes.items c.in_ok-class.class c.index_mut-queue.result.now
    (subst (λ (n : ℕ). c.in_ok-class.class < n) (length-map _ _) h.0) c.index_mut-queue.ensures.value
    ∙ c.in_ok-item.ensures.items)) in
    t ∙ sym h.2 ∙ sym f

pub returns-clause-rest : goal.returns-clause-rest
returns-clause-rest c =
    let qs = map (λ q. q.items) c.self.inside.classes.items in
    let own = option_to_list c.self.inside.own in
    let h = rw c.as_slice.ensures.value at c.in_ok-class.ensures.highest in
    let e = taken_at (λ q. q.items) c.self.inside.classes.items c.in_ok-class.class c.index_mut-queue.result.now
    c.pop_front.new.self
    (subst (λ (n : ℕ). c.in_ok-class.class < n) (length-map _ _) h.0) c.index_mut-queue.ensures.value
    c.pop_front.ensures.rest in
    let n = length-map c.self.inside.classes.items (λ q. q.items) ∙ c.self.invariant.0 in
    ap (λ z. z ++ own ∷ []) (e ∙ sym h.3)
    ∙ rest_is qs own c.args.self.now n c.self.view_is c.requires
