-- The ends of links that names disable.
use Rattle.std.proofs.Common.{◌≡◌, ◌<◌, ◌⊎◌, ◌+◌, ℕ, suc, Bool, true, false, cond, List, [], ◌∷◌, ◌++◌, map, flat_map}
use Rattle.std.proofs.Common.{take, length, slice_get, get_or, Some, string_bytes, refl, sym, ap, subst, ◌∙◌}
use Rattle.std.proofs.Common.{append_assoc, append-nil, drop}
use Rattle.std.proofs.lemmas.Grind.{flat_map-append}
use Rattle.std.proofs.lemmas.List.{take_more, take-append-drop, map-append}
use Rattle.std.specs.Global.{Global}
use Rattle.std.specs.List.{filter}
use Rattle.std.specs.declared.string.String.{String}
use Rattle.pb_frame.proofs.Lists.{All-append}
use Rattle.pb_frame.proofs.Things.{here_is}
use Rattle.pb_frame.specs.Admission.{same}
use Rattle.pb_lan.proofs.PortsInPlans.{port_at-end}
use Rattle.pb_lan.specs.Plans.{IsSound}
use Rattle.pb_lan.specs.Ports.{port_at, is_provider, ends_of}
use Rattle.pb_lan.specs.declared.event.Event.{Event}
use Rattle.pb_lan.specs.declared.plan.Plan.{Plan}
use Rattle.pb_lan.specs.declared.plan.End.{End}
use Rattle.pb_lan.specs.declared.plan.LinkPlan.{LinkPlan}
use Rattle.pb_net.specs.Answers.{NetView}
use Rattle.pb_converge.proofs.DriveLemmas.{done-append, done-kept}
use Rattle.pb_converge.specs.Drives.{HasBroken, HaveDone, IsRefusal}
use Rattle.pb_converge.specs.Falls.{end_name, fails, ends_down, all_down, set_down, downs, fresh_by, IsClear}
use Rattle.pb_converge.specs.Falls.{Judges, HaveFallen, IsRefused}
use Rattle.pb_converge.specs.declared.falling.DownFault.{DownFault}
use Rattle.pb_converge.specs.declared.fault.DriveFault.{DriveFault}
use Rattle.pb_converge.specs.declared.fault.DriveFault.TheVariants.{Memory}

-- both ends of a link of the plan are ports to other bridges
pub provider_at : (plan : Plan) → IsSound plan → (items : List LinkPlan) (k : ℕ) (link : LinkPlan) (e : End)
    → items ≡ plan.links → k < length items → link ≡ get_or items k link → (link.a ≡ e) ⊎ (link.b ≡ e)
    → is_provider (port_at plan e.bridge e.port) ≡ true
provider_at plan sound items k link e all within is which =
    ap is_provider (port_at-end plan sound (suc k) link e
    (subst (λ xs. slice_get xs k ≡ Some link) all (here_is items k link within is)) which)

-- the events that disable both ends of a link
pub both_due : (plan : Plan) (name : List ℕ) (link : LinkPlan) → fails plan name link ≡ true
    → set_down link.a ∷ [] ++ set_down link.b ∷ [] ≡ map set_down (ends_down plan name link)
both_due plan name link is =
    let named = filter (λ e. same name (end_name plan e)) (ends_of link) in
    let all : ends_down plan name link ≡ ends_of link = ap (λ b. cond b (ends_of link) named) is in
    sym (ap (λ es. map set_down es) all)

-- both ends of a link were disabled
pub both_down : (plan : Plan) (name : List ℕ) (link : LinkPlan) (old mid new : NetView) → fails plan name link ≡ true
    → HaveDone old (set_down link.a ∷ []) mid → HaveDone mid (set_down link.b ∷ []) new
    → HaveDone old (map set_down (ends_down plan name link)) new
both_down plan name link old mid new is first second =
    subst (λ es. HaveDone old es new) (both_due plan name link is)
    (done-append old mid new (set_down link.a ∷ []) (set_down link.b ∷ []) first second)

-- the events that disable each end of a link that is named
pub named_due : (plan : Plan) (name : List ℕ) (link : LinkPlan) → fails plan name link ≡ false
    → map set_down (filter (λ e. same name (end_name plan e)) (link.a ∷ []))
    ++ map set_down (filter (λ e. same name (end_name plan e)) (link.b ∷ []))
    ≡ map set_down (ends_down plan name link)
named_due plan name link is =
    let test : End → _ = λ e. same name (end_name plan e) in
    let front = filter test (link.a ∷ []) in
    let back = filter test (link.b ∷ []) in
    let some : ends_down plan name link ≡ filter test (ends_of link) =
    ap (λ b. cond b (ends_of link) (filter test (ends_of link))) is in
    let split : filter test (ends_of link) ≡ front ++ back =
    elim (test link.a) as (λ c. cond c (link.a ∷ back) back ≡ cond c (link.a ∷ []) [] ++ back)
    [ true ↦ refl | false ↦ refl ] in
    sym (ap (λ es. map set_down es) (some ∙ split) ∙ map-append set_down front back)

-- each end of a link was disabled if it was named
pub named_down : (plan : Plan) (name : List ℕ) (link : LinkPlan) (old mid new : NetView)
    → fails plan name link ≡ false
    → HaveDone old (map set_down (filter (λ e. same name (end_name plan e)) (link.a ∷ []))) mid
    → HaveDone mid (map set_down (filter (λ e. same name (end_name plan e)) (link.b ∷ []))) new
    → HaveDone old (map set_down (ends_down plan name link)) new
named_down plan name link old mid new is first second =
    let test : End → _ = λ e. same name (end_name plan e) in
    let front = map set_down (filter test (link.a ∷ [])) in
    let back = map set_down (filter test (link.b ∷ [])) in
    subst (λ es. HaveDone old es new) (named_due plan name link is) (done-append old mid new front back first second)

-- the ends of one more link were disabled, for the loop of fall_named
pub link_more : (plan : Plan) (name : List ℕ) (items : List LinkPlan) (k : ℕ) (link : LinkPlan)
    (old mid new : NetView) → items ≡ plan.links → k < length items → link ≡ get_or items k link
    → HaveDone old (map set_down (flat_map (ends_down plan name) (take k plan.links))) mid
    → HaveDone mid (map set_down (ends_down plan name link)) new
    → HaveDone old (map set_down (flat_map (ends_down plan name) (take (k + 1) plan.links))) new
link_more plan name items k link old mid new all within is before one =
    let f = ends_down plan name in
    let links = plan.links in
    let front = flat_map f (take k links) in
    let fits : k < length links = subst (λ xs. k < length xs) all within in
    let here : link ≡ get_or links k link = subst (λ xs. link ≡ get_or xs k link) all is in
    let ends : flat_map f (take (k + 1) links) ≡ front ++ f link =
    ap (λ xs. flat_map f xs) (take_more links k link fits ∙ sym (ap (λ x. take k links ++ x ∷ []) here))
    ∙ flat_map-append f (take k links) (link ∷ []) ∙ ap (λ xs. front ++ xs) (append-nil (f link)) in
    subst (λ es. HaveDone old es new) (sym (ap (λ es. map set_down es) ends ∙ map-append set_down front (f link)))
    (done-append old mid new (map set_down front) (map set_down (f link)) before one)

-- what one more name disables was disabled, for the loop of fall_all
pub fallen_more : (plan : Plan) (names : List (String Global)) (k : ℕ) (w : String Global) (mid new : NetView)
    → k < length names → w ≡ get_or names k w → HaveFallen plan (take k names) mid → IsClear plan (string_bytes w)
    → HaveDone mid (map set_down (all_down plan (string_bytes w))) new → HaveFallen plan (take (k + 1) names) new
fallen_more plan names k w mid new within is before clear one =
    let f : String Global → List Event = λ v. map set_down (all_down plan (string_bytes v)) in
    let split : downs plan (take k names ++ w ∷ []) ≡ downs plan (take k names) ++ f w =
    flat_map-append f (take k names) (w ∷ []) ∙ ap (λ xs. downs plan (take k names) ++ xs) (append-nil (f w)) in
    let kept : mid.is_kept ≡ new.is_kept = sym (done-kept mid new (f w) one) in
    let from_start = subst (λ b. HaveDone (fresh_by b plan) (downs plan (take k names)) mid) kept before.done in
    subst (λ ws. HaveFallen plan ws new)
    (ap (λ x. take k names ++ x ∷ []) is ∙ sym (take_more names k w within))
    (record {
      clear = All-append (λ v. IsClear plan (string_bytes v)) (take k names) (w ∷ []) before.clear (clear, tt);
      done = subst (λ es. HaveDone (fresh_by new.is_kept plan) es new) (sym split)
          (done-append (fresh_by new.is_kept plan) mid new (downs plan (take k names)) (f w) from_start one);
    })

-- the events that disable what the names disable were performed from the start of the network
pub fallen_from : {old : NetView} {is_kept : Bool} (plan : Plan) (names : List (String Global)) (new : NetView)
    → old ≡ fresh_by is_kept plan → new.is_kept ≡ old.is_kept → HaveFallen plan names new
    → HaveDone (fresh_by is_kept plan) (downs plan names) new
fallen_from plan names new start kept fallen =
    subst (λ k. HaveDone (fresh_by k plan) (downs plan names) new) (kept ∙ ap (λ v. v.is_kept) start) fallen.done

-- the name at this index is refused
pub refused_at : (plan : Plan) (names : List (String Global)) (k : ℕ) (w : String Global) (text : List ℕ)
    (fault : DownFault) → k < length names → w ≡ get_or names k w → text ≡ string_bytes w
    → Judges plan text k (Some fault) → IsRefused plan names fault
refused_at plan names k w text fault within is t judged = record {
  index = k;
  w = w;
  there = here_is names k w within is;
  reason = subst (λ z. Judges plan z k (Some fault)) t judged;
}

-- an event that was not performed, also after others and before others
pub broken-now : (due : List Event) (fault : DriveFault) (old new : NetView) → new ≡ old → IsRefusal fault new
    → HasBroken due fault old new
broken-now due fault old new same h =
    record { events = []; later = due; parts = refl; done = same; refusal = h }

broken-later : (front due : List Event) (fault : DriveFault) (old mid new : NetView) → HaveDone old front mid
    → HasBroken due fault mid new → HasBroken (front ++ due) fault old new
broken-later front due fault old mid new h b = record {
  events = front ++ b.events;
  later = b.later;
  parts = append_assoc front b.events b.later ∙ ap (λ es. front ++ es) b.parts;
  done = done-append old mid new front b.events h b.done;
  refusal = b.refusal;
}

broken-before : (due back : List Event) (fault : DriveFault) (old new : NetView) → HasBroken due fault old new
    → HasBroken (due ++ back) fault old new
broken-before due back fault old new b = record {
  events = b.events;
  later = b.later ++ back;
  parts = sym (append_assoc b.events b.later back) ∙ ap (λ es. es ++ back) b.parts;
  done = b.done;
  refusal = b.refusal;
}

-- among the first of some events, or the last
pub broken-first : (due back all : List Event) (fault : DriveFault) (old new : NetView) → due ++ back ≡ all
    → HasBroken due fault old new → HasBroken all fault old new
broken-first due back all fault old new e b = subst (λ es. HasBroken es fault old new) e
    (broken-before due back fault old new b)

pub broken-second : (front due all : List Event) (fault : DriveFault) (old mid new : NetView) → front ++ due ≡ all
    → HaveDone old front mid → HasBroken due fault mid new → HasBroken all fault old new
broken-second front due all fault old mid new e h b = subst (λ es. HasBroken es fault old new) e
    (broken-later front due fault old mid new h b)

-- in the middle of some events
broken-within : (front due back all : List Event) (fault : DriveFault) (old mid new : NetView)
    → front ++ (due ++ back) ≡ all → HaveDone old front mid → HasBroken due fault mid new
    → HasBroken all fault old new
broken-within front due back all fault old mid new e h b = subst (λ es. HasBroken es fault old new) e
    (broken-later front (due ++ back) fault old mid new h (broken-before due back fault mid new b))

-- the events of one item among those of all
around : {X Y : Type 0} (f : X → List Y) (xs : List X) (k : ℕ) (x : X) → k < length xs → x ≡ get_or xs k x
    → flat_map f (take k xs) ++ (f x ++ flat_map f (drop (k + 1) xs)) ≡ flat_map f xs
around f xs k x within is =
    let back = flat_map f (drop (k + 1) xs) in
    let here : take (k + 1) xs ≡ take k xs ++ x ∷ [] =
    take_more xs k x within ∙ sym (ap (λ y. take k xs ++ y ∷ []) is) in
    let front : flat_map f (take (k + 1) xs) ≡ flat_map f (take k xs) ++ f x =
    ap (flat_map f) here ∙ flat_map-append f (take k xs) (x ∷ [])
    ∙ ap (λ ys. flat_map f (take k xs) ++ ys) (append-nil (f x)) in
    sym (append_assoc (flat_map f (take k xs)) (f x) back) ∙ ap (λ ys. ys ++ back) (sym front)
    ∙ sym (flat_map-append f (take (k + 1) xs) (drop (k + 1) xs)) ∙ ap (flat_map f) (take-append-drop (k + 1) xs)

-- an event of one link was not performed, for the loop of fall_named
pub link_broken : (plan : Plan) (name : List ℕ) (items : List LinkPlan) (k : ℕ) (link : LinkPlan) (fault : DriveFault)
    (old mid new : NetView) → items ≡ plan.links → k < length items → link ≡ get_or items k link
    → HaveDone old (map set_down (flat_map (ends_down plan name) (take k plan.links))) mid
    → HasBroken (map set_down (ends_down plan name link)) fault mid new
    → HasBroken (map set_down (all_down plan name)) fault old new
link_broken plan name items k link fault old mid new all within is before b =
    let f = ends_down plan name in
    let links = plan.links in
    let front = flat_map f (take k links) in
    let back = flat_map f (drop (k + 1) links) in
    let fits : k < length links = subst (λ xs. k < length xs) all within in
    let here : link ≡ get_or links k link = subst (λ xs. link ≡ get_or xs k link) all is in
    let parts : map set_down front ++ (map set_down (f link) ++ map set_down back) ≡ map set_down (all_down plan name) =
    ap (λ es. map set_down front ++ es) (sym (map-append set_down (f link) back))
    ∙ sym (map-append set_down front (f link ++ back)) ∙ ap (λ es. map set_down es) (around f links k link fits here) in
    broken-within (map set_down front) (map set_down (f link)) (map set_down back) (map set_down (all_down plan name))
    fault old mid new parts before b

-- an event of one name was not performed, for the loop of fall_all
pub name_broken : (plan : Plan) (names : List (String Global)) (k : ℕ) (w : String Global) (fault : DriveFault)
    (old mid new : NetView) → k < length names → w ≡ get_or names k w → HaveDone old (downs plan (take k names)) mid
    → HasBroken (map set_down (all_down plan (string_bytes w))) fault mid new
    → HasBroken (downs plan names) fault old new
name_broken plan names k w fault old mid new within is before b =
    let f : String Global → List Event = λ v. map set_down (all_down plan (string_bytes v)) in
    broken-within (downs plan (take k names)) (f w) (downs plan (drop (k + 1) names)) (downs plan names) fault old mid
    new (around f names k w within is) before b

-- an allocation failed after some names
pub names_broken : (plan : Plan) (names : List (String Global)) (k : ℕ) (old new : NetView)
    → HaveDone old (downs plan (take k names)) new → HasBroken (downs plan names) Memory old new
names_broken plan names k old new h =
    let f : String Global → List Event = λ v. map set_down (all_down plan (string_bytes v)) in
    record {
      events = downs plan (take k names);
      later = downs plan (drop k names);
      parts = sym (flat_map-append f (take k names) (drop k names)) ∙ ap (downs plan) (take-append-drop k names);
      done = h;
      refusal = tt;
    }
