use Rattle.std.proofs.Common.{◌≡◌, ◌+◌, Some, None, is_some, cond, length, drop, slice_get, refl, sym, ap, ◌∙◌, subst}
use Rattle.std.proofs.Common.{arith}
use Rattle.indexmap.specs.IndexMap.{get, index_map_len}
use Rattle.pb_fdb.specs.declared.station.Station.{Station}
use Rattle.pb_fdb.specs.Journals.{is_same, entries_from, stations, HasEach}
use Rattle.pb_fdb.proofs.LogLemmas.{first-known, less-first, entries-with, each-without, one-less}
use Rattle.pb_fdb.proofs.journal.Journal.forget_oldest.Goals as goal

pub invariant_of-self-2 : goal.invariant_of-self-2
invariant_of-self-2 c =
    let f = get is_same c.self.inside.index in
    let g = get is_same c.swap_remove.new.self in
    let e = c.in-Some.entry in
    let key : Station = record { vid = e.vid; mac = e.mac } in
    let at = c.front.new.first in
    let xs = stations c.front.new.log.items in
    let es = entries_from f at xs in
    let each = subst (HasEach f) (sym c.front.ensures.entries) c.self.invariant.each in
    let here : Some e ≡ slice_get es 0 = sym c.in-Some.is ∙ c.front.ensures.oldest
    ∙ ap (λ zs. slice_get zs 0) (sym c.front.ensures.entries) in
    let known = first-known f at xs e here in
    let entries = entries-with f g key None c.swap_remove.ensures.updates.0 at xs refl in
    let less = one-less f key known.0 es each known.1 in
    let gone : index_map_len c.swap_remove.new.self + 1 ≡ index_map_len c.self.inside.index
    = ap (λ o. index_map_len c.swap_remove.new.self + cond (is_some o) 1 0)
    (sym (c.swap_remove.ensures.value ∙ known.1)) ∙ c.swap_remove.ensures.len in
    record {
      each = subst (HasEach g) (sym entries) (each-without f g key c.swap_remove.ensures.updates.0 es each);
      counted = omega (
        arith,
        ap length entries,
        less,
        gone,
        ap length c.front.ensures.entries,
        c.self.invariant.counted,
      );
      roomy = omega (arith, gone, c.self.invariant.roomy, c.front.ensures.capacity);
    }

pub returns : goal.returns
returns c =
    let f = get is_same c.self.inside.index in
    let g = get is_same c.swap_remove.new.self in
    let e = c.in-Some.entry in
    let key : Station = record { vid = e.vid; mac = e.mac } in
    let at = c.front.new.first in
    let xs = stations c.front.new.log.items in
    let each = subst (HasEach f) (sym c.front.ensures.entries) c.self.invariant.each in
    let here : Some e ≡ slice_get (entries_from f at xs) 0 = sym c.in-Some.is ∙ c.front.ensures.oldest
    ∙ ap (λ zs. slice_get zs 0) (sym c.front.ensures.entries) in
    entries-with f g key None c.swap_remove.ensures.updates.0 at xs refl ∙ less-first f at xs e each here
    ∙ ap (drop 1) (c.front.ensures.entries ∙ c.self.view_is)
