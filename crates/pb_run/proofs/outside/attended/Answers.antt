use Rattle.std.proofs.Common.{◌≡◌, [], map, sym, ap, ◌∙◌, rules}
use Rattle.std.proofs.lemmas.List.Elements.{All-head, All-rest, All-same}
use Rattle.pb_run.specs.Gifts.{given_access}
use Rattle.pb_workers.specs.declared.gift.AccessGift.{AccessGift}
use Rattle.pb_workers.specs.Ports.{port_frames}
use Rattle.pb_workers.specs.Workers.{IsPortKept}
use Rattle.pb_workers.specs.declared.customer.CustomerWorker.{CustomerWorker}
use Rattle.pb_workers.specs.declared.access.Access.{Access}
use Rattle.pb_workers.specs.declared.access.Last.TheVariants.{More}
use Rattle.pb_run.proofs.Kept.{keeps_fresh}
use Rattle.pb_threads.proofs.Alls.{all_more, moved_on}
use Rattle.pb_run.proofs.outside.attended.Goals as goal

pub loop-port-preserved : goal.loop-port-preserved
loop-port-preserved g c =
    let D : Type 0 = Access g.row.W.Denot g.W.Wiring in
    let C : Type 0 = CustomerWorker g.row.W.Denot g.row.P.Denot g.W.Wiring in
    let gift : D → AccessGift = given_access in
    let i = c.loop-port.invariant in
    let grown = c.push_reserved.ensures.items in
    let next = c.in-Some.ensures.steps.0 in
    let taken = c.in-Some-pop_front.ensures.items in
    let made = c.new.ensures in
    let Fresh : D → Type 0 = λ d. (d.place.steps ≡ []) × (d.book.last ≡ More) in
    let fresh = All-head Fresh c.in-Some-pop_front.access _ (All-same Fresh _ _ (sym taken) i.fresh) in
    record {
      ports = moved_on _ c.loop-port.workers.items _ c.new.result _ _ _ c.in-Some.port i.ports grown next made.port.1;
      ports_now = moved_on _ c.loop-port.workers.items _ c.new.result _ _ _ c.in-Some.port i.ports_now grown next
          made.port.0;
      gifts = moved_on _ c.loop-port.workers.items _ c.new.result _ _ _ (gift c.in-Some-pop_front.access) i.gifts
          grown (ap (map gift) taken) (ap gift made.access);
      fresh = All-rest Fresh c.in-Some-pop_front.access _ _ taken i.fresh;
      keeps = all_more (λ (w : C). IsPortKept g.P.Port w) c.new.result
          c.loop-port.workers.items _ grown i.keeps
          (keeps_fresh (port_frames g.P.Port) c.new.result.was.value c.new.result.port
          c.new.result.access.place.steps c.new.result.access.book.last (made.port.1 ∙ sym made.port.0)
          (ap (λ (d : D). d.place.steps) made.access ∙ fresh.0) (ap (λ (d : D). d.book.last) made.access ∙ fresh.1));
      count = search rules;
      room = search rules;
    }
