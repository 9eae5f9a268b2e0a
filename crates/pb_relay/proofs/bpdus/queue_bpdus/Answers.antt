use Rattle.std.proofs.Common.{arith, length, ap, sym, ◌∙◌, length-append}
use Rattle.pb_relay.specs.Bpdus.{told_queued, told_replaced, word_of}
use Rattle.pb_relay.specs.declared.backlog.Capacity.{Capacity}
use Rattle.pb_relay.specs.Copies.{named}
use Rattle.pb_relay.proofs.BpduLemmas.{place_of, one_bpdu, sent_count, sent_keeps, told-few, replaced-few, older-room}
use Rattle.pb_relay.proofs.CopyLemmas.{named-few}
use Rattle.pb_relay.proofs.bpdus.queue_bpdus.Goals as goal

pub index_of-place-requires : goal.index_of-place-requires
index_of-place-requires c = (place_of c.args.address.0 c.args.sends.now c.loop-port.port-index c.loop-port-item.result
    c.loop-port-test.true c.loop-port-item.is c.requires.separate).0

pub send-answer-requires : goal.send-answer-requires
send-answer-requires c =
    let l = place_of c.args.address.0 c.args.sends.now c.loop-port.port-index c.loop-port-item.result
    c.loop-port-test.true c.loop-port-item.is c.requires.separate in
    omega (arith, l.0, l.1, c.index_of-place.ensures, c.loop-port.invariant.count)

pub note_sent-requires-clause-replaced : goal.note_sent-requires-clause-replaced
note_sent-requires-clause-replaced c =
    older-room c.loop-port.backlog c.send-answer.new.backlog _ _ c.send-answer.result _ _ c.send-answer.ensures
    (λ e. let l = c.loop-port.invariant.replaced_room
    (ap (λ (z : Capacity). z.queues) (sym c.loop-port.invariant.kept.capacity) ∙ e) in
    omega (arith, l, c.loop-port.invariant.fewer_replaced, c.loop-port-test.true))

pub loop-port-preserved : goal.loop-port-preserved
loop-port-preserved c =
    let x = c.loop-port-item.result in
    let answer = c.send-answer.result in
    let sent = rw c.index_of-place.ensures at c.send-answer.ensures in
    let more = one_bpdu c.args.backlog.now c.loop-port.backlog c.send-answer.new.backlog c.args.address.0
    c.args.sends.now c.loop-port.port-index x
    c.loop-port.room.dropped.items answer c.loop-port.room.queued.items c.loop-port.room.replaced.items
    c.loop-port-test.true c.loop-port-item.is
    c.requires.separate
    c.loop-port.invariant.copied c.loop-port.invariant.count c.loop-port.invariant.kept c.loop-port.invariant.queued
    c.loop-port.invariant.replaced sent in
    let rooms = c.note_sent.ensures in
    record {
      copied = rw rooms.dropped more.0;
      queued = rw (rooms.dropped, rooms.queued) more.1;
      replaced = rw (rooms.queued, rooms.replaced) more.2;
      count = sent_count _ _ _ _ answer sent ∙ c.loop-port.invariant.count;
      kept = sent_keeps _ _ _ _ _ answer c.loop-port.invariant.kept sent;
      few = omega (
        arith,
        ap length rooms.dropped,
        length-append c.loop-port.room.dropped.items
            (named x.0 (word_of answer)),
        named-few x.0 (word_of answer),
        c.loop-port.invariant.few,
      );
      fewer = omega (
        arith,
        ap length rooms.queued,
        length-append c.loop-port.room.queued.items
            (told_queued x.0 answer),
        told-few x.0 answer,
        c.loop-port.invariant.fewer,
      );
      fewer_replaced = omega (
        arith,
        ap length rooms.replaced,
        length-append c.loop-port.room.replaced.items
            (told_replaced x.0 answer),
        replaced-few x.0 answer,
        c.loop-port.invariant.fewer_replaced,
      );
      replaced_room = λ e. let l = c.loop-port.invariant.replaced_room e in omega (arith, rooms.room.1, l);
      dropped_room = omega (arith, rooms.room.2, c.loop-port.invariant.dropped_room);
      queued_room = omega (arith, rooms.room.0, c.loop-port.invariant.queued_room);
    }
