-- The ring of an end, and what many ends show.
use Rattle.std.specs.Prelude.{ℕ, List, [], map, slice_index_or}
use denote.RawPtr.{Ptr}
use Rattle.rtrb.specs.Shared.{Names}
use Rattle.rtrb.specs.declared.end.End.{End}
use Rattle.rtrb.specs.declared.producer.Producer.{Producer}
use Rattle.rtrb.specs.declared.consumer.Consumer.{Consumer}

-- the identity of a ring: its words, its slots, its names and its heap
abbrev pub RingName : Type 0 → Type 0
RingName A = Ptr × Ptr × Names × A

-- the identity of the ring that an end belongs to
module _ {T A P : Type 0} where
  abbrev pub end_name : End T A P → RingName A
  end_name e = (e.words, e.slots, e.names, e.heap)

  abbrev pub writer_name : Producer T A P → RingName A
  writer_name p = end_name p.end

  abbrev pub reader_name : Consumer T A P → RingName A
  reader_name c = end_name c.end

-- the value of the element at an index, or nothing past the last
abbrev pub shown_at : {X Y : Type 0} → (X → List Y) → List X → ℕ → List Y
shown_at shows xs place = slice_index_or (map shows xs) place []
