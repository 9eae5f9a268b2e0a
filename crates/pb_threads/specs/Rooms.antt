-- The slots and lists that are made before the workers start.
use Rattle.std.specs.Prelude.{◌≡◌, ◌≤◌, [], vec_len, vec_capacity}
use Rattle.std.specs.declared.vec.Vec.{Vec}
use Rattle.pb_threads.specs.declared.threads.Places.{Places}

-- there is a slot for each place
abbrev pub HasSlots : {X Y Z A C L B : Type 0} → Places C L B → Vec X A → Vec Y A → Vec Z A → Type 0
HasSlots places customers lanes bridges =
    (vec_len customers ≡ vec_len places.customers) × (vec_len lanes ≡ vec_len places.lanes) × (vec_len bridges ≡ vec_len places.bridges)

-- the list is empty, with capacity for as many items as another has
abbrev pub IsRoomFor : {X A B : Type 0} → Vec X A → Vec X B → Type 0
IsRoomFor list room = (room.items ≡ []) × (vec_len list ≤ vec_capacity room)

-- nothing is in the lists, and there is capacity for each place
abbrev pub HasRooms : {C L B : Type 0} → Places C L B → Places C L B → Type 0
HasRooms places rooms =
    IsRoomFor places.customers rooms.customers × IsRoomFor places.lanes rooms.lanes × IsRoomFor places.bridges rooms.bridges
