-- What follows for a table that keeps the rules of its keys.
use Rattle.std.proofs.Common.{◌≡◌, ℕ, Bool, true, false, List, [], ◌∷◌, Some, None, Option, unwrap_or, refl, subst}
use Rattle.std.specs.Prelude.{codes, if◌then◌else◌}
use Rattle.std.specs.Option.{option_map_or}
use Rattle.std.specs.List.{AllByRecursion}
use Rattle.std.proofs.lemmas.Bool.{false≢true}
use Rattle.pb_frame.specs.Admission.{same}
use Rattle.toml.specs.Data.{Data, Items, no_items, Members, as_array, get_member}
use Rattle.pb_service.specs.declared.rule.Rule.TheVariants.{Number, Address, SocketAddress, Encap, Frames}
use Rattle.pb_service.specs.Values.{IsAddress, HasSocketAddress, all_items, is_text, is_hex}
use Rattle.pb_service.specs.Keys.{KeyRule, with_default, without_default, IsTaken, IsAccepted}
use Rattle.pb_service.specs.Formats.{bridge_keys, is_bare, own_keys, port_keys}
use Rattle.pb_service.specs.Told.{has_key, text_told, items_told}
use Rattle.pb_service.specs.Tables.{has_kind, text_at, items_at}

taken_address : (name : List ℕ) (value : Option Data) → IsTaken (without_default name Address) value
    → IsAddress (text_told value)
taken_address name None h = absurd cc
taken_address name (Some d) h = h

pub accepted_address : (row : Members) → IsAccepted bridge_keys row → IsAddress (text_at row (codes "address"))
accepted_address row h = taken_address (codes "address") _ h.taken.1.0

frames_listed : (items : Option Items) → option_map_or (all_items (is_text is_hex)) items false ≡ true
    → all_items (is_text is_hex) (unwrap_or items no_items) ≡ true
frames_listed None h = absurd (false≢true h)
frames_listed (Some ds) h = h

taken_frames : (name : List ℕ) (value : Option Data) → IsTaken (with_default name Frames) value
    → all_items (is_text is_hex) (items_told value) ≡ true
taken_frames name None h = refl
taken_frames name (Some d) h = frames_listed (as_array d) h

-- each key has an accepted value
abbrev AreTaken : Members → List KeyRule → Type 0
AreTaken row keys = AllByRecursion (λ k. IsTaken k (get_member k.name row)) keys

memory_keys : (kind : List ℕ) (listens bare : Bool) → same kind (codes "capture") ≡ false
    → same kind (codes "record") ≡ false → same kind (codes "replay") ≡ false
    → same kind (codes "socket") ≡ false → same kind (codes "udp") ≡ false
    → own_keys kind listens bare ≡ with_default (codes "in") Frames ∷ []
memory_keys kind listens bare a b c d e = rw (a, b, c, d, e)

-- the frames of a port in memory are hexadecimal (used by `port_spec_of`)
pub accepted_frames : (row : Members)
    → IsAccepted (port_keys (text_at row (codes "kind")) (has_key row (codes "listen")) (is_bare row)) row
    → has_kind row (codes "capture") ≡ false → has_kind row (codes "record") ≡ false
    → has_kind row (codes "replay") ≡ false → has_kind row (codes "socket") ≡ false → has_kind row (codes "udp") ≡ false
    → all_items (is_text is_hex) (items_at row (codes "in")) ≡ true
accepted_frames row h a b c d e =
    let own = subst (AreTaken row)
    (memory_keys (text_at row (codes "kind")) (has_key row (codes "listen")) (is_bare row) a b c d e)
    h.taken.1.1.1.1.1.1.1 in
    taken_frames (codes "in") (get_member (codes "in") row) own.0

taken_socket : (name : List ℕ) (value : Option Data) → IsTaken (without_default name SocketAddress) value
    → HasSocketAddress (text_told value)
taken_socket name None h = absurd cc
taken_socket name (Some d) h = h

-- the keys of a port over datagrams but for its two addresses
abbrev later_keys : Bool → List KeyRule
later_keys bare =
    with_default (codes "encap") Encap ∷ (if bare then [] else without_default (codes "vni") (Number 0 16777215) ∷ [])

udp_keys : (kind : List ℕ) (listens bare : Bool) → same kind (codes "capture") ≡ false
    → same kind (codes "record") ≡ false → same kind (codes "replay") ≡ false
    → same kind (codes "socket") ≡ false → same kind (codes "udp") ≡ true
    → own_keys kind listens bare
    ≡ without_default (codes "local") SocketAddress ∷ without_default (codes "remote") SocketAddress ∷ later_keys bare
udp_keys kind listens bare a b c d e = rw (a, b, c, d, e) refl

-- the two addresses of a port over datagrams are addresses (used by `port_spec_of`)
pub accepted_addresses : (row : Members)
    → IsAccepted (port_keys (text_at row (codes "kind")) (has_key row (codes "listen")) (is_bare row)) row
    → has_kind row (codes "capture") ≡ false → has_kind row (codes "record") ≡ false
    → has_kind row (codes "replay") ≡ false → has_kind row (codes "socket") ≡ false → has_kind row (codes "udp") ≡ true
    → HasSocketAddress (text_at row (codes "local")) × HasSocketAddress (text_at row (codes "remote"))
accepted_addresses row h a b c d e =
    let own = subst (AreTaken row)
    (udp_keys (text_at row (codes "kind")) (has_key row (codes "listen")) (is_bare row) a b c d e)
    h.taken.1.1.1.1.1.1.1 in
    (taken_socket (codes "local") _ own.0, taken_socket (codes "remote") _ own.1.0)
