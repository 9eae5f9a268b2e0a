-- Which values of a TOML document are allowed, and what they denote.
use Rattle.std.specs.Prelude.{◌≡◌, ◌<◌, ℕ, suc, pos, negsuc, ℤ, codes, ◌%◌, nat_le, ◌==◌, Bool, true, false, ◌&&◌, ◌||◌, not, List, [], length, Some, None, is_some, unwrap_or}
use Rattle.std.specs.declared.option.Option.{Option}
use Rattle.std.specs.Option.{option_map_or, option_and_then}
use Rattle.std.specs.List.{list_all}
use Rattle.std.specs.Net.Grammar.{IsSocketText}
use Rattle.std.specs.Net.Socket.{socket_port}
use Rattle.std.specs.declared.net.SocketAddr.{SocketAddr}
use Rattle.pb_frame.specs.Admission.{same}
use Rattle.pb_frame.specs.Frames.{is_group}
use Rattle.pb_frame.specs.Hex.{is_digit, IsMacText}
use Rattle.pb_lan.specs.Names.{is_name}
use Rattle.toml.specs.Data.{Data, Items, no_items, item, as_str, as_integer, as_array, as_bool}
use Rattle.pb_service.specs.declared.rule.Rule.{Rule}
use Rattle.pb_service.specs.declared.rule.Rule.TheVariants.{Number, BridgePriority, PortPriority, Name, Address, Spanning, Queues, State, PortKind, Stamp, Replay, Direction, Path, Framing, SocketAddress, Encap, Losses, Names, Frames, Flag, FlagOrAuto}

-- the number of an integer that isn't negative
abbrev pub to_natural : ℤ → Option ℕ
to_natural (pos n) = Some n
to_natural (negsuc n) = None

abbrev pub natural_of : Data → Option ℕ
natural_of d = option_and_then to_natural (as_integer d)

-- the value is a text that passes the test
abbrev pub is_text : (List ℕ → Bool) → Data → Bool
is_text test d = option_map_or test (as_str d) false

abbrev pub is_natural : (ℕ → Bool) → Data → Bool
is_natural test d = option_map_or test (natural_of d) false

-- each value of a list passes the test
abbrev pub all_items : (Data → Bool) → Items → Bool
all_items test no_items = true
all_items test (item d ds) = test d && all_items test ds

abbrev pub any_item : (Data → Bool) → Items → Bool
any_item test no_items = false
any_item test (item d ds) = test d || any_item test ds

abbrev pub is_list : (Items → Bool) → Data → Bool
is_list test d = option_map_or test (as_array d) false

-- pairs of hexadecimal digits
abbrev pub is_hex : List ℕ → Bool
is_hex text = list_all is_digit text && length text % 2 == 0

-- the text of a value, or the empty text if the value isn't a text
abbrev pub text_in : Data → List ℕ
text_in d = unwrap_or (as_str d) []

-- the text denotes an individual MAC address
abbrev pub IsAddress : List ℕ → Type 0
IsAddress text = (octets : List ℕ) × IsMacText text octets × (is_group octets ≡ false)

-- the text denotes this socket address, whose port is not 0
abbrev pub IsSocketAddress : List ℕ → SocketAddr → Type 0
IsSocketAddress text a = IsSocketText text a × (0 < socket_port a)

abbrev pub HasSocketAddress : List ℕ → Type 0
HasSocketAddress text = (a : SocketAddr) × IsSocketAddress text a

-- numbers that aren't below the least, each above the one before
abbrev pub rise_from : ℕ → Items → Bool
rise_from least no_items = true
rise_from least (item d ds) = is_natural (nat_le least) d && rise_from (suc (unwrap_or (natural_of d) 0)) ds

-- texts that are pairwise distinct
abbrev pub are_distinct : Items → Bool
are_distinct no_items = true
are_distinct (item d ds) = not (any_item (is_text (same (text_in d))) ds) && are_distinct ds

-- the value is of the TOML type that the rule requires, and each item of a list is too
abbrev pub is_of_kind : Rule → Data → Bool
is_of_kind (Number low high) d = is_some (as_integer d)
is_of_kind BridgePriority d = is_some (as_integer d)
is_of_kind PortPriority d = is_some (as_integer d)
is_of_kind Framing d = is_some (as_integer d)
is_of_kind Losses d = is_list (all_items (λ e. is_some (as_integer e))) d
is_of_kind Names d = is_list (all_items (λ e. is_some (as_str e))) d
is_of_kind Frames d = is_list (all_items (λ e. is_some (as_str e))) d
is_of_kind Flag d = is_some (as_bool d)
is_of_kind FlagOrAuto d = is_some (as_bool d) || is_some (as_str d)
is_of_kind _ d = is_some (as_str d)

-- the kind of a customer port over capture files
abbrev pub is_file_kind : List ℕ → Bool
is_file_kind t = same t (codes "capture") || (same t (codes "record") || same t (codes "replay"))

abbrev pub is_port_kind : List ℕ → Bool
is_port_kind t = same t (codes "memory") || (is_file_kind t || (same t (codes "socket") || same t (codes "udp")))

-- the rule allows the value
abbrev pub IsAllowed : Rule → Data → Type 0
IsAllowed (Number low high) d = is_natural (λ n. nat_le low n && nat_le n high) d ≡ true
IsAllowed BridgePriority d = is_natural (λ n. n % 4096 == 0 && nat_le n 61440) d ≡ true
IsAllowed PortPriority d = is_natural (λ n. n % 16 == 0 && nat_le n 240) d ≡ true
IsAllowed Name d = is_text is_name d ≡ true
IsAllowed Address d = IsAddress (text_in d)
IsAllowed Spanning d = is_text (λ t. same t (codes "fixed") || same t (codes "rstp")) d ≡ true
IsAllowed Queues d = is_text (λ t. same t (codes "port") || same t (codes "class")) d ≡ true
IsAllowed State d = is_text (λ t. same t (codes "discarding") || (same t (codes "learning") || same t (codes "forwarding"))) d ≡ true
IsAllowed PortKind d = is_text is_port_kind d ≡ true
IsAllowed Stamp d = is_text (λ t. same t (codes "ticks") || same t (codes "time")) d ≡ true
IsAllowed Replay d = is_text (same (codes "times")) d ≡ true
IsAllowed Direction d = is_text (λ t. same t (codes "ab") || (same t (codes "ba") || same t (codes "both"))) d ≡ true
IsAllowed Path d = is_some (as_str d) ≡ true
IsAllowed Framing d = is_natural (λ n. n == 2 || n == 4) d ≡ true
IsAllowed SocketAddress d = HasSocketAddress (text_in d)
IsAllowed Encap d = is_text (λ t. same t (codes "vxlan") || same t (codes "none")) d ≡ true
IsAllowed Losses d = is_list (rise_from 0) d ≡ true
IsAllowed Names d = is_list (λ ds. all_items (is_text is_name) ds && are_distinct ds) d ≡ true
IsAllowed Frames d = is_list (all_items (is_text is_hex)) d ≡ true
IsAllowed Flag d = is_some (as_bool d) ≡ true
IsAllowed FlagOrAuto d = (is_some (as_bool d) || is_text (same (codes "auto")) d) ≡ true
