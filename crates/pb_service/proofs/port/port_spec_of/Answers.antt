use Rattle.std.proofs.Common.{◌∙◌, ap, rules}
use Rattle.toml.specs.View.{table_view}
use Rattle.pb_service.specs.Values.{all_items, is_text, is_hex}
use Rattle.pb_service.proofs.Acceptance.{accepted_frames, accepted_addresses}
use Rattle.pb_service.proofs.port.port_spec_of.Goals as goal

pub frames_of-requires : goal.frames_of-requires
frames_of-requires c = ap (all_items (is_text is_hex)) c.items_at.ensures
    ∙ accepted_frames (table_view c.args.row.now) c.requires (search rules) (search rules) (search rules) (search rules)
    (search rules)

pub addresses_of-requires-clause-local : goal.addresses_of-requires-clause-local
addresses_of-requires-clause-local c =
    (accepted_addresses (table_view c.args.row.now) c.requires (search rules) (search rules) (search rules)
    (search rules) (search rules)).0

pub addresses_of-requires-clause-remote : goal.addresses_of-requires-clause-remote
addresses_of-requires-clause-remote c =
    (accepted_addresses (table_view c.args.row.now) c.requires (search rules) (search rules) (search rules)
    (search rules) (search rules)).1
