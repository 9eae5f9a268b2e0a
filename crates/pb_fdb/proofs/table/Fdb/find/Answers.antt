use Rattle.std.proofs.Common.{◌≡◌, Some, None, cond, slice_get, true, false, [], ◌∷◌, sym, ap, ◌∙◌}
use Rattle.std.specs.Option.{option_map, option_to_list}
use Rattle.pb_frame.specs.Stations.{is_fresh}
use Rattle.pb_fdb.specs.Entries.{sighting_of}
use Rattle.pb_fdb.specs.Tables.{where_in}
use Rattle.pb_fdb.proofs.OrderLemmas.{where-found}
use Rattle.pb_fdb.proofs.table.Fdb.find.Goals as goal

pub returns-in_err-entry : goal.returns-in_err-entry
returns-in_err-entry c =
    let f = c.self.inside in
    let none = ap (option_to_list) c.in_err-entry.was in
    c.from_residual.ensures ∙ sym (where-found f.limit f.ageing f.clock c.args.now c.args.vid c.args.mac.0 f.journal
    None (c.find.ensures ∙ none))
    ∙ ap (λ t. where_in t c.args.now c.args.vid c.args.mac.0) c.self.view_is

pub returns-then-is_fresh : goal.returns-then-is_fresh
returns-then-is_fresh c =
    let f = c.self.inside in
    let e = c.in_ok-entry.entry in
    let fresh : is_fresh f.ageing c.args.now (sighting_of e) ≡ true = sym c.is_fresh.ensures ∙ c.if-is_fresh.true in
    ap (λ b. option_map (λ s. s.port) (slice_get (cond b (sighting_of e ∷ []) []) 0)) (sym fresh)
    ∙ sym (where-found f.limit f.ageing f.clock c.args.now c.args.vid c.args.mac.0 f.journal (Some e)
    (c.find.ensures ∙ ap option_to_list c.in_ok-entry.was))
    ∙ ap (λ t. where_in t c.args.now c.args.vid c.args.mac.0) c.self.view_is

pub returns : goal.returns
returns c =
    let f = c.self.inside in
    let e = c.in_ok-entry.entry in
    let old : is_fresh f.ageing c.args.now (sighting_of e) ≡ false = sym c.is_fresh.ensures ∙ c.if-is_fresh.false in
    ap (λ b. option_map (λ s. s.port) (slice_get (cond b (sighting_of e ∷ []) []) 0)) (sym old)
    ∙ sym (where-found f.limit f.ageing f.clock c.args.now c.args.vid c.args.mac.0 f.journal (Some e)
    (c.find.ensures ∙ ap option_to_list c.in_ok-entry.was))
    ∙ ap (λ t. where_in t c.args.now c.args.vid c.args.mac.0) c.self.view_is
