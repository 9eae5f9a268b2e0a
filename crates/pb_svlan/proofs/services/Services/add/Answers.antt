use Rattle.std.proofs.Common.{◌≡◌, false, ◌==◌, ◌++◌, ◌∷◌, [], ap, sym, ◌∙◌}
use Rattle.std.specs.List.{list_any}
use Rattle.pb_frame.proofs.Things.{eqb-symm}
use Rattle.pb_svlan.specs.ServiceTables.{ServiceTable, has_vid}
use Rattle.pb_svlan.proofs.ServiceLemmas.{insert_entry-last}
use Rattle.pb_svlan.proofs.services.Services.add.Goals as goal

pub returns-clause-ok : goal.returns-clause-ok
returns-clause-ok c =
    let n : c.number.result ≡ c.args.vid = c.number.ensures.value in
    let new : list_any (λ e. e.0 == c.args.vid) c.self.inside.services.entries ≡ false =
    ap (λ t. has_vid t c.args.vid) c.self.view_is ∙ sym (ap (has_vid c.args.self.now) n) ∙ sym c.has_vid.ensures
    ∙ c.if-has_vid.false in
    let e = insert_entry-last _ eqb-symm c.self.inside.services.entries c.args.vid c.args.name.now new in
    let t : c.from_string-text.result ≡ c.args.name.now = c.from_string-text.ensures ∙ c.in_ok-from_str.ensures.ok in
    let old : ServiceTable = record { services = c.self.inside.services.entries; ports = c.self.inside.ports.items } in
    ap (λ es. record old { services = es }) (c.in_ok-insert.ensures.entries ∙ rw t e)
    ∙ ap {A = ServiceTable} (λ t. record t { services = t.services ++ (c.args.vid, c.args.name.now) ∷ [] })
    c.self.view_is
