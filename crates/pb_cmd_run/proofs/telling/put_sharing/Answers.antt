use Rattle.std.proofs.Common.{◌++◌, ◌∙◌, List, ℕ, Bor, codes, map, string_bytes, ap, sym, append_assoc}
use Rattle.pb_cmd_run.specs.Telling.{user_at, sharing}
use Rattle.pb_cmd_run.proofs.telling.put_sharing.Goals as goal

pub returns-in_ok-put_user-in-Reader : goal.returns-in_ok-put_user-in-Reader
returns-in_ok-put_user-in-Reader c =
    let customers = c.args.users.customers.now in
    let taps = map (λ (n : Bor (List ℕ)). n.now) c.args.users.taps.now in
    let old = string_bytes c.args.out.now in
    let user = user_at customers taps c.in-Reader.place in
    c.in_ok-put_user-in-Reader.ensures ∙ ap (λ said. said ++ user) c.in_ok-push_str-in-Reader.ensures.bytes
    ∙ append_assoc old (codes "also read by ") user
    ∙ ap (λ other. old ++ sharing customers taps other) (sym c.in-Reader.is)

pub returns-in_ok-put_user-in-Writer : goal.returns-in_ok-put_user-in-Writer
returns-in_ok-put_user-in-Writer c =
    let customers = c.args.users.customers.now in
    let taps = map (λ (n : Bor (List ℕ)). n.now) c.args.users.taps.now in
    let old = string_bytes c.args.out.now in
    let user = user_at customers taps c.in-Writer.place in
    c.in_ok-put_user-in-Writer.ensures ∙ ap (λ said. said ++ user) c.in_ok-push_str-in-Writer.ensures.bytes
    ∙ append_assoc old (codes "also written by ") user
    ∙ ap (λ other. old ++ sharing customers taps other) (sym c.in-Writer.is)
