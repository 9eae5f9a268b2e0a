use Rattle.std.proofs.Common.{◌++◌, ◌∙◌, List, ℕ, Bor, codes, map, string_bytes, ap, sym, arith}
use Rattle.pb_cmd_run.proofs.TellingLemmas.{user_tap}
use Rattle.pb_cmd_run.proofs.users.put_user.Goals as goal

pub returns-in_ok-write-2 : goal.returns-in_ok-write-2
returns-in_ok-write-2 c =
    let u = c.args.users in
    let old = string_bytes c.args.out.now in
    c.in_ok-write-2.ensures.bytes ∙ ap (λ link. old ++ (codes "tap of link " ++ link)) c.link_of-link.ensures
    ∙ ap (λ user. old ++ user)
    (sym (user_tap u.customers.now (map (λ (n : Bor (List ℕ)). n.now) u.taps.now) c.args.place (omega arith)))
