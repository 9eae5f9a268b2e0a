use Rattle.std.proofs.Common.{◌≡◌, ◌∷◌, ◌++◌, [], ◌+◌, List, ℕ, codes, sym, ap, ◌∙◌, append_assoc}
use Rattle.std.proofs.lemmas.Fmt.{decimal_digit}
use Rattle.pb_cmd_flat.proofs.print.put_exit.Goals as goal

pub returns-then-port-lt10 : goal.returns-then-port-lt10
returns-then-port-lt10 c =
    let out = c.args.out.now.items in
    let joined : (ds : List ℕ) → out ++ codes "out " ++ ds ++ codes " " ≡ out ++ (codes "out " ++ ds ++ codes " ") =
    λ ds. append_assoc (out ++ codes "out ") ds (codes " ") ∙ append_assoc out (codes "out ") (ds ++ codes " ")
    ∙ ap (λ xs. out ++ xs) (sym (append_assoc (codes "out ") ds (codes " "))) in
    rw (decimal_digit c.args.port c.if-port-lt10.true)
    (c.in_ok-extend_from_slice.ensures.items ∙ sym (joined ((48 + c.args.port) ∷ [])))
