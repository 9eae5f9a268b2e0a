-- Recorded losses are counted, for `PortCounts` and `SourceCounts`.
use Rattle.std.proofs.Common.{◌≡◌, ℕ, ◌+◌, ◌==◌, ◌&&◌, Bool, true, false, cond, List, [], ◌∷◌, ◌++◌, length, get_or}
use Rattle.std.proofs.Common.{refl, sym, ap, ◌∙◌, subst, arith, ⊎_elim, add-zero, eq-eqb}
use Rattle.std.proofs.lemmas.Bool.{cases_eq}
use Rattle.std.proofs.lemmas.List.{get_or-set_same, get_or-set_other}
use Rattle.std.proofs.lemmas.List.Sums.{sum_by_push}
use Rattle.std.specs.List.{count_by}
use Rattle.pb_lan.proofs.PortBits.{unequal}
use Rattle.pb_lan.specs.declared.step.NoRoom.{NoRoom}
use Rattle.pb_lan.specs.declared.step.NoRoom.TheVariants.{Full, Memory}
use Rattle.pb_history.specs.CountLists.{no_counts, one_more, one_more_at, AreCounts}
use Rattle.pb_history.specs.Losses.{is_cause, is_at, counts_at}
use Rattle.pb_history.specs.declared.cause_counts.CauseCounts.{CauseCounts}

-- counts with equal fields are equal
same_counts : (f g m n : ℕ) → f ≡ g → m ≡ n
    → ◌≡◌ {A = CauseCounts} (record { full = f; memory = m }) (record { full = g; memory = n })
same_counts f g m n e d = cc

-- a count of one more loss, by whether it is at the counted port
noted_more : (noted : List (ℕ × NoRoom)) (port at : ℕ) (cause counted : NoRoom) (is : Bool) → (at == port) ≡ is
    → count_by (is_at port counted) (noted ++ (at, cause) ∷ []) ≡ count_by (is_at port counted) noted + cond
    (is && is_cause counted cause) 1 0
noted_more noted port at cause counted is e =
    sum_by_push (λ x. cond (is_at port counted x) 1 0) noted (at, cause)
    ∙ ap (λ b. count_by (is_at port counted) noted + cond (b && is_cause counted cause) 1 0) e

-- one more loss at this port
counted_here : (noted : List (ℕ × NoRoom)) (port : ℕ) (cause : NoRoom)
    → counts_at port (noted ++ (port, cause) ∷ []) ≡ one_more (counts_at port noted) cause
counted_here noted port Full =
    same_counts _ _ _ _ (noted_more noted port port Full Full true (eq-eqb port port refl))
    (noted_more noted port port Full Memory true (eq-eqb port port refl) ∙ add-zero _)
counted_here noted port Memory =
    same_counts _ _ _ _ (noted_more noted port port Memory Full true (eq-eqb port port refl) ∙ add-zero _)
    (noted_more noted port port Memory Memory true (eq-eqb port port refl))

-- one more loss at another port
counted_elsewhere : (noted : List (ℕ × NoRoom)) (port at : ℕ) (cause : NoRoom) → (at == port) ≡ false
    → counts_at port (noted ++ (at, cause) ∷ []) ≡ counts_at port noted
counted_elsewhere noted port at cause apart =
    same_counts _ _ _ _ (noted_more noted port at cause Full false apart ∙ add-zero _)
    (noted_more noted port at cause Memory false apart ∙ add-zero _)

-- the counts after one more loss, for `PortCounts::note`
pub counted : (noted : List (ℕ × NoRoom)) (counts : List CauseCounts) (at : ℕ) (cause : NoRoom) → length counts ≡ 17
    → AreCounts noted counts → AreCounts (noted ++ (at, cause) ∷ []) (one_more_at counts at cause)
counted noted counts at cause long are port within =
    let more = one_more (get_or counts at no_counts) cause in
    ⊎_elim
    (λ (e : at ≡ port). subst (λ p. get_or (one_more_at counts at cause) p no_counts ≡ counts_at p
    (noted ++ (at, cause) ∷ [])) e
    (get_or-set_same counts at more no_counts (omega arith) ∙ ap (λ x. one_more x cause) (are at (omega arith))
    ∙ sym (counted_here noted at cause)))
    (λ (n : at ≡ port → ⊥). get_or-set_other counts at port more no_counts (λ e. n (sym e)) ∙ are port within
    ∙ sym (counted_elsewhere noted port at cause (unequal at port n)))
    (cases_eq at port)
