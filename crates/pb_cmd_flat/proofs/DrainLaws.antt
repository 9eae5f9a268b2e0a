-- The ports of the bridge send the items that wait there (used by `drain` and `Switch::handle`).
use Rattle.std.proofs.Common.{◌≡◌, ℕ, ◌+◌, ◌≤◌, ◌==◌, ◌||◌, inl, inr, max, cond, true}
use Rattle.std.proofs.Common.{List, [], ◌∷◌, ◌++◌, length, refl, sym, ap, subst, ◌∙◌, arith, append-nil}
use Rattle.std.proofs.Common.{ne_eqb}
use Rattle.std.proofs.lemmas.Bool.{eq-eqb, cases_eq}
use Rattle.std.specs.List.{AllByRecursion, list_any}
use Rattle.std.proofs.lemmas.List.{length_push}
use Rattle.pb_frame.proofs.Lists.{All-append, eqb-refl}
use Rattle.pb_frame.proofs.Things.{flat_map-more}
use Rattle.pb_lan.specs.Queues.{Waiting, waiting, highest, without}
use Rattle.pb_lan.specs.declared.plan.Plan.{Plan}
use Rattle.pb_lan.specs.declared.step.Item.{Item}
use Rattle.pb_lan.specs.declared.step.Step.{Step}
use Rattle.pb_lan.specs.declared.step.Step.TheVariants.{Transmit as Transmitted}
use Rattle.pb_lan.proofs.SentWasQueued.{waiting_from-append}
use Rattle.pb_relay.specs.Standing.{BridgeView}
use Rattle.pb_cmd_flat.specs.FlatPlans.{flat_plan}
use Rattle.pb_cmd_flat.specs.Quiet.{IsAlone, IsQuiet, AreUsed, IsWaiting, IsDraining, HasDrained, waits}
use Rattle.pb_cmd_flat.specs.Quiet.HasDrained.{nothing, one}
use Rattle.pb_cmd_flat.specs.Receipts.{receipts, receipt_by, IsClear}
use Rattle.pb_cmd_flat.proofs.AdmitLaws.{waits-alone}

-- nothing waits after the only item has left
alone : (ws : List Waiting) → length ws ≤ 1 → length (without (highest ws) ws) ≡ 0
alone [] few = refl
alone (w ∷ []) few = let top : (w.class == max w.class 0) ≡ true = eq-eqb w.class (max w.class 0) (omega arith) in ap
    (λ b. length (cond b [] (w ∷ []))) top
alone (w ∷ v ∷ ws) few = absurd (omega arith)

-- the items that wait at a port after a Transmit step
waiting-sent : (plan : Plan) (r p : ℕ) (steps : List Step) (item : Item)
    → waiting plan 1 r (steps ++ Transmitted p item ∷ []) ≡ cond (p == r)
    (without (highest (waiting plan 1 r steps)) (waiting plan 1 r steps)) (waiting plan 1 r steps)
waiting-sent plan r p steps item =
    waiting_from-append plan 1 r [] steps (Transmitted p item) ∙ ap (λ ws. cond (p == r) (without (highest ws) ws) ws)
    (append-nil (waiting plan 1 r steps))

-- the effect of one port's turn on the bridge
pub record Drained (ports q : ℕ) (old new : BridgeView) : Type 0 where
  pub alone : IsAlone ports new
  pub same : receipts new.steps ≡ receipts old.steps
  pub clear : AllByRecursion IsClear old.steps → AllByRecursion IsClear new.steps
  pub here : waits old q ≤ 1 → waits new q ≡ 0
  pub others : (n : ℕ) → (n ≡ q → ⊥) → waits new n ≡ waits old n
  pub few : length new.steps ≤ length old.steps + 1

pub drained : (ports q : ℕ) (old new : BridgeView) → IsAlone ports old → HasDrained q old new → Drained ports q old new
drained ports q old new alone_there (nothing none same) =
    let steps : new.steps ≡ old.steps = ap (λ (b : BridgeView). b.steps) same in
    let waited : (n : ℕ) → waits new n ≡ waits old n = λ n. ap (λ (b : BridgeView). waits b n) same in
    record {
      alone = subst (λ (b : BridgeView). IsAlone ports b) (sym same) alone_there;
      same = ap receipts steps;
      clear = subst (AllByRecursion IsClear) (sym steps);
      here = λ few. waited q ∙ none;
      others = λ n ne. waited n;
      few = omega (arith, ap length steps);
    }
drained ports q old new alone_there (one item some appended) =
    let plan : Plan = flat_plan ports in
    let steps : new.steps ≡ old.steps ++ Transmitted q item ∷ [] = ap (λ (b : BridgeView). b.steps) appended in
    let alone_here : IsAlone ports new = record {
      plan = ap (λ (b : BridgeView). b.plan) appended ∙ alone_there.plan;
      number = ap (λ (b : BridgeView). b.number) appended ∙ alone_there.number;
      counted = ap (λ (b : BridgeView). b.is_kept) appended ∙ alone_there.counted;
    } in
    let earlier = old.steps in
    let left : (n : ℕ) → waits new n ≡ length
    (cond (q == n) (without (highest (waiting plan 1 n earlier)) (waiting plan 1 n earlier))
    (waiting plan 1 n earlier)) =
    λ n. waits-alone ports new alone_here n ∙ ap (λ ms. length (waiting plan 1 n ms)) steps
    ∙ ap length (waiting-sent plan n q earlier item) in
    record {
      alone = alone_here;
      same = ap receipts steps ∙ flat_map-more receipt_by earlier (Transmitted q item) ∙ append-nil (receipts earlier);
      clear = λ all. subst (AllByRecursion IsClear) (sym steps)
          (All-append IsClear earlier (Transmitted q item ∷ []) all (tt, tt));
      here = λ few. left q ∙ ap
          (λ b. length (cond b (without (highest (waiting plan 1 q earlier)) (waiting plan 1 q earlier))
          (waiting plan 1 q earlier))) (eqb-refl q)
          ∙ alone (waiting plan 1 q earlier) (subst (λ k. k ≤ 1) (waits-alone ports old alone_there q) few);
      others = λ n ne. left n ∙ ap
          (λ b. length (cond b (without (highest (waiting plan 1 n earlier)) (waiting plan 1 n earlier))
          (waiting plan 1 n earlier))) (ne_eqb q n (λ e. ne (sym e)))
          ∙ sym (waits-alone ports old alone_there n);
      few = omega (arith, ap length steps, length_push earlier (Transmitted q item));
    }

-- the ports before the rest have sent, after the turn of one more
pub draining_next : (ports q : ℕ) (rest : List ℕ) (old mid new : BridgeView) → IsDraining ports (q ∷ rest) old mid
    → HasDrained q mid new → IsDraining ports rest old new
draining_next ports q rest old mid new so_far sent =
    let drain = drained ports q mid new so_far.waiting.alone sent in
    let told : length (receipts new.steps) ≡ length (receipts mid.steps) = ap length drain.same in
    let near = so_far.waiting.near in
    record {
      waiting = record {
        alone = drain.alone;
        near = λ n low high. elim (cases_eq n q) [
          | inl e ↦ subst (λ k. waits new k ≤ 1) (sym e)
              (omega (arith, drain.here (subst (λ k. waits mid k ≤ 1) e (near n low high))))
          | inr ne ↦ omega (arith, drain.others n ne, near n low high)
        ];
        only = λ n low high out. elim (cases_eq n q) [
          | inl e ↦ subst (λ k. waits new k ≡ 0) (sym e)
              (drain.here (subst (λ k. waits mid k ≤ 1) e (near n low high)))
          | inr ne ↦ drain.others n ne ∙ so_far.waiting.only n low high
              (ap (λ b. b || list_any (λ exit. exit == n) rest) (ne_eqb q n (λ e. ne (sym e))) ∙ out)
        ];
        few = omega (arith, drain.few, told, so_far.waiting.few);
      };
      same = drain.same ∙ so_far.same;
      clear = λ all. drain.clear (so_far.clear all);
    }

-- the bridge is quiet after all ports have sent
pub quiet_again : (ports : ℕ) (old bridge : BridgeView) → IsDraining ports [] old bridge
    → AllByRecursion IsClear old.steps → IsQuiet ports bridge
quiet_again ports old bridge end clear = record {
  alone = end.waiting.alone;
  few = omega (arith, end.waiting.few);
  clear = end.clear clear;
  calm = λ n low high. end.waiting.only n low high refl;
}

-- at first all ports have yet to send
pub draining_first : (ports : ℕ) (exits : List ℕ) (old : BridgeView) → IsWaiting ports exits old
    → IsDraining ports exits old old
draining_first ports exits old waiting = record { waiting = waiting; same = refl; clear = λ all. all }

-- a port's turn leaves the ports of the bridge
pub used_kept : (q : ℕ) (exits : List ℕ) (old new : BridgeView) → HasDrained q old new → AreUsed old exits
    → AreUsed new exits
used_kept q exits old new (nothing none same) used = subst (λ (b : BridgeView). AreUsed b exits) (sym same) used
used_kept q exits old new (one item some appended) used =
    subst (λ (b : BridgeView). AreUsed b exits) (sym appended) used
