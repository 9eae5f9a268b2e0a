use Rattle.std.proofs.Common.{◌<◌, ◌≤◌, ◌∷◌, ◌++◌, [], ℕ, List, map, take, get_or, length, ap, sym, subst, ◌∙◌, arith}
use Rattle.std.proofs.Common.{length-append}
use Rattle.std.proofs.lemmas.List.{take_all, take_more, map-append}
use Rattle.std.specs.List.{AllByRecursion}
use Rattle.pb_lan.specs.PortSets.{refusal_code}
use Rattle.pb_lan.specs.declared.step.NoRoom.{NoRoom}
use Rattle.pb_lan.specs.declared.step.NoRoom.TheVariants.{Full}
use Rattle.pb_lan.proofs.PortBits.{within_at}
use Rattle.pb_lan.proofs.refusals.Refusals.codes.Goals as goal

pub code_of-requires : goal.code_of-requires
code_of-requires c =
    within_at c.as_slice-refusal-items.result.now c.loop-refusal.refusal-index (0, Full)
    (omega (arith, c.loop-refusal-test.true))
    (subst (λ (rs : List (ℕ × NoRoom)). AllByRecursion (λ r. r.0 ≤ 16) rs) (sym c.as_slice-refusal-items.ensures)
    c.list-list.ensures.within)

pub push-requires : goal.push-requires
push-requires c = omega (
  arith,
  c.loop-refusal.invariant.few,
  c.loop-refusal-test.true,
  ap length
      c.as_slice-refusal-items.ensures,
  c.list-list.ensures.few,
)

pub loop-refusal-preserved : goal.loop-refusal-preserved
loop-refusal-preserved c =
    let i = c.loop-refusal.refusal-index in
    let rs = c.as_slice-refusal-items.result.now in
    let l : i < length rs = omega (arith, c.loop-refusal-test.true) in
    record {
      codes = c.push.ensures ∙ ap (λ x. c.loop-refusal.codes ++ x ∷ []) c.code_of.ensures
          ∙ ap (λ xs. xs ++ refusal_code (get_or rs i (0, Full)) ∷ []) c.loop-refusal.invariant.codes
          ∙ sym (map-append refusal_code (take i rs) (get_or rs i (0, Full) ∷ []))
          ∙ sym (ap (map refusal_code) (take_more rs i (0, Full) l));
      few = omega (
        arith,
        ap length c.push.ensures,
        length-append c.loop-refusal.codes (c.code_of.result ∷ []),
        c.loop-refusal.invariant.few,
      );
    }

pub returns : goal.returns
returns c =
    c.loop-refusal.invariant.codes
    ∙ ap (map refusal_code) (take_all c.loop-refusal.refusal-index c.as_slice-refusal-items.result.now
    (omega (arith, c.loop-refusal-test.false)) ∙ c.as_slice-refusal-items.ensures ∙ c.list-list.ensures.refusals)
