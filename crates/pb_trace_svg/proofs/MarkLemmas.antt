-- The marks of hops, one after the other.
use Rattle.std.proofs.Common.{◌≡◌, ◌<◌, ◌+◌, ℕ, List, [], ◌∷◌, ◌++◌, map, take, length, get_or, sym, ap, ◌∙◌, arith}
use Rattle.std.proofs.lemmas.List.{map_push, take_more}
use Rattle.pb_lan.specs.Numbering.{numbers_from}
use Rattle.pb_trace_svg.specs.Marks.{AreMarksOf}
use Rattle.pb_trace_svg.specs.declared.hops.Hop.{Hop}
use Rattle.pb_trace_svg.specs.declared.marks.HopMark.{HopMark}

-- one more number
numbers_more : {X : Type 0} (k : ℕ) (xs : List X) (x : X)
    → numbers_from k (xs ++ x ∷ []) ≡ numbers_from k xs ++ (k + length xs) ∷ []
numbers_more k [] x = let e : k ≡ k + 0 = omega arith in ap (λ n. n ∷ []) e
numbers_more k (y ∷ ys) x =
    let e : k + 1 + length ys ≡ k + length (y ∷ ys) = omega arith in
    ap (λ ns. k ∷ ns) (numbers_more (k + 1) ys x ∙ ap (λ n. numbers_from (k + 1) ys ++ n ∷ []) e)

-- one turn of the loop of marks_of
pub marks-more : (hops : List Hop) (k : ℕ) (d : Hop) (marks more : List HopMark) (m : HopMark) → k < length hops
    → AreMarksOf (take k hops) marks → more ≡ marks ++ m ∷ [] → m.hop ≡ get_or hops k d
    → m.number ≡ length marks + 1 → AreMarksOf (take (k + 1) hops) more
marks-more hops k d marks more m within so_far grown hop_is number_is = record {
  hops_are = ap (map (λ (m : HopMark). m.hop)) grown ∙ map_push (λ (m : HopMark). m.hop) marks m
      ∙ ap (λ x. map (λ (m : HopMark). m.hop) marks ++ x ∷ []) hop_is
      ∙ ap (λ hs. hs ++ get_or hops k d ∷ []) so_far.hops_are
      ∙ sym (take_more hops k d within);
  numbers_are = ap (map (λ (m : HopMark). m.number)) grown ∙ map_push (λ (m : HopMark). m.number) marks m
      ∙ ap (λ x. map (λ (m : HopMark). m.number) marks ++ x ∷ [])
      (let e : m.number ≡ 1 + length marks = omega (arith, number_is) in e)
      ∙ ap (λ ns. ns ++ (1 + length marks) ∷ []) so_far.numbers_are
      ∙ sym (numbers_more 1 marks m) ∙ sym (ap (numbers_from 1) grown);
}
