use Rattle.std.proofs.Common.{◌≡◌, ◌++◌, ◌∷◌, ◌<◌, [], not, map, drop, get_or, length, refl, sym, ap, subst, ◌∙◌}
use Rattle.std.proofs.Common.{arith, append-nil, append_assoc}
use Rattle.std.proofs.lemmas.List.{drop_all, map-append}
use Rattle.pb_frame.proofs.Things.{from_here, here_is}
use Rattle.pb_forest.specs.Searching.{AnswersForest}
use Rattle.pb_report.specs.ForestTexts.{AreLooping}
use Rattle.pb_report.proofs.CheckLemmas.{vid_there, with_ring, without_ring, ring_told, forest_told}
use Rattle.pb_report.proofs.forests.looping.Goals as goal
use Rattle.pb_report.proofs.forests.looping.Goals.{then-is_none+in_ok-push, else-is_none}

pub loop-index-preserved : goal.loop-index-preserved
loop-index-preserved c = λ rest are.
    let plan = c.args.plan.now in
    let shape = c.args.shape.now in
    let service = c.service-item.result in
    let i = c.loop-index.index in
    let all : c.as_slice-service-items.result.now ≡ plan.services = c.as_slice-service-items.ensures in
    let within : i < length plan.services = omega (arith, c.loop-index-test.true, ap length all) in
    let is : service ≡ get_or plan.services i service = c.service-item.is ∙ ap (λ xs. get_or xs i service) all in
    let e = from_here plan.services i service (here_is plan.services i service within is) in
    let answers : AnswersForest plan shape service.vid c.in_ok-forest.field-0 =
    subst (λ vid. AnswersForest plan shape vid c.in_ok-forest.field-0) (vid_there plan i service within is)
    c.in_ok-forest.ensures in
    elim c.if-is_none.branch [
      | then-is_none+in_ok-push w ↦
          let ring = ring_told plan shape service.vid c.in_ok-forest.field-0 answers
          (c.is_none.ensures ∙ ap not w.if-is_none.true) in
          let whole = c.loop-index.invariant (service.name ∷ rest)
          (with_ring plan shape plan.services i service rest e ring are) in
          let before = map (λ n. n.now) c.loop-index.names.items in
          let items : c.if-is_none.names.items ≡ c.loop-index.names.items ++ w.as_str.result ∷ [] =
          ap (λ v. v.items) w.names-is ∙ w.in_ok-push.ensures.items in
          let same : map (λ n. n.now) c.if-is_none.names.items ++ rest ≡ before ++ service.name ∷ rest =
          ap (λ xs. map (λ n. n.now) xs ++ rest) items
          ∙ ap (λ z. z ++ rest) (map-append (λ n. n.now) c.loop-index.names.items (w.as_str.result ∷ []))
          ∙ append_assoc before (w.as_str.result.now ∷ []) rest ∙ ap (λ t. before ++ t ∷ rest) w.as_str.ensures in
          subst (λ z. AreLooping plan shape plan.services z) (sym same) whole
      | else-is_none w ↦
          let forest = forest_told plan shape service.vid c.in_ok-forest.field-0 answers
          (c.is_none.ensures ∙ ap not w.if-is_none.false) in
          let whole = c.loop-index.invariant rest (without_ring plan shape plan.services i service rest e forest are) in
          subst (λ v. AreLooping plan shape plan.services (map (λ n. n.now) v.items ++ rest)) (sym w.names-is) whole
    ]

pub returns : goal.returns
returns c =
    let plan = c.args.plan.now in
    let past : drop c.loop-index.index plan.services ≡ [] = drop_all c.loop-index.index plan.services
    (omega (arith, c.loop-index-test.false, ap length c.as_slice-service-items.ensures)) in
    subst (λ z. AreLooping plan c.args.shape.now plan.services z)
    (append-nil (map (λ n. n.now) c.loop-index.names.items))
    (c.loop-index.invariant [] (subst (λ z. AreLooping plan c.args.shape.now z []) (sym past) refl))
