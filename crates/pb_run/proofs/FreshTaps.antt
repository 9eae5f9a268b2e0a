-- Taps that have recorded nothing.
use Rattle.std.proofs.Common.{◌≡◌, Bool, true, false, cond, List, [], ◌∷◌, ◌++◌, sym, ap, ◌∙◌, subst}
use Rattle.std.proofs.lemmas.List.{map-append}
use Rattle.pb_port.specs.Ports.{Frames}
use Rattle.pb_tap.specs.Taps.{own_of}
use Rattle.pb_tap.specs.declared.tap.Tap.{Tap}
use Rattle.pb_threads.proofs.Alls.{all_more}
use Rattle.pb_workers.specs.Recording.{AreRecorded, own_lists}

-- one more tap that has recorded nothing
fresh_more : {P : Type 0} (taps taps' : List (Tap P)) (t : Tap P) → taps' ≡ taps ++ t ∷ [] → AreRecorded taps []
    → own_of t.recorder ≡ [] → AreRecorded taps' []
fresh_more {P} taps taps' t more fresh own =
    let Q : Frames → Type 0 = λ frames. frames ≡ [] in
    all_more Q (own_of t.recorder) (own_lists taps) (own_lists taps')
    (ap own_lists more ∙ map-append (λ (u : Tap P). own_of u.recorder) taps (t ∷ [])) fresh own

-- the same, if there was memory for it
pub fresh_push : {P : Type 0} (ok : Bool) (taps taps' : List (Tap P)) (t : Tap P)
    → taps' ≡ cond ok (taps ++ t ∷ []) taps → AreRecorded taps [] → own_of t.recorder ≡ [] → AreRecorded taps' []
fresh_push true taps taps' t more fresh own = fresh_more taps taps' t more fresh own
fresh_push false taps taps' t more fresh own = subst (λ us. AreRecorded us []) (sym more) fresh
