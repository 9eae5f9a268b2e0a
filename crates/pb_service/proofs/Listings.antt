-- The numbers of listed names, name by name, for the loop of `numbers_among`.
use Rattle.std.proofs.Common.{◌≡◌, ℕ, ◌+◌, ◌<◌, true, false, List, [], ◌∷◌, ◌++◌, length, get_or, drop, map, Bor}
use Rattle.std.proofs.Common.{append_assoc}
use Rattle.std.proofs.lemmas.List.{drop_more}
use Rattle.pb_frame.specs.Admission.{same}
use Rattle.toml.specs.Data.{Items}
use Rattle.pb_service.specs.Values.{any_item, is_text}
use Rattle.pb_service.specs.Told.{listed_from}

pub listed_one : (names : List (Bor (List ℕ))) (i : ℕ) (d : Bor (List ℕ)) (listed : Items) (old new : List ℕ)
    → i < length names
    → any_item (is_text (same (get_or names i d).now)) listed ≡ true → new ≡ old ++ (i + 1) ∷ []
    → new ++ listed_from (i + 1 + 1) (map (λ n. n.now) (drop (i + 1) names)) listed ≡ old
    ++ listed_from (i + 1) (map (λ n. n.now) (drop i names)) listed
listed_one names i d listed old new h has e = rw (drop_more names i d h, has, e) (simp append_assoc)

pub listed_none : (names : List (Bor (List ℕ))) (i : ℕ) (d : Bor (List ℕ)) (listed : Items) (old new : List ℕ)
    → i < length names
    → any_item (is_text (same (get_or names i d).now)) listed ≡ false → new ≡ old
    → new ++ listed_from (i + 1 + 1) (map (λ n. n.now) (drop (i + 1) names)) listed ≡ old
    ++ listed_from (i + 1) (map (λ n. n.now) (drop i names)) listed
listed_none names i d listed old new h has e = rw (drop_more names i d h, has, e)
