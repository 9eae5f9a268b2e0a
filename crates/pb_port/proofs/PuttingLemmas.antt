-- Octets that are copied into a run add up, for `put_part` and `Sender::stage`.
use Rattle.std.proofs.Common.{◌≡◌, ℕ, zero, suc, ◌-◌, ◌≤◌, List, [], ◌∷◌, ◌++◌, length, take, drop, refl, sym, ap}
use Rattle.std.proofs.Common.{◌∙◌, append_assoc, arith, ◌+◌, ◌<◌, Bool, length-drop, take-append-drop, slice_index_or}
use Rattle.std.proofs.Math.Seq.{drop-append-add}
use Rattle.std.proofs.lemmas.List.{drop-append-le}
use Rattle.pb_port.specs.declared.framing.Framing.{Framing}
use Rattle.pb_port.specs.Spelling.{spelled, first_of, stream_of, stream_behind}

-- taking all elements
pub take_all : (n : ℕ) (xs : List ℕ) → n ≡ length xs → take n xs ≡ xs
take_all n [] e = rw e refl
take_all n (x ∷ xs) e = rw e (ap (λ z. x ∷ z) (take_all (length xs) xs refl))

-- taking the first elements of two lists
pub take_two : (n : ℕ) (xs ys : List ℕ) → take n (xs ++ ys) ≡ take n xs ++ take (n - length xs) ys
take_two zero [] ys = refl
take_two (suc n) [] ys =
    let all : suc n - 0 ≡ suc n = omega arith in
    rw all refl
take_two zero (x ∷ xs) ys =
    let none : zero - suc (length xs) ≡ zero = omega arith in
    rw none refl
take_two (suc n) (x ∷ xs) ys =
    let less : suc n - suc (length xs) ≡ n - length xs = omega arith in
    rw less (ap (λ z. x ∷ z) (take_two n xs ys))

-- a head, and then the frame in the remaining space
pub head_then_frame : (front out head frame : List ℕ) (room left done : ℕ) → done ≤ length head
    → left ≡ room - length (drop done head)
    → out ≡ (front ++ take room (drop done head)) ++ take left frame
    → out ≡ front ++ take room (drop done (head ++ frame))
head_then_frame front out head frame room left done within less is =
    let both : take room (drop done (head ++ frame)) ≡ take room (drop done head) ++ take left frame =
    ap (λ z. take room z) (drop-append-le done head frame within) ∙ take_two room (drop done head) frame
    ∙ ap (λ k. take room (drop done head) ++ take k frame) (sym less) in
    is ∙ append_assoc front (take room (drop done head)) (take left frame) ∙ ap (λ z. front ++ z) (sym both)

-- the remaining octets of a frame after the complete head
pub frame_only : (head frame : List ℕ) (done : ℕ) → length head ≤ done
    → take (length frame - (done - length head)) (drop (done - length head) frame) ≡ drop done (head ++ frame)
frame_only head frame done h =
    let all : length head + (done - length head) ≡ done = omega arith in
    let rest : drop (done - length head) frame ≡ drop done (head ++ frame) =
    sym (ap (λ k. drop k (head ++ frame)) (sym all) ∙ drop-append-add head frame (done - length head)) in
    take_all (length frame - (done - length head)) (drop (done - length head) frame)
    (sym (length-drop (done - length head) frame)) ∙ rest

-- the copied octets of a head and a frame continue the stream
pub put_next : (framing : Framing) (fresh : Bool) (stamp now done room : ℕ) (frames : List (List ℕ))
    (front out : List ℕ)
    → done ≤ length (spelled framing fresh stamp (first_of frames)) → 0 < length frames
    → out ≡ front ++ take room (drop done (spelled framing fresh stamp (first_of frames)))
    → out ++ (drop room (drop done (spelled framing fresh stamp (first_of frames))) ++ stream_behind framing now
    (drop 1 frames))
    ≡ front ++ drop done (stream_of framing fresh stamp now frames)
put_next framing fresh stamp now done room [] front out within some is = absurd (omega arith)
put_next framing fresh stamp now done room (f ∷ fs) front out within some is =
    let left = drop done (spelled framing fresh stamp f) in
    let behind = stream_behind framing now fs in
    ap (λ z. z ++ (drop room left ++ behind)) is ∙ append_assoc front (take room left) (drop room left ++ behind)
    ∙ ap (λ z. front ++ z) (sym (append_assoc (take room left) (drop room left) behind) ∙ ap (λ z. z ++ behind)
    (take-append-drop room left)
    ∙ sym (drop-append-le done (spelled framing fresh stamp f) behind within))

-- the same after the written part of the first frame
pub staged : (framing : Framing) (fresh : Bool) (stamp now done room : ℕ) (frames : List (List ℕ))
    (begun front out part total : List ℕ)
    → part ≡ spelled framing fresh stamp (first_of frames)
    → done ≤ length (spelled framing fresh stamp (first_of frames)) → 0 < length frames
    → out ≡ front ++ take room (drop done part)
    → begun ++ (front ++ drop done (stream_of framing fresh stamp now frames)) ≡ total
    → begun ++ (out ++ (drop room (drop done (spelled framing fresh stamp (first_of frames))) ++ stream_behind framing
    now (drop 1 frames))) ≡ total
staged framing fresh stamp now done room frames begun front out part total spells within some is e =
    ap (λ z. begun ++ z) (put_next framing fresh stamp now done room frames front out within some
    (is ∙ ap (λ z. front ++ take room (drop done z)) spells)) ∙ e

-- the frame at an index is the first from there on
pub first_at : (frames : List (List ℕ)) (i : ℕ) (x : List ℕ) → i < length frames → x ≡ slice_index_or frames i x
    → first_of (drop i frames) ≡ x
first_at [] i x h e = absurd (omega arith)
first_at (y ∷ ys) zero x h e = sym e
first_at (y ∷ ys) (suc i) x h e = first_at ys i x (omega arith) e
