-- Services and ports as lists, for the functions of `services`.
use Rattle.std.proofs.lemmas.Bool.{ne_eqb, or_parts}
use Rattle.std.proofs.lemmas.Bool.Decides.{nat_tests}
use Rattle.std.specs.Option.{option_map}
use Rattle.indexmap.specs.IndexMap.{insert_entry}
use Rattle.pb_frame.proofs.Lists.{All-imply}
use Rattle.pb_frame.specs.Lists.{first, Rises}
use Rattle.pb_frame.proofs.Things.{none_from}
use Rattle.pb_svlan.specs.ServiceTables.{place_of, kind_in}
use Rattle.pb_svlan.specs.declared.port.Attachment.{Attachment}
use Rattle.std.proofs.Common.{eq-eqb, length, is_some, get_or, subst, ◌≡◌, ℕ, zero, suc, ◌<◌, ◌≤◌, Bool}
use Rattle.std.proofs.Common.{true, false, cond, nat_lt, ◌||◌, ◌==◌, List, [], ◌∷◌, ◌++◌, map, insert, Some, None}
use Rattle.std.proofs.Common.{refl, sym, ap, ◌∙◌, arith}
use Rattle.std.specs.List.{list_any, filter, AllByRecursion}
use Rattle.std.specs.Map.{keys_of, values_of}

-- a test of the keys of a map is a test of its entries
pub list_any-keys : {K X : Type 0} (p : K → Bool) (es : List (K × X))
    → list_any p (keys_of es) ≡ list_any (λ e. p e.0) es
list_any-keys p [] = refl
list_any-keys p (e ∷ es) = ap (λ b. p e.0 || b) (list_any-keys p es)

pub list_any-values : {K X : Type 0} (p : X → Bool) (es : List (K × X))
    → list_any p (values_of es) ≡ list_any (λ e. p e.1) es
list_any-values p [] = refl
list_any-values p (e ∷ es) = ap (λ b. p e.1 || b) (list_any-values p es)

-- a service with a new VID is inserted last
pub insert_entry-last : {X : Type 0} (eq : ℕ → ℕ → Bool) → ((a b : ℕ) → eq a b ≡ (b == a))
    → (es : List (ℕ × X)) (k : ℕ) (v : X)
    → list_any (λ e. e.0 == k) es ≡ false → insert_entry eq es k v ≡ es ++ (k, v) ∷ []
insert_entry-last eq same [] k v h = refl
insert_entry-last eq same (e ∷ es) k v h =
    ap (λ b. cond b ((e.0, v) ∷ es) (e ∷ insert_entry eq es k v)) (same k e.0 ∙ (or_parts (e.0 == k) _ h).0)
    ∙ ap (λ zs. e ∷ zs) (insert_entry-last eq same es k v (or_parts (e.0 == k) _ h).1)

-- the index of insertion is within the list
pub place_of-within : (port : ℕ) (ports : List Attachment) → place_of port ports ≤ length ports
place_of-within port [] = omega arith
place_of-within port (a ∷ others) =
    elim (nat_lt a.port port) as (λ b. cond b (suc (place_of port others)) 0 ≤ suc (length others))
    [ true ↦ omega (arith, place_of-within port others) | false ↦ omega arith ]

-- what holds for all ports and for one more holds for all after it is inserted
All-placed : (P : ℕ → Type 0) (ports : List Attachment) (a : Attachment) → AllByRecursion P (map (λ a. a.port) ports)
    → P a.port
    → AllByRecursion P (map (λ a. a.port) (insert ports (place_of a.port ports) a))
All-placed P [] a all h = (h, tt)
All-placed P (b ∷ others) a all h =
    elim (nat_lt b.port a.port) as
    (λ t. AllByRecursion P (map (λ a. a.port) (insert (b ∷ others) (cond t (suc (place_of a.port others)) 0) a)))
    [ true ↦ (all.0, All-placed P others a all.1 h) | false ↦ (h, all) ]

-- ascending ports are ascending after an insertion
pub ascending-placed : (ports : List Attachment) (a : Attachment) → Rises (map (λ a. a.port) ports)
    → kind_in ports a.port ≡ None
    → Rises (map (λ a. a.port) (insert ports (place_of a.port ports) a))
ascending-placed [] a rise none = (tt, tt)
ascending-placed (b ∷ others) a rise none =
    let differs = unlike (b.port == a.port) none in
    elim (nat_lt b.port a.port)
    as (λ t. nat_lt b.port a.port ≡ t → Rises
    (map (λ a. a.port) (insert (b ∷ others) (cond t (suc (place_of a.port others)) 0) a))) [
      | true ↦ λ e. (
        All-placed (λ m. b.port < m) others a rise.0 (below b.port a.port e),
        ascending-placed others a
            rise.1 differs.1,
      )
      | false ↦ λ e. let l = above b.port a.port e differs.0
          in (
            (
              l,
              All-imply (λ m. b.port < m) (λ m. a.port < m) (λ m k. omega (arith, l, k))
                  (map (λ a. a.port) others) rise.0,
            ),
            rise,
          )
    ] refl
  where
    unlike : (t : Bool) → option_map (λ a. a.kind) (cond t (Some b) (first (λ c. c.port == a.port) others)) ≡ None
        → (t ≡ false) × (kind_in others a.port ≡ None)
    unlike true h = cc
    unlike false h = (refl, h)

    below : (m n : ℕ) → nat_lt m n ≡ true → m < n
    below m n h = grind (arith, nat_tests)

    above : (m n : ℕ) → nat_lt m n ≡ false → (m == n) ≡ false → n < m
    above m n h k = grind (arith, nat_tests)

-- what holds for all ports holds for those that a filter keeps
All-some : (P : ℕ → Type 0) (p : Attachment → Bool) (ports : List Attachment)
    → AllByRecursion P (map (λ a. a.port) ports) → AllByRecursion P (map (λ a. a.port) (filter p ports))
All-some P p [] all = tt
All-some P p (a ∷ others) all =
    elim (p a) as (λ t. AllByRecursion P (map (λ a. a.port) (cond t (a ∷ filter p others) (filter p others))))
    [ true ↦ (all.0, All-some P p others all.1) | false ↦ All-some P p others all.1 ]

pub ascending-some : (p : Attachment → Bool) (ports : List Attachment) → Rises (map (λ a. a.port) ports)
    → Rises (map (λ a. a.port) (filter p ports))
ascending-some p [] rise = tt
ascending-some p (a ∷ others) rise =
    elim (p a) as (λ t. Rises (map (λ a. a.port) (cond t (a ∷ filter p others) (filter p others)))) [
      | true ↦ (All-some (λ m. a.port < m) p others rise.0, ascending-some p others rise.1)
      | false ↦ ascending-some p
          others rise.1
    ]

-- ports with one more at its place are ascending, for `attach`
pub ascending-attached : (ports others : List Attachment) (a : Attachment) → Rises (map (λ a. a.port) ports)
    → is_some (kind_in ports a.port) ≡ false
    → others ≡ insert ports (place_of a.port ports) a → Rises (map (λ a. a.port) others)
ascending-attached ports others a rise free h =
    rw h (ascending-placed ports a rise (none_from (kind_in ports a.port) free))

-- the port at its own index among ascending ports is the one that a search finds, for `kind_at`
pub found-there : (ports : List Attachment) (i port : ℕ) (a : Attachment) → Rises (map (λ a. a.port) ports)
    → i < length ports → a ≡ get_or ports i a → a.port ≡ port
    → kind_in ports port ≡ Some a.kind
found-there [] i port a rise within there is = absurd (omega arith)
found-there (b ∷ others) zero port a rise within there is =
    ap (λ t. option_map (λ c. c.kind) (cond t (Some b) (first (λ c. c.port == port) others)))
    (eq-eqb b.port port (ap (λ (z : Attachment). z.port) (sym there) ∙ is))
    ∙ ap (λ (z : Attachment). Some z.kind) (sym there)
found-there (b ∷ others) (suc i) port a rise within there is =
    let below : b.port < a.port = among others i rise.0 (omega arith) there in
    let differs : (b.port == port) ≡ false = ne_eqb b.port port (λ e. omega (arith, below, is, e)) in
    ap (λ t. option_map (λ c. c.kind) (cond t (Some b) (first (λ c. c.port == port) others))) differs
    ∙ found-there others i port a rise.1 (omega arith) there is
  where
    among : (others : List Attachment) (i : ℕ) → AllByRecursion (λ m. b.port < m) (map (λ a. a.port) others)
        → i < length others → a ≡ get_or others i a → b.port < a.port
    among [] i all within there = absurd (omega arith)
    among (c ∷ others) zero all within there = subst (λ (z : Attachment). b.port < z.port) (sym there) all.0
    among (c ∷ others) (suc i) all within there = among others i all.1 (omega arith) there
