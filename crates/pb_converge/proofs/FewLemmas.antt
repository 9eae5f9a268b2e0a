-- How many events of each kind were performed.
use Rattle.std.proofs.Common.{◌≡◌, ◌≤◌, ◌+◌, ℕ, Bool, true, false, List, [], ◌∷◌, ◌++◌, map}
use Rattle.std.proofs.Common.{length, string_bytes, refl, sym, ap, subst, arith}
use Rattle.std.proofs.lemmas.List.Sums.{count_by-le-length}
use Rattle.std.specs.Global.{Global}
use Rattle.std.specs.List.{AllByRecursion, count_by}
use Rattle.std.specs.declared.string.String.{String}
use Rattle.pb_frame.proofs.Counting.{one_if, count_by-append, count_by-cons, count-none}
use Rattle.pb_frame.proofs.Lists.{All-imply}
use Rattle.pb_lan.specs.declared.event.Event.{Event}
use Rattle.pb_lan.specs.declared.event.Event.TheVariants.{Poll, Feed, Deliver, Receive, Transmit, Tick, Admin, Take}
use Rattle.pb_lan.specs.declared.event.Event.TheVariants.{Put}
use Rattle.pb_lan.specs.declared.plan.Plan.{Plan}
use Rattle.pb_lan.specs.declared.plan.End.{End}
use Rattle.pb_converge.specs.Drives.{is_onward, is_tick_of, is_poll, is_admin, AreFew}
use Rattle.pb_converge.specs.Falls.{all_down, set_down, downs, down_count}

pub few-none : (ticks polls admins : ℕ) → AreFew ticks polls admins []
few-none ticks polls admins =
    record { ticked = λ b. omega arith; polled = omega arith; switched = omega arith }

-- two lists of events in a row
pub few-append : {t p a t' p' a' : ℕ} (xs ys : List Event) → AreFew t p a xs → AreFew t' p' a' ys
    → AreFew (t + t') (p + p') (a + a') (xs ++ ys)
few-append xs ys f s = record {
  ticked = λ b. omega (arith, count_by-append (is_tick_of b) xs ys, f.ticked b, s.ticked b);
  polled = omega (arith, count_by-append is_poll xs ys, f.polled, s.polled);
  switched = omega (arith, count_by-append is_admin xs ys, f.switched, s.switched);
}

-- with greater numbers
pub few-lower : {t p a t' p' a' : ℕ} (xs : List Event) → t ≤ t' → p ≤ p' → a ≤ a' → AreFew t p a xs
    → AreFew t' p' a' xs
few-lower xs ticks polls admins f = record {
  ticked = λ b. omega (arith, f.ticked b, ticks);
  polled = omega (arith, f.polled, polls);
  switched = omega (arith, f.switched, admins);
}

-- the first ones of some events
pub few-first : {t p a : ℕ} (xs ys all : List Event) → xs ++ ys ≡ all → AreFew t p a all → AreFew t p a xs
few-first {t = t} {p = p} {a = a} xs ys all e f =
    let g = subst (λ es. AreFew t p a es) (sym e) f in
    record {
      ticked = λ b. omega (arith, count_by-append (is_tick_of b) xs ys, g.ticked b);
      polled = omega (arith, count_by-append is_poll xs ys, g.polled);
      switched = omega (arith, count_by-append is_admin xs ys, g.switched);
    }

-- an event that carries on what is on its way is of no other kind
no_tick : (b : ℕ) (event : Event) → is_onward event ≡ true → is_tick_of b event ≡ false
no_tick b (Poll port frame) h = refl
no_tick b (Feed port) h = refl
no_tick b (Deliver port) h = refl
no_tick b (Receive bridge port) h = refl
no_tick b (Transmit bridge port) h = refl
no_tick b (Tick bridge) h = cc
no_tick b (Admin bridge port up) h = refl
no_tick b (Take lane) h = refl
no_tick b (Put lane) h = refl

no_poll : (event : Event) → is_onward event ≡ true → is_poll event ≡ false
no_poll (Poll port frame) h = cc
no_poll (Feed port) h = refl
no_poll (Deliver port) h = refl
no_poll (Receive bridge port) h = refl
no_poll (Transmit bridge port) h = refl
no_poll (Tick bridge) h = refl
no_poll (Admin bridge port up) h = refl
no_poll (Take lane) h = refl
no_poll (Put lane) h = refl

no_admin : (event : Event) → is_onward event ≡ true → is_admin event ≡ false
no_admin (Poll port frame) h = refl
no_admin (Feed port) h = refl
no_admin (Deliver port) h = refl
no_admin (Receive bridge port) h = refl
no_admin (Transmit bridge port) h = refl
no_admin (Tick bridge) h = refl
no_admin (Admin bridge port up) h = cc
no_admin (Take lane) h = refl
no_admin (Put lane) h = refl

-- events that carry on what is on its way
pub few-onward : (xs : List Event) → AllByRecursion (λ e. is_onward e ≡ true) xs → AreFew 0 0 0 xs
few-onward xs all =
    let none : (t : Event → Bool) → ((e : Event) → is_onward e ≡ true → t e ≡ false) → count_by t xs ≡ 0 = λ t h.
    count-none t xs (All-imply (λ e. is_onward e ≡ true) (λ e. t e ≡ false) h xs all) in
    record {
      ticked = λ b. omega (arith, none (is_tick_of b) (no_tick b));
      polled = omega (arith, none is_poll no_poll);
      switched = omega (arith, none is_admin no_admin);
    }

pub count-onward : (xs : List Event) → AllByRecursion (λ e. is_onward e ≡ true) xs → count_by is_onward xs ≡ length xs
count-onward [] all = refl
count-onward (x ∷ xs) all =
    let one : one_if (is_onward x) ≡ 1 = ap one_if all.0 in
    omega (arith, count_by-cons is_onward x xs, one, count-onward xs all.1)

-- no event of another kind disables what names disable
all-set : (t : Event → Bool) → ((e : End) → t (set_down e) ≡ false) → (plan : Plan) (names : List (String Global))
    → count_by t (downs plan names) ≡ 0
all-set t never plan [] = refl
all-set t never plan (w ∷ names) =
    let ends = all_down plan (string_bytes w) in
    omega (arith, count_by-append t (map set_down ends) (downs plan names), one ends, all-set t never plan names)
  where
    one : (ends : List End) → count_by t (map set_down ends) ≡ 0
    one [] = refl
    one (e ∷ ends) =
        let k : one_if (t (set_down e)) ≡ 0 = ap one_if (never e) in
        omega (arith, count_by-cons t (set_down e) (map set_down ends), k, one ends)

-- the events that disable what names disable
pub few-downs : (plan : Plan) (names : List (String Global)) → AreFew 0 0 (down_count plan names) (downs plan names)
few-downs plan names = record {
  ticked = λ b. omega (arith, all-set (is_tick_of b) (λ e. refl) plan names);
  polled = omega (arith, all-set is_poll (λ e. refl) plan names);
  switched = count_by-le-length is_admin (downs plan names);
}

-- a frame that is polled
pub few-poll : (port : ℕ) (frame : List ℕ) → AreFew 0 1 0 (Poll port frame ∷ [])
few-poll port frame = record {
  ticked = λ b. omega (arith, count_by-cons (is_tick_of b) (Poll port frame) []);
  polled = omega (arith, count_by-cons is_poll (Poll port frame) []);
  switched = omega (arith, count_by-cons is_admin (Poll port frame) []);
}
