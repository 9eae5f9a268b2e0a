-- Networks that are watched, round after round.
use Rattle.std.proofs.Common.{◌≡◌, ◌⊎◌, inl, inr, ◌≤◌, ◌<◌, ◌+◌, ◌-◌, ◌*◌, ◌%◌, ◌/◌, ℕ, true, false, List, refl, sym}
use Rattle.std.proofs.Common.{ap, ◌∙◌}
use Rattle.std.proofs.Common.{subst, arith}
use Rattle.std.proofs.lemmas.Nat.{div-add-mod'}
use Rattle.std.specs.List.{list_all}
use Rattle.pb_net.specs.Answers.{NetView}
use Rattle.pb_relay.specs.Settled.{machines_in}
use Rattle.pb_rstp.specs.Ports.{Machine}
use Rattle.pb_converge.proofs.TickLemmas.{rounds-more}
use Rattle.pb_converge.specs.Drives.{IsRound, HaveGoneRounds, IsAtEnd, is_lossless}
use Rattle.pb_converge.specs.Recurrence.{Notes}
use Rattle.pb_converge.specs.declared.recurrence.Watch.{Watch}

-- one round more
gone-more : (rounds : ℕ) (old mid new : NetView) (more : ℕ) → HaveGoneRounds rounds old mid → IsRound more mid new
    → HaveGoneRounds (rounds + 1) old new
gone-more rounds old mid new more (count, rs) r = (count + more, rounds-more rounds count more old mid new rs r)

-- the machines were marked after some of the rounds
pub record IsMarked (at rounds : ℕ) (machines : List Machine) (old new : NetView) : Type 0 where
  pub net : NetView
  pub before : HaveGoneRounds at old net
  pub since : ℕ
  pub after : HaveGoneRounds since net new
  pub number : at + since ≡ rounds
  pub machines_are : machines ≡ machines_in net.plan net.rec

-- the machines recurred within the rounds, and whole periods lead from an end to the limit
pub record IsFound (most end rounds : ℕ) (old new : NetView) : Type 0 where
  pub counted : old.is_kept ≡ false
  pub lossless : list_all is_lossless old.plan.links ≡ true
  pub first : ℕ
  pub period : ℕ
  pub since : ℕ
  pub whole : ℕ
  pub earlier : NetView
  pub later : NetView
  pub before : HaveGoneRounds first old earlier
  pub between : HaveGoneRounds period earlier later
  pub after : HaveGoneRounds since later new
  pub number : first + period + since ≡ rounds
  pub some : 0 < period
  pub same : machines_in earlier.plan earlier.rec ≡ machines_in later.plan later.rec
  pub rest : end + whole * period ≡ most

-- what a watch knows after some rounds
pub record IsWatched (most rounds : ℕ) (w : Watch) (old new : NetView) : Type 0 where
  pub most_is : w.most ≡ most
  pub marked : IsMarked w.marked rounds w.machines.items old new
  pub counted : w.is_open ≡ true → old.is_kept ≡ false
  pub lossless : w.is_open ≡ true → list_all is_lossless old.plan.links ≡ true
  pub end : (w.end ≡ most) ⊎ IsFound most w.end rounds old new

-- before the first round
pub watched-first : (most : ℕ) (w : Watch) (old : NetView) → w.marked ≡ 0
    → w.machines.items ≡ machines_in old.plan old.rec
    → w.end ≡ most → w.most ≡ most → (w.is_open ≡ true → old.is_kept ≡ false)
    → (w.is_open ≡ true → list_all is_lossless old.plan.links ≡ true)
    → IsWatched most 0 w old old
watched-first most w old at are end limit counts watched = record {
  most_is = limit;
  marked = record {
    net = old;
    before = subst (λ n. HaveGoneRounds n old old) (sym at) (0, (refl, refl));
    since = 0;
    after = (0, (refl, refl));
    number = omega (arith, at);
    machines_are = are;
  };
  counted = counts;
  lossless = watched;
  end = inl end;
}

-- the mark after one round more
marked-more : (at rounds : ℕ) (machines : List Machine) (old mid new : NetView) (more : ℕ)
    → IsMarked at rounds machines old mid → IsRound more mid new → IsMarked at (rounds + 1) machines old new
marked-more at rounds machines old mid new more m r = record {
  net = m.net;
  before = m.before;
  since = m.since + 1;
  after = gone-more m.since m.net mid new more m.after r;
  number = omega (arith, m.number);
  machines_are = m.machines_are;
}

-- what was found after one round more
found-more : (most end rounds : ℕ) (old mid new : NetView) (more : ℕ) → IsFound most end rounds old mid
    → IsRound more mid new → IsFound most end (rounds + 1) old new
found-more most end rounds old mid new more f r = record {
  counted = f.counted;
  lossless = f.lossless;
  first = f.first;
  period = f.period;
  since = f.since + 1;
  whole = f.whole;
  earlier = f.earlier;
  later = f.later;
  before = f.before;
  between = f.between;
  after = gone-more f.since f.later mid new more f.after r;
  number = omega (arith, f.number);
  some = f.some;
  same = f.same;
  rest = f.rest;
}

end-more : (most end rounds : ℕ) (old mid new : NetView) (more : ℕ) → (end ≡ most) ⊎ IsFound most end rounds old mid
    → IsRound more mid new → (end ≡ most) ⊎ IsFound most end (rounds + 1) old new
end-more most end rounds old mid new more (inl e) r = inl e
end-more most end rounds old mid new more (inr f) r = inr (found-more most end rounds old mid new more f r)

-- whole periods lead from the end to the limit
whole_periods : (most rounds period end : ℕ) → rounds ≤ most → end ≡ rounds + (most - rounds) % period
    → end + ((most - rounds) / period) * period ≡ most
whole_periods most rounds period end within is =
    let parts : ((most - rounds) / period) * period + (most - rounds) % period ≡ most - rounds =
    div-add-mod' (most - rounds) period in
    omega (arith, parts, is, within)

-- a watch after one round more, and its look
pub watched-more : (most rounds : ℕ) (w w' : Watch) (old mid new : NetView) (more : ℕ) → rounds + 1 ≤ most
    → HaveGoneRounds rounds old mid → IsWatched most rounds w old mid → IsRound more mid new
    → Notes (rounds + 1) (machines_in new.plan new.rec) w w' → IsWatched most (rounds + 1) w' old new
watched-more most rounds w w' old mid new more within gone k r (inl same) =
    let P : Watch → Type 0 = λ v. IsWatched most (rounds + 1) v old new in
    subst P (sym same) (record {
      most_is = k.most_is;
      marked = marked-more w.marked rounds w.machines.items old mid new more k.marked r;
      counted = k.counted;
      lossless = k.lossless;
      end = end-more most w.end rounds old mid new more k.end r;
    })
watched-more most rounds w w' old mid new more within gone k r (inr (inl anew)) = record {
  most_is = anew.kept.1 ∙ k.most_is;
  marked = record {
    net = new;
    before = subst (λ n. HaveGoneRounds n old new) (sym anew.marked) (gone-more rounds old mid new more gone r);
    since = 0;
    after = (0, (refl, refl));
    number = omega (arith, anew.marked);
    machines_are = anew.machines_are;
  };
  counted = λ watched. k.counted (sym anew.kept.0 ∙ watched);
  lossless = λ watched. k.lossless (sym anew.kept.0 ∙ watched);
  end = subst (λ e. (e ≡ most) ⊎ IsFound most e (rounds + 1) old new) (sym anew.kept.2)
      (end-more most w.end rounds old mid new more k.end r);
}
watched-more most rounds w w' old mid new more within gone k r (inr (inr found)) =
    let m = marked-more w.marked rounds w.machines.items old mid new more k.marked r in
    let P : ℕ → Type 0 = λ n. IsMarked n (rounds + 1) w'.machines.items old new in
    let Q : List Machine → Type 0 = λ ms. IsMarked w.marked (rounds + 1) ms old new in
    let limit : w.most ≡ most = k.most_is in
    let period : (rounds + 1) - w.marked ≡ m.since = omega (arith, m.number) in
    let R : ℕ → Type 0 = λ p. w'.end ≡ (rounds + 1) + (most - (rounds + 1)) % p in
    let S : ℕ → Type 0 = λ l. w'.end ≡ (rounds + 1) + (l - (rounds + 1)) % ((rounds + 1) - w.marked) in
    let end : R m.since = subst R period (subst S limit found.end) in
    record {
      most_is = found.kept.2 ∙ k.most_is;
      marked = subst P (sym found.kept.0) (subst Q (ap (λ v. v.items) (sym found.kept.1)) m);
      counted = λ watched. k.counted found.watched;
      lossless = λ watched. k.lossless found.watched;
      end = inr (record {
        counted = k.counted found.watched;
        lossless = k.lossless found.watched;
        first = w.marked;
        period = m.since;
        since = 0;
        whole = (most - (rounds + 1)) / m.since;
        earlier = m.net;
        later = new;
        before = m.before;
        between = m.after;
        after = (0, (refl, refl));
        number = omega (arith, m.number);
        some = omega arith;
        same = sym m.machines_are ∙ found.same;
        rest = whole_periods most (rounds + 1) m.since w'.end within end;
      });
    }

-- the rounds may end where the watch says so
pub watched-end : (most rounds : ℕ) (w : Watch) (old new : NetView) → IsWatched most rounds w old new → rounds ≡ w.end
    → IsAtEnd most rounds old new
watched-end most rounds w old new k is = elim k.end [
  | inl e ↦ inl (is ∙ e)
  | inr f ↦ inr (record {
    counted = f.counted;
    lossless = f.lossless;
    first = f.first;
    period = f.period;
    since = f.since;
    whole = f.whole;
    earlier = f.earlier;
    later = f.later;
    before = f.before;
    between = f.between;
    after = f.after;
    number = f.number;
    some = f.some;
    same = f.same;
    rest = ap (λ n. n + f.whole * f.period) is ∙ f.rest;
  })
]
