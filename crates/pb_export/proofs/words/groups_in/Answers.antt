use Rattle.std.proofs.Common.{◌≡◌, ◌++◌, codes, refl, sym, ap, ◌∙◌, append_assoc, rules}
use Rattle.std.proofs.lemmas.Bool.{false≢true}
use Rattle.pb_export.specs.Rows.{words_text}
use Rattle.pb_export.proofs.FitLemmas.{groups_next, groups_more, groups_end}
use Rattle.pb_export.proofs.TextLemmas.{text_more}
use Rattle.pb_export.proofs.words.groups_in.Goals as goal

pub returns-in_default-2-clause-groups : goal.returns-in_default-2-clause-groups
returns-in_default-2-clause-groups c =
    let words = rw c.in_default-2.is at c.in_ok-words.ensures.words in (
      λ e. absurd (false≢true e),
      λ has. words.1 (groups_next c.groups.rest.now c.in-Some.front.now c.in-Some.later.now
          c.in-Some.ensures.first (c.groups.invariant.next has)).0,
    )

pub groups-preserved : goal.groups-preserved
groups-preserved c =
    let inv = c.groups.invariant in
    let rest = c.groups.rest.now in
    let front = c.in-Some.front.now in
    let later = c.in-Some.later.now in
    let cut = c.in-Some.ensures.first in
    let words = rw c.in-Some-2.is at c.in_ok-words.ensures.words in
    let told : front ≡ words_text c.in-Some-2.words.items = rw c.in-Some-2.is at c.in_ok-words.ensures.text in
    let bar = codes " |" in
    let split : rest ≡ (words_text c.in-Some-2.words.items ++ bar) ++ later =
    c.in-Some.ensures.text ∙ ap (λ z. z ++ (bar ++ later)) told
    ∙ sym (append_assoc (words_text c.in-Some-2.words.items) bar later) in record {
      text_is = rw c.in_ok-push.ensures.items
          (text_more (λ g. words_text g.items ++ codes " |") c.groups.groups.items c.in-Some-2.words c.args.text.now
          rest later inv.text_is split);
      next = λ has. (groups_next rest front later cut (inv.next has)).1;
      back = λ has. inv.back (groups_more rest front later cut (words.0 refl) has);
      utf8 = search rules;
    }

pub returns-clause-groups : goal.returns-clause-groups
returns-clause-groups c =
    let words = rw c.in-None.is at c.in_ok-last.ensures.words in (
      λ e. absurd (false≢true e),
      λ has. words.1 (groups_end c.groups.rest.now c.in_default.ensures.first
          (c.groups.invariant.next has)),
    )
