use Rattle.std.proofs.Common.{◌≡◌, ◌<◌, ◌+◌, ◌∷◌, ◌++◌, [], suc, length, drop, refl, sym, ap, ◌∙◌, arith, add-one}
use Rattle.std.proofs.Common.{append-nil}
use Rattle.std.proofs.lemmas.List.{length-map}
use Rattle.std.specs.List.{filter}
use Rattle.pb_fdb.proofs.TurnLemmas.{split, turned-on}
use Rattle.indexmap.specs.IndexMap.{get}
use Rattle.pb_fdb.specs.Journals.{is_same, entry_at, entries_from, stations, stays}
use Rattle.pb_fdb.proofs.journal.rotate.Goals as goal

pub loop-turn-init : goal.loop-turn-init
loop-turn-init c = record {
  end = c.len-turn-end.ensures ∙ c.args.log.now.ok.0 ∙ sym (length-map c.args.log.now.items (λ p. p.station));
  gone = [];
  behind = [];
  log = sym (append-nil (stations c.args.log.now.items));
  all = refl;
  entries = sym (append-nil (entries_from (get is_same c.args.index.now) c.args.first.now
      (stations c.args.log.now.items)));
  behind_count = refl;
  each = c.requires.each;
  count = c.requires.count;
  capacity = refl;
}

pub loop-turn-preserved : goal.loop-turn-preserved
loop-turn-preserved c =
    let f = get is_same c.loop-turn.index in
    let g = get is_same c.turn.new.index in
    let i = c.loop-turn._turn in
    let at = c.loop-turn.first in
    let before = c.loop-turn.invariant in
    let all = stations c.args.log.now.items in
    let within : i < length all = omega (arith, before.end, c.loop-turn-test.true) in
    let parts = split all i within in
    let s = parts.0 in
    let rest = drop (suc i) all in
    let more : drop (i + 1) all ≡ rest = ap (λ n. drop n all) (add-one i) in
    let log : stations c.loop-turn.log.items ≡ s ∷ (rest ++ before.behind) = before.log
    ∙ ap (λ zs. zs ++ before.behind) parts.1 in
    let turned = c.turn.ensures.turned s (rest ++ before.behind) log in
    let now = turned-on (stays c.args.port) f g at s rest before.behind (stations c.turn.new.log.items) before.gone
    (entries_from (get is_same c.args.index.now) c.args.first.now all) turned
    (before.all ∙ ap (λ zs. before.gone ++ entries_from f at zs) parts.1)
    (ap (entries_from f at) (sym log) ∙ before.entries ∙ ap
    (λ zs. entries_from f at zs ++ filter (stays c.args.port) before.gone) parts.1)
    before.behind_count in
    let first = c.turn.ensures.first in
    record {
      end = before.end;
      gone = before.gone ++ entry_at at s (f s);
      behind = before.behind ++ turned.kept;
      log = now.0 ∙ ap (λ zs. zs ++ (before.behind ++ turned.kept)) (sym more);
      all = now.1 ∙ ap (λ n. (before.gone ++ entry_at at s (f s)) ++ entries_from g n rest) (sym first)
          ∙ ap (λ zs. (before.gone ++ entry_at at s (f s)) ++ entries_from g c.turn.new.first zs) (sym more);
      entries = ap (λ n. entries_from g n (stations c.turn.new.log.items)) first ∙ now.2
          ∙ ap (λ n. entries_from g n rest ++ filter (stays c.args.port) (before.gone ++ entry_at at s (f s)))
          (sym first)
          ∙ ap (λ zs. entries_from g c.turn.new.first zs ++ filter (stays c.args.port)
          (before.gone ++ entry_at at s (f s))) (sym more);
      behind_count = now.3;
      each = c.turn.ensures.each;
      count = c.turn.ensures.count before.count;
      capacity = c.turn.ensures.capacity ∙ before.capacity;
    }
