use Rattle.std.proofs.Common.{◌++◌, ◌∙◌, map, refl, ap, string_bytes}
use Rattle.std.proofs.lemmas.List.Sorted.{IsPermutation-map}
use Rattle.std.proofs.lemmas.Result.{on_ok_weaker}
use Rattle.pb_report.specs.ForestTexts.{forest_lines}
use Rattle.pb_report.proofs.forests.put_forest.Goals as goal

pub returns : goal.returns
returns c =
    let names = map (λ n. n.now) c.sort_unstable.new.self.items in
    on_ok_weaker c.put_loops.result (λ e. (
      forest_lines names,
      e ∙ ap (λ xs. string_bytes c.args.out.now ++ forest_lines (map (λ n. n.now) xs)) c.as_slice.ensures.value,
      record {
        looping = map (λ n. n.now) c.in_ok-names.names.items;
        are = c.in_ok-names.ensures;
        names = names;
        same = IsPermutation-map (λ n. n.now) c.in_ok-names.names.items c.sort_unstable.new.self.items
            c.sort_unstable.ensures.permutation;
        text_is = refl;
      },
    )) c.put_loops.ensures
