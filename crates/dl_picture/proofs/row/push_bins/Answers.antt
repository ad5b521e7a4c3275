use Rattle.std.proofs.Common.{ℕ, ◌+◌, ◌++◌, List, drop, get_or, map, sym, ap, ◌∙◌, append_assoc, arith}
use Rattle.std.proofs.lemmas.List.{at_drop_more}
use Rattle.dl_picture.specs.Row.{bin_text, bins_from, greatest_of}
use Rattle.dl_picture.specs.Tally.{no_bin}
use Rattle.dl_picture.specs.declared.chart.Bin.{Bin}
use Rattle.dl_picture.proofs.row.push_bins.Goals as goal

pub loop-column-preserved : goal.loop-column-preserved
loop-column-preserved c =
    let k = c.loop-column.column in
    let bins = c.args.bins.now in
    let names = map (λ name. name.items) c.args.names.now in
    let bin = get_or bins k no_bin in
    let text = c.loop-column.text.items in
    let from : ℕ → List Bin → List ℕ = bins_from c.args.top (greatest_of bins) names in
    let rest = from (k + 1) (drop (k + 1) bins) in
    record {
      text = ap (λ (l : List ℕ). l ++ rest) c.in_ok-push_bin.ensures
          ∙ append_assoc text (bin_text c.args.top c.greatest_of-greatest.result c.name_of.result.now k bin) rest
          ∙ ap (λ (g : ℕ). text ++ (bin_text c.args.top g c.name_of.result.now k bin ++ rest)) c.greatest_of-greatest.ensures.greatest
          ∙ ap (λ (n : List ℕ). text ++ (bin_text c.args.top (greatest_of bins) n k bin ++ rest)) c.name_of.ensures
          ∙ ap (λ (l : List ℕ). text ++ l) (sym (at_drop_more (from k) bins k no_bin c.loop-column-test.true)) ∙ c.loop-column.invariant.text;
      within = omega (arith, c.loop-column-test.true);
    }
