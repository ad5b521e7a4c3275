use Rattle.std.proofs.Common.{ℕ, ◌++◌, ◌∷◌, [], List, sym, ap, ◌∙◌, arith}
use Rattle.std.specs.Prelude.{unwrap_or}
use Rattle.std.specs.HashMap as hash
use Rattle.std.proofs.lemmas.List.FromFn.{map-range_with_len_more}
use Rattle.dl_picture.specs.Tally.{no_bin, same_cell}
use Rattle.dl_picture.specs.declared.chart.Bin.{Bin}
use Rattle.dl_picture.proofs.tally.Tally.bins.Goals as goal

pub loop-column-preserved : goal.loop-column-preserved
loop-column-preserved c =
    let f : ℕ → Bin = λ column. unwrap_or (hash.get same_cell c.args.self.now.bins (record { row = c.args.row; column = column })) no_bin in
    let n = c.loop-column.column in
    c.in_ok-push.ensures.items ∙ ap (λ (b : Bin). c.loop-column.bins.items ++ b ∷ []) c.so_far.ensures ∙ ap (λ (l : List Bin). l ++ f n ∷ []) c.loop-column.invariant
    ∙ sym (map-range_with_len_more f 0 n n (omega arith))
