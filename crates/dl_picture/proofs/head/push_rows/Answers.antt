use Rattle.std.proofs.Common.{ℕ, ◌+◌, ◌++◌, List, drop, map, sym, ap, ◌∙◌, append_assoc, arith}
use Rattle.std.proofs.lemmas.List.{at_drop_more}
use Rattle.dl_picture.specs.Picture.{rows_from}
use Rattle.dl_picture.specs.Row.{row_text, shown}
use Rattle.dl_picture.specs.declared.chart.Row.{Row}
use Rattle.dl_picture.proofs.head.push_rows.Goals as goal

pub loop-number-preserved : goal.loop-number-preserved
loop-number-preserved c =
    let k = c.loop-number.number in
    let rows = c.args.rows.now in
    let row = c.index-rows-number.result in
    let names = map (λ name. name.items) c.args.names.now in
    let text = c.loop-number.text.items in
    let rest = rows_from names (k + 1) (map shown (drop (k + 1) rows)) in
    record {
      text = ap (λ (l : List ℕ). l ++ rest) c.in_ok-push_row.ensures
          ∙ append_assoc text (row_text names k (shown row)) rest
          ∙ ap (λ (r : Row). text ++ (row_text names k (shown r) ++ rest)) c.index-rows-number.is
          ∙ ap (λ (l : List ℕ). text ++ l) (sym (at_drop_more (λ l. rows_from names k (map shown l)) rows k row c.loop-number-test.true)) ∙ c.loop-number.invariant.text;
      within = omega (arith, c.loop-number-test.true);
    }
