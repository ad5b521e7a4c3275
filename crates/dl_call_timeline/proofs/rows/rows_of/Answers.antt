use Rattle.std.proofs.Common.{ℕ, ◌+◌, ◌++◌, ◌∷◌, [], List, drop, map, sym, ap, ◌∙◌, append_assoc, arith}
use Rattle.std.proofs.lemmas.List.{at_drop_more, map-append}
use Rattle.dl_picture.specs.Row.{ChartRow, shown}
use Rattle.dl_picture.specs.declared.chart.Row.{Row}
use Rattle.dl_call_timeline.specs.Timeline.{row_of, rows_from}
use Rattle.dl_call_timeline.proofs.rows.rows_of.Goals as goal

pub loop-place-preserved : goal.loop-place-preserved
loop-place-preserved c =
    let k = c.loop-place.place in
    let writers = c.args.writers.now in
    let ecu = c.args.ecu.now in
    let calls = c.args.calls.now in
    let apid : List ℕ = c.index-writers-place.result in
    let old = c.loop-place.rows.items in
    let row : Row = c.in_ok-row.row in
    record {
      rows = λ scale keeps.
          let rest = rows_from ecu scale calls (k + 1 + 1) (drop (k + 1) writers) in
          ap (λ (l : List Row). map shown l ++ rest) c.in_ok-push.ensures.items
          ∙ ap (λ (l : List ChartRow). l ++ rest) (map-append shown old (row ∷ []))
          ∙ append_assoc (map shown old) (shown row ∷ []) rest
          ∙ ap (λ (r : ChartRow). map shown old ++ r ∷ rest) (c.in_ok-row.ensures scale keeps)
          ∙ ap (λ (a : List ℕ). map shown old ++ row_of ecu scale calls (k + 1) a ∷ rest) c.index-writers-place.is
          ∙ ap (λ (l : List ChartRow). map shown old ++ l) (sym (at_drop_more (λ l. rows_from ecu scale calls (k + 1) l) writers k apid c.loop-place-test.true)) ∙ c.loop-place.invariant.rows scale keeps;
      within = omega (arith, c.loop-place-test.true);
    }
