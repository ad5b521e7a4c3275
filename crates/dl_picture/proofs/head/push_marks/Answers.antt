use Rattle.std.proofs.Common.{ℕ, ◌+◌, ◌++◌, List, drop, map, sym, ap, ◌∙◌, append_assoc, arith}
use Rattle.std.proofs.lemmas.List.{at_drop_more}
use Rattle.dl_picture.specs.Picture.{mark_at, marks_from}
use Rattle.dl_picture.proofs.head.push_marks.Goals as goal

pub loop-column-preserved : goal.loop-column-preserved
loop-column-preserved c =
    let k = c.loop-column.column in
    let names = c.args.names.now in
    let name = c.index-names-column.result in
    let text = c.loop-column.text.items in
    let rest = marks_from c.args.height (k + 1) (map (λ name. name.items) (drop (k + 1) names)) in
    record {
      text = ap (λ (l : List ℕ). l ++ rest) c.in_ok-push_mark_at.ensures
          ∙ append_assoc text (mark_at c.args.height k c.deref.result.now) rest
          ∙ ap (λ (n : List ℕ). text ++ (mark_at c.args.height k n ++ rest)) c.deref.ensures.value
          ∙ ap (λ n. text ++ (mark_at c.args.height k n.items ++ rest)) c.index-names-column.is
          ∙ ap (λ (l : List ℕ). text ++ l) (sym (at_drop_more (λ l. marks_from c.args.height k (map (λ name. name.items) l)) names k name c.loop-column-test.true)) ∙ c.loop-column.invariant.text;
      within = omega (arith, c.loop-column-test.true);
    }
