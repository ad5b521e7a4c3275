use Rattle.std.proofs.Common.{length, sym, ◌∙◌, arith}
use Rattle.dl_writer.specs.State.{BookState}
use Rattle.dl_account.proofs.Counting.{sum_own, sum_other}
use Rattle.dl_account.proofs.joining.injected_of.Goals.{then-app, else-app}
use Rattle.dl_account.proofs.joining.injected_of.Goals as goal

pub loop-place-preserved : goal.loop-place-preserved
loop-place-preserved c = elim c.if-app.branch [
  | then-app w ↦
      let more = sum_own (λ (b : BookState). length b.writer.injections.taken) c.args.app c.args.books.now c.loop-place.place c.of-book.result.now c.of-book.ensures
      (sym c.app.ensures.value ∙ w.if-app.true) in
      omega (arith, more, c.loop-place.invariant, w.given-is, w.saturating_add-given.ensures, w.injected.ensures)
  | else-app w ↦
      let less = sum_other (λ (b : BookState). length b.writer.injections.taken) c.args.app c.args.books.now c.loop-place.place c.of-book.result.now c.of-book.ensures
      (λ same. w.if-app.false (c.app.ensures.value ∙ same)) in
      omega (arith, less, c.loop-place.invariant, w.given-is)
]
