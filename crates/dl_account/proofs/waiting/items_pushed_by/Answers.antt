use Rattle.std.proofs.Common.{length, sym, ◌∙◌, arith}
use Rattle.dl_writer.specs.State.{BookState}
use Rattle.dl_account.proofs.Counting.{sum_own, sum_other}
use Rattle.dl_account.proofs.waiting.items_pushed_by.Goals.{then-app, else-app}
use Rattle.dl_account.proofs.waiting.items_pushed_by.Goals as goal

pub loop-place-preserved : goal.loop-place-preserved
loop-place-preserved c = elim c.if-app.branch [
  | then-app w ↦
      let more = sum_own (λ (b : BookState). length b.writer.push.pushed) c.args.app c.args.books.now c.loop-place.place c.of-book.result.now c.of-book.ensures (sym c.app.ensures.value ∙ w.if-app.true) in
      let sum = c.loop-place.invariant.sum in
      let small = c.loop-place.invariant.small in
      let own = w.pushed-pushed.ensures.value in
      let range = w.pushed-pushed.ensures.range in
      let is = w.pushed-is in
      record { sum = omega (arith, more, sum, own, is); small = omega (arith, small, range, is) }
  | else-app w ↦
      let less = sum_other (λ (b : BookState). length b.writer.push.pushed) c.args.app c.args.books.now c.loop-place.place c.of-book.result.now c.of-book.ensures (λ same. w.if-app.false (c.app.ensures.value ∙ same)) in
      let sum = c.loop-place.invariant.sum in
      let small = c.loop-place.invariant.small in
      let is = w.pushed-is in
      record { sum = is ∙ sum ∙ sym less; small = omega (arith, small, is) }
]
