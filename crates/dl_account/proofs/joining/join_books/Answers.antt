use Rattle.std.proofs.Common.{ap, ◌∙◌, subst, sym}
use Rattle.dl_writer.specs.Claiming.{TellsClaims}
use Rattle.dl_writer.specs.State.{WriterState}
use Rattle.dl_account.specs.Entries.{with_entry}
use Rattle.dl_account.specs.Joining.{join_writer, FitsHandles}
use Rattle.dl_account.proofs.Loops.{joins_on, next_fits}
use Rattle.dl_account.proofs.joining.join_books.Goals as goal

pub join_writer-refusals-requires : goal.join_writer-refusals-requires
join_writer-refusals-requires c = subst (λ (w : WriterState). FitsHandles c.loop-book.handles w) (sym c.into_parts-writer.ensures.writer)
    (next_fits c.loop-book.handles c.loop-book.books c.take_first.new.self c.in-Some.book c.in-Some.ensures.taken c.loop-book.invariant.fit)

pub loop-book-preserved : goal.loop-book-preserved
loop-book-preserved c =
    let book = c.in-Some.book in
    let parts = c.into_parts-writer.ensures in
    joins_on c.args.handles.now c.loop-book.handles c.join_writer-refusals.new.handles c.args.books c.loop-book.books c.take_first.new.self book c.loop-book.entries c.add.new.self
    c.in-Some.ensures.taken (c.join_writer-refusals.ensures.joined ∙ ap (λ (w : WriterState). join_writer c.loop-book.handles w) parts.writer)
    (c.add.ensures ∙ (λ i. with_entry c.loop-book.entries (parts.records i) (parts.claims i) ((c.join_writer-refusals.ensures.refusals ∙ ap (λ (w : WriterState). w.push.refusals) parts.writer) i)))
    parts.told (subst TellsClaims parts.writer c.have_claims.ensures)
    c.loop-book.invariant
