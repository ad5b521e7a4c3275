use Rattle.std.proofs.Common.{arith, ◌<◌, length, subst, sym}
use Rattle.std.specs.Prelude.{take}
use Rattle.std.proofs.lemmas.List.{take_more_set}
use Rattle.dl_writer.specs.State.{IsWhole}
use Rattle.dl_writer.proofs.Telling.{book_taken, book_told, book_whole}
use Rattle.dl_writer.proofs.book.Book.log.Goals as goal

pub invariant_of-self-2 : goal.invariant_of-self-2
invariant_of-self-2 g c =
    let made = c.in_ok-answer.ensures.made in
    let within : c.self.inside.kept < length c.self.inside.records.items = omega (arith, c.if-self-len.false, c.len.ensures, c.self.invariant.fits, c.self.inside.records.ok.0) in
    record {
      fits = omega (arith, within, c.self.inside.records.ok.0);
      taken = book_taken c.self.inside.writer c.log_into.new.self c.log_into.new.entry c.self.inside.claims made c.self.invariant.taken;
      told = book_told _ _ _ _ _ _ _ _ _ _ made (take_more_set c.self.inside.records.items c.self.inside.kept c.log_into.new.entry within) c.in_ok-answer.ensures.told c.self.invariant.told;
    }

pub returns-clause-whole : goal.returns-clause-whole
returns-clause-whole g c = λ whole.
    let within : c.self.inside.kept < length c.self.inside.records.items = omega (arith, c.if-self-len.false, c.len.ensures, c.self.invariant.fits, c.self.inside.records.ok.0) in
    book_whole c.self.inside.writer c.log_into.new.self c.log_into.new.entry (take c.self.inside.kept c.self.inside.records.items) _ c.self.inside.claims c.in_ok-answer.ensures.made
    (take_more_set c.self.inside.records.items c.self.inside.kept c.log_into.new.entry within) (subst IsWhole (sym c.self.view_is) whole)
