use Rattle.dl_writer.proofs.Telling.{taken_after_injection, told_after_injection}
use Rattle.dl_writer.proofs.book.Book.next_injection.Goals as goal

pub invariant_of-self : goal.invariant_of-self
invariant_of-self g c = record {
  fits = c.self.invariant.fits;
  taken = taken_after_injection c.self.inside.writer c.next_injection.new.self c.self.inside.claims c.next_injection.ensures.rest c.self.invariant.taken;
  told = told_after_injection c.self.inside.writer c.next_injection.new.self _ _ c.next_injection.ensures.rest c.self.invariant.told;
}
