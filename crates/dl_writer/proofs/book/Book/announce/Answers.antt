use Rattle.std.proofs.Common.{subst, sym}
use Rattle.dl_writer.specs.BookInside.{book_state}
use Rattle.dl_writer.specs.Claiming.{KeepsAnnounced}
use Rattle.dl_writer.specs.State.{BookState, IsWhole}
use Rattle.dl_writer.proofs.ToldClaims.{announced_taken, announced_told, announced_whole, keeps_announced}
use Rattle.dl_writer.proofs.book.Book.announce.Goals as goal

pub invariant_of-self : goal.invariant_of-self
invariant_of-self g c =
    let into = c.announce_into.ensures in
    record {
      fits = c.self.invariant.fits;
      taken = announced_taken _ _ _ into.announced _ _ into.behind c.self.invariant.taken;
      told = announced_told _ _ _ into.announced _ _ into.behind _ c.self.invariant.told;
    }

pub returns-clause-announced : goal.returns-clause-announced
returns-clause-announced g c =
    subst (λ (b : BookState). KeepsAnnounced b (record (book_state c.self.inside) { writer = c.announce_into.new.writer; claims = c.announce_into.new.kept }) c.announce_into.result) c.self.view_is
    (keeps_announced (book_state c.self.inside) c.announce_into.new.writer c.announce_into.new.kept c.announce_into.result c.announce_into.ensures)

pub returns-clause-whole : goal.returns-clause-whole
returns-clause-whole g c = λ whole.
    let into = c.announce_into.ensures in
    announced_whole _ _ _ into.announced _ _ into.behind _ (subst IsWhole (sym c.self.view_is) whole)
