use Rattle.std.proofs.Common.{refl, subst}
use Rattle.dl_writer.specs.BookInside.{book_state}
use Rattle.dl_writer.specs.Claiming.{name_fault, KeepsRegistered}
use Rattle.dl_writer.specs.State.{BookState}
use Rattle.dl_writer.proofs.ToldClaims.{joined_taken, joined_knows, keeps_registered, refused_knows, refused_so, refused_taken}
use Rattle.dl_writer.proofs.book.Book.register.Goals as goal

pub invariant_of-self : goal.invariant_of-self
invariant_of-self g c =
    let refused = refused_so _ _ c.self.inside.writer c.claim_context.new.self (name_fault c.args.ctid c.args.text.now) c.in_err-ctx.ensures.named c.in_err-ctx.ensures.full in
    record {
      fits = c.self.invariant.fits;
      taken = refused_taken _ _ _ refused c.self.invariant.taken;
      told = refused_knows _ _ _ _ refused c.self.invariant.told;
    }

pub invariant_of-self-2 : goal.invariant_of-self-2
invariant_of-self-2 g c =
    let joins = c.in_ok-ctx.ensures.joined in
    record {
      fits = c.self.invariant.fits;
      taken = joined_taken _ _ _ _ _ _ _ joins c.self.invariant.taken;
      told = joined_knows _ _ _ _ _ _ _ _ joins c.self.invariant.told;
    }

pub returns-clause-registered : goal.returns-clause-registered
returns-clause-registered g c =
    subst (λ (b : BookState). KeepsRegistered b c.args.ctid c.args.level c.args.text.now c.in_ok-ctx.ctx c.announce.new.self) c.self.view_is
    (keeps_registered (book_state c.self.inside) (record (book_state c.self.inside) { writer = c.claim_context.new.self }) c.announce.new.self c.claim_context.new.self
    c.args.ctid c.args.level c.args.text.now c.in_ok-ctx.ctx c.announce.result c.in_ok-ctx.ensures.joined refl c.announce.ensures.announced)
