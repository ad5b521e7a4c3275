use Rattle.std.proofs.Common.{◌≡◌, ◌+◌, ◌-◌, List, length, sym, ap, ◌∙◌, subst}
use Rattle.std.specs.Prelude.{All}
use Rattle.std.proofs.lemmas.List.Elements.{All-push}
use Rattle.dl_bytes.specs.declared.user.UserMsg.{UserMsg}
use Rattle.dl_writer.specs.State.{BookState}
use Rattle.dl_account.proofs.OpenBooks.{AreOpen, one_open}
use Rattle.test_threads.proofs.programs.open_books.Goals as goal

pub loop-writer-preserved : goal.loop-writer-preserved
loop-writer-preserved c =
    let l = c.loop-writer in
    let made = c.in_ok-book.ensures in
    let more = c.in_ok-push.ensures.items in
    record {
      app = c.book.ensures.still;
      one = ap (λ (hello : List UserMsg). length hello - 1) c.book.ensures.same.2 ∙ l.invariant.one;
      apps = made.desk.apps ∙ l.invariant.apps;
      open_so = subst (λ (bs : List BookState). AreOpen c.book.new.desk bs (l.writer + 1)) (sym more)
          (one_open l.app.number l.desk c.book.new.desk l.books.items c.in_ok-book.field-0 l.writer l.invariant.open_so made.desk made.made made.number);
      bases = subst (λ (bs : List BookState). All (λ b. b.writer.base ≡ 1) bs) (sym more)
          (All-push (λ (b : BookState). b.writer.base ≡ 1) l.books.items c.in_ok-book.field-0 l.invariant.bases (made.base ∙ l.invariant.one));
    }
