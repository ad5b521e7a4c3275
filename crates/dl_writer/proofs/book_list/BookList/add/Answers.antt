use Rattle.std.proofs.Common.{rules, ◌≡◌, ◌++◌, ◌∷◌, [], Some, ap}
use Rattle.dl_events.proofs.Given.{given-snoc, there-snoc}
use Rattle.dl_writer.proofs.book_list.BookList.add.Goals as goal

pub invariant_of-self : goal.invariant_of-self
invariant_of-self c =
    let e : c.try_push.new.self.items ≡ c.self.inside.books.items ++ Some c.args.book ∷ [] = search rules in
    rw e (there-snoc _ _ c.self.invariant)

pub returns : goal.returns
returns c =
    let e : c.try_push.new.self.items ≡ c.self.inside.books.items ++ Some c.args.book ∷ [] = search rules in
    rw (e, given-snoc c.self.inside.books.items c.args.book) (ap (λ l. l ++ c.args.book ∷ []) c.self.view_is)
