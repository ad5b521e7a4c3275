use Rattle.std.proofs.Common.{ap, ◌∙◌, ◌++◌, take, drop, suc}
use Rattle.dl_writer.proofs.Books.{there_without, given_without, parted_at, read_there, some_so, none_so}
use Rattle.dl_writer.proofs.book_list.BookList.take.Goals as goal

pub invariant_of-self : goal.invariant_of-self
invariant_of-self c = there_without c.self.inside.books.items c.remove.new.self.items c.in_ok-place.place c.self.invariant c.remove.ensures.items

pub returns-clause-taken : goal.returns-clause-taken
returns-clause-taken c =
    let found = c.in_ok-place.ensures.found in
    let is = read_there c.self.inside.books.items c.args.self.now c.in_ok-place.place c.remove.result found.0 c.self.invariant c.self.view_is found.1 c.remove.ensures.value in
    some_so _ c.remove.result found.0 is (
      take c.in_ok-place.place c.args.self.now,
      drop (suc c.in_ok-place.place) c.args.self.now,
      parted_at c.args.self.now c.in_ok-place.place found.0 found.1,
      given_without c.self.inside.books.items c.remove.new.self.items c.in_ok-place.place c.self.invariant c.remove.ensures.items ∙ ap (λ l. take c.in_ok-place.place l ++ drop (suc c.in_ok-place.place) l) c.self.view_is,
    )

pub returns-clause-of_number : goal.returns-clause-of_number
returns-clause-of_number c =
    let found = c.in_ok-place.ensures.found in
    let is = read_there c.self.inside.books.items c.args.self.now c.in_ok-place.place c.remove.result found.0 c.self.invariant c.self.view_is found.1 c.remove.ensures.value in
    some_so _ c.remove.result found.0 is found.2

pub returns-clause-none : goal.returns-clause-none
returns-clause-none c =
    let found = c.in_ok-place.ensures.found in
    none_so _ c.remove.result found.0 (read_there c.self.inside.books.items c.args.self.now c.in_ok-place.place c.remove.result found.0 c.self.invariant c.self.view_is found.1 c.remove.ensures.value)

pub returns-clause-same : goal.returns-clause-same
returns-clause-same c =
    let found = c.in_ok-place.ensures.found in
    none_so _ c.remove.result found.0 (read_there c.self.inside.books.items c.args.self.now c.in_ok-place.place c.remove.result found.0 c.self.invariant c.self.view_is found.1 c.remove.ensures.value)
