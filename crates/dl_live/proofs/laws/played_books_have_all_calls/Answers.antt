use Rattle.std.proofs.Common.{sym, ap, ◌∙◌}
use Rattle.std.specs.List.{range_with_len}
use Rattle.dl_crew.specs.Plays.{HasPlayed}
use Rattle.dl_crew.proofs.Pairs.{as_many}
use Rattle.dl_opening.specs.Scenario.{writers}
use Rattle.dl_live.proofs.PlayedBooks.{all_books}
use Rattle.dl_live.proofs.laws.played_books_have_all_calls.Goals as goal

pub returns-clause-played : goal.returns-clause-played
returns-clause-played c = λ lines o books runnable opened played found.
    all_books lines o opened.same_lines opened.contexts (writers lines) o.books books (c.opened_books_ask_for_all.ensures lines o runnable opened) opened.books.each (c.opened_books_can_be_played.ensures.whole lines o opened) played found

pub returns-clause-numbered : goal.returns-clause-numbered
returns-clause-numbered c = λ lines o books opened played.
    c.played_books_stay.ensures.numbered o.plan.contexts o.plan.lines o.books books played ∙ opened.books.numbered
    ∙ ap (range_with_len 1) (sym (as_many (HasPlayed o.plan.contexts o.plan.lines) o.books books played))
