use Rattle.std.proofs.Common.{◌+◌, List, ℕ, take, Some, sym, ap, ◌∙◌, subst}
use Rattle.dl_desk.specs.State.{DeskState}
use Rattle.dl_crew.specs.Plays.{ArePairs}
use Rattle.dl_opening.specs.Opening.{IsBookOf}
use Rattle.dl_opening.specs.Scenario.{apps, opened_from, writer_in, writers}
use Rattle.dl_opening.proofs.OpenedBooks.{AreSoFar, one_more}
use Rattle.dl_opening.proofs.Taken.{filter_map_taken, none_taken}
use Rattle.dl_opening.proofs.books.books.Goals as goal
use Rattle.dl_opening.proofs.books.books.Goals.{in-Some+in_ok-book, in_default}

pub loop-line-preserved : goal.loop-line-preserved
loop-line-preserved c =
    let l = c.loop-line in
    let lines = c.args.lines.now in
    let line = c.line-item.result in
    let so_far : AreSoFar lines (take l.line-index lines) c.args.desk.now l.desk l.books = record { stays_so = l.invariant.desk; pairs = l.invariant.pairs; open_so = l.invariant.open_so; few = l.invariant.few } in
    elim c.match-writer_in.branch [
      | in-Some+in_ok-book w ↦
          let said = filter_map_taken lines l.line-index line c.loop-line-test.true c.line-item.is writer_in (Some w.in-Some.apid) (sym c.writer_in.ensures ∙ w.in-Some.is) in
          let e = w.in_ok-book.ensures in
          let now = one_more lines (take l.line-index lines) (take (l.line-index + 1) lines) c.args.desk.now l.desk w.book.new.desk l.books w.add.new.self w.in-Some.apid w.in_ok-book.field-0
          so_far said w.add.ensures e.book e.number e.room e.made e.desk in
          let all = subst (λ (d : DeskState). AreSoFar lines (take (l.line-index + 1) lines) c.args.desk.now d c.match-writer_in.books) (sym w.desk-is)
          (subst (AreSoFar lines (take (l.line-index + 1) lines) c.args.desk.now w.book.new.desk) (sym w.books-is) now) in
          record {
            apps = w.list-is ∙ e.apps (writers (take l.line-index lines)) l.invariant.apps ∙ ap (λ (made : List (List ℕ)). opened_from lines made 0 (apps lines)) (sym said);
            desk = all.stays_so;
            pairs = all.pairs;
            open_so = all.open_so;
            few = all.few;
          }
      | in_default w ↦
          let said = none_taken lines l.line-index line c.loop-line-test.true c.line-item.is writer_in (sym c.writer_in.ensures ∙ w.in_default.is) in
          let now : AreSoFar lines (take (l.line-index + 1) lines) c.args.desk.now l.desk l.books =
          record { stays_so = so_far.stays_so; pairs = subst (λ (apids : List (List ℕ)). ArePairs (IsBookOf lines) apids l.books) (sym said) so_far.pairs; open_so = so_far.open_so; few = so_far.few } in
          let all = subst (λ (d : DeskState). AreSoFar lines (take (l.line-index + 1) lines) c.args.desk.now d c.match-writer_in.books) (sym w.desk-is)
          (subst (AreSoFar lines (take (l.line-index + 1) lines) c.args.desk.now l.desk) (sym w.books-is) now) in
          record {
            apps = w.list-is ∙ l.invariant.apps ∙ ap (λ (made : List (List ℕ)). opened_from lines made 0 (apps lines)) (sym said);
            desk = all.stays_so;
            pairs = all.pairs;
            open_so = all.open_so;
            few = all.few;
          }
    ]
