use Rattle.std.proofs.Common.{◌≡◌, ℕ, Some, length, sym, ap, ◌∙◌, arith}
use Rattle.std.proofs.lemmas.List.{length-map}
use Rattle.dl_crew.specs.Calls.{count_of}
use Rattle.dl_desk.specs.Apps.{AppState}
use Rattle.dl_opening.specs.Scenario.{apps, base_of, number_in, spec_of}
use Rattle.dl_opening.proofs.OpenedBooks.{is_app_of, is_book_of}
use Rattle.dl_opening.proofs.Declared.{all_many, app_named, contexts_are, opened_is, started_more}
use Rattle.dl_opening.proofs.books.book.Goals as goal
use Rattle.dl_lemmas.proofs.Lists.{there}

pub of_mut-requires : goal.of_mut-requires
of_mut-requires c =
    let lines = c.args.lines.now in
    let many = ap length c.requires.apps.1 ∙ all_many lines c.requires.apps.0 (apps lines) in
    let specs = ap length (c.apps.ensures ∙ c.requires.specs) ∙ length-map (apps lines) spec_of in
    let within = c.in-Some.ensures.within in
    omega (arith, many, specs, within)

pub writer-requires : goal.writer-requires
writer-requires c =
    let lines = c.args.lines.now in
    let specs = ap length (c.apps.ensures ∙ c.requires.specs) ∙ length-map (apps lines) spec_of in
    let within = c.in-Some.ensures.within in
    let app = there (apps lines) c.in-Some.place (omega (arith, specs, within)) in
    let given = opened_is lines c.requires.apps.0 c.in-Some.place app.0 c.args.list.now c.of_mut.result.now app.1 c.requires.apps.1 c.of_mut.ensures.value in
    is_app_of lines c.requires.apps.0 c.args.desk.now c.in-Some.place app.0 c.of_mut.result.now app.1 given c.requires.specs

pub returns-in-Ok-make-clause-apps : goal.returns-in-Ok-make-clause-apps
returns-in-Ok-make-clause-apps c made list =
    let lines = c.args.lines.now in
    let specs = ap length (c.apps.ensures ∙ c.requires.specs) ∙ length-map (apps lines) spec_of in
    let within = c.in-Some.ensures.within in
    let app = there (apps lines) c.in-Some.place (omega (arith, specs, within)) in
    let named = ap (number_in c.args.apid) (sym (c.apps.ensures ∙ c.requires.specs)) ∙ sym c.number_in.ensures.value ∙ c.in-Some.is in
    started_more lines made c.args.apid c.in-Some.place named app.0 c.args.list.now c.of_mut.result.now c.writer.new.self app.1 list c.of_mut.ensures.value c.in-Ok.ensures.started

pub returns-in-Ok-make-clause-book : goal.returns-in-Ok-make-clause-book
returns-in-Ok-make-clause-book c =
    let lines = c.args.lines.now in
    let specs = ap length (c.apps.ensures ∙ c.requires.specs) ∙ length-map (apps lines) spec_of in
    let within = c.in-Some.ensures.within in
    let app = there (apps lines) c.in-Some.place (omega (arith, specs, within)) in
    let given = opened_is lines c.requires.apps.0 c.in-Some.place app.0 c.args.list.now c.of_mut.result.now app.1 c.requires.apps.1 c.of_mut.ensures.value in
    let number : c.in-Ok.writer.app ≡ c.in-Some.place = c.in-Ok.ensures.app ∙ ap (λ (a : AppState). a.number) given in
    let named = ap (number_in c.args.apid) (sym (c.apps.ensures ∙ c.requires.specs)) ∙ sym c.number_in.ensures.value ∙ c.in-Some.is in
    is_book_of lines c.args.apid c.in-Ok-make.book c.in-Ok.writer c.count-room.result c.in-Ok-make.ensures.book
    (named ∙ ap (λ (n : ℕ). Some n) (sym number))
    (c.in-Ok.ensures.apid ∙ ap (λ (a : AppState). a.apid) given ∙ app_named lines c.args.apid c.in-Some.place app.0 app.1 named)
    (c.in-Ok.ensures.base ∙ contexts_are lines c.requires.apps.0 c.in-Some.place app.0 c.of_mut.result.now given app.1 ∙ ap (base_of lines) (sym c.in-Ok.ensures.app))
    c.in-Ok.ensures.unused (c.count-room.ensures ∙ ap (λ (n : ℕ). count_of n lines) c.number.ensures.value)
