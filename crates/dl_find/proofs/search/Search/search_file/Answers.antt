use Rattle.std.proofs.Common.{ℕ, ◌<◌, sym, subst, ◌∙◌}
use Rattle.std.specs.Prelude.{Ok}
use Rattle.dl_find.specs.Rests.{Fronts}
use Rattle.dl_find.specs.Searches.{StopsAt}
use Rattle.dl_find.specs.declared.reader.Front.{Front}
use Rattle.dl_find.specs.declared.search.Stop.TheVariants as stop
use Rattle.dl_find.proofs.Searching.{arrives, farther, goes_on, ok_says, sets_out, stops_bad}
use Rattle.dl_find.proofs.search.Search.search_file.Goals as goal

pub loop-reader-init : goal.loop-reader-init
loop-reader-init g c = sets_out c.args.name.now c.args.file (g.F.Folder.told c.args.folder.now) c.args.self.now c.new-reader.result c.new-reader.ensures

pub returns-in-Ok-End-clause-searches : goal.returns-in-Ok-End-clause-searches
returns-in-Ok-End-clause-searches g c = λ q before is.
    let told = g.F.Folder.told in
    let mid = told c.loop-reader.folder in
    let has = subst (λ (f : Front). Fronts c.args.name.now mid.files c.loop-reader.reader c.front.new.self (Ok f)) c.in-Ok-End.field-0-is c.in-Ok-End.ensures.fronts in
    arrives c.args.name.now c.args.file (told c.args.folder.now) mid (told c.front.new.folder) c.args.self.now c.loop-reader.self c.loop-reader.reader c.front.new.self c.loop-reader.invariant has c.in-Ok-End.ensures.looks.cause q
    before is

pub returns-in-Ok-Bad-clause-searches : goal.returns-in-Ok-Bad-clause-searches
returns-in-Ok-Bad-clause-searches g c = λ q before is.
    let told = g.F.Folder.told in
    let mid = told c.loop-reader.folder in
    let now = told c.front.new.folder in
    let has = subst (λ (f : Front). Fronts c.args.name.now mid.files c.loop-reader.reader c.front.new.self (Ok f)) c.in-Ok-Bad.field-0-is c.in-Ok-Bad.ensures.fronts in
    subst (λ (n : ℕ). StopsAt c.args.name.now c.args.file (told c.args.folder.now) now (stop.Bad n)) (sym c.offset-in-Ok-Bad.ensures)
    (stops_bad c.args.name.now c.args.file (told c.args.folder.now) mid now c.args.self.now c.loop-reader.self c.loop-reader.reader c.front.new.self c.loop-reader.invariant has q before is)

pub loop-reader-smaller : goal.loop-reader-smaller
loop-reader-smaller g c =
    let mid = g.F.Folder.told c.loop-reader.folder in
    let has = subst (λ (f : Front). Fronts c.args.name.now mid.files c.loop-reader.reader c.front.new.self (Ok f)) c.in-Ok-Message.field-0-is c.in-Ok-Message.ensures.fronts in
    let given = ok_says c.take.result (sym c.is_err.ensures.value ∙ c.if-is_err.false) c.take.ensures.gives in
    farther c.loop-reader.reader c.front.new.self c.take.new.reader c.in-Ok-Message.place has.offset_is has.holds given (subst (λ (n : ℕ). n < 4611686018427387904) c.offset.ensures c.loop-reader-test.true)

pub loop-reader-preserved : goal.loop-reader-preserved
loop-reader-preserved g c =
    let told = g.F.Folder.told in
    let mid = told c.loop-reader.folder in
    let has = subst (λ (f : Front). Fronts c.args.name.now mid.files c.loop-reader.reader c.front.new.self (Ok f)) c.in-Ok-Message.field-0-is c.in-Ok-Message.ensures.fronts in
    let good = sym c.is_err.ensures.value ∙ c.if-is_err.false in
    goes_on c.args.name.now c.args.file (told c.args.folder.now) mid (told c.front.new.folder) c.args.self.now c.loop-reader.self c.take.new.self c.loop-reader.reader c.front.new.self c.take.new.reader c.in-Ok-Message.place
    c.loop-reader.invariant has c.in-Ok-Message.ensures.looks.left c.in-Ok-Message.ensures.looks.cause (λ q mets is. ok_says c.take.result good (c.take.ensures.adds q mets is)) (ok_says c.take.result good c.take.ensures.gives)
