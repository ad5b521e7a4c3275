use Rattle.std.proofs.Common.{ℕ, List, Option, Some, ap, sym, subst, ◌∙◌}
use Rattle.std.specs.Prelude.{Ok}
use Rattle.dl_sessions.specs.Stream.{end_of, first_place}
use Rattle.dl_find.specs.Rests.{ReadsMore, StandsHere, at_end}
use Rattle.dl_find.proofs.Refills.{ends, stands}
use Rattle.dl_find.proofs.reader.Reader.front.Goals as goal

pub returns-in-Some-clause-fronts : goal.returns-in-Some-clause-fronts
returns-in-Some-clause-fronts g c =
    stands c.args.name.now (g.F.Folder.told c.args.folder.now) (g.F.Folder.told c.loop-self.folder) c.args.self.now c.loop-self.self c.in-Some.front c.loop-self.invariant
    (subst (λ (l : List ℕ). StandsHere l (Some c.in-Some.front)) c.rest.ensures c.in-Some.ensures)

pub returns-then-count-eq0-clause-fronts : goal.returns-then-count-eq0-clause-fronts
returns-then-count-eq0-clause-fronts g c =
    let told = g.F.Folder.told c.args.folder.now in
    let mid = g.F.Folder.told c.loop-self.folder in
    let now = g.F.Folder.told c.read_more.new.folder in
    let read = subst (λ (o : Option ℕ). ReadsMore c.args.name.now mid.files c.loop-self.self c.read_more.new.self (Ok o)) c.in-Ok-Some.field-0-is c.in-Ok-Some.ensures.reads in
    let looks = c.in-Ok-Some.ensures.looks in
    ends c.args.name.now told mid now c.args.self.now c.loop-self.self c.read_more.new.self c.in-Ok-Some.count c.at_end.result c.loop-self.invariant read looks.left looks.cause c.if-count-eq0.true
    (ap first_place (sym c.rest.ensures) ∙ c.in_default.ensures) (c.at_end.ensures ∙ ap (λ (l : List ℕ). at_end (end_of l)) c.rest-then-count-eq0.ensures)
