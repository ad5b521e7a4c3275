use Rattle.std.proofs.Common.{map, refl}
use Rattle.std.specs.String.{string_bytes}
use Rattle.dl_outside.specs.Told.{FolderTold}
use Rattle.dl_live.specs.Told.{told}
use Rattle.dl_live.proofs.BegunRuns.{begun_changes, outcome_of, outcome_of_none, refused, refused_changes}
use Rattle.dl_live.proofs.PerformedRuns.{has_begun}
use Rattle.dl_live.proofs.program.ask.Goals as goal

pub perform-requires-clause-begun : goal.perform-requires-clause-begun
perform-requires-clause-begun g c κs within = has_begun c.in-Ok.begun (g.F.Folder.told c.args.folder.now).files c.in-Ok.ensures.begins.2.trace

pub returns-in-Ok-clause-outcome : goal.returns-in-Ok-clause-outcome
returns-in-Ok-clause-outcome g c =
    let first : FolderTold = g.F.Folder.told c.args.folder.now in
    let between : FolderTold = g.F.Folder.told c.begin.new.folder in
    let begins = c.in-Ok.ensures.begins in
    outcome_of g.N.L.Link.told (map string_bytes c.args.words.now) begins.0 c.in-Ok.begun (told first (g.N.Net.told c.args.net.now) (g.O.Sink.told c.args.out.now))
    (told (g.F.Folder.told c.perform.new.folder) (g.N.Net.told c.perform.new.net) (g.O.Sink.told c.perform.new.out)) between begins.1 begins.2 c.perform.result.status c.perform.result.account c.perform.result.storage c.perform.result.links
    (c.perform.ensures.performs first begins.2.trace begins.2.quiet)

pub returns-in-Ok-clause-others : goal.returns-in-Ok-clause-others
returns-in-Ok-clause-others g c =
    let begins = c.in-Ok.ensures.begins in
    begun_changes (map string_bytes c.args.words.now) begins.0 c.in-Ok.begun (g.F.Folder.told c.args.folder.now) (g.F.Folder.told c.begin.new.folder) (g.F.Folder.told c.perform.new.folder) begins.1 begins.2
    c.perform.ensures.others

pub returns-in-Err-clause-outcome : goal.returns-in-Err-clause-outcome
returns-in-Err-clause-outcome g c =
    let said = map string_bytes c.args.words.now in
    let old = told (g.F.Folder.told c.args.folder.now) (g.N.Net.told c.args.net.now) (g.O.Sink.told c.args.out.now) in
    let new = told (g.F.Folder.told c.begin.new.folder) (g.N.Net.told c.args.net.now) (g.O.Sink.told c.args.out.now) in
    outcome_of_none g.N.L.Link.told said old new c.to_nothing.result.status c.in-Err.status c.to_nothing.result.account
    c.to_nothing.result.storage c.to_nothing.result.links c.to_nothing.ensures.status c.to_nothing.ensures.account c.to_nothing.ensures.storage c.to_nothing.ensures.links (refused said old new c.in-Err.status refl c.in-Err.ensures.begins) refl

pub returns-in-Err-clause-others : goal.returns-in-Err-clause-others
returns-in-Err-clause-others g c =
    refused_changes (map string_bytes c.args.words.now) (g.F.Folder.told c.args.folder.now) (g.F.Folder.told c.begin.new.folder) c.in-Err.status c.in-Err.ensures.begins
