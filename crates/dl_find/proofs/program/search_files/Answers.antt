use Rattle.std.proofs.Common.{List, ℕ, subst}
use Rattle.dl_find.specs.Searches.{HasSearched, StopsAt}
use Rattle.dl_find.proofs.Gathering.{goes_on, stops}
use Rattle.dl_find.proofs.program.search_files.Goals as goal

pub returns-in-Err-clause-searches : goal.returns-in-Err-clause-searches
returns-in-Err-clause-searches g c =
    let told = g.F.Folder.told in
    let i = c.loop-file.invariant in
    stops c.args.question c.args.names.now (told c.args.folder.now) (told c.loop-file.folder) (told c.search_file.new.folder) c.loop-file.file _ c.loop-file.search c.in-Err.stop c.stop_status.result c.loop-file-test.true
    c.index-names-file.is i
    (subst (λ (n : List ℕ). StopsAt n c.loop-file.file (told c.loop-file.folder) (told c.search_file.new.folder) c.in-Err.stop) c.as_str.ensures (c.in-Err.ensures.searches c.args.question i.mets i.is)) c.stop_status.ensures

pub loop-file-preserved : goal.loop-file-preserved
loop-file-preserved g c =
    let told = g.F.Folder.told in
    let i = c.loop-file.invariant in
    goes_on c.args.question c.args.names.now (told c.args.folder.now) (told c.loop-file.folder) (told c.search_file.new.folder) c.loop-file.file _ c.loop-file.search c.search_file.new.self c.loop-file-test.true
    c.index-names-file.is i
    (subst (λ (n : List ℕ). HasSearched c.args.question i.mets n c.loop-file.file (told c.loop-file.folder) (told c.search_file.new.folder) c.search_file.new.self) c.as_str.ensures (c.in-Ok.ensures.searches c.args.question i.mets i.is))
    c.in-Ok.ensures.left
