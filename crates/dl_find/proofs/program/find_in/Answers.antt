use Rattle.dl_find.proofs.Gathering.{answered}
use Rattle.dl_find.proofs.program.find_in.Goals as goal

pub returns-in-Ok : goal.returns-in-Ok
returns-in-Ok g c =
    let searches = c.in-Ok.ensures.searches in
    answered c.args.question c.args.names.now c.in-Ok.search (g.F.Folder.told c.args.folder.now) (g.F.Folder.told c.search_files.new.folder) (g.O.Sink.told c.args.out.now) (g.O.Sink.told c.write_answer.new.out) c.write_answer.result
    searches c.in-Ok.ensures.left (c.write_answer.ensures c.args.question searches.1.0 searches.1.1)
