use Rattle.dl_trace_why.specs.Wanted.{files_wanted}
use Rattle.dl_trace_why.proofs.Stopping.{reads_on}
use Rattle.dl_trace_why.proofs.reading.read_wanted.Goals as goal

pub returns-in-Ok-clause-reads : goal.returns-in-Ok-clause-reads
returns-in-Ok-clause-reads g c =
    reads_on (g.F.Folder.told c.args.folder.now) (g.F.Folder.told c.names_wanted.new.folder) (g.F.Folder.told c.read_some.new.folder) c.in-Ok.names (files_wanted c.args.files) c.read_some.result c.in-Ok.ensures.found
    c.in-Ok.ensures.looks.left c.in-Ok.ensures.looks.cause c.read_some.ensures.reads
