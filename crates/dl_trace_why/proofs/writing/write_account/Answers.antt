use Rattle.dl_trace_why.specs.Wanted.{files_wanted, picture_wanted}
use Rattle.dl_trace_why.proofs.Ending.{ends_written}
use Rattle.dl_trace_why.proofs.writing.write_account.Goals as goal

pub returns-in-Ok : goal.returns-in-Ok
returns-in-Ok g c =
    let reads = c.in-Ok.ensures.reads in
    ends_written (files_wanted c.args.wanted.files) (picture_wanted c.args.wanted) c.in-Ok.reading (g.F.Folder.told c.args.folder.now) (g.F.Folder.told c.read_wanted.new.folder) (g.F.Folder.told c.write_reading.new.folder)
    (g.O.Sink.told c.args.out.now) (g.O.Sink.told c.write_reading.new.out) c.write_reading.result reads c.in-Ok.ensures.left (c.write_reading.ensures reads.1.0 reads.1.1)
