use Rattle.std.specs.Vec.Iter.{into_iter_items, into_iter_len}
use Rattle.dl_trace_why.proofs.Stopping.{IsReading}
use Rattle.dl_trace_why.proofs.reading.read_files.Given as goal

-- the files so far
abbrev pub invariant-loop-name : goal.invariant-loop-name
invariant-loop-name g l =
    IsReading l.fn.is_alone (g.F.Folder.told l.initial.folder) (g.F.Folder.told l.folder) (into_iter_items l.initial.name-iterator) l.yielded (into_iter_items l.name-iterator) (into_iter_len l.name-iterator) l.reading
