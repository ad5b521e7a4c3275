use Rattle.std.proofs.Common.{◌-◌}
use Rattle.dl_find.proofs.Searching.{AreSearching}
use Rattle.dl_find.proofs.search.Search.search_file.Given as goal

-- the messages so far
abbrev pub invariant-loop-reader : goal.invariant-loop-reader
invariant-loop-reader g l = AreSearching l.fn.name l.fn.file (g.F.Folder.told l.fn.folder) (g.F.Folder.told l.folder) l.fn.self l.self l.reader

abbrev pub decreases-loop-reader : goal.decreases-loop-reader
decreases-loop-reader g l = 4611686018427387904 - l.reader.offset
