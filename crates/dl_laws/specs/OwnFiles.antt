-- The trace files of a run, among those that stand.
use Rattle.std.specs.Prelude.{nat_lt, List}
use Rattle.std.specs.List.{filter}
use Rattle.dl_model.specs.TraceFiles.{StoredFile, greatest}

-- those that were made since these stood: their numbers are above all of these
abbrev pub own_files : List StoredFile → List StoredFile → List StoredFile
own_files old files = filter (λ file. nat_lt (greatest old) file.number) files
