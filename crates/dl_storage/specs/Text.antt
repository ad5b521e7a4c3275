-- The lines of a report on the log storage.
use Rattle.std.specs.Prelude.{ℕ, List, [], ◌∷◌, ◌++◌, Option, Some, None, codes}
use Rattle.std.specs.Fmt.{decimal}
use Rattle.dl_bytes.specs.declared.outcome.TraceEnd.{TraceEnd}
use Rattle.dl_model.specs.Report.{end_word, text_line}
use Rattle.dl_storage.specs.declared.filter.Filter.{Filter}
use Rattle.dl_storage.specs.declared.ends.StoreEnd.{StoreEnd}

-- what a filter stored: its name, how many messages, and their bytes
abbrev pub stored_line : Filter → StoreEnd → List ℕ
stored_line filter end = text_line (codes "storage" ∷ filter.name ∷ decimal end.frames ∷ decimal end.bytes ∷ [])

-- why it ended before it had stored all, where it did
abbrev pub ended_line : Filter → Option TraceEnd → List ℕ
ended_line filter None = []
ended_line filter (Some cause) = text_line (codes "storage" ∷ filter.name ∷ codes "ended" ∷ end_word cause ∷ [])

-- the lines of filters, each with its end
abbrev pub storage_lines : List Filter → List StoreEnd → List ℕ
storage_lines (filter ∷ filters) (end ∷ ends) = stored_line filter end ++ ended_line filter end.end ++ storage_lines filters ends
storage_lines _ _ = []
