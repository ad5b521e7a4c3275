-- The timeline of a script's log calls: a row for each writer.
use Rattle.std.specs.Prelude.{ℕ, ◌+◌, ◌==◌, true, List, [], ◌∷◌, fold, map, if◌then◌else◌}
use Rattle.std.specs.List.{range_with_len}
use Rattle.dl_picture.specs.Picture.{Chart}
use Rattle.dl_picture.specs.Row.{ChartRow}
use Rattle.dl_picture.specs.Tally.{bins_of, joined, no_bin}
use Rattle.dl_picture.specs.declared.chart.Bin.{Bin}
use Rattle.dl_call_timeline.specs.Calls.{counted}
use Rattle.dl_call_timeline.specs.Marks.{marks_of}
use Rattle.dl_call_timeline.specs.Names.{column_name, name_text, note_text, title_of}
use Rattle.dl_call_timeline.specs.Scale.{scale_of}
use Rattle.dl_call_timeline.specs.declared.call.Call.{Call}
use Rattle.dl_call_timeline.specs.declared.scale.Scale.{Scale}

-- ---- a row

-- one call more, where it is of this writer
abbrev pub with_call : ℕ → Bin → Call → Bin
with_call writer so_far call = if call.writer == writer then joined so_far (counted call) else so_far

-- what all calls of a writer count
abbrev pub total_of : ℕ → List Call → Bin
total_of writer calls = fold (with_call writer) no_bin calls

abbrev pub row_of : List ℕ → Scale → List Call → ℕ → List ℕ → ChartRow
row_of ecu scale calls number apid = record { name = name_text ecu apid number; note = note_text (total_of number calls); bins = bins_of number (marks_of scale calls) }

-- the rows of the writers of these applications, from this number on
abbrev pub rows_from : List ℕ → Scale → List Call → ℕ → List (List ℕ) → List ChartRow
rows_from ecu scale calls number [] = []
rows_from ecu scale calls number (apid ∷ writers) = row_of ecu scale calls number apid ∷ rows_from ecu scale calls (number + 1) writers

-- ---- the picture

-- The picture of a script's log calls: the control unit, the application of each writer, and the calls. Each call counts in its writer's row at its own
-- place. An overflow record counts there so many of the writer's calls as it tells of, at the place of the last call that it tells of.
abbrev pub timeline : List ℕ → List (List ℕ) → List Call → Chart
timeline ecu writers calls = record {
  title = title_of (scale_of calls).timed;
  columns = map (column_name (scale_of calls)) (range_with_len 0 120);
  rows = rows_from ecu (scale_of calls) calls 1 writers;
  filters = true;
}
