-- What is written beside rows and above columns.
use Rattle.std.specs.Prelude.{ℕ, ◌+◌, ◌/◌, ◌%◌, ◌==◌, Bool, List, [], ◌∷◌, ◌++◌, codes, if◌then◌else◌}
use Rattle.std.specs.Fmt.{decimal}
use Rattle.dl_text.specs.IdText.{id_text}
use Rattle.dl_picture.specs.Axis.{start_of}
use Rattle.dl_picture.specs.declared.chart.Bin.{Bin}
use Rattle.dl_call_timeline.specs.declared.scale.Scale.{Scale}

-- ---- rows

-- a writer by its session: the control unit, the application, and the writer's number
abbrev pub name_text : List ℕ → List ℕ → ℕ → List ℕ
name_text ecu apid number = id_text ecu ++ codes " " ++ id_text apid ++ codes " " ++ decimal number

abbrev pub missing_words : ℕ → List ℕ
missing_words n = if n == 0 then codes ", no hole" else codes ", " ++ decimal n ++ codes " missing"

abbrev pub filtered_words : ℕ → List ℕ
filtered_words n = if n == 0 then [] else codes ", " ++ decimal n ++ codes " filtered"

-- how many of its calls were admitted, how many are missing, and how many were filtered
abbrev pub note_text : Bin → List ℕ
note_text total = decimal total.messages ++ codes " there" ++ missing_words total.missing ++ filtered_words total.filtered

-- ---- columns

-- a decimal digit
abbrev pub digit : ℕ → ℕ
digit n = 48 + n % 10

-- a timestamp in seconds, with four digits behind the point
abbrev pub time_text : ℕ → List ℕ
time_text ticks = decimal (ticks / 10000) ++ 46 ∷ digit (ticks / 1000) ∷ digit (ticks / 100) ∷ digit (ticks / 10) ∷ digit ticks ∷ []

abbrev pub start_text : Bool → ℕ → List ℕ
start_text timed start = if timed then time_text start else decimal start

-- a column by the time or the line with which it begins
abbrev pub column_name : Scale → ℕ → List ℕ
column_name scale column = start_text scale.timed (start_of scale.axis column)

abbrev pub title_of : Bool → List ℕ
title_of timed = if timed then codes "Log calls by time, in seconds" else codes "Log calls by their lines in the script"
