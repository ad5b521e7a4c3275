-- What calls count, in the columns of their writers.
use Rattle.std.specs.Prelude.{ℕ, List, [], ◌∷◌}
use Rattle.std.specs.List.{flat_map}
use Rattle.std.specs.Option.{option_map_or}
use Rattle.dl_picture.specs.declared.tally.Mark.{Mark}
use Rattle.dl_call_timeline.specs.Calls.{at_line, counted, teller_of}
use Rattle.dl_call_timeline.specs.Records.{record_column}
use Rattle.dl_call_timeline.specs.Scale.{column_of}
use Rattle.dl_call_timeline.specs.declared.call.Call.{Call}
use Rattle.dl_call_timeline.specs.declared.call.RecordName.{RecordName}
use Rattle.dl_call_timeline.specs.declared.scale.Scale.{Scale}

-- a call counts at its own place
abbrev pub own_mark : Scale → Call → Mark
own_mark scale call = record { cell = record { row = call.writer; column = column_of scale call }; bin = counted call }

-- the record that tells of it counts at the place of the last call that it tells of, with the line in which it was told
abbrev pub record_mark : Scale → List Call → ℕ → RecordName → Mark
record_mark scale calls writer name = record { cell = record { row = writer; column = record_column scale calls name }; bin = record (at_line name.line) { lost = 1 } }

abbrev pub record_marks : Scale → List Call → Call → List Mark
record_marks scale calls call = option_map_or (λ name. record_mark scale calls call.writer name ∷ []) (teller_of call) []

abbrev pub call_marks : Scale → List Call → Call → List Mark
call_marks scale calls call = own_mark scale call ∷ record_marks scale calls call

-- what all of them count
abbrev pub marks_of : Scale → List Call → List Mark
marks_of scale calls = flat_map (call_marks scale calls) calls
