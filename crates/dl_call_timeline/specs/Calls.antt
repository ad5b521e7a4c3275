-- What a log call counts, and the overflow record that tells of it.
use Rattle.std.specs.Prelude.{ℕ, ◌==◌, ◌&&◌, Bool, false, Option, None}
use Rattle.std.specs.Option.{option_map_or}
use Rattle.dl_picture.specs.Tally.{no_bin}
use Rattle.dl_picture.specs.declared.chart.Bin.{Bin}
use Rattle.dl_call_timeline.specs.declared.call.Call.{Call}
use Rattle.dl_call_timeline.specs.declared.call.Outcome.{Outcome}
use Rattle.dl_call_timeline.specs.declared.call.Outcome.TheVariants.{Admitted, InRing, Filtered, Missing}
use Rattle.dl_call_timeline.specs.declared.call.RecordName.{RecordName}

-- ---- what it counts itself

-- nothing, with a line
abbrev pub at_line : ℕ → Bin
at_line line = record no_bin { first_line = line; last_line = line }

abbrev pub counted_as : ℕ → Outcome → Bin
counted_as line Admitted = record (at_line line) { messages = 1 }
counted_as line InRing = no_bin
counted_as line Filtered = record (at_line line) { filtered = 1 }
counted_as line (Missing told) = record (at_line line) { missing = 1 }

abbrev pub counted : Call → Bin
counted call = counted_as call.line call.outcome

-- ---- overflow records

abbrev pub told_in : Outcome → Option RecordName
told_in (Missing told) = told
told_in _ = None

-- the record that tells of a call, where it is missing and one does
abbrev pub teller_of : Call → Option RecordName
teller_of call = told_in call.outcome

abbrev pub same_record : RecordName → RecordName → Bool
same_record a b = (a.line == b.line) && (a.client == b.client)

-- a record tells of a call
abbrev pub tells : RecordName → Call → Bool
tells name call = option_map_or (λ other. same_record other name) (teller_of call) false
