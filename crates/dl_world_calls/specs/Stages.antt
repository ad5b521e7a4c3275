-- What a writer's last record is: that of its open call, or that of one that was answered.
use Rattle.std.specs.Prelude.{ℕ, ◌-◌, List, [], length, take, slice_get, option_map, Option, None}
use Rattle.dl_bytes.specs.Payload.{Arguments}
use Rattle.dl_events.specs.declared.record.Record.{Record}
use Rattle.dl_script_model.specs.Marks.{Call}
use Rattle.dl_world_calls.specs.declared.writer.Stage.{Stage}
use Rattle.dl_world_calls.specs.declared.writer.Stage.TheVariants.{Idle, ToPush, ToCount}

abbrev pub no_arguments : Arguments
no_arguments = record { bytes = []; args = 0 }

-- a record with these arguments
abbrev pub filled : Record → Arguments → Record
filled r arguments = record r { item = record r.item { payload = arguments } }

-- the call that a record tells of
abbrev pub call_of : Record → Call
call_of r = record { item = r.item; slot = r.slot; version = r.version; held = r.held }

-- the call of the last record
abbrev pub last_call : List Record → Option Call
last_call records = option_map call_of (slice_get records (length records - 1))

-- how many of the records are that of an open call
abbrev pub open_in : Stage → ℕ
open_in Idle = 0
open_in _ = 1

-- the records of the calls that were answered
abbrev pub answered_in : Stage → List Record → List Record
answered_in Idle records = records
answered_in _ records = take (length records - 1) records

-- the call that is to be pushed, and the one that is to be counted
abbrev pub push_of : Stage → List Record → Option Call
push_of ToPush records = last_call records
push_of _ records = None

abbrev pub count_of : Stage → List Record → Option Call
count_of ToCount records = last_call records
count_of _ records = None
