-- Which messages pass a filter, and what is stored of them.
use Rattle.std.specs.Prelude.{ℕ, Bool, true, ◌&&◌, nat_le, List, ◌++◌, Option, Some, None, codes, if◌then◌else◌}
use Rattle.std.specs.List.{filter_map}
use Rattle.std.specs.Str.{bytes_eq}
use Rattle.dl_bytes.specs.Level.{severity_number}
use Rattle.dl_bytes.specs.Number.{◌>>=◌}
use Rattle.dl_bytes.specs.declared.item.Item.{Item}
use Rattle.dl_bytes.specs.declared.moment.Moment.{Moment}
use Rattle.dl_message.specs.Frames.{log_message}
use Rattle.dl_events.specs.declared.event.Event.{Event}
use Rattle.dl_events.specs.declared.event.Event.TheVariants as event
use Rattle.dl_events.specs.declared.record.Record.{Record}
use Rattle.dl_model.specs.Frames.{stored}
use Rattle.dl_model.specs.WholeAccounts.{record_named}
use Rattle.dl_storage.specs.declared.filter.Filter.{Filter}

-- the id is the one that is wanted; where none is, each is
abbrev pub is_meant : Option (List ℕ) → List ℕ → Bool
is_meant None id = true
is_meant (Some wanted) id = bytes_eq id wanted

-- a log call passes a filter: its application and its context are the filter's, and its severity is none less grave
abbrev pub passes_filter : Filter → Item → Bool
passes_filter filter item =
    is_meant filter.apid item.apid && is_meant filter.ctid item.ctid && nat_le (severity_number item.severity) (severity_number filter.severity)

-- the frame of a log call that came at this moment, behind its storage header, where it passes
abbrev pub passing : List ℕ → Filter → Moment → Record → Option (List ℕ)
passing ecu filter moment r = if passes_filter filter r.item then Some (stored ecu moment (log_message ecu r.item)) else None

-- what a filter stores of an event: the frame of a Log's record, where it passes
abbrev pub frame_for : List ℕ → Filter → List (List Record) → Event → Option (List ℕ)
frame_for ecu filter records (event.Log app writer call moment) = record_named records writer call >>= passing ecu filter moment
frame_for ecu filter records _ = None

-- all that it stores of a journal, in order
abbrev pub frames_for : List ℕ → Filter → List (List Record) → List Event → List (List ℕ)
frames_for ecu filter records events = filter_map (frame_for ecu filter records) events

-- the directory of a filter's files
abbrev pub directory_of : Filter → List ℕ
directory_of filter = codes "storage/" ++ filter.name
