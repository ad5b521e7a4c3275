-- The report: the text that a run prints at its end.
use Rattle.std.specs.Prelude.{ℕ, ◌+◌, ◌-◌, ◌/◌, ◌%◌, ◌==◌, ◌&&◌, Bool, true, false, List, [], ◌∷◌, ◌++◌, length, map, sum_by, slice_get, slice_index, codes, Option, Some, None, unwrap_or, if◌then◌else◌}
use Rattle.std.specs.List.{filter, filter_map, flat_map, join_with_byte}
use Rattle.std.specs.Option.{option_map_or}
use Rattle.std.specs.Fmt.{decimal}
use Rattle.hex.specs.Hex.{upper_digits}
use Rattle.dl_bytes.specs.declared.conf.AppSpec.{AppSpec}
use Rattle.dl_bytes.specs.declared.outcome.Backlog.{Backlog}
use Rattle.dl_bytes.specs.declared.outcome.Ends.{Ends}
use Rattle.dl_bytes.specs.declared.outcome.LinkEnd.{LinkEnd}
use Rattle.dl_bytes.specs.declared.outcome.TraceEnd.{TraceEnd}
use Rattle.dl_bytes.specs.declared.outcome.TraceEnd.TheVariants as end
use Rattle.dl_bytes.specs.declared.outcome.TraceFile.{TraceFile}
use Rattle.dl_text.specs.IdText.{id_text}
use Rattle.dl_events.specs.declared.event.Event.{Event}
use Rattle.dl_events.specs.declared.event.Event.TheVariants as event
use Rattle.dl_events.specs.declared.event.Why.{Why}
use Rattle.dl_events.specs.declared.event.Why.TheVariants as why
use Rattle.dl_events.specs.declared.record.Record.{Record}
use Rattle.dl_events.specs.declared.record.Answer.{Answer}
use Rattle.dl_events.specs.declared.record.Answer.TheVariants as answer

-- fields parted by one blank, and the end of the line
abbrev pub text_line : List (List ℕ) → List ℕ
text_line fields = join_with_byte 32 fields ++ 10 ∷ []

-- ---- clients

abbrev pub why_word : Why → List ℕ
why_word why.Left = codes "left"
why_word why.Broken = codes "broken"
why_word (why.Slow room need) = codes "slow"
why_word why.Malformed = codes "malformed"
why_word why.TooMany = codes "toomany"
why_word why.NoMemory = codes "nomemory"
why_word (why.Stuck left) = codes "stuck"
why_word why.Stopped = codes "stopped"

-- why a client went, as its Close says
abbrev pub closed_of : ℕ → Event → Option Why
closed_of client (event.Close other cause) = if other == client then Some cause else None
closed_of client _ = None

abbrev pub why_of : ℕ → List Event → Option Why
why_of client events = slice_get (filter_map (closed_of client) events) 0

-- a client: its number, why it went, what was put into its stream, and whether its link took all of that
abbrev pub client_line : LinkEnd → Why → List ℕ
client_line link cause = text_line (
    codes "client" ∷ decimal link.client ∷ why_word cause ∷ decimal link.frames ∷ decimal link.bytes
    ∷ (if link.complete then codes "complete" else codes "cut") ∷ [])

-- a byte as two upper-case hexadecimal digits
abbrev pub hex_byte : ℕ → List ℕ
hex_byte b = slice_index upper_digits (b / 16) ∷ slice_index upper_digits (b % 16) ∷ []

-- a frame: its bytes
abbrev pub frame_line : List ℕ → List ℕ
frame_line frame = text_line (map hex_byte frame)

-- the frames of a client, where frames are printed: a client has its number as its place, from 1
abbrev pub frame_lines : Option (List (List (List ℕ))) → ℕ → List ℕ
frame_lines None client = []
frame_lines (Some streams) client = flat_map frame_line (unwrap_or (slice_get streams (client - 1)) [])

-- a client's line, and its frames behind it
abbrev pub client_lines : List Event → Option (List (List (List ℕ))) → LinkEnd → List ℕ
client_lines events frames link =
    option_map_or (λ cause. client_line link cause ++ frame_lines frames link.client) (why_of link.client events) []

-- ---- the backlog

-- what is left of it, where frames wait or were refused
abbrev pub backlog_line : Backlog → List ℕ
backlog_line backlog =
    if (backlog.frames == 0) && (backlog.refused == 0) then []
    else text_line (codes "backlog" ∷ decimal backlog.frames ∷ decimal backlog.bytes ∷ decimal backlog.refused ∷ [])

-- ---- applications

abbrev pub is_answer : Answer → Answer → Bool
is_answer answer.Filtered answer.Filtered = true
is_answer answer.Queued answer.Queued = true
is_answer answer.Lost answer.Lost = true
is_answer _ _ = false

-- the records of an application
abbrev pub records_of_app : ℕ → List (List Record) → List Record
records_of_app app records = filter (λ r. r.item.app == app) (flat_map (λ (rs : List Record). rs) records)

-- how many of them had this answer
abbrev pub answered : Answer → List Record → ℕ
answered what records = length (filter (λ r. is_answer what r.answer) records)

abbrev pub lost_of : ℕ → Event → ℕ
lost_of app (event.Lost other count moment) = if other == app then count else 0
lost_of app _ = 0

-- how many lost calls of an application the journal reports
abbrev pub reported : ℕ → List Event → ℕ
reported app events = sum_by (lost_of app) events

-- an application: how many calls it made, what became of them, and how many lost ones were reported
abbrev pub app_line : List ℕ → List Record → ℕ → List ℕ
app_line apid records told = text_line (
    codes "app" ∷ id_text apid ∷ codes "calls" ∷ decimal (length records) ∷ codes "queued" ∷ decimal (answered answer.Queued records)
    ∷ codes "filtered" ∷ decimal (answered answer.Filtered records) ∷ codes "lost" ∷ decimal (answered answer.Lost records)
    ∷ codes "reported" ∷ decimal told ∷ [])

-- the applications in order, numbered from here on
abbrev pub app_lines : List (List Record) → List Event → ℕ → List AppSpec → List ℕ
app_lines records events number [] = []
app_lines records events number (spec ∷ specs) =
    app_line spec.apid (records_of_app number records) (reported number events) ++ app_lines records events (number + 1) specs

-- ---- trace files

abbrev pub file_line : TraceFile → List ℕ
file_line file = text_line (codes "file" ∷ file.name ∷ decimal file.bytes ∷ [])

abbrev pub end_word : TraceEnd → List ℕ
end_word end.Failed = codes "failed"
end_word end.Spent = codes "spent"
end_word end.NoMemory = codes "memory"

-- why the trace ended, where it did
abbrev pub end_line : Option TraceEnd → List ℕ
end_line None = []
end_line (Some cause) = text_line (codes "trace" ∷ codes "ended" ∷ end_word cause ∷ [])

-- how many links were dropped, where some were
abbrev pub dropped_line : ℕ → List ℕ
dropped_line n = if n == 0 then [] else text_line (codes "dropped" ∷ decimal n ∷ [])

-- ---- the whole

-- The report of a run, by its records, its journal, the applications of this process and what stood at its end. The
-- frames of the clients are printed where they are given.
abbrev pub report : List (List Record) → List Event → List AppSpec → Ends → Backlog → Option (List (List (List ℕ))) → List ℕ
report records events specs ends backlog frames =
    flat_map (client_lines events frames) ends.links ++ backlog_line backlog ++ app_lines records events 0 specs
    ++ flat_map file_line ends.trace.files ++ end_line ends.trace.end ++ dropped_line ends.dropped
