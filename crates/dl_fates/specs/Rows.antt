-- What is printed of the log calls of a step script: a row for each.
use Rattle.std.specs.Prelude.{ℕ, ◌+◌, ◌==◌, Bool, List, [], ◌++◌, codes, count_by, length, slice_get, Option, Some, None, if◌then◌else◌}
use Rattle.std.specs.Fmt.{decimal}
use Rattle.std.specs.List.{flat_map, range_with_len}
use Rattle.std.specs.Option.{option_map_or}
use Rattle.dl_bytes.specs.declared.conf.AppSpec.{AppSpec}
use Rattle.dl_text.specs.IdText.{id_text}
use Rattle.dl_script_fields.specs.Spells.{severity_word}
use Rattle.dl_events.specs.declared.event.Event.{Event}
use Rattle.dl_events.specs.declared.record.Record.{Record}
use Rattle.dl_model.specs.Along.{along}
use Rattle.dl_model.specs.Frames.{FrameSource}
use Rattle.dl_model.specs.Journal.{is_connect}
use Rattle.dl_model.specs.Setting.{Setting}
use Rattle.dl_model.specs.TraceFiles.{StoredFile, trace_name}
use Rattle.dl_report.specs.declared.batch.Sources.{Sources}
use Rattle.dl_model.specs.WholeAccounts.{record_named, source_of_records}
use Rattle.dl_laws.specs.Fates.{Fate, Filtered, RingFull, InRing, InStream, InBacklog, BufferFull, ForOthers, what_became_of}
use Rattle.dl_fates.specs.declared.call.CallAt.{CallAt}
use Rattle.dl_fates.specs.declared.claim_lines.ClaimAt.{ClaimAt}
use Rattle.dl_fates.specs.StoredIn.{place_of_call}
use Rattle.dl_fates.specs.declared.place.StoredPlace.{StoredPlace}
use Rattle.dl_fates.specs.declared.place.StoredPlace.TheVariants.{InFile, Removed, TraceEnded}
use Rattle.dl_fates.specs.Claims.{claim_words, slots_claimed}

-- ---- words

-- a level by its number
unfoldable pub level_word : ℕ → List ℕ
level_word level =
    if level == 0 then codes "off"
    else if level == 1 then codes "fatal"
    else if level == 2 then codes "error"
    else if level == 3 then codes "warn"
    else if level == 4 then codes "info"
    else if level == 5 then codes "debug"
    else codes "verbose"

-- how many calls and claims the ring of an application holds
unfoldable pub capacity_in : List AppSpec → ℕ → ℕ
capacity_in specs app = option_map_or (λ spec. spec.capacity) (slice_get specs app) 0

-- what became of a call, in words: its fate for a client that never comes
unfoldable pub lead_words : Fate → List ℕ
lead_words Filtered = codes "filtered: the level was "
lead_words RingFull = codes "lost: the ring of "
lead_words InRing = codes "waits in the ring of "
lead_words (InStream place) = codes "sent"
lead_words (InBacklog place) = codes "waits for the next client as frame "
lead_words (BufferFull None) = codes "refused: the buffer was full, and nobody came to be told"
lead_words (BufferFull (Some next)) = codes "refused: the buffer was full, and client "
lead_words ForOthers = codes "sent"

-- the level that filtered a call, and its version
abbrev pub level_words : Record → List ℕ
level_words r = level_word r.held ++ codes ", version " ++ decimal r.version

-- the ring that was full: it held as many calls and claims as it can
abbrev pub ring_words : List AppSpec → Record → List ℕ
ring_words specs r = id_text r.item.apid ++ codes " held " ++ decimal (capacity_in specs r.item.app) ++ codes " of " ++ decimal (capacity_in specs r.item.app)

-- the line in which the daemon was told of a lost call, or the end of the run
abbrev pub line_words : Option ℕ → List ℕ
line_words (Some line) = codes "; told in line " ++ decimal line
line_words None = codes "; told at the end"

abbrev pub lost_words : List AppSpec → Option ℕ → Record → List ℕ
lost_words specs told r = ring_words specs r ++ line_words told

-- the client that was told, if one was
abbrev pub told_words : Option ℕ → List ℕ
told_words None = []
told_words (Some client) = decimal client ++ codes " was told"

-- where a client has the call, if it has it
abbrev pub heard_words : ℕ → Fate → List ℕ
heard_words client (InStream place) = codes "; client " ++ decimal client ++ codes " has it as frame " ++ decimal (place + 1)
heard_words client _ = []

-- the numbers that show it, and where the clients have it that do
abbrev pub shown_words : List AppSpec → Option ℕ → Record → Fate → List ℕ → List ℕ
shown_words specs told r Filtered heard = level_words r
shown_words specs told r RingFull heard = lost_words specs told r
shown_words specs told r InRing heard = id_text r.item.apid
shown_words specs told r (InStream place) heard = heard
shown_words specs told r (InBacklog place) heard = decimal (place + 1)
shown_words specs told r (BufferFull next) heard = told_words next
shown_words specs told r ForOthers heard = heard

abbrev pub fate_words : List AppSpec → Option ℕ → Record → Fate → List ℕ → List ℕ
fate_words specs told r fate heard = lead_words fate ++ shown_words specs told r fate heard

-- ---- where the frame is stored

unfoldable pub file_words : List ℕ → ℕ → List ℕ
file_words directory number = trace_name directory number

unfoldable pub removed_words : List ℕ
removed_words = codes ", which rotation removed"

unfoldable pub ended_words : List ℕ
ended_words = codes "; not stored: the trace had ended"

-- the trace file of a directory that it went into, and whether rotation removed that file; or that it was not stored
abbrev pub stored_words : List ℕ → StoredPlace → List ℕ
stored_words directory (InFile number) = codes "; stored in " ++ file_words directory number
stored_words directory (Removed number) = codes "; stored in " ++ file_words directory number ++ removed_words
stored_words directory TraceEnded = ended_words

-- the same of a call, where these trace files stood before; nothing where no trace is kept, or where the daemon took no such call
abbrev pub storage_words : Setting → List StoredFile → FrameSource → List Event → Record → List ℕ
storage_words setting stood source events r =
    if length setting.directory == 0 then [] else option_map_or (stored_words setting.directory) (place_of_call setting stood source events r) []

-- what is said besides of a call: of the claim that it names, and where its frame is stored
abbrev pub more_words : Setting → List StoredFile → FrameSource → List Event → List ClaimAt → CallAt → Record → List ℕ
more_words setting stood source events claims at r = claim_words claims (slots_claimed events) at r ++ storage_words setting stood source events r

-- ---- rows

-- the line that begins a call, its writer, and its number
abbrev pub place_words : ℕ → Record → List ℕ
place_words line r = codes "line " ++ decimal line ++ codes ": writer " ++ decimal r.item.writer ++ codes " call " ++ decimal r.item.call

-- its application, its context and its severity
abbrev pub name_words : Record → List ℕ
name_words r = codes " " ++ id_text r.item.apid ++ codes " " ++ id_text r.item.ctid ++ codes " " ++ severity_word r.item.severity ++ codes ": "

-- no client has this number
abbrev pub nobody : ℕ
nobody = 0

-- the clients that came, by their numbers
abbrev pub clients_in : List Event → List ℕ
clients_in events = range_with_len 1 (count_by is_connect events)

-- The row of a call. What became of it is said by the law of causes, for each client; the line that tells of a lost one is the call's own (`told`).
-- What is said besides is the last part.
abbrev pub row_of : FrameSource → (buffer : ℕ) → List Event → List AppSpec → (CallAt → Record → List ℕ) → CallAt → Record → List ℕ
row_of source buffer events specs more at r =
    place_words at.line r ++ name_words r
    ++ fate_words specs at.told r (what_became_of source buffer nobody events r) (flat_map (λ client. heard_words client (what_became_of source buffer client events r)) (clients_in events))
    ++ more at r ++ codes "\n"

-- the call of the same writer
abbrev pub is_by : ℕ → CallAt → Bool
is_by writer at = at.writer == writer

-- the record of a call of a script, behind the calls before it: the writer's next one
abbrev pub record_at : List (List Record) → List CallAt → CallAt → Option Record
record_at records before at = record_named records at.writer (1 + count_by (is_by at.writer) before)

-- the rows of the calls of a script, in the order of its lines
abbrev pub rows_of : FrameSource → (buffer : ℕ) → List (List Record) → List Event → List AppSpec → (CallAt → Record → List ℕ) → List CallAt → List ℕ
rows_of source buffer records events specs more calls =
    along (λ before at. option_map_or (row_of source buffer events specs more at) (record_at records before at) []) calls

-- the rows of the calls of a run, by what it left: its records, its journal and its applications; where these trace files stood before
abbrev pub rows_of_run : Setting → List StoredFile → (buffer : ℕ) → List (List Record) → List Event → List AppSpec → List ClaimAt → List CallAt → List ℕ
rows_of_run setting stood buffer records events specs claims calls =
    let source = source_of_records setting records specs in
    rows_of source buffer records events specs (more_words setting stood source events claims) calls

-- the same by the sources of a run
abbrev pub rows_by : Setting → List StoredFile → (buffer : ℕ) → Sources → List Event → List ClaimAt → List CallAt → List ℕ
rows_by setting stood buffer sources events claims calls = rows_of_run setting stood buffer sources.records.now events sources.specs.now claims calls
