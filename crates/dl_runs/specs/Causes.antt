-- What each fate of a call says: of its level, its ring, the buffer, and the streams of the clients.
use Rattle.std.specs.Prelude.{◌≡◌, ◌<◌, ◌≤◌, ◌+◌, ◌%◌, ℕ, Bool, true, false, not, List, ◌∷◌, ◌++◌, length, count_by, slice_get, Option, Some, None, if◌then◌else◌}
use Rattle.std.specs.List.{AllByRecursion}
use Rattle.dl_bytes.specs.Claim.{Claimed}
use Rattle.dl_bytes.specs.Level.{severity_number, passes}
use Rattle.dl_bytes.specs.declared.moment.Moment.{Moment}
use Rattle.dl_events.specs.declared.event.Event.{Event}
use Rattle.dl_events.specs.declared.event.Event.TheVariants as event
use Rattle.dl_events.specs.declared.record.Record.{Record}
use Rattle.dl_events.specs.declared.record.Answer.TheVariants as answer
use Rattle.dl_model.specs.Frames.{FrameSource}
use Rattle.dl_model.specs.Backlog.{waiting, fitting, due_backlog}
use Rattle.dl_model.specs.ClientStream.{traffic, stream}
use Rattle.dl_model.specs.Journal.{IsWellFormed}
use Rattle.dl_script_model.specs.Marks.{Mark, journal, records, records_of}
use Rattle.dl_script_model.specs.Replay.{source_of}
use Rattle.dl_model.specs.Report.{is_answer, records_of_app}
use Rattle.dl_model.specs.Setting.{Setting}
use Rattle.dl_model.specs.Traffic.{is_open, is_any_open}
use Rattle.dl_model.specs.WholeAccounts.{IsOwnedSoFar}
use Rattle.dl_runs.specs.RunRecords.{MetFullRing}
use Rattle.dl_laws.specs.Fates.{Fate, logs, Filtered, RingFull, InRing, InStream, InBacklog, BufferFull, ForOthers, next_client, what_became_of}

-- the frames that waited for the client that came next: its stream begins with those that the buffer kept and a report of how many it
-- refused; where none came yet, they wait
abbrev pub WaitedFor : FrameSource → ℕ → List Event → Option ℕ → List (List ℕ) → Type 0
WaitedFor source buffer events None waited = waiting (traffic source events) ≡ waited
WaitedFor source buffer events (Some next) waited =
    (later : List (List ℕ)) × (stream source buffer next events ≡ due_backlog source.ecu buffer waited ++ later)

-- A frame was refused by the full buffer: it stands among the frames that waited, behind all that the buffer kept.
pub record IsRefused (source : FrameSource) (buffer : ℕ) (events : List Event) (next : Option ℕ) (frame : List ℕ) : Type 0 where
  pub waited : List (List ℕ)
  pub place : ℕ
  pub there : slice_get waited place ≡ Some frame
  pub behind : length (fitting buffer waited) ≤ place
  pub told : WaitedFor source buffer events next waited

-- A client was not there when a call was admitted, and was not handed what waited then.
pub record IsAbsent (source : FrameSource) (client : ℕ) (events : List Event) (r : Record) : Type 0 where
  pub app : ℕ
  pub moment : Moment
  pub before : List Event
  pub after : List Event
  pub logged : events ≡ before ++ event.Log app r.item.writer r.item.call moment ∷ after
  pub shut : is_open client (traffic source before) ≡ false
  pub not_next : is_any_open (traffic source before) ≡ false → next_client after ≡ Some client → ⊥

-- A call stands in the stream of a client other than this one, which was not there.
pub record IsElsewhere (source : FrameSource) (buffer client : ℕ) (events : List Event) (r : Record) : Type 0 where
  pub other : ℕ
  pub apart : other ≡ client → ⊥
  pub place : ℕ
  pub there : what_became_of source buffer other events r ≡ InStream place
  pub frame : slice_get (stream source buffer other events) place ≡ Some (source.frame r.item.writer r.item.call)
  pub absent : IsAbsent source client events r

-- what each fate says
abbrev pub Says : FrameSource → (buffer client : ℕ) → List Event → Record → Fate → Type 0
Says source buffer client events r Filtered = r.held < severity_number r.item.severity
Says source buffer client events r RingFull = r.answer ≡ answer.Lost
Says source buffer client events r InRing = r.answer ≡ answer.Queued
Says source buffer client events r (InStream place) =
    slice_get (stream source buffer client events) place ≡ Some (source.frame r.item.writer r.item.call)
Says source buffer client events r (InBacklog place) =
    slice_get (fitting buffer (waiting (traffic source events))) place ≡ Some (source.frame r.item.writer r.item.call)
Says source buffer client events r (BufferFull next) = IsRefused source buffer events next (source.frame r.item.writer r.item.call)
Says source buffer client events r ForOthers = IsElsewhere source buffer client events r

-- it was filtered
abbrev pub is_filtered : Fate → Bool
is_filtered Filtered = true
is_filtered _ = false

-- its ring refused it
abbrev pub is_ring_full : Fate → Bool
is_ring_full RingFull = true
is_ring_full _ = false

-- it stands in the client's stream
abbrev pub is_in_stream : Fate → Bool
is_in_stream (InStream place) = true
is_in_stream _ = false

-- the daemon took it, so that a Log event stands for it
abbrev pub is_admitted : Fate → Bool
is_admitted Filtered = false
is_admitted RingFull = false
is_admitted InRing = false
is_admitted _ = true

-- ---- a recorded call

-- A recorded call has one cause, or is heard: its fate says what it says, it is Filtered exactly where its level doesn't let it through,
-- and the journal has one Log event of it where it was admitted, and none elsewhere.
pub record HasOneCause (source : FrameSource) (buffer client : ℕ) (events : List Event) (r : Record) : Type 0 where
  pub says : Says source buffer client events r (what_became_of source buffer client events r)
  pub by_level : is_filtered (what_became_of source buffer client events r) ≡ not (passes r.item.severity r.held)
  pub admitted : count_by (logs r.item.writer r.item.call) events ≡ (if is_admitted (what_became_of source buffer client events r) then 1 else 0)

-- ---- the hole between two calls

-- why a call is missing between two of its writer that a client heard: it was filtered, its ring was full, or the buffer was full before this
-- client came, which was told
abbrev pub IsMissing : ℕ → Fate → Type 0
IsMissing client Filtered = Unit {0}
IsMissing client RingFull = Unit {0}
IsMissing client (BufferFull next) = next ≡ Some client
IsMissing client _ = ⊥

-- how many of these calls passed their level
abbrev pub passed : List Record → ℕ
passed records = count_by (λ r. not (is_answer answer.Filtered r.answer)) records

-- Two calls of a writer that a client heard, and those between, of which it heard none: the message counters tell how many of these passed
-- their level, modulo 256, and each of these was lost at a full ring or refused by a full buffer.
pub record TellsHole (source : FrameSource) (buffer client : ℕ) (events : List Event) (one two : Record) (between : List Record) : Type 0 where
  pub counter : two.item.mcnt ≡ (one.item.mcnt + 1 + passed between) % 256
  pub causes : AllByRecursion (λ r. IsMissing client (what_became_of source buffer client events r)) between

-- Two calls of a writer are neighbours for a client: it heard both, and none between them; the journal is well-formed, and the writer has its account.
pub record AreNeighbours (setting : Setting) (source : FrameSource) (buffer client : ℕ) (events : List Event) (one two : Record) (between : List Record) : Type 0 where
  pub first : ℕ
  pub writer : ℕ
  pub refusals : ℕ
  pub pushed : List Claimed
  pub earlier : List Record
  pub later : List Record
  pub formed : IsWellFormed setting source events
  pub account : IsOwnedSoFar first events writer refusals pushed (earlier ++ one ∷ (between ++ two ∷ later))
  pub heard_one : is_in_stream (what_became_of source buffer client events one) ≡ true
  pub heard_two : is_in_stream (what_became_of source buffer client events two) ≡ true
  pub none_between : AllByRecursion (λ r. is_in_stream (what_became_of source buffer client events r) ≡ false) between

-- ---- runs of steps

-- what became of a call of a run
abbrev pub fate_in : Setting → List Mark → ℕ → Record → Fate
fate_in setting done client r = what_became_of (source_of setting done) setting.buffer client (journal done) r

-- each call of a writer that has its record has one cause
abbrev pub HaveCauses : Setting → List Mark → (writer client : ℕ) → Type 0
HaveCauses setting done writer client =
    AllByRecursion (HasOneCause (source_of setting done) setting.buffer client (journal done)) (records_of writer done)

-- each whose ring was full met a full one: before its push the ring held as many calls as it can
abbrev pub HaveMetFullRings : Setting → List Mark → (writer client : ℕ) → Type 0
HaveMetFullRings setting done writer client =
    AllByRecursion (λ r. is_ring_full (fate_in setting done client r) ≡ true → MetFullRing done r) (records_of writer done)

-- how many of an application's calls met one
abbrev pub full_ones : Setting → List Mark → (app client : ℕ) → ℕ
full_ones setting done app client = count_by (λ r. is_ring_full (fate_in setting done client r)) (records_of_app app (records done))
