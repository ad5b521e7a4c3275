-- What the core is after a journal: registry, streams, backlog and trace files are those of its events.
use Rattle.std.specs.Prelude.{◌≡◌, ◌⊎◌, ℕ, ◌<◌, ◌≤◌, true, false, List, [], ◌++◌, codes, drop, length, map, Option, Some, None, IfSome, IsSome, IsSomeAnd, Ok, Err}
use Rattle.dl_bytes.specs.declared.conf.Conf.{Conf}
use Rattle.dl_bytes.specs.declared.moment.Moment.{Moment}
use Rattle.dl_bytes.specs.declared.outcome.TraceEnd.{TraceEnd}
use Rattle.dl_bytes.specs.declared.outcome.TraceEnd.TheVariants.{Spent}
use Rattle.dl_control.specs.Reply.{daemon_apid}
use Rattle.dl_events.specs.declared.event.Event.{Event}
use Rattle.dl_model.specs.Setting.{Setting}
use Rattle.dl_model.specs.Journal.{reply_after}
use Rattle.dl_model.specs.Frames.{FrameSource, stored, stored_frames}
use Rattle.dl_model.specs.Overflow.{overflow_frames}
use Rattle.dl_model.specs.ClientStream.{traffic}
use Rattle.dl_model.specs.TraceFiles.{StoredFile, trace_files, is_spent}
use Rattle.dl_outside.specs.Folder.{Files}
use Rattle.dl_outside.specs.Told.{FolderTold}
use Rattle.dl_registry.specs.Kept as registry
use Rattle.dl_hub.specs.Follows as hub
use Rattle.dl_trace.specs.State as trace
use Rattle.dl_trace.specs.Made.{HasBegun}
use Rattle.dl_trace.specs.State.{Trace, counted}
use Rattle.dl_trace.specs.InFolder.{HasFiles}
use Rattle.dl_trace.specs.Storing.{StoresOrStops}
use Rattle.dl_core.specs.State.{Core}
use Rattle.dl_core.specs.Settings.{HasSizes, IsSetTo}

-- A run: what doesn't change in it, the frame of each log call by its writer and its number, the APID of each application
-- by its number, the trace files that stood before its trace began, how many frames its events had to store before that, and the
-- frames with which its trace begins: none, but where a new one was begun in the place of one that had ended.
pub record Run : Type 0 where
  pub setting : Setting
  pub frame : ℕ → ℕ → List ℕ
  pub apid : ℕ → List ℕ
  pub stood : List StoredFile
  pub before : ℕ
  pub head : List (List ℕ)

-- where the frames of its events come from; replies are those of the registry
abbrev pub source_of : Run → FrameSource
source_of run = record { ecu = run.setting.ecu; frame = run.frame; apid = run.apid; reply = reply_after run.setting }

-- the frames that its trace is to store: those with which it begins, and those of the events from there on
abbrev pub stored_by : Run → List Event → List (List ℕ)
stored_by run events = run.head ++ drop run.before (stored_frames (source_of run) events)

-- the trace files after these stored frames
abbrev pub files_with : Run → List (List ℕ) → List StoredFile
files_with run frames = trace_files run.setting.file_size run.setting.max_size run.stood frames

-- the folder tells its files, and its trace files are just those of these stored frames
abbrev pub HoldsFiles : Run → List (List ℕ) → Option Files → Type 0
HoldsFiles run frames told = IsSomeAnd told (λ files. HasFiles run.setting.directory files (files_with run frames))

-- A trace after these stored frames: it tells of the trace files of all of them, or, once it has ended, of those of some first
-- ones, and how many the others are. It has ended as spent only where a frame needed a number that no file can have, and none did
-- while it goes on.
pub record IsTraceAfter (run : Run) (frames : List (List ℕ)) (kept : Trace) : Type 0 where
  pub directory : kept.directory ≡ run.setting.directory
  pub file_size : kept.file_size ≡ run.setting.file_size
  pub max_size : kept.max_size ≡ run.setting.max_size
  pub stored : List (List ℕ)
  pub later : List (List ℕ)
  pub all : frames ≡ stored ++ later
  pub files : trace.IsAfter run.stood stored kept
  pub unstored : kept.unstored ≡ counted (length later)
  pub whole : kept.state.end ≡ None → later ≡ []
  pub unspent : kept.state.end ≡ None → 0 < length frames → is_spent run.setting.file_size run.stood frames ≡ false
  pub spent : kept.state.end ≡ Some Spent → is_spent run.setting.file_size run.stood frames ≡ true

-- The core is what these events make of it, where the links of its clients took these bytes.
pub record IsAfter (run : Run) (events : List Event) (taken : ℕ → List ℕ) (core : Core) : Type 0 where
  pub set_to : IsSetTo run.setting core
  pub registry : registry.IsAfter run.setting events core.registry
  pub hub : hub.IsAfter (traffic (source_of run) events) taken core.hub
  pub begun : run.before ≤ length (stored_frames (source_of run) events)
  pub trace : IfSome core.trace (IsTraceAfter run (stored_by run events))

-- while the trace goes on, the folder tells its files, and its trace files are just those of these events
abbrev pub HoldsTrace : Run → List Event → Core → FolderTold → Type 0
HoldsTrace run events core folder = IfSome core.trace (λ kept. kept.state.end ≡ None → HoldsFiles run (stored_by run events) folder.files)

-- The call is these events: whatever a run made of the core, with these events more it makes what the core is now; and the
-- same of the folder. It holds of each run that gives what the call was handed.
abbrev pub Adds : List Event → (Run → Type 0) → Core → Core → FolderTold → FolderTold → Type 0
Adds more Gives old new folder folder_now =
    (run : Run) (events : List Event) (taken : ℕ → List ℕ) → Gives run → IsAfter run events taken old
    → IsAfter run (events ++ more) taken new × (HoldsTrace run events old folder → HoldsTrace run (events ++ more) new folder_now)

-- the same of a call that is handed no frame and no folder
abbrev pub AddsAlone : List Event → Core → Core → Type 0
AddsAlone more old new = (folder : FolderTold) → Adds more (λ run. Unit {0}) old new folder folder

-- before its first event, in each run of this setting whose trace files are those that the trace found
abbrev pub Begins : Setting → Option Trace → Core → Type 0
Begins setting kept core = (run : Run) → run.setting ≡ setting → run.before ≡ 0 → IfSome kept (trace.IsAfter run.stood run.head) → IsAfter run [] (λ _. []) core

-- ---- a new trace in the place of one that has ended

-- the records that tell how many frames a trace did not store, behind storage headers
abbrev pub unstored_records : List ℕ → Moment → ℕ → List (List ℕ)
unstored_records ecu moment count = map (stored ecu moment) (overflow_frames ecu daemon_apid (codes "TRCE") count)

-- the run that goes on with a new trace, behind these events, over the trace files that stand, which begins with these frames
abbrev pub begun_anew : List StoredFile → List (List ℕ) → List Event → Run → Run
begun_anew stood head events run = record run { stood = stood; before = length (stored_frames (source_of run) events); head = head }

-- In each run that has the directory and the sizes of this configuration, the core with a trace that has begun with these frames stands for the same events
-- as before, of which none is stored by this trace; and if the folder's trace files are those of these frames, it holds the trace.
abbrev pub GoesOnWith : Conf → List (List ℕ) → Trace → Core → Type 0
GoesOnWith conf head kept core =
    (run : Run) (events : List Event) (taken : ℕ → List ℕ) (stood : List StoredFile) → IsAfter run events taken core → HasSizes conf run.setting
    → HasBegun conf stood head kept
    → IsAfter (begun_anew stood head events run) events taken (record core { trace = Some kept })
    × ((folder : FolderTold) → IsSomeAnd folder.files (λ files. HasFiles conf.directory files (trace_files conf.file_size conf.max_size stood head))
    → HoldsTrace (begun_anew stood head events run) events (record core { trace = Some kept }) folder)

-- Why a trace did not store these records: they are more than a batch holds, or it had ended, or it ended at them.
abbrev pub RefusesRecords : List (List ℕ) → Trace → FolderTold → FolderTold → Type 0
RefusesRecords records trace folder folder_now =
    (64 < length records) ⊎ IsSome trace.state.end ⊎ ((end : TraceEnd) × (cut : Trace) × StoresOrStops records (Err end) trace cut folder folder_now)

-- A trace has the place of the one that was kept: it stored the records of as many frames as that one did not store. Or it could not, and that one stays.
abbrev pub TakesPlace : Option ℕ → List ℕ → Moment → Trace → Option Trace → Option Trace → FolderTold → FolderTold → Type 0
TakesPlace (Some unstored) ecu moment trace old new folder folder_now =
    (was kept : Trace) × (old ≡ Some was) × (unstored ≡ was.unstored) × (new ≡ Some kept)
    × StoresOrStops (unstored_records ecu moment unstored) (Ok tt) trace kept folder folder_now
TakesPlace None ecu moment trace old new folder folder_now =
    (new ≡ old) × IfSome old (λ was. RefusesRecords (unstored_records ecu moment was.unstored) trace folder folder_now)
