-- What the code finds of calls. (Of the code alone: no promise rests on these words.)
use Rattle.std.specs.Prelude.{◌≡◌, ℕ, ◌+◌, ◌-◌, ◌==◌, ◌&&◌, nat_le, nat_lt, min, Bool, List, [], ◌∷◌, ◌++◌, length, map, take, Option, Some, None, option_map, if◌then◌else◌}
use Rattle.std.specs.HashMap as hash
use Rattle.dl_events.specs.declared.event.Event.{Event}
use Rattle.dl_events.specs.declared.record.Record.{Record}
use Rattle.dl_model.specs.Backlog.{size_of}
use Rattle.dl_model.specs.Frames.{FrameSource, stored_frames}
use Rattle.dl_model.specs.Setting.{Setting}
use Rattle.dl_model.specs.TraceFiles.{StoredFile, greatest, number_limit, segments}
use Rattle.dl_model.specs.WholeAccounts.{source_of_records}
use Rattle.dl_laws.specs.Fates.{logs}
use Rattle.dl_report.specs.declared.batch.Sources.{Sources}
use Rattle.dl_fates.specs.Found.{name_of, same_call}
use Rattle.dl_fates.specs.Sizes.{going}
use Rattle.dl_fates.specs.StoredIn.{by_answer, place_of_call}
use Rattle.dl_fates.specs.declared.fate.CallName.{CallName}
use Rattle.dl_fates.specs.declared.stored_calls.Rotation.{Rotation}
use Rattle.dl_fates.specs.declared.stored_calls.StoredCalls.{StoredCalls}
use Rattle.dl_fates.specs.declared.place.StoredPlace.{StoredPlace}
use Rattle.dl_fates.specs.declared.place.StoredPlace.TheVariants.{InFile, Removed, TraceEnded}

-- the sizes of the files that the frames of a journal make
abbrev pub file_sizes : FrameSource → ℕ → List Event → List ℕ
file_sizes source size events = map size_of (segments size (stored_frames source events))

-- which of the files a writer's call goes into, from these events on, behind those before: the newest one once it is stored
abbrev pub file_from : FrameSource → (size writer call : ℕ) → List Event → List Event → Option ℕ
file_from source size writer call before [] = None
file_from source size writer call before (e ∷ events) =
    if logs writer call e then Some (length (segments size (stored_frames source (before ++ e ∷ [])))) else file_from source size writer call (before ++ e ∷ []) events

-- what was found; where nothing was, what a later search tells
abbrev pub or_later : Option ℕ → Option ℕ → Option ℕ
or_later None later = later
or_later (Some file) later = Some file

-- What was found so far, and the search from these events on, behind those before, tell the file of every call.
abbrev pub TellsFiles : {S : Type 0} → FrameSource → ℕ → (CallName → Option ℕ) → hash.HashMap CallName ℕ S → (before after : List Event) → Type 0
TellsFiles source size target found before after =
    (name : CallName) → target name ≡ or_later (hash.get same_call found name) (file_from source size name.writer name.call before after)

-- a setting has these sizes, and of these files the newest has this number
pub record IsOf (setting : Setting) (stood : List StoredFile) (rotation : Rotation) : Type 0 where
  pub file_size : setting.file_size ≡ rotation.file_size
  pub max_size : setting.max_size ≡ rotation.max_size
  pub newest : greatest stood ≡ rotation.newest

-- how many of the files of these sizes are removed in the end
abbrev pub removed_by : Rotation → List ℕ → ℕ
removed_by rotation sizes = going (rotation.max_size - rotation.file_size) (take (min (length sizes) (number_limit - rotation.newest) - 1) sizes)

-- where the frames of a file are in the end
abbrev pub place_by : ℕ → ℕ → ℕ → StoredPlace
place_by newest removed file =
    if nat_lt number_limit (newest + file) then TraceEnded
    else if nat_le file removed then Removed (newest + file)
    else InFile (newest + file)

-- where the frame of a recorded call is by what was found
abbrev pub stored_by : StoredCalls → Record → Option StoredPlace
stored_by found r = option_map (place_by found.newest found.removed) (by_answer r.answer (hash.get same_call found.files (name_of r)))

-- so where each recorded call of a journal is, under every setting and whatever files stood before, if the rotation is theirs
abbrev pub TellsPlaces : Sources → Rotation → List Event → StoredCalls → Type 0
TellsPlaces sources rotation events found =
    (setting : Setting) (stood : List StoredFile) (r : Record) → setting.ecu ≡ sources.ecu → IsOf setting stood rotation
    → stored_by found r ≡ place_of_call setting stood (source_of_records setting sources.records.now sources.specs.now) events r
