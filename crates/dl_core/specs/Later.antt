-- What becomes of the daemon's folder by events of its journal: its count of faults, and the stored configuration.
use Rattle.std.specs.Prelude.{◌≡◌, ℕ, ◌+◌, ◌-◌, ◌^◌, ◌≤◌, min, List, [], ◌∷◌, length, Option, Some}
use Rattle.dl_bytes.specs.declared.outcome.Done.TheVariants as did
use Rattle.dl_bytes.specs.declared.outcome.TraceEnd.{TraceEnd}
use Rattle.dl_bytes.specs.declared.outcome.TraceEnd.TheVariants.{Failed}
use Rattle.dl_events.specs.declared.event.Event.{Event}
use Rattle.dl_events.specs.declared.event.Event.TheVariants as event
use Rattle.dl_model.specs.Along.{along_from}
use Rattle.dl_model.specs.Journal.{need_after}
use Rattle.dl_model.specs.Reply.{Need}
use Rattle.dl_model.specs.Reply as need
use Rattle.dl_model.specs.Setting.{Setting}
use Rattle.dl_outside.specs.Told.{FolderTold}
use Rattle.dl_core.specs.Files.{KeepsStored}

-- ---- requests that ask the folder

abbrev pub if_folder : {A : Type 0} → Need → List A → List A
if_folder need.Folder found = found
if_folder other found = []

-- a Store or a Reset at which the folder failed
abbrev pub failed_at : Setting → List Event → Event → List Event
failed_at setting before (event.Request client frame did.Failed) = if_folder (need_after setting before frame) (event.Request client frame did.Failed ∷ [])
failed_at setting before _ = []

-- one that was done
abbrev pub done_at : Setting → List Event → Event → List Event
done_at setting before (event.Request client frame did.Yes) = if_folder (need_after setting before frame) (event.Request client frame did.Yes ∷ [])
done_at setting before _ = []

-- those among events that come after a journal, in order
abbrev pub failed_in : Setting → List Event → List Event → List Event
failed_in setting before events = along_from (failed_at setting) before events

abbrev pub done_in : Setting → List Event → List Event → List Event
done_in setting before events = along_from (done_at setting) before events

-- ---- how often the folder failed

-- the trace ended since the folder failed: once or never
abbrev pub trace_failures : Option TraceEnd → ℕ
trace_failures (Some Failed) = 1
trace_failures _ = 0

-- how often at a Store, at a Reset or at the trace, by these events that come after a journal, where the trace had ended so before
abbrev pub failures_in : Setting → List Event → List Event → Option TraceEnd → Option TraceEnd → ℕ
failures_in setting before events ended ended_now = length (failed_in setting before events) + (trace_failures ended_now - trace_failures ended)

-- ---- the folder

-- The folder is later by these events, which come after a journal, where its trace had ended so before and has so now. Its count of faults never
-- fell, and rose by as many as it failed, at least. Where no Store and no Reset was done and none failed, the stored configuration stands.
pub record IsFolderLater (setting : Setting) (before events : List Event) (ended ended_now : Option TraceEnd) (old new : FolderTold) : Type 0 where
  pub never_falls : old.faults ≤ new.faults
  pub failed : min (old.faults + failures_in setting before events ended ended_now) (2 ^ 64 - 1) ≤ new.faults
  pub stored : failed_in setting before events ≡ [] → done_in setting before events ≡ [] → KeepsStored old.files new.files
