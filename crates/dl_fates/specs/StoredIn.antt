-- Where the frame of a log call is stored.
use Rattle.std.specs.Prelude.{ℕ, List, [], ◌∷◌, ◌++◌, length, Option, Some, None, option_map, if◌then◌else◌}
use Rattle.dl_events.specs.declared.event.Event.{Event}
use Rattle.dl_events.specs.declared.record.Record.{Record}
use Rattle.dl_events.specs.declared.record.Answer.{Answer}
use Rattle.dl_events.specs.declared.record.Answer.TheVariants as answer
use Rattle.dl_model.specs.Frames.{FrameSource, stored_frames}
use Rattle.dl_model.specs.Setting.{Setting}
use Rattle.dl_model.specs.TraceFiles.{StoredFile}
use Rattle.dl_laws.specs.Fates.{logs}
use Rattle.dl_fates.specs.FilePlaces.{place_of}
use Rattle.dl_fates.specs.declared.place.StoredPlace.{StoredPlace}

-- how many frames are stored before that of a writer's call, from these events on, behind those before; none where the daemon did not take the call
abbrev pub stored_before : FrameSource → (writer call : ℕ) → List Event → List Event → Option ℕ
stored_before source writer call before [] = None
stored_before source writer call before (e ∷ events) =
    if logs writer call e then Some (length (stored_frames source before)) else stored_before source writer call (before ++ e ∷ []) events

-- only what a ring took is stored
abbrev pub by_answer : {A : Type 0} → Answer → Option A → Option A
by_answer answer.Queued taken = taken
by_answer _ taken = None

-- Where the frame of a recorded call is in the end, in a journal, where these files stood before; none where nothing of it is stored.
abbrev pub place_of_call : Setting → List StoredFile → FrameSource → List Event → Record → Option StoredPlace
place_of_call setting old source events r =
    option_map (place_of setting.file_size setting.max_size old (stored_frames source events))
    (by_answer r.answer (stored_before source r.item.writer r.item.call [] events))
