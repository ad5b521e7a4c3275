-- What a folder holds after the log storage, and what is told of each filter.
use Rattle.std.specs.Prelude.{◌≡◌, ℕ, true, List, [], ◌∷◌, ◌++◌, length, Option, Some, None, IfSome, IsSomeAnd}
use Rattle.std.specs.List.{AllByRecursion}
use Rattle.std.specs.FinMap as map
use Rattle.dl_bytes.specs.declared.outcome.TraceEnd.{TraceEnd}
use Rattle.dl_bytes.specs.declared.outcome.TraceEnd.TheVariants.{Failed, Spent, NoMemory}
use Rattle.dl_events.specs.declared.event.Event.{Event}
use Rattle.dl_events.specs.declared.record.Record.{Record}
use Rattle.dl_outside.specs.Folder.{Files}
use Rattle.dl_model.specs.Backlog.{size_of}
use Rattle.dl_model.specs.TraceFiles.{StoredFile, is_spent, trace_files}
use Rattle.dl_trace.specs.InFolder.{HasFiles, IsTraceName}
use Rattle.dl_storage.specs.declared.filter.Filter.{Filter}
use Rattle.dl_storage.specs.Ended.{EndHasCause}
use Rattle.dl_storage.specs.Passing.{directory_of, frames_for}
use Rattle.dl_storage.specs.declared.ends.StoreEnd.{StoreEnd}

-- ---- one filter

-- the files of these frames stand in the filter's directory, over those that stood in it before
abbrev pub HoldsFiles : Filter → List StoredFile → List (List ℕ) → Option Files → Type 0
HoldsFiles filter stood frames told = IsSomeAnd told (λ folder. HasFiles (directory_of filter) folder (trace_files filter.size filter.max stood frames))

-- How the storing of these frames ended, of which some are left. It ended with all of them, or as spent, since they need a
-- number that no file can have; in both cases the files are those of the frames that are stored. Else its cause is the
-- folder's, or want of memory.
abbrev pub EndsAs : Option TraceEnd → Filter → (stored left : List (List ℕ)) → Option Files → Option Files → Type 0
EndsAs None filter stored left told told_now =
    (left ≡ []) × ((stood : List StoredFile) × IfSome told (λ folder. HasFiles (directory_of filter) folder stood × HoldsFiles filter stood stored told_now))
EndsAs (Some Spent) filter stored left told told_now =
    (stood : List StoredFile) × (is_spent filter.size stood (stored ++ left) ≡ true)
    × IfSome told (λ folder. HasFiles (directory_of filter) folder stood × HoldsFiles filter stood stored told_now)
EndsAs (Some Failed) filter stored left told told_now = Unit {0}
EndsAs (Some NoMemory) filter stored left told told_now = Unit {0}

-- What is told of a filter that was to store these frames: how many are stored, from the first one on, their bytes, and
-- why it ended before all were.
pub record IsStored (filter : Filter) (frames : List (List ℕ)) (told told_now : Option Files) (end : StoreEnd) : Type 0 where
  pub stored : List (List ℕ)
  pub left : List (List ℕ)
  pub all : frames ≡ stored ++ left
  pub frames_are : end.frames ≡ length stored
  pub bytes_are : end.bytes ≡ size_of stored
  pub ends : EndsAs end.end filter stored left told told_now

-- ---- all filters

-- Each filter in order is told of as if it were alone, with all that it stores of a journal. The folder's count of faults
-- rises for each of them that failed, and for no other one.
abbrev pub AreStored : List ℕ → List (List Record) → List Event → Option Files → Option Files → (faults now : ℕ) → List Filter → List StoreEnd → Type 0
AreStored ecu records events told told_now faults now [] [] = now ≡ faults
AreStored ecu records events told told_now faults now (filter ∷ filters) (end ∷ ends) =
    IsStored filter (frames_for ecu filter records events) told told_now end
    × ((between : ℕ) × EndHasCause faults between end.end × AreStored ecu records events told told_now between now filters ends)
AreStored ecu records events told told_now faults now [] (end ∷ ends) = ⊥
AreStored ecu records events told told_now faults now (filter ∷ filters) [] = ⊥

-- it is a trace file of none of the filters
abbrev pub IsOther : List Filter → List ℕ → Type 0
IsOther filters name = AllByRecursion (λ (filter : Filter). ¬ (IsTraceName (directory_of filter) name)) filters

-- every file is as it was, but the trace files in the filters' directories
abbrev pub ChangesFiltersFiles : List Filter → Option Files → Option Files → Type 0
ChangesFiltersFiles filters told told_now =
    IfSome told (λ folder. (now : Files) × (told_now ≡ Some now) × ((name : List ℕ) → IsOther filters name → map.get now name ≡ map.get folder name))
