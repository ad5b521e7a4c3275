-- What a run stored of its messages when it had settled.
use Rattle.std.specs.Prelude.{◌≡◌, ℕ, true, List, Option, Some, None, IfSome, IsSomeAnd}
use Rattle.std.specs.FinMap as map
use Rattle.std.specs.List.{AllByRecursion}
use Rattle.dl_crew.specs.Plays.{ArePairs}
use Rattle.dl_ending.specs.Ending.{records_of}
use Rattle.dl_ending.specs.Storage.{has_failed, some_end}
use Rattle.dl_account.specs.State.{AccountState}
use Rattle.dl_outside.specs.Folder.{Files}
use Rattle.dl_outside.specs.Outside.{HasRisen}
use Rattle.dl_outside.specs.Told.{FolderTold}
use Rattle.dl_storage.specs.Passing.{directory_of, frames_for}
use Rattle.dl_storage.specs.Storing.{IsStored}
use Rattle.dl_storage.specs.declared.ends.StoreEnd.{StoreEnd}
use Rattle.dl_storage.specs.declared.ends.StoreEnds.{StoreEnds}
use Rattle.dl_storage.specs.declared.filter.Filter.{Filter}
use Rattle.dl_trace.specs.InFolder.{IsTraceName}
use Rattle.dl_live.specs.declared.beginning.Begun.{Begun}
use Rattle.dl_live.specs.Filters.{told_of}

-- what is told of a filter: all frames of the journal that pass it were to be stored, over the files that stood in its directory before the run
abbrev pub IsFiltered : Begun → AccountState → Option Files → Option Files → Filter → StoreEnd → Type 0
IsFiltered begun account old new filter end =
    IsStored filter (frames_for begun.conf.ecu filter (records_of account) account.events) (told_of begun.conf.directory filter old) new end

-- the files in a filter's directory are as they were
abbrev pub AreKept : Filter → Option Files → Option Files → Type 0
AreKept filter told told_now =
    IfSome told (λ was. IsSomeAnd told_now (λ now. (name : List ℕ) → IsTraceName (directory_of filter) name → map.get now name ≡ map.get was name))

-- Each filter, in order, stored its frames, or ended before all were stored; where the folder failed one, its count of faults shows it. Where there
-- was no memory to store anything, no filter's files changed.
abbrev pub HasStored : Begun → AccountState → FolderTold → FolderTold → Option StoreEnds → Type 0
HasStored begun account old new None =
    AllByRecursion (λ (filter : Filter). AreKept filter (told_of begun.conf.directory filter old.files) new.files) begun.filters
HasStored begun account old new (Some stored) =
    ArePairs (IsFiltered begun account old.files new.files) begun.filters stored.filters
    × (some_end has_failed stored.filters ≡ true → HasRisen old.faults new.faults)
