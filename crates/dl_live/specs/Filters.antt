-- The filters of a run's log storage: what the folder's files say of them, and where their own files stand.
use Rattle.std.specs.Prelude.{◌≢◌, ℕ, List, [], ◌++◌, codes, Option, None, Result, Ok, IfOk, if◌then◌else◌}
use Rattle.std.specs.FinMap as map
use Rattle.std.specs.List.{AllByRecursion}
use Rattle.std.specs.Option.{option_map_or}
use Rattle.std.specs.Str.{bytes_eq}
use Rattle.dl_outside.specs.Folder.{Files}
use Rattle.dl_startup.specs.declared.storage_kind.StorageKind.{StorageKind}
use Rattle.dl_storage.specs.Passing.{directory_of}
use Rattle.dl_storage.specs.FilterLine.{Wanted}
use Rattle.dl_storage.specs.FilterWhole.{storage_said}
use Rattle.dl_storage.specs.declared.filter.Filter.{Filter}
use Rattle.dl_trace.specs.InFolder.{IsTraceName}

-- the name of the filters' file
abbrev pub filters_name : List ℕ
filters_name = codes "dlt_storage.cfg"

-- what the filters' file says, or its first fault; where there is none, there are no filters
abbrev pub filters_in : Files → Result (List Wanted) (ℕ × StorageKind)
filters_in files = option_map_or storage_said (map.get files filters_name) (Ok [])

-- ---- where their files stand

-- no filter that the files say has a file of this name
abbrev pub IsOfNoFilter : Files → List ℕ → Type 0
IsOfNoFilter files name = IfOk (filters_in files) (λ filters. AllByRecursion (λ (w : Wanted). ¬ (IsTraceName (codes "storage/" ++ w.name) name)) filters)

-- no filter has its files in this directory
abbrev pub AreElsewhere : List Filter → List ℕ → Type 0
AreElsewhere filters directory = AllByRecursion (λ (filter : Filter). directory_of filter ≢ directory) filters

-- what a folder told of a filter's directory: nothing is said of it where the run keeps its own trace there
abbrev pub told_of : (directory : List ℕ) → Filter → Option Files → Option Files
told_of directory filter told = if bytes_eq (directory_of filter) directory then None else told
