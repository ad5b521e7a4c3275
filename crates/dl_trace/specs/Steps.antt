-- One piece by its bytes: what becomes of the list of files, and of the folder.
use Rattle.std.specs.Prelude.{◌≡◌, ℕ, suc, ◌+◌, ◌-◌, ◌≤◌, ◌⊎◌, ◌<◌, nat_le, is_ok, Bool, true, false, List, [], ◌∷◌, ◌++◌, length, map, take, drop, slice_get, sum_by, Option, Some, IfSome, Result, Ok, Err, if◌then◌else◌}
use Rattle.std.specs.FinMap as map
use Rattle.std.specs.Option.{option_map_or}
use Rattle.dl_bytes.specs.declared.outcome.TraceEnd.{TraceEnd}
use Rattle.dl_bytes.specs.declared.outcome.TraceEnd.TheVariants.{Failed, Spent, NoMemory}
use Rattle.dl_bytes.specs.declared.outcome.TraceFile.{TraceFile}
use Rattle.dl_outside.specs.declared.folder.FolderFault.{FolderFault}
use Rattle.dl_outside.specs.declared.folder.FolderFault.TheVariants as fault
use Rattle.dl_outside.specs.Folder.{Files, with_more, AllBut}
use Rattle.dl_outside.specs.Outside.{Stays}
use Rattle.dl_model.specs.TraceFiles.{number_limit, trace_name}
use Rattle.dl_trace.specs.State.{Trace}

abbrev pub bytes_in : TraceFile → ℕ
bytes_in file = file.bytes

-- why a trace ends where a folder refuses a call
abbrev pub end_of : FolderFault → TraceEnd
end_of fault.Failed = Failed
end_of fault.OutOfMemory = NoMemory

-- how many of the oldest files go, so that the others have together at most so many bytes
abbrev pub going : ℕ → List TraceFile → ℕ
going limit [] = 0
going limit (file ∷ files) = if nat_le (sum_by bytes_in (file ∷ files)) limit then 0 else suc (going limit files)

-- the files where the newest has so many bytes more
abbrev pub grown_last : ℕ → List TraceFile → List TraceFile
grown_last more [] = []
grown_last more (file ∷ []) = record { name = file.name; bytes = file.bytes + more } ∷ []
grown_last more (file ∷ next ∷ files) = file ∷ grown_last more (next ∷ files)

-- the name of the newest file
abbrev pub last_name : List TraceFile → List ℕ
last_name files = option_map_or (λ file. file.name) (slice_get files (length files - 1)) []

-- the names of files
abbrev pub names_of : List TraceFile → List (List ℕ)
names_of files = map (λ (file : TraceFile). file.name) files

-- the names of the files that go where one is begun
abbrev pub gone_names : ℕ → List TraceFile → List (List ℕ)
gone_names limit files = names_of (take (going limit files) files)

-- the files where one was begun, and the oldest went
abbrev pub with_new : ℕ → List ℕ → ℕ → List TraceFile → List TraceFile
with_new limit name bytes files = drop (going limit files) files ++ record { name = name; bytes = bytes } ∷ []

-- the folder without files of these names
abbrev pub without : Files → List (List ℕ) → Files
without folder [] = folder
without folder (name ∷ names) = without (map.remove folder name) names

-- a file may have a front of the piece more
abbrev pub HasFront : Files → Option Files → List ℕ → List ℕ → Type 0
HasFront folder told_now name piece = (told_now ≡ Some folder) ⊎ ((n : ℕ) × (n ≤ length piece) × (told_now ≡ Some (with_more folder name (take n piece))))

-- the files of some names are gone, but at one of them the removal stopped
pub record StopsRemoving (folder : Files) (told_now : Option Files) (names : List (List ℕ)) : Type 0 where
  pub gone : List (List ℕ)
  pub unknown : List ℕ
  pub waiting : List (List ℕ)
  pub names_are : names ≡ gone ++ unknown ∷ waiting
  pub others : AllBut unknown (Some (without folder gone)) told_now

-- what a removal of these files leaves
abbrev pub RemovesAll : Option Files → Option Files → Result (Unit {0}) TraceEnd → List (List ℕ) → Type 0
RemovesAll told told_now (Ok done) names = IfSome told (λ folder. told_now ≡ Some (without folder names))
RemovesAll told told_now (Err Spent) names = ⊥
RemovesAll told told_now (Err Failed) names = IfSome told (λ folder. StopsRemoving folder told_now names)
RemovesAll told told_now (Err NoMemory) names = IfSome told (λ folder. StopsRemoving folder told_now names)

-- what is left where a piece was to be added to a file
abbrev pub Extends : Option Files → Option Files → Result (Unit {0}) TraceEnd → List ℕ → List ℕ → Type 0
Extends told told_now (Ok done) name piece = IfSome told (λ folder. told_now ≡ Some (with_more folder name piece))
Extends told told_now (Err Spent) name piece = ⊥
Extends told told_now (Err Failed) name piece = IfSome told (λ folder. HasFront folder told_now name piece)
Extends told told_now (Err NoMemory) name piece = IfSome told (λ folder. HasFront folder told_now name piece)

-- what is left where a piece was to begin a file, and then the files of these names were to go
abbrev pub Begins : Option Files → Option Files → Result (Unit {0}) TraceEnd → List ℕ → List ℕ → List (List ℕ) → Type 0
Begins told told_now (Ok done) name piece names = IfSome told (λ folder. told_now ≡ Some (without (with_more folder name piece) names))
Begins told told_now (Err Spent) name piece names = ⊥
Begins told told_now (Err Failed) name piece names = IfSome told (λ folder. HasFront folder told_now name piece ⊎ StopsRemoving (with_more folder name piece) told_now names)
Begins told told_now (Err NoMemory) name piece names = IfSome told (λ folder. HasFront folder told_now name piece ⊎ StopsRemoving (with_more folder name piece) told_now names)

-- ---- the trace

-- the trace where the open file has so many bytes more
abbrev pub extended : ℕ → Trace → Trace
extended more trace = record trace { state = record { files = grown_last more trace.state.files; end = trace.state.end } }

-- how many bytes the closed files may have
abbrev pub closed_limit : Trace → ℕ
closed_limit trace = trace.max_size - trace.file_size

-- how many files go where one is begun
abbrev pub going_of : Trace → ℕ
going_of trace = going (closed_limit trace) trace.state.files

-- the name of the file that would be begun next
abbrev pub next_name : Trace → List ℕ
next_name trace = trace_name trace.directory (trace.last + 1)

-- the trace where a file was begun with so many bytes
abbrev pub with_file : ℕ → Trace → Trace
with_file bytes trace = record trace {
  state = record { files = with_new (closed_limit trace) (next_name trace) bytes trace.state.files; end = trace.state.end };
  last = trace.last + 1;
  begun = true;
}

-- A piece was put into the open file, or one was begun with it. With any other answer than Ok the trace is as it was.
abbrev pub ExtendsTrace : Trace → Trace → Option Files → Option Files → Result (Unit {0}) TraceEnd → List ℕ → Type 0
ExtendsTrace old new told told_now result piece =
    (new ≡ (if is_ok result then extended (length piece) old else old)) × Extends told told_now result (last_name old.state.files) piece

abbrev pub BeginsFile : Trace → Trace → Option Files → Option Files → Result (Unit {0}) TraceEnd → List ℕ → Type 0
BeginsFile old new told told_now result piece =
    (new ≡ (if is_ok result then with_file (length piece) old else old))
    × Begins told told_now result (next_name old) piece (gone_names (closed_limit old) old.state.files)

-- a piece was put where it goes, unless it would need a file with a number that none can have
abbrev pub Places : Bool → Trace → Trace → Option Files → Option Files → Result (Unit {0}) TraceEnd → List ℕ → Type 0
Places false old new told told_now result piece = ExtendsTrace old new told told_now result piece
Places true old new told told_now result piece =
    ((old.last ≡ number_limit) × (result ≡ Err Spent) × (new ≡ old) × Stays told told_now)
    ⊎ ((old.last < number_limit) × BeginsFile old new told told_now result piece)
