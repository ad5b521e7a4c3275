-- What contracts see of a trace, and what it tells after frames were stored.
use Rattle.std.specs.Prelude.{◌≡◌, ℕ, ◌+◌, ◌-◌, ◌^◌, min, nat_lt, Bool, List, length, map}
use Rattle.dl_bytes.specs.declared.outcome.TraceFile.{TraceFile}
use Rattle.dl_bytes.specs.declared.outcome.TraceState.{TraceState}
use Rattle.dl_model.specs.TraceFiles.{StoredFile, greatest, segments, trace_files, trace_name}

-- A trace: where its files are, the most bytes of one and of all of them, what it tells of them, the number of the newest
-- (0 where there is none), and whether it has begun a file. That one, the newest, is open. And how many frames that were to be
-- stored are not, since it has ended: at most 2^64 - 1.
pub record Trace : Type 0 where
  pub directory : List ℕ
  pub file_size : ℕ
  pub max_size : ℕ
  pub state : TraceState
  pub last : ℕ
  pub begun : Bool
  pub unstored : ℕ

-- a trace file as it is told of: its name, and how many bytes it has
abbrev pub listed : List ℕ → StoredFile → TraceFile
listed directory file = record { name = trace_name directory file.number; bytes = length file.bytes }

-- the trace files after these frames, where the old ones stood before
abbrev pub files_after : Trace → List StoredFile → List (List ℕ) → List StoredFile
files_after trace old frames = trace_files trace.file_size trace.max_size old frames

-- the number of the newest file then
abbrev pub number_after : Trace → List StoredFile → List (List ℕ) → ℕ
number_after trace old frames = greatest old + length (segments trace.file_size frames)

-- The trace is what these frames made of it, where the old files stood before: it tells of the files that the definition
-- has, with their names and sizes.
pub record IsAfter (old : List StoredFile) (frames : List (List ℕ)) (trace : Trace) : Type 0 where
  pub files : trace.state.files ≡ map (listed trace.directory) (files_after trace old frames)
  pub last : trace.last ≡ number_after trace old frames
  pub begun : trace.begun ≡ nat_lt 0 (length frames)

-- what doesn't change of a trace
pub record IsSameTrace (old new : Trace) : Type 0 where
  pub directory : new.directory ≡ old.directory
  pub file_size : new.file_size ≡ old.file_size
  pub max_size : new.max_size ≡ old.max_size

-- as many, at most 2^64 - 1
abbrev pub counted : ℕ → ℕ
counted n = min n (2 ^ 64 - 1)

-- the trace where so many frames more were to be stored, and are not
abbrev pub missing : ℕ → Trace → Trace
missing more trace = record trace { unstored = counted (trace.unstored + more) }
