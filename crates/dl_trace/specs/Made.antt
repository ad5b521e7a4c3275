-- What a trace is that was made of a configuration, and why none could be made.
use Rattle.std.specs.Prelude.{◌≡◌, ◌<◌, ℕ, false, List, length, Result, Ok, Err, None}
use Rattle.dl_bytes.specs.declared.conf.Conf.{Conf}
use Rattle.dl_outside.specs.declared.folder.FolderFault.{FolderFault}
use Rattle.dl_outside.specs.declared.folder.FolderFault.TheVariants as folder
use Rattle.dl_outside.specs.Outside.{HasRisen}
use Rattle.dl_trace.specs.declared.trace.TraceFault.{TraceFault}
use Rattle.dl_trace.specs.declared.trace.TraceFault.TheVariants.{Failed, OutOfMemory}
use Rattle.dl_model.specs.TraceFiles.{StoredFile, is_spent}
use Rattle.dl_trace.specs.State.{IsAfter, Trace}

-- it has the configuration's directory and sizes, it goes on, has begun no file, and has stored all that it was to store
pub record IsMade (conf : Conf) (trace : Trace) : Type 0 where
  pub directory : trace.directory ≡ conf.directory
  pub file_size : trace.file_size ≡ conf.file_size
  pub max_size : trace.max_size ≡ conf.max_size
  pub goes_on : trace.state.end ≡ None
  pub unbegun : trace.begun ≡ false
  pub none_missing : trace.unstored ≡ 0

-- A trace of this configuration goes on, has begun with these frames over these files, and has stored all that it was to store.
pub record HasBegun (conf : Conf) (stood : List StoredFile) (head : List (List ℕ)) (trace : Trace) : Type 0 where
  pub directory : trace.directory ≡ conf.directory
  pub file_size : trace.file_size ≡ conf.file_size
  pub max_size : trace.max_size ≡ conf.max_size
  pub goes_on : trace.state.end ≡ None
  pub after : IsAfter stood head trace
  pub unspent : 0 < length head → is_spent trace.file_size stood head ≡ false
  pub none_missing : trace.unstored ≡ 0

-- what a folder's refusal is
abbrev pub fault_of : FolderFault → TraceFault
fault_of folder.Failed = Failed
fault_of folder.OutOfMemory = OutOfMemory

-- the folder's count of faults rose where making failed, and stands with every other answer
abbrev pub HasFailed : {T : Type 0} → ℕ → ℕ → Result T TraceFault → Type 0
HasFailed before now (Ok made) = now ≡ before
HasFailed before now (Err Failed) = HasRisen before now
HasFailed before now (Err OutOfMemory) = now ≡ before
