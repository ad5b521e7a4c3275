-- The log storage of a run that ends: what it adds to the report and to the status.
use Rattle.std.specs.Prelude.{◌≡◌, ℕ, ◌||◌, Bool, true, false, List, ◌++◌, Option, Some, None}
use Rattle.std.specs.List.{list_any}
use Rattle.dl_bytes.specs.declared.outcome.TraceEnd.{TraceEnd}
use Rattle.dl_bytes.specs.declared.outcome.TraceEnd.TheVariants as end
use Rattle.dl_account.specs.State.{AccountState}
use Rattle.dl_model.specs.Setting.{Setting}
use Rattle.dl_outside.specs.Told.{FolderTold, SinkTold}
use Rattle.dl_outside.specs.Written.{WroteNothing}
use Rattle.dl_startup.specs.declared.failures.Failures.{Failures}
use Rattle.dl_startup.specs.declared.status.Status.{Status}
use Rattle.dl_startup.specs.declared.status.Status.TheVariants.{OutOfMemory}
use Rattle.dl_storage.specs.Storing.{AreStored}
use Rattle.dl_storage.specs.Text.{storage_lines}
use Rattle.dl_storage.specs.declared.ends.StoreEnd.{StoreEnd}
use Rattle.dl_storage.specs.declared.ends.StoreEnds.{StoreEnds}
use Rattle.dl_storage.specs.declared.filter.Filter.{Filter}
use Rattle.dl_ending.specs.Ending.{Finishes, failures_with, records_of, text_of}
use Rattle.dl_ending.specs.declared.concluding.Concluded.{Concluded}

-- the report of an account with what its filters stored: the text of the account, and the filters' lines last
abbrev pub report_text : Setting → AccountState → List Filter → List StoreEnd → List ℕ
report_text setting account filters ends = text_of setting account ++ storage_lines filters ends

-- ---- why filters ended

-- the folder failed
abbrev pub has_failed : Option TraceEnd → Bool
has_failed (Some end.Failed) = true
has_failed _ = false

-- no file can have the next number
abbrev pub is_spent : Option TraceEnd → Bool
is_spent (Some end.Spent) = true
is_spent _ = false

-- memory was wanted
abbrev pub has_no_memory : Option TraceEnd → Bool
has_no_memory (Some end.NoMemory) = true
has_no_memory _ = false

-- some filter ended so
abbrev pub some_end : (Option TraceEnd → Bool) → List StoreEnd → Bool
some_end ended ends = list_any (λ (e : StoreEnd). ended e.end) ends

-- what went wrong in a run, with what the ends of its filters add
abbrev pub with_storage : List StoreEnd → Failures → Failures
with_storage ends failures = record failures {
  folder = failures.folder || some_end has_failed ends;
  names_spent = failures.names_spent || some_end is_spent ends;
  memory = failures.memory || some_end has_no_memory ends;
}

-- ---- how a run is concluded

-- The report was written, with what the filters stored, and that decides the status with all else that went wrong, in the run and as the
-- filters ended.
abbrev pub Reports : Setting → AccountState → List Filter → List StoreEnd → Failures → (out out_now : SinkTold) → Status → Type 0
Reports setting account filters ends failures out out_now status =
    Finishes (report_text setting account filters ends) (with_storage ends (failures_with account failures)) out out_now status

-- What passes the filters was stored; then the report was written, with what they stored, and that decides the status with all else that
-- went wrong, in the run and as the filters ended. Or there was no memory to store anything: the folder is as it was, and nothing was written.
abbrev pub Concludes : Setting → AccountState → List Filter → Failures → (folder folder_now : FolderTold) → (out out_now : SinkTold) → Status → Option StoreEnds → Type 0
Concludes setting account filters failures folder folder_now out out_now status None =
    (status ≡ OutOfMemory) × WroteNothing out out_now × (folder_now ≡ folder)
Concludes setting account filters failures folder folder_now out out_now status (Some stored) =
    AreStored setting.ecu (records_of account) account.events folder.files folder_now.files folder.faults folder_now.faults filters stored.filters
    × Reports setting account filters stored.filters failures out out_now status

-- the same of a run that was concluded so
abbrev pub IsConcluded : Setting → AccountState → List Filter → Failures → (folder folder_now : FolderTold) → (out out_now : SinkTold) → Concluded → Type 0
IsConcluded setting account filters failures folder folder_now out out_now concluded =
    Concludes setting account filters failures folder folder_now out out_now concluded.status concluded.storage
