-- How a run ends: what is written of it, and its status.
use Rattle.std.specs.Prelude.{◌≡◌, ℕ, ◌⊎◌, Bool, not, true, false, List, Option, Some, None}
use Rattle.dl_bytes.specs.declared.outcome.TraceEnd.{TraceEnd}
use Rattle.dl_model.specs.Report.{report}
use Rattle.dl_outside.specs.Outside.{HasRisen}
use Rattle.dl_world.specs.declared.played.Played.{Played}
use Rattle.dl_replay.specs.declared.begin.Start.{Start}
use Rattle.dl_startup.specs.declared.status.Status.{Status}
use Rattle.dl_startup.specs.declared.status.Status.TheVariants.{Ok, WriteFault, FolderFault, OutOfMemory, NamesSpent}
use Rattle.dl_replay.specs.declared.task.Task.{Task}
use Rattle.dl_replay.specs.declared.task.Task.TheVariants.{Steps, Generate}
use Rattle.dl_replay.specs.Run.{Run, HasDecided, HasNames, IsDecided, IsServed, IsSpent, IsWhole, WantedMemory, text_of}
use Rattle.dl_outside.specs.Told.{FolderTold, SinkTold}
use Rattle.dl_outside.specs.Written.{Wrote, WroteAll, WroteFront, WroteNothing}
use Rattle.dl_startup.specs.Failures.{status_of, with_trace}
use Rattle.dl_startup.specs.Unchanged.{FolderWell, IsUnchanged}

-- ---- the table of statuses of a run that began

-- What each status says of a run that began: the report was written, or nothing, and what failed. A folder fault comes before the
-- names, the names before a write fault, and that before want of memory: so each says that those before it did not come. Where there
-- was no memory for the report itself, nothing was written, and nothing more is said. With Ok the text, and the stored configuration that
-- is left, are decided by the folder and the script alone.
abbrev pub Ends : Task → Start → FolderTold → FolderTold → SinkTold → SinkTold → Status → Type 0
Ends task start folder folder_now out out_now Ok =
    (run : Run start folder folder_now) × WroteAll out out_now (text_of task run) × FolderWell folder folder_now × IsWhole run × IsServed run × IsDecided run × HasDecided run
Ends task start folder folder_now out out_now WriteFault =
    (run : Run start folder folder_now) × WroteFront out out_now (text_of task run) × FolderWell folder folder_now × HasNames run
Ends task start folder folder_now out out_now FolderFault =
    HasRisen folder.faults folder_now.faults
    × ((IsUnchanged folder folder_now × WroteNothing out out_now) ⊎ ((run : Run start folder folder_now) × Wrote out out_now (text_of task run)))
Ends task start folder folder_now out out_now OutOfMemory =
    WroteNothing out out_now ⊎ ((run : Run start folder folder_now) × WroteAll out out_now (text_of task run) × FolderWell folder folder_now × HasNames run × WantedMemory run)
Ends task start folder folder_now out out_now NamesSpent =
    (run : Run start folder folder_now) × Wrote out out_now (text_of task run) × FolderWell folder folder_now × IsSpent run
Ends task start folder folder_now out out_now _ = ⊥

-- ---- the status, step by step

-- the status of a run whose report was made: whether the folder failed, why the trace ended, whether the report was written whole,
-- and whether some Store or Reset had no memory
abbrev pub status_after : Bool → Option TraceEnd → Bool → Bool → Status
status_after failed cause written unserved =
    status_of (with_trace cause (record { net = false; folder = failed; names_spent = false; journal_full = false; output = not written; memory = unserved }))

-- the frames of the clients, where the report shows them
abbrev pub frames_for : Task → Played → Option (List (List (List ℕ)))
frames_for Steps played = Some played.streams
frames_for (Generate number calls) played = None

-- the report of what was played
abbrev pub report_for : Task → Played → List ℕ
report_for task played = report played.records played.events.events played.specs played.ends played.backlog (frames_for task played)

-- A text was written, whole or its front, and that gives the status; or there was no memory for the text, and nothing was written.
abbrev pub Finishes : List ℕ → Bool → Option TraceEnd → Bool → SinkTold → SinkTold → Status → Type 0
Finishes text failed cause unserved out out_now status =
    (WroteNothing out out_now × (status ≡ OutOfMemory))
    ⊎ (WroteAll out out_now text × (status ≡ status_after failed cause true unserved))
    ⊎ (WroteFront out out_now text × (status ≡ status_after failed cause false unserved))
