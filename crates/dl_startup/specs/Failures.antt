-- What went wrong in a run, and the status that it ends with.
use Rattle.std.specs.Prelude.{Bool, true, false, List, Option, Some, None, if◌then◌else◌}
use Rattle.std.specs.List.{list_any}
use Rattle.dl_bytes.specs.declared.outcome.Done.TheVariants as did
use Rattle.dl_bytes.specs.declared.outcome.TraceEnd.{TraceEnd}
use Rattle.dl_bytes.specs.declared.outcome.TraceEnd.TheVariants as end
use Rattle.dl_events.specs.declared.event.Event.{Event}
use Rattle.dl_events.specs.declared.event.Event.TheVariants as event
use Rattle.dl_startup.specs.declared.failures.Failures.{Failures}
use Rattle.dl_startup.specs.declared.status.Status.{Status}
use Rattle.dl_startup.specs.declared.status.Status.TheVariants.{Ok, NetFault, FolderFault, NamesSpent, JournalFull, WriteFault, OutOfMemory}

-- what the end of a trace adds: the folder failed, the names were spent, or memory was wanted
abbrev pub with_trace : Option TraceEnd → Failures → Failures
with_trace None failures = failures
with_trace (Some end.Failed) failures = record failures { folder = true }
with_trace (Some end.Spent) failures = record failures { names_spent = true }
with_trace (Some end.NoMemory) failures = record failures { memory = true }

-- the status of a run: the first of these that applies
abbrev pub status_of : Failures → Status
status_of failures =
    if failures.net then NetFault
    else if failures.folder then FolderFault
    else if failures.names_spent then NamesSpent
    else if failures.journal_full then JournalFull
    else if failures.output then WriteFault
    else if failures.memory then OutOfMemory
    else Ok

-- a Store or a Reset for which there was no memory
abbrev pub is_unserved : Event → Bool
is_unserved (event.Request client frame did.NoMemory) = true
is_unserved _ = false

-- some Store or Reset had no memory
abbrev pub unserved : List Event → Bool
unserved events = list_any is_unserved events
