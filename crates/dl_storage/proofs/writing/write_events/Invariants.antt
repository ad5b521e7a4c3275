use Rattle.std.proofs.Common.{List, take}
use Rattle.dl_outside.specs.Told.{FolderTold}
use Rattle.dl_model.specs.TraceFiles.{StoredFile}
use Rattle.dl_storage.specs.Passing.{frames_for}
use Rattle.dl_storage.specs.Writing.{Begins, IsAfterFrames, IsUntouched}
use Rattle.dl_storage.proofs.writing.write_events.Given as goal

-- what was written of the events so far
abbrev pub invariant-loop-event : goal.invariant-loop-event
invariant-loop-event g l = (stood : List StoredFile) (start : FolderTold) → Begins l.fn.trace stood start → IsUntouched start (g.F.Folder.told l.fn.folder)
    → IsAfterFrames l.fn.trace stood (frames_for l.ecu l.filter l.calls.records.now (take l.event-index l.events)) start (g.F.Folder.told l.folder) l.writing
