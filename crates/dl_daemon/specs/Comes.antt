-- What a daemon comes to whose trace may have been begun anew.
use Rattle.std.specs.Prelude.{◌≡◌, List, ◌++◌, Option, Some, None, IfSome}
use Rattle.dl_core.specs.Follows.{begun_anew, unstored_records}
use Rattle.dl_events.specs.declared.event.Event.{Event}
use Rattle.dl_model.specs.Setting.{Setting}
use Rattle.dl_model.specs.TraceFiles.{StoredFile}
use Rattle.dl_outside.specs.Told.{FolderTold, LinkTold}
use Rattle.dl_serve.specs.Comes.{HasCome, IsComeTo, run_in}
use Rattle.dl_serve.specs.declared.beginning.Begun.{Begun}
use Rattle.dl_serve.specs.declared.closed.Closed.{Closed}
use Rattle.dl_trace.specs.InFolder.{HasFiles}
use Rattle.dl_daemon.specs.Renewing.{Anew}

-- It came to this, and its trace was begun anew for the last time behind these first events, over the trace files that stood then: what was admitted before
-- is none of the frames that it stores; it begins with the records of how many of those were not stored.
pub record HasRestartedTrace {L : Type 0} (link_told : L → LinkTold) (setting : Setting) (begun : Begun) (anew : Anew) (new : FolderTold) (closed : Closed L) : Type 0 where
  pub past : List Event
  pub noted : anew.past ≡ Some past
  pub later : List Event
  pub all : closed.events.events ≡ past ++ later
  pub stood : List StoredFile
  pub stood_so : IfSome anew.folder.files (λ files. HasFiles begun.conf.directory files stood)
  pub comes : HasCome link_told (begun_anew stood (unstored_records setting.ecu anew.moment anew.unstored) past (run_in setting stood)) anew.folder new closed

-- What a daemon came to: what serving comes to, where its trace was not begun anew; else the same, but that its trace files are those of the last beginning.
abbrev pub IsKeptTo : {L : Type 0} → (L → LinkTold) → Setting → Begun → Option Anew → FolderTold → FolderTold → Closed L → Type 0
IsKeptTo link_told setting begun None old new closed = IsComeTo link_told setting begun old new closed
IsKeptTo link_told setting begun (Some anew) old new closed = HasRestartedTrace link_told setting begun anew new closed
