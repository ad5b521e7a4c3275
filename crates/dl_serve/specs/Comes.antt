-- What serving comes to: its journal, its clients, and its trace files.
use Rattle.std.specs.Prelude.{◌≡◌, ◌≢◌, ◌==◌, ◌+◌, ℕ, List, [], ◌++◌, length, map, count_by, slice_get, Option, Some, None, IfSome}
use Rattle.std.specs.List.{concat}
use Rattle.dl_bytes.specs.declared.outcome.LinkEnd.{LinkEnd}
use Rattle.dl_core.specs.Follows.{HoldsFiles, IsTraceAfter, Run, source_of, stored_by}
use Rattle.dl_events.specs.declared.event.Event.{Event}
use Rattle.dl_loop.specs.Daemon.{TellTaken}
use Rattle.dl_model.specs.ClientStream.{stream}
use Rattle.dl_model.specs.Journal.{IsOpen, IsWellFormed, is_connect}
use Rattle.dl_model.specs.Setting.{Setting}
use Rattle.dl_model.specs.TraceFiles.{StoredFile}
use Rattle.dl_outside.specs.Told.{FolderTold, LinkTold}
use Rattle.dl_settling.specs.Ends.{trace_told}
use Rattle.dl_settling.specs.Went.{TellStreams}
use Rattle.dl_trace.specs.InFolder.{HasFiles}
use Rattle.dl_trace.specs.State.{Trace}
use Rattle.dl_serve.specs.declared.beginning.Begun.{Begun}
use Rattle.dl_serve.specs.declared.closed.Closed.{Closed}

-- the run of this setting that a journal tells of, where these trace files stood before: no call of this process is in it
abbrev pub run_in : Setting → List StoredFile → Run
run_in setting stood = record { setting = setting; frame = λ writer number. []; apid = λ app. []; stood = stood; before = 0; head = [] }

-- What a client's link took is the front of the client's stream; and what is told of its end says whether it is all of it.
pub record TookStream (run : Run) (events : List Event) (number : ℕ) (link : LinkTold) (end : LinkEnd) : Type 0 where
  pub taken : List ℕ
  pub rest : List ℕ
  pub told : link.taken ≡ Some taken
  pub all : concat (stream (source_of run) run.setting.buffer number events) ≡ taken ++ rest
  pub complete : end.complete ≡ (length rest == 0)

-- so it is of each client
abbrev pub TookStreams : Run → List Event → List LinkTold → List LinkEnd → Type 0
TookStreams run events links ends = (place : ℕ) (link : LinkTold) (end : LinkEnd) → slice_get links place ≡ Some link → slice_get ends place ≡ Some end
    → TookStream run events (place + 1) link end

-- Where a trace is kept, what is told of it are the files of all frames that the events store, or of some first ones where it ended before. While it
-- goes on, the folder holds just these files, where it told its files before.
pub record IsTraced (run : Run) (events : List Event) (kept : Option Trace) (old new : FolderTold) : Type 0 where
  pub after : IfSome kept (IsTraceAfter run (stored_by run events))
  pub holds : IfSome old.files (λ files. IfSome kept (λ trace. trace.state.end ≡ None → HoldsFiles run (stored_by run events) new.files))

-- A run came to this, whose trace began where the folder told the first of these. Its journal is well-formed. Each client that came has its link, and none
-- is open any more. What is told of the ends of the links are the frames and the bytes of the clients' streams; where links tell what they took, each took
-- the front of its stream, and all of it where its end is complete. What is told of the trace is what the events make of it.
pub record HasCome {L : Type 0} (link_told : L → LinkTold) (run : Run) (old new : FolderTold) (closed : Closed L) : Type 0 where
  pub formed : IsWellFormed run.setting (source_of run) closed.events.events
  pub many : length closed.clients.links ≡ count_by is_connect closed.events.events
  pub none_open : (client : ℕ) → ¬ (IsOpen client closed.events.events)
  pub streams : TellStreams run closed.events.events (length closed.clients.links) closed.state.links
  pub took : TellTaken link_told → TookStreams run closed.events.events (map link_told closed.clients.links) closed.state.links
  pub kept : Option Trace
  pub trace : closed.state.trace ≡ trace_told kept
  pub traced : IsTraced run closed.events.events kept old new

-- Serving that began so, in this setting, came to this, over the trace files that stood before it.
pub record IsComeTo {L : Type 0} (link_told : L → LinkTold) (setting : Setting) (begun : Begun) (old new : FolderTold) (closed : Closed L) : Type 0 where
  pub stood : List StoredFile
  pub stood_so : begun.trace ≢ None → IfSome old.files (λ files. HasFiles begun.conf.directory files stood)
  pub comes : HasCome link_told (run_in setting stood) old new closed
