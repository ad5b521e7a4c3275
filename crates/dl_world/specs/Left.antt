-- What is handed out at the end of a run.
use Rattle.std.specs.Prelude.{◌≡◌, ℕ, List, [], length, map, Option, Some, None, true}
use Rattle.std.specs.Option.{option_map_or}
use Rattle.dl_bytes.specs.declared.outcome.LinkEnd.{LinkEnd}
use Rattle.dl_bytes.specs.declared.outcome.TraceState.{TraceState}
use Rattle.dl_model.specs.ClientStream.{traffic}
use Rattle.dl_model.specs.Backlog.{left, size_of}
use Rattle.dl_script_model.specs.Marks.{Mark, claims, journal, records}
use Rattle.dl_script_model.specs.Replay.{clients, specs_of}
use Rattle.dl_hub.specs.State.{Client, Hub, client_of}
use Rattle.dl_trace.specs.State.{Trace}
use Rattle.dl_core.specs.Follows.{Run, source_of}
use Rattle.dl_core.specs.State.{Core}
use Rattle.dl_world.specs.Follows.{stream_in}
use Rattle.dl_world.specs.declared.played.Played.{Played}

-- what the link of a client took: all that was put into its stream
abbrev pub link_in : Hub → ℕ → LinkEnd
link_in hub number = record {
  client = number;
  frames = option_map_or (λ (client : Client). client.frames) (client_of hub number) 0;
  bytes = option_map_or (λ (client : Client). client.bytes) (client_of hub number) 0;
  complete = true;
}

abbrev pub links_in : Hub → List ℕ → List LinkEnd
links_in hub numbers = map (link_in hub) numbers

-- what a trace tells; where none was handed in, no file
abbrev pub told_of : Option Trace → TraceState
told_of None = record { files = []; end = None }
told_of (Some trace) = trace.state

-- the end of each link after these marks
abbrev pub link_after : Run → List Mark → ℕ → LinkEnd
link_after run done number = let frames = stream_in run done number in record { client = number; frames = length frames; bytes = size_of frames; complete = true }

-- What is handed out is that of the marks: records, claims and journal, what each client was sent, the applications, the ends of the links, the
-- backlog, and what the trace tells.
pub record IsLeft (run : Run) (done : List Mark) (core : Core) (played : Played) : Type 0 where
  pub records_are : played.records ≡ records done
  pub claims_are : played.claims ≡ claims done
  pub events_are : played.events.events ≡ journal done
  pub streams_are : played.streams ≡ map (stream_in run done) (clients done)
  pub specs_are : played.specs ≡ specs_of done
  pub links_are : played.ends.links ≡ map (link_after run done) (clients done)
  pub none_dropped : played.ends.dropped ≡ 0
  pub trace_is : played.ends.trace ≡ told_of core.trace
  pub backlog_is : played.backlog ≡ left run.setting.buffer (traffic (source_of run) (journal done))
