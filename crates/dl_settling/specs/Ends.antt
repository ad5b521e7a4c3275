-- What stands at the end beside the events.
use Rattle.std.specs.Prelude.{ℕ, ◌==◌, List, [], length, map, Option, Some, None}
use Rattle.std.specs.List.{range_with_len}
use Rattle.std.specs.Option.{option_map_or}
use Rattle.dl_bytes.specs.declared.outcome.Ends.{Ends}
use Rattle.dl_bytes.specs.declared.outcome.LinkEnd.{LinkEnd}
use Rattle.dl_bytes.specs.declared.outcome.TraceState.{TraceState}
use Rattle.dl_hub.specs.State.{Client, Hub, client_of}
use Rattle.dl_trace.specs.State.{Trace}
use Rattle.dl_core.specs.State.{Core}

-- what became of a client's link: how much was put into its stream, and whether its link took all of it
abbrev pub end_in : Hub → ℕ → LinkEnd
end_in hub number = record {
  client = number;
  frames = option_map_or (λ (client : Client). client.frames) (client_of hub number) 0;
  bytes = option_map_or (λ (client : Client). client.bytes) (client_of hub number) 0;
  complete = option_map_or (λ (client : Client). client.left) (client_of hub number) 0 == 0;
}

-- of each client that came, in the order of their numbers
abbrev pub ends_in : Hub → List LinkEnd
ends_in hub = map (end_in hub) (range_with_len 1 (length hub.clients))

-- what a trace tells; where none was kept, no file
abbrev pub trace_told : Option Trace → TraceState
trace_told None = record { files = []; end = None }
trace_told (Some trace) = trace.state

-- all of it, where so many links were dropped
abbrev pub ends_of : Core → ℕ → Ends
ends_of core dropped = record { links = ends_in core.hub; dropped = dropped; trace = trace_told core.trace }
