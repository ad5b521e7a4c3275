-- What contracts see of what stores frames: the trace, and the frames that are gathered for it.
use Rattle.std.specs.Prelude.{◌≡◌, ℕ, List, Option, option_map, IfSome}
use Rattle.dl_trace.specs.State.{Trace}
use Rattle.dl_trace.specs.declared.writer.TraceWriter.{TraceWriter}

-- the trace, where one is kept
abbrev pub trace_in : Option TraceWriter → Option Trace
trace_in writer = option_map (λ (w : TraceWriter). w.trace) writer

-- these frames are gathered, where a trace is kept
abbrev pub HasBatch : List (List ℕ) → Option TraceWriter → Type 0
HasBatch frames writer = IfSome writer (λ (w : TraceWriter). w.batch ≡ frames)
