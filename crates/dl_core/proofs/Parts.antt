-- The parts of the core.
use Rattle.std.proofs.Common.{ℕ, Bool, List, Option}
use Rattle.dl_model.specs.declared.software.Software.{Software}
use Rattle.dl_registry.specs.Kept.{Kept}
use Rattle.dl_hub.specs.State.{Hub}
use Rattle.dl_trace.specs.declared.writer.TraceWriter.{TraceWriter}
use Rattle.dl_core.specs.State.{Core}
use Rattle.dl_trace.specs.Writer.{trace_in}

-- the core of these parts
abbrev pub core_of : List ℕ → ℕ → Bool → Software → Kept → Hub → Option TraceWriter → Core
core_of ecu level injection software registry hub writer = record { ecu = ecu; level = level; injection = injection; software = software; registry = registry; hub = hub; trace = trace_in writer }
