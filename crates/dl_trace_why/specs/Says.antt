-- What an account says on standard error.
use Rattle.std.specs.Prelude.{◌⊎◌}
use Rattle.dl_outside.specs.Told.{SinkTold}
use Rattle.dl_outside.specs.Written.{Wrote, WroteNothing}
use Rattle.dl_trace_why.specs.Status.{line_of}
use Rattle.dl_trace_why.specs.declared.status.Status.{Status}
use Rattle.dl_trace_why.specs.declared.status.Status.TheVariants.{Ok}

-- the line of a status, or its front where standard error failed; or nothing, for want of memory
abbrev pub SaysLine : Status → SinkTold → SinkTold → Type 0
SaysLine status old new = Wrote old new (line_of status) ⊎ WroteNothing old new

-- the same, and nothing where all went well
abbrev pub Says : Status → SinkTold → SinkTold → Type 0
Says Ok old new = WroteNothing old new
Says status old new = SaysLine status old new
