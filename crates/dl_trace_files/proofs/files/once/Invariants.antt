use Rattle.std.proofs.Common.{◌≡◌, []}
use Rattle.dl_trace_files.specs.Files.{with_names}
use Rattle.dl_trace_files.proofs.files.once.Given as goal

-- the names so far, each once
abbrev pub invariant-loop-name : goal.invariant-loop-name
invariant-loop-name l = l.all.items ≡ with_names [] l.yielded
