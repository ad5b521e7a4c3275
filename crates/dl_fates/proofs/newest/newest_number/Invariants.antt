use Rattle.std.proofs.Common.{◌≡◌, ℕ, List, ◌≤◌, map, take}
use Rattle.std.specs.List.{AllByRecursion}
use Rattle.dl_model.specs.TraceFiles.{StoredFile, greatest, number_limit}
use Rattle.dl_trace.specs.State.{listed}
use Rattle.dl_fates.proofs.newest.newest_number.Given as goal

-- the greatest number so far
abbrev pub invariant-loop-file : goal.invariant-loop-file
invariant-loop-file l = (directory : List ℕ) (stood : List StoredFile) → l.files ≡ map (listed directory) stood → AllByRecursion (λ (file : StoredFile). file.number ≤ number_limit) stood → l.newest ≡ greatest (take l.file-index stood)
