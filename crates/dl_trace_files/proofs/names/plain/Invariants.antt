use Rattle.std.proofs.Common.{◌≡◌, IsUtf8, length, string_bytes}
use Rattle.dl_trace_files.specs.Files.{parts_of, plain, with_parts}
use Rattle.dl_trace_files.proofs.names.plain.Given as goal

-- what is left makes of the folder so far what the name is without the parts that name nothing
abbrev pub invariant-loop-part : goal.invariant-loop-part
invariant-loop-part l = record {
  same : with_parts (string_bytes l.folder) (parts_of l.rest) ≡ plain l.fn.name;
  text : IsUtf8 l.rest;
}

abbrev pub decreases-loop-part : goal.decreases-loop-part
decreases-loop-part l = length l.rest
