use Rattle.std.proofs.Common.{◌≡◌, string_bytes}
use Rattle.std.specs.Prelude.{replicate}
use Rattle.dl_script_fields.proofs.argument.fill.Given as goal

abbrev pub invariant-loop : goal.invariant-loop
invariant-loop l = string_bytes l.letters ≡ replicate l.counter 120
