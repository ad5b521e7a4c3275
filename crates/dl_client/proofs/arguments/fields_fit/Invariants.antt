use Rattle.std.proofs.Common.{◌≡◌, ◌+◌, drop, length}
use Rattle.dl_args.specs.Argument.{joined}
use Rattle.dl_client.proofs.arguments.fields_fit.Given as goal

abbrev pub invariant-loop-field : goal.invariant-loop-field
invariant-loop-field l = l.left + length (joined l.fields) ≡ l.room + length (joined (drop l.field-index l.fields))
