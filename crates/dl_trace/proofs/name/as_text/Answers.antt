use Rattle.std.proofs.lemmas.Str.{IsUtf8-from_ascii}
use Rattle.dl_trace.proofs.name.as_text.Goals as goal

pub unreachable-requires : goal.unreachable-requires
unreachable-requires c = c.in-Err.ensures.cases.0 (IsUtf8-from_ascii c.args.name.now c.requires)
