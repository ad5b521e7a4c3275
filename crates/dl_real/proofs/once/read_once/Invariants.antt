use Rattle.std.proofs.Common.{◌≡◌, length}
use Rattle.std.specs.Io.KnownBytes.{Keeps}
use Rattle.dl_real.proofs.once.read_once.Given as goal

abbrev pub invariant-loop : goal.invariant-loop
invariant-loop g l = (length l.into ≡ length l.initial.into) × Keeps (g.S.Read.remaining l.initial.reader) (g.S.Read.remaining l.reader)
