use Rattle.std.proofs.Common.{take}
use Rattle.dl_desk.specs.Assembly.{ArePartsOf}
use Rattle.dl_desk.proofs.desk.Desk.make.Given as goal

abbrev pub invariant-loop-spec : goal.invariant-loop-spec
invariant-loop-spec l = ArePartsOf (take l.spec-index l.specs) l.parts
