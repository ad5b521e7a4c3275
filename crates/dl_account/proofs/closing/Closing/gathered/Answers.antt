use Rattle.std.proofs.Common.{subst}
use Rattle.dl_account.specs.ClosingInside.{closing_state}
use Rattle.dl_account.specs.Known.{AreGathered}
use Rattle.dl_account.proofs.Knowing.{gathered}
use Rattle.dl_account.proofs.closing.Closing.gathered.Goals as goal

pub returns : goal.returns
returns c = subst AreGathered c.self.view_is (gathered (closing_state c.self.inside) c.self.inside.items c.self.inside.losses c.self.inside.injected.items c.self.inside.entries c.self.invariant)
