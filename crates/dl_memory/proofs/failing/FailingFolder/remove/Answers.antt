use Rattle.std.proofs.Common.{ap}
use Rattle.dl_memory.proofs.Unchanged.{all_stay}
use Rattle.dl_memory.proofs.failing.FailingFolder.remove.Goals as goal

pub returns-then-begin-clause-files : goal.returns-then-begin-clause-files
returns-then-begin-clause-files g c = all_stay _ _ _ (ap (λ f. (g.F.Folder.told f).files) c.begin.ensures.inner)
