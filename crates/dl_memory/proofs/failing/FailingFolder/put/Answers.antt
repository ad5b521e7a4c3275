use Rattle.std.proofs.Common.{ap}
use Rattle.dl_memory.proofs.Unchanged.{all_stay, old_stays}
use Rattle.dl_memory.proofs.failing.FailingFolder.put.Goals as goal

pub returns-then-begin-clause-files : goal.returns-then-begin-clause-files
returns-then-begin-clause-files g c = all_stay _ _ _ (ap (λ f. (g.F.Folder.told f).files) c.begin.ensures.inner)

pub returns-then-begin-clause-whole : goal.returns-then-begin-clause-whole
returns-then-begin-clause-whole g c = old_stays _ _ _ _ (ap (λ f. (g.F.Folder.told f).files) c.begin.ensures.inner)
