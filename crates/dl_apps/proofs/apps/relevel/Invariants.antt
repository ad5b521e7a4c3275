use Rattle.std.proofs.Common.{◌≡◌}
use Rattle.dl_model.specs.Registry.{releveled_app}
use Rattle.dl_apps.specs.Change.{changed_first, relevel_of}
use Rattle.dl_apps.proofs.apps.relevel.Given as goal

abbrev pub invariant-loop-place : goal.invariant-loop-place
invariant-loop-place l = l.apps.entries ≡ changed_first (releveled_app (relevel_of l.levels)) l.place l.fn.apps.entries
