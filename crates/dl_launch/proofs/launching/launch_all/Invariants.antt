use Rattle.std.proofs.Common.{take}
use Rattle.dl_launch.specs.Launching.{Launched}
use Rattle.dl_launch.proofs.launching.launch_all.Given as goal

abbrev pub invariant-loop-script : goal.invariant-loop-script
invariant-loop-script g l = Launched (take l.script-index l.scripts) (g.N.Net.told l.initial.net) (g.N.Net.told l.net) l.started
