use Rattle.std.proofs.Common.{◌≡◌, ◌-◌, ◌≤◌}
use Rattle.dl_script_model.specs.Steps.{finish}
use Rattle.dl_outside.specs.Told.{FolderTold}
use Rattle.dl_world.specs.Follows.{Does}
use Rattle.dl_world.proofs.Turning.{from}
use Rattle.dl_world.proofs.world.World.finish_all.Given as goal

abbrev pub invariant-loop-writer : goal.invariant-loop-writer
invariant-loop-writer l = record {
  some : 1 ≤ l.writer;
  so_far : (told : FolderTold) → Does (from 1 (l.writer - 1) (λ writer setting answers. finish writer)) l.initial.self l.self told told;
  core : l.self.core ≡ l.initial.self.core;
}
