use Rattle.std.proofs.Common.{◌≡◌, ◌-◌, ◌≤◌}
use Rattle.dl_events.specs.declared.event.Why.TheVariants as why
use Rattle.dl_script_model.specs.Steps.{close}
use Rattle.dl_outside.specs.Told.{FolderTold}
use Rattle.dl_world.specs.Follows.{Does}
use Rattle.dl_world.proofs.Turning.{from}
use Rattle.dl_world.proofs.world.World.close_all.Given as goal

abbrev pub invariant-loop-client : goal.invariant-loop-client
invariant-loop-client l = record {
  some : 1 ≤ l.client;
  so_far : (told : FolderTold) → Does (from 1 (l.client - 1) (λ client setting answers. close setting client why.Stopped)) l.initial.self l.self told told;
  trace : l.self.core.trace ≡ l.initial.self.core.trace;
}
