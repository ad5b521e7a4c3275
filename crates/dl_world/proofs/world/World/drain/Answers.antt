use Rattle.std.proofs.Common.{◌≡◌, List, refl, ◌∙◌, arith}
use Rattle.dl_script_model.specs.Marks.{Mark, held_by}
use Rattle.dl_script_model.specs.Steps.{take_losses}
use Rattle.dl_world_calls.specs.Follows as calls
use Rattle.dl_world_calls.proofs.Acts.{on_ok}
use Rattle.dl_world.specs.Follows.{Does}
use Rattle.dl_core.proofs.LeftFiles.{leaves_alone, leaves_both}
use Rattle.dl_world.proofs.Turning.{does_first, does_next}
use Rattle.dl_world.proofs.Drains.{takes, drains, drains_nobody}
use Rattle.dl_world.proofs.world.World.drain.Goals as goal

pub returns-then-apps-app-clause-does : goal.returns-then-apps-app-clause-does
returns-then-apps-app-clause-does g c = drains_nobody c.args.self.now _ c.args.app (omega (arith, c.apps.ensures, c.if-apps-app.true))

pub returns-then-apps-app-clause-leaves : goal.returns-then-apps-app-clause-leaves
returns-then-apps-app-clause-leaves g c = leaves_alone _ _ _ refl

pub loop-next-init : goal.loop-next-init
loop-next-init g c = record {
  so_far = does_first 0 (takes c.args.app) c.args.self.now _;
  leaves = leaves_alone _ _ _ refl;
}

pub returns-in_err-take_log-clause-leaves : goal.returns-in_err-take_log-clause-leaves
returns-in_err-take_log-clause-leaves g c = leaves_both _ _ _ _ _ _ c.loop-next.invariant.leaves c.take_log.ensures.leaves

pub loop-next-preserved : goal.loop-next-preserved
loop-next-preserved g c = record {
  so_far = does_next 0 c.loop-next._next c.loop-next._next (takes c.args.app) c.args.self.now c.loop-next.self c.take_log.new.self _ _ _
      (omega arith) c.loop-next.invariant.so_far c.in_ok-take_log.ensures.does;
  leaves = leaves_both _ _ _ _ _ _ c.loop-next.invariant.leaves c.take_log.ensures.leaves;
}

pub returns-clause-does : goal.returns-clause-does
returns-clause-does g c =
    let old = c.args.self.now in
    let k = c.loop-next._next in
    let all : k ≡ c.held-next-end.result = omega arith in
    let held : (done : List Mark) → calls.IsAfter done old.calls → k ≡ held_by c.args.app done = λ done is. all ∙ c.held-next-end.ensures done is in
    let made = λ (losses : Does (λ setting answers. take_losses setting c.args.app) c.loop-next.self c.take_losses.new.self
    (g.F.Folder.told c.loop-next.folder) (g.F.Folder.told c.take_losses.new.folder)).
    drains old c.loop-next.self c.take_losses.new.self _ _ _ c.args.app k held c.loop-next.invariant.so_far losses in
    on_ok c.take_losses.result _ _ made c.take_losses.ensures.does

pub returns-clause-leaves : goal.returns-clause-leaves
returns-clause-leaves g c = leaves_both _ _ _ _ _ _ c.loop-next.invariant.leaves c.take_losses.ensures.leaves
