use Rattle.std.proofs.Common.{refl, arith}
use Rattle.dl_script_model.specs.Steps.{drain}
use Rattle.dl_world.proofs.Turning.{does_first, does_next}
use Rattle.dl_core.proofs.LeftFiles.{leaves_alone, leaves_both}
use Rattle.dl_world.proofs.Ends.{all_drained}
use Rattle.dl_world.proofs.world.World.drain_all.Goals as goal

pub loop-app-init : goal.loop-app-init
loop-app-init g c = record {
  so_far = does_first 0 (λ app setting answers. drain setting app) c.args.self.now _;
  leaves = leaves_alone _ _ _ refl;
}

pub loop-app-preserved : goal.loop-app-preserved
loop-app-preserved g c = record {
  so_far = does_next 0 c.loop-app.app c.loop-app.app (λ app setting answers. drain setting app) c.args.self.now c.loop-app.self c.drain.new.self _ _ _
      (omega arith) c.loop-app.invariant.so_far c.in_ok-drain.ensures.does;
  leaves = leaves_both _ _ _ _ _ _ c.loop-app.invariant.leaves c.drain.ensures.leaves;
}

pub returns-in_err-drain-clause-leaves : goal.returns-in_err-drain-clause-leaves
returns-in_err-drain-clause-leaves g c = leaves_both _ _ _ _ _ _ c.loop-app.invariant.leaves c.drain.ensures.leaves

pub returns-clause-does : goal.returns-clause-does
returns-clause-does g c =
    all_drained c.args.self.now c.loop-app.self _ _ c.loop-app.app (omega (arith, c.apps-app-end.ensures)) c.loop-app.invariant.so_far
