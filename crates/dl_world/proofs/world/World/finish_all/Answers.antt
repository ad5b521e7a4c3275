use Rattle.std.proofs.Common.{◌-◌, refl, ◌∙◌, arith}
use Rattle.dl_script_model.specs.Steps.{finish}
use Rattle.dl_world.proofs.Turning.{does_first, does_loop}
use Rattle.dl_world.proofs.Ends.{all_finished}
use Rattle.dl_world.proofs.world.World.finish_all.Goals as goal

pub loop-writer-init : goal.loop-writer-init
loop-writer-init c = record {
  some = omega arith;
  so_far = λ told. does_first 1 (λ writer setting answers. finish writer) c.args.self.now told;
  core = refl;
}

pub loop-writer-preserved : goal.loop-writer-preserved
loop-writer-preserved c = record {
  some = omega arith;
  so_far = λ told. does_loop 1 c.loop-writer.writer (λ writer setting answers. finish writer) c.args.self.now c.loop-writer.self c.finish.new.self told told told
      c.loop-writer.invariant.some (c.loop-writer.invariant.so_far told) (c.in_ok-finish.ensures.does told);
  core = c.finish.ensures.core ∙ c.loop-writer.invariant.core;
}

pub returns-clause-does : goal.returns-clause-does
returns-clause-does c =
    all_finished c.args.self.now c.loop-writer.self (c.loop-writer.writer - 1) (omega (arith, c.writers-writer-end.ensures.value)) c.loop-writer.invariant.so_far
