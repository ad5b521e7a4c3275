use Rattle.std.proofs.Common.{◌-◌, refl, ◌∙◌, arith}
use Rattle.dl_events.specs.declared.event.Why.TheVariants as why
use Rattle.dl_script_model.specs.Steps.{close}
use Rattle.dl_world.proofs.Turning.{does_first, does_loop}
use Rattle.dl_world.proofs.Ends.{all_closed}
use Rattle.dl_world.proofs.world.World.close_all.Goals as goal

pub loop-client-init : goal.loop-client-init
loop-client-init c = record {
  some = omega arith;
  so_far = λ told. does_first 1 (λ client setting answers. close setting client why.Stopped) c.args.self.now told;
  trace = refl;
}

pub loop-client-preserved : goal.loop-client-preserved
loop-client-preserved c = record {
  some = omega arith;
  so_far = λ told. does_loop 1 c.loop-client.client (λ client setting answers. close setting client why.Stopped) c.args.self.now c.loop-client.self c.close.new.self told told told
      c.loop-client.invariant.some (c.loop-client.invariant.so_far told) (c.in_ok-close.ensures.does told);
  trace = c.close.ensures.trace ∙ c.loop-client.invariant.trace;
}

pub returns-clause-does : goal.returns-clause-does
returns-clause-does c =
    all_closed c.args.self.now c.loop-client.self (c.loop-client.client - 1) (omega (arith, c.len-client-end.ensures.value)) c.loop-client.invariant.so_far
