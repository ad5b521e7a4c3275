use Rattle.std.proofs.Common.{◌^◌, ◌<◌, List, length, refl, sym, subst}
use Rattle.dl_launch.specs.Launching.{Launched}
use Rattle.dl_outside.specs.declared.client.ClientScript.{ClientScript}
use Rattle.dl_live.proofs.Starting.{few_scripts, introduced, listed, nobody, place}
use Rattle.dl_live.proofs.program.set_out.Goals as goal

pub hello-requires-clause-introduced : goal.hello-requires-clause-introduced
hello-requires-clause-introduced g c = introduced c.args.players.now c.requires.can

pub hello-requires-clause-nobody : goal.hello-requires-clause-nobody
hello-requires-clause-nobody g c = nobody c.args.players.now c.requires.can

pub hello-requires-clause-place : goal.hello-requires-clause-place
hello-requires-clause-place g c = place c.args.players.now c.requires.can

pub hello-requires-clause-listed : goal.hello-requires-clause-listed
hello-requires-clause-listed g c = listed c.args.players.now c.requires.can

pub launch_all-requires : goal.launch_all-requires
launch_all-requires g c = subst (λ (scripts : List ClientScript). length scripts < 2 ^ 32) (sym c.all.ensures) (few_scripts c.args.players.now c.requires.can)

pub returns-clause-out : goal.returns-clause-out
returns-clause-out g c = record {
  moment = c.args.moment;
  greets = c.in_ok-hello.ensures.greets;
  later = c.hello.ensures.later;
  launches = subst (λ (scripts : List ClientScript). Launched scripts (g.N.Net.told c.args.net.now) (g.N.Net.told c.launch_all.new.net) c.in_ok-launched.launched) c.all.ensures c.in_ok-launched.ensures.all;
  greeted = c.in_ok-hello.ensures.greeted;
  rest = refl;
}
