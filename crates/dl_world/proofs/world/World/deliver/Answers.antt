use Rattle.std.proofs.Common.{◌∙◌, ◌+◌, sym, subst, arith}
use Rattle.dl_world.specs.declared.world.World.{World}
use Rattle.dl_world.proofs.Delivering.{IsDelivering, delivers_none, delivers_open, delivers_shut, delivers_all, shut_where}
use Rattle.dl_world.proofs.world.World.deliver.Goals.{then-is_open+in_ok-deliver_to, else-is_open}
use Rattle.dl_world.proofs.world.World.deliver.Goals as goal

pub loop-client-init : goal.loop-client-init
loop-client-init c = delivers_none c.args.self.now

pub returns-in_err-deliver_to-clause-trace : goal.returns-in_err-deliver_to-clause-trace
returns-in_err-deliver_to-clause-trace c = c.deliver_to.ensures.trace ∙ c.loop-client.invariant.trace

pub loop-client-preserved : goal.loop-client-preserved
loop-client-preserved c = elim c.if-is_open.branch [
  | then-is_open+in_ok-deliver_to w ↦
      subst (λ (world : World). IsDelivering c.args.self.now world (c.loop-client.client + 1)) (sym w.self-is)
      (delivers_open c.args.self.now c.loop-client.self w.deliver_to.new.self c.loop-client.client c.loop-client.invariant
      w.in_ok-deliver_to.ensures.takes w.in_ok-deliver_to.ensures.keeps w.in_ok-deliver_to.ensures.rest w.in_ok-deliver_to.ensures.trace)
  | else-is_open w ↦
      subst (λ (world : World). IsDelivering c.args.self.now world (c.loop-client.client + 1)) (sym w.self-is)
      (delivers_shut c.args.self.now c.loop-client.self c.loop-client.client c.loop-client.invariant
      (shut_where c.is_open.result _ _ w.if-is_open.false c.is_open.ensures.1
      (λ there. (c.loop-client.auto.client, omega (arith, c.loop-client-test.true, c.len-client-end.ensures.value, c.loop-client.invariant.rest.clients_same), there))))
]

pub returns-clause-takes : goal.returns-clause-takes
returns-clause-takes c = delivers_all c.args.self.now c.loop-client.self c.loop-client.client c.loop-client.invariant (omega (arith, c.loop-client-test.false, c.len-client-end.ensures.value))

pub returns-clause-rest : goal.returns-clause-rest
returns-clause-rest c = c.loop-client.invariant.rest

pub returns-clause-trace : goal.returns-clause-trace
returns-clause-trace c = c.loop-client.invariant.trace
