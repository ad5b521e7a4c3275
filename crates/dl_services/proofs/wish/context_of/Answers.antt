use Rattle.std.proofs.Common.{◌∙◌, sym, arith}
use Rattle.dl_services.proofs.Targets.{slot_of_few, target_none, target_here, target_elsewhere}
use Rattle.dl_services.proofs.wish.context_of.Goals as goal

pub overflow_cast-app : goal.overflow_cast-app
overflow_cast-app c =
    let few = slot_of_few c.args.registry.now.registry c.args.apid c.args.ctid c.in_ok-slot.slot c.in_ok-slot.ensures.order c.in_ok-slot.ensures.slot in
    omega arith

pub returns-in_err-channel_of : goal.returns-in_err-channel_of
returns-in_err-channel_of c =
    let none = target_none c.args.registry.now.registry c.args.apid c.args.ctid c.in_ok-slot.slot c.in_ok-slot.ensures.order c.in_ok-slot.ensures.slot c.in_err-channel_of.ensures in
    c.from_residual-in_err-channel_of.ensures ∙ sym none

pub returns-then-branch-eq-THIS_PROCESS : goal.returns-then-branch-eq-THIS_PROCESS
returns-then-branch-eq-THIS_PROCESS c =
    target_here c.args.registry.now.registry c.args.apid c.args.ctid c.in_ok-slot.slot c.in_ok-channel_of.field-0 c.in_ok-slot.ensures.order c.in_ok-slot.ensures.slot
    c.in_ok-channel_of.ensures c.if-branch-eq-THIS_PROCESS.true

pub returns-else-branch-eq-THIS_PROCESS : goal.returns-else-branch-eq-THIS_PROCESS
returns-else-branch-eq-THIS_PROCESS c =
    target_elsewhere c.args.registry.now.registry c.args.apid c.args.ctid c.in_ok-slot.slot c.in_ok-channel_of.field-0 c.in_ok-slot.ensures.order c.in_ok-slot.ensures.slot
    c.in_ok-channel_of.ensures c.if-branch-eq-THIS_PROCESS.false
