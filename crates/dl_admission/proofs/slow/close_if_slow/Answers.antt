use Rattle.std.proofs.Common.{subst, arith}
use Rattle.dl_hub.specs.State.{Hub, outbox_of}
use Rattle.dl_admission.specs.Part.{part}
use Rattle.dl_admission.proofs.Slows.{HasJust, closes_one, stays_one}
use Rattle.dl_admission.proofs.slow.close_if_slow.Goals as goal

pub returns-then-room-need-clause-closes : goal.returns-then-room-need-clause-closes
returns-then-room-need-clause-closes g c = λ folder.
    closes_one c.args.need c.room-room.result c.args.client c.args.core.now c.close.new.self _ _ folder c.requires.settled c.requires.open
    (subst (λ (h : Hub). HasJust c.room-room.result (outbox_of h c.args.client)) c.hub.ensures c.room-room.ensures.value)
    c.close.ensures.limit c.if-room-need.true c.close.ensures.value c.close.ensures.after c.close.ensures.event

pub returns-else-room-need-clause-closes : goal.returns-else-room-need-clause-closes
returns-else-room-need-clause-closes g c = λ folder.
    stays_one c.args.need c.room-room.result c.args.client (part c.args.core.now (g.J.Journal.events c.args.journal.now) folder) c.requires.open
    (subst (λ (h : Hub). HasJust c.room-room.result (outbox_of h c.args.client)) c.hub.ensures c.room-room.ensures.value)
    (omega (arith, c.if-room-need.false))
