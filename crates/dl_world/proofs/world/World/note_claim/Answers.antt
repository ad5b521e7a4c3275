use Rattle.std.proofs.Common.{ap, sym}
use Rattle.dl_lemmas.proofs.Options.{some_is}
use Rattle.dl_core.specs.State.{Core}
use Rattle.dl_world.proofs.ClaimEvents.{claim_does}
use Rattle.dl_world.proofs.Doings.{nothing_told}
use Rattle.dl_world.proofs.world.World.note_claim.Goals as goal

pub returns-clause-does : goal.returns-clause-does
returns-clause-does c =
    claim_does c.args.self.now c.args.app c.in-Some.claim.now c.claim.new.self c.reserve.new.self c.claim.new.journal c.take.new.self
    c.requires.known (sym c.in-Some.ensures) (some_is c.reserve.ensures.events) (λ told. (c.claim.ensures.notes told).after) (c.claim.ensures.notes nothing_told).event
    c.take.ensures.claim (ap (λ (core : Core). core.trace) c.claim.ensures.rest)
