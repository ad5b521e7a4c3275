use Rattle.std.proofs.Common.{ap}
use Rattle.dl_lemmas.proofs.Options.{some_is}
use Rattle.dl_core.specs.State.{Core}
use Rattle.dl_world.proofs.Doings.{next_level_does}
use Rattle.dl_world.proofs.world.World.note_level.Goals as goal

pub returns-clause-does : goal.returns-clause-does
returns-clause-does c =
    let level = c.level-change.ensures in
    next_level_does c.args.self.now c.level-change.new.self c.reserve.new.self c.level-change.new.journal (some_is c.reserve.ensures.events)
    c.level-change.result level.change (ap (λ (k : Core). k.trace) level.value) level.none level.after level.event
