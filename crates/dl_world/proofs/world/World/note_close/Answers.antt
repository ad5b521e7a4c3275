use Rattle.std.proofs.Common.{refl}
use Rattle.dl_lemmas.proofs.Options.{some_is}
use Rattle.dl_world.proofs.Going.{close_does}
use Rattle.dl_world.proofs.world.World.note_close.Goals as goal

pub returns-clause-does : goal.returns-clause-does
returns-clause-does c =
    let mid = c.deliver_to.new.self in
    let went = c.in_ok-deliver_to.ensures in
    close_does c.args.self.now mid (record mid { core = c.close.new.self; journal = c.close.new.journal }) c.close.new.self c.reserve.new.self c.close.new.journal c.args.client c.args.why
    (went.rest.open_same c.args.client c.requires.open.2) went.takes went.keeps went.trace (some_is c.reserve.ensures.events) c.close.ensures.value c.close.ensures.after c.close.ensures.event refl
