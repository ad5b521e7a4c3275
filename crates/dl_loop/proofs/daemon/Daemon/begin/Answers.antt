use Rattle.std.proofs.Common.{refl}
use Rattle.dl_loop.proofs.Daemons.{made_is}
use Rattle.dl_loop.proofs.daemon.Daemon.begin.Goals as goal

pub invariant_of-result : goal.invariant_of-result
invariant_of-result g c = made_is g.L.Link.told _ (record {
  begins = c.requires.begun;
  untouched = c.requires.untouched;
  events = c.requires.empty;
  links = c.requires.links;
  listeners = c.requires.listeners;
  room = c.requires.room;
  noted = refl;
  claimed = refl;
  dropped = refl;
  failed = refl;
  wanted = refl;
  greeted = refl;
  first_core = c.of-first_core.ensures;
  first_desk = c.of-first_desk.ensures;
})
