use Rattle.std.proofs.Common.{◌≡◌, true}
use Rattle.dl_loop.specs.Daemon.{TellTaken}
use Rattle.dl_server.proofs.HeldRounds.{all_close}
use Rattle.dl_server.proofs.laws.a_closing_is_its_events.Goals as goal

pub returns : goal.returns
returns g c = λ held moment old new closed. all_close (TellTaken g.L.Link.told) (held ≡ true) c.a_round_is_its_events.ensures.closed moment old new closed
