use Rattle.dl_taking.proofs.DrainedEvents.{all_drain}
use Rattle.dl_taking.proofs.laws.a_drain_is_its_events.Goals as goal

pub returns : goal.returns
returns c = all_drain
