use Rattle.dl_rounds.proofs.GreetedEvents.{greeted_each}
use Rattle.dl_rounds.proofs.laws.a_greeting_is_its_events.Goals as goal

pub returns : goal.returns
returns c = greeted_each
