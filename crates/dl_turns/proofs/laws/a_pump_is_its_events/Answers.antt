use Rattle.dl_turns.proofs.LaterStages.{stage_pump}
use Rattle.dl_turns.proofs.laws.a_pump_is_its_events.Goals as goal

pub returns : goal.returns
returns c = stage_pump c.what_links_take.ensures
