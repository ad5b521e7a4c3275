use Rattle.dl_turns.proofs.LaterStages.{stage_wound_up}
use Rattle.dl_turns.proofs.laws.a_stop_is_its_events.Goals as goal

pub returns : goal.returns
returns c = stage_wound_up c.what_links_take.ensures
