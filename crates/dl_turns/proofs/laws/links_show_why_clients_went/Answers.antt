use Rattle.dl_turns.proofs.ShownCauses.{left_over, pump_shows, stop_shows, turn_shows}
use Rattle.dl_turns.proofs.laws.links_show_why_clients_went.Goals as goal

pub returns-clause-turn : goal.returns-clause-turn
returns-clause-turn c = turn_shows

pub returns-clause-pump : goal.returns-clause-pump
returns-clause-pump c = pump_shows

pub returns-clause-stop : goal.returns-clause-stop
returns-clause-stop c = stop_shows

pub returns-clause-left : goal.returns-clause-left
returns-clause-left c = left_over
