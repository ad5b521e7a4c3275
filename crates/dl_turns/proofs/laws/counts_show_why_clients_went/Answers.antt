use Rattle.dl_turns.proofs.ShownCauses.{pump_counts, stop_counts, turn_counts}
use Rattle.dl_turns.proofs.laws.counts_show_why_clients_went.Goals as goal

pub returns-clause-turn : goal.returns-clause-turn
returns-clause-turn c = turn_counts

pub returns-clause-pump : goal.returns-clause-pump
returns-clause-pump c = pump_counts

pub returns-clause-stop : goal.returns-clause-stop
returns-clause-stop c = stop_counts
