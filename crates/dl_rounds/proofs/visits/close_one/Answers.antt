use Rattle.dl_rounds.proofs.OneClient.{but_stop}
use Rattle.dl_rounds.proofs.Turned.{room_goes, stop_closed}
use Rattle.dl_rounds.proofs.visits.close_one.Goals as goal

pub returns-clause-spare : goal.returns-clause-spare
returns-clause-spare g c =
    let wound = c.close_turn-why.ensures.wound_up in
    room_goes c.args.client _ _ c.args.core.now c.close_turn-why.new.core (but_stop c.args.client _ _ _ wound) c.requires.serving.open_so (stop_closed c.args.client _ _ _ wound) c.close_turn-why.ensures.noted
