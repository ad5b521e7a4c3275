use Rattle.dl_turns.specs.State.{side}
use Rattle.dl_rounds.proofs.OneClient.{but_turn}
use Rattle.dl_rounds.proofs.Turned.{closed_so, room_goes, room_stays}
use Rattle.dl_rounds.proofs.visits.listen_to.Goals as goal

pub returns-in-Some-clause-spare : goal.returns-in-Some-clause-spare
returns-in-Some-clause-spare g c =
    let now = c.client_turn-closed.new in
    let told = side now.core (g.D.WriterControl.told now.desk) (g.J.Journal.events now.journal) (g.F.Folder.told now.folder) in
    room_goes c.args.client _ _ c.args.core.now now.core (but_turn c.args.client _ _ _ c.in-Some.ensures.turn) c.requires.serving.open_so
    (closed_so c.args.client c.in-Some._why _ told c.in-Some.ensures.turn.closes) c.in-Some.ensures.noted

pub returns-in-None-clause-spare : goal.returns-in-None-clause-spare
returns-in-None-clause-spare g c =
    let now = c.client_turn-closed.new in
    room_stays c.args.client _ _ c.args.core.now now.core (but_turn c.args.client _ _ _ c.in-None.ensures.turn) c.requires.serving.open_so c.in-None.ensures.serving.open_so c.in-None.ensures.spare
