use Rattle.dl_laws.proofs.LinkEnds.{stopped_is_complete, stuck_is_cut, slow_with_room_is_complete, complete_had_room}
use Rattle.dl_laws.proofs.journals.link_ends_tell_how_clients_went.Goals as goal

pub returns-clause-stopped : goal.returns-clause-stopped
returns-clause-stopped c = stopped_is_complete

pub returns-clause-stuck : goal.returns-clause-stuck
returns-clause-stuck c = stuck_is_cut

pub returns-clause-slow : goal.returns-clause-slow
returns-clause-slow c = slow_with_room_is_complete

pub returns-clause-room : goal.returns-clause-room
returns-clause-room c = complete_had_room
