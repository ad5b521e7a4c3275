use Rattle.dl_model.proofs.Rotation.{closed_longest, closed_room}
use Rattle.dl_laws.proofs.traces.trace_files_have_room.Goals as goal

pub returns-clause-room : goal.returns-clause-room
returns-clause-room c = closed_room

pub returns-clause-longest : goal.returns-clause-longest
returns-clause-longest c = closed_longest
