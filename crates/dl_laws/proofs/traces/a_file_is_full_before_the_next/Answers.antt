use Rattle.dl_model.proofs.Rotation.{next_had_no_room}
use Rattle.dl_laws.proofs.traces.a_file_is_full_before_the_next.Goals as goal

pub returns : goal.returns
returns c = next_had_no_room
