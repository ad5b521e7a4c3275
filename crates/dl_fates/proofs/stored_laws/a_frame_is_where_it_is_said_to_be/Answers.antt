use Rattle.dl_fates.proofs.Standing.{is_so}
use Rattle.dl_fates.proofs.stored_laws.a_frame_is_where_it_is_said_to_be.Goals as goal

pub returns : goal.returns
returns c = λ size max_size old before after frame. is_so size max_size old before frame after
