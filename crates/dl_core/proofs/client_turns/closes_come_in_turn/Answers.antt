use Rattle.dl_core.proofs.InTurn.{close_at_reply, close_before_frames, other_close}
use Rattle.dl_core.proofs.client_turns.closes_come_in_turn.Goals as goal

pub returns-clause-not_slow : goal.returns-clause-not_slow
returns-clause-not_slow c = other_close

pub returns-clause-before_frames : goal.returns-clause-before_frames
returns-clause-before_frames c = close_before_frames

pub returns-clause-at_reply : goal.returns-clause-at_reply
returns-clause-at_reply c = close_at_reply
