use Rattle.dl_runs.proofs.OneCall.{frames_now, frames_later, frame_of_pushed, frame_of_taken}
use Rattle.dl_runs.proofs.call_frames.calls_have_their_frames.Goals as goal

pub returns-clause-now : goal.returns-clause-now
returns-clause-now c = frames_now

pub returns-clause-later : goal.returns-clause-later
returns-clause-later c = frames_later

pub returns-clause-pushed : goal.returns-clause-pushed
returns-clause-pushed c = frame_of_pushed

pub returns-clause-taken : goal.returns-clause-taken
returns-clause-taken c = frame_of_taken
