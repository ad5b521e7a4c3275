use Rattle.dl_laws.proofs.Quiet.{quiet, quiet_events, not_yet, shut_after}
use Rattle.dl_laws.proofs.stream_frames.who_is_not_there_is_put_nothing.Goals as goal

pub returns-clause-traffic : goal.returns-clause-traffic
returns-clause-traffic c = quiet

pub returns-clause-events : goal.returns-clause-events
returns-clause-events c = quiet_events

pub returns-clause-after : goal.returns-clause-after
returns-clause-after c = shut_after

pub returns-clause-not_yet : goal.returns-clause-not_yet
returns-clause-not_yet c = not_yet
