use Rattle.dl_laws.proofs.FramesBehind.{grows, grows_by_events}
use Rattle.dl_laws.proofs.stream_frames.what_is_put_tells_its_length.Goals as goal

pub returns-clause-traffic : goal.returns-clause-traffic
returns-clause-traffic c = grows

pub returns-clause-events : goal.returns-clause-events
returns-clause-events c = grows_by_events
