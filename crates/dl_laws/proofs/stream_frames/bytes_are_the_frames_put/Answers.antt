use Rattle.dl_laws.proofs.FramesBehind.{put_behind, put_by_events}
use Rattle.dl_laws.proofs.stream_frames.bytes_are_the_frames_put.Goals as goal

pub returns-clause-traffic : goal.returns-clause-traffic
returns-clause-traffic c = put_behind

pub returns-clause-events : goal.returns-clause-events
returns-clause-events c = put_by_events
