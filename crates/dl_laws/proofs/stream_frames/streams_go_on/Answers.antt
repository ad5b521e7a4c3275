use Rattle.dl_model.specs.ClientStream.{put}
use Rattle.dl_model.proofs.Lists.{along-one}
use Rattle.dl_laws.proofs.FramesBehind.{sent-append, traffic-append}
use Rattle.dl_laws.proofs.stream_frames.streams_go_on.Goals as goal

pub returns-clause-one : goal.returns-clause-one
returns-clause-one c = λ ecu buffer client. along-one (put ecu buffer client)

pub returns-clause-more : goal.returns-clause-more
returns-clause-more c = sent-append

pub returns-clause-events : goal.returns-clause-events
returns-clause-events c = traffic-append
