use Rattle.dl_receive.proofs.Receivers.{cleared}
use Rattle.dl_receive.proofs.receiver.Receiver.clear.Goals as goal

pub returns : goal.returns
returns c = λ counting stream shown after ready. cleared counting stream shown c.args.self.now c.clear.new.self c.clear.ensures.counters c.clear.ensures.text after ready
