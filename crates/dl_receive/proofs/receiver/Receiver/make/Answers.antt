use Rattle.dl_receive.proofs.Receivers.{made}
use Rattle.dl_receive.proofs.receiver.Receiver.make.Goals as goal

pub returns : goal.returns
returns c = made c.args.counting c.in_ok-make.field-0 c.new.result c.in_ok-make.ensures c.new.ensures.text c.new.ensures.keeps
