use Rattle.std.proofs.Common.{sym, ◌∙◌}
use Rattle.dl_message.specs.Parts.{message_of}
use Rattle.dl_receive.proofs.Fields.{counter_read}
use Rattle.dl_receive.proofs.counting.counter_at.Goals as goal

pub returns : goal.returns
returns c = c.counter_in.ensures ∙ sym (counter_read (message_of c.in-Ok.parts c.args.message.now) c.args.message.now c.in-Ok.ensures.message)
