use Rattle.dl_client.specs.Account.{overflow}
use Rattle.dl_client.specs.Area.{held}
use Rattle.dl_client.specs.Message.{message, user_log}
use Rattle.dl_client.proofs.Fields.{one_more}
use Rattle.dl_client.proofs.account.push_both.Goals as goal

pub returns-clause-held : goal.returns-clause-held
returns-clause-held c = one_more (held c.args.queue.now)
    (user_log (message c.args.sender.now c.args.source.now c.args.call.now c.args.payload.now)) (overflow c.args.context.now)
    (held c.push_message.new.queue) (held c.push_overflow.new.queue) c.push_message.ensures.held c.push_overflow.ensures.held
