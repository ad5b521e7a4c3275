use Rattle.dl_client.specs.Program.{Filters}
use Rattle.dl_client.proofs.Accounts.{ends_at_once, logged_after, only_both, only_same}
use Rattle.dl_client.proofs.calls.log.Goals as goal

pub returns-then-is_filtered : goal.returns-then-is_filtered
returns-then-is_filtered c =
    let filtered = c.is_filtered.ensures.filtered c.if-is_filtered.true in
    (filtered.0, ends_at_once c.args.client.now c.is_filtered.new.client (Filters c.args.place filtered.0 c.args.call.now.severity) filtered.1)

pub returns : goal.returns
returns c = logged_after c.decide.result c.args.place c.args.call.now c.args.payload.now c.args.client.now c.tell_losses-told.new.client c.decide.new.client
    (only_both c.args.client.now c.is_filtered.new.client c.tell_losses-told.new.client
    (only_same c.args.client.now c.is_filtered.new.client (c.is_filtered.ensures.same c.if-is_filtered.false)) c.tell_losses-told.ensures.accounts)
    c.decide.ensures
