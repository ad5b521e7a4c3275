use Rattle.std.proofs.Common.{◌∙◌}
use Rattle.dl_socket.proofs.OpenChannels.{changed_open, fits_with_outboxes, same_open}
use Rattle.dl_socket.proofs.channels.Channels.pump.Goals as goal

pub invariant_of-self : goal.invariant_of-self
invariant_of-self g c = fits_with_outboxes c.self.inside.messenger.outboxes c.self.inside.inboxes.entries c.self.inside.opened c.self.inside.at_once c.self.inside.in_all _ c.self.invariant
    (λ other. same_open _ _ c.pump.ensures.pumps.is other ∙ changed_open c.args.channel _ c.self.inside.messenger.outboxes other)
