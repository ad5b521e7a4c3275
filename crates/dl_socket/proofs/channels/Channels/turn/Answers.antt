use Rattle.std.proofs.Common.{rules, ◌≡◌, ℕ, List, nat_eq, sym, subst}
use Rattle.std.specs.Map.{set_value}
use Rattle.dl_user.specs.Channel as cutter
use Rattle.dl_socket.specs.Channels.{Fits}
use Rattle.dl_socket.proofs.OpenChannels.{fits_with_inbox, turn_open}
use Rattle.dl_socket.proofs.channels.Channels.turn.Goals as goal

pub invariant_of-self : goal.invariant_of-self
invariant_of-self g c =
    let is : (c.get_mut.follows.lender c.hear.new.inbox).entries ≡ set_value (nat_eq c.args.channel) c.self.inside.inboxes.entries c.hear.new.inbox = search rules in
    subst (λ (es : List (ℕ × cutter.Channel)). Fits (record { outboxes = c.hear.new.self.outboxes; inboxes = es; opened = c.self.inside.opened; at_once = c.self.inside.at_once; in_all = c.self.inside.in_all })) (sym is)
    (fits_with_inbox c.self.inside.messenger.outboxes c.self.inside.inboxes.entries c.self.inside.opened c.self.inside.at_once c.self.inside.in_all c.hear.new.self.outboxes c.args.channel c.hear.new.inbox
    c.self.invariant (turn_open c.args.channel c.args.moment _ _ _ c.hear.ensures.turn))
