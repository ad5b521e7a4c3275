use Rattle.std.proofs.Common.{◌≡◌, nat_eq, sym, ap, subst, ◌∙◌}
use Rattle.std.specs.Map.{lookup}
use Rattle.dl_apps.proofs.Entries.{removed_is_filter}
use Rattle.dl_channel_turns.specs.State.{side, without}
use Rattle.dl_socket.specs.Channels.{Channels, Fits, without_inbox}
use Rattle.dl_socket.specs.Closing.{HasUnregistered}
use Rattle.dl_socket.specs.Messenger.{Messenger}
use Rattle.dl_socket.proofs.OpenChannels.{fits_with_outboxes, fits_without}
use Rattle.dl_socket.proofs.Unregistered.{unregistered_open}
use Rattle.dl_socket.proofs.channels.Channels.close.Goals as goal

pub invariant_of-self : goal.invariant_of-self
invariant_of-self g c = fits_with_outboxes c.self.inside.messenger.outboxes c.self.inside.inboxes.entries c.self.inside.opened c.self.inside.at_once c.self.inside.in_all c.unregister_all.new.messenger.outboxes c.self.invariant
    (unregistered_open c.args.channel c.args.moment _ _ c.unregister_all.ensures.unregistered)

pub invariant_of-self-2 : goal.invariant_of-self-2
invariant_of-self-2 g c =
    let out : c.remove.new.self.outboxes ≡ without c.args.channel c.unregister_all.new.messenger.outboxes = ap (λ (m : Messenger). m.outboxes) c.remove.ensures in
    let ins : c.shift_remove.new.self.entries ≡ without_inbox c.args.channel c.self.inside.inboxes.entries = c.shift_remove.ensures.entries
    ∙ removed_is_filter (nat_eq c.args.channel) c.self.inside.inboxes.entries (ap (lookup (nat_eq c.args.channel)) (sym c.shift_remove.ensures.entries) ∙ c.shift_remove.ensures.updates.1) in
    subst Fits (λ i. record { outboxes = sym out i; inboxes = sym ins i; opened = c.self.inside.opened; at_once = c.self.inside.at_once; in_all = c.self.inside.in_all })
    (fits_without c.self.inside.messenger.outboxes c.self.inside.inboxes.entries c.self.inside.opened c.self.inside.at_once c.self.inside.in_all c.unregister_all.new.messenger.outboxes c.args.channel c.self.invariant
    (unregistered_open c.args.channel c.args.moment _ _ c.unregister_all.ensures.unregistered))

pub returns-clause-closed : goal.returns-clause-closed
returns-clause-closed g c =
    let out : c.remove.new.self.outboxes ≡ without c.args.channel c.unregister_all.new.messenger.outboxes = ap (λ (m : Messenger). m.outboxes) c.remove.ensures in
    let ins : c.shift_remove.new.self.entries ≡ without_inbox c.args.channel c.self.inside.inboxes.entries = c.shift_remove.ensures.entries
    ∙ removed_is_filter (nat_eq c.args.channel) c.self.inside.inboxes.entries (ap (lookup (nat_eq c.args.channel)) (sym c.shift_remove.ensures.entries) ∙ c.shift_remove.ensures.updates.1) in
    record {
      outboxes = c.unregister_all.new.messenger.outboxes;
      unregistered = subst (λ (s : Channels). HasUnregistered c.args.channel c.args.moment (side c.args.core.now s.outboxes (g.J.Journal.events c.args.journal.now) (g.F.Folder.told c.args.folder.now))
          (side c.unregister_all.new.core c.unregister_all.new.messenger.outboxes (g.J.Journal.events c.unregister_all.new.journal) (g.F.Folder.told c.unregister_all.new.folder))) c.self.view_is c.unregister_all.ensures.unregistered;
      none_left = c.in_ok-unregister_all.ensures.none_left;
      is = (λ i. record { outboxes = out i; inboxes = ins i; opened = c.self.inside.opened; at_once = c.self.inside.at_once; in_all = c.self.inside.in_all })
          ∙ ap (λ (s : Channels). record s { outboxes = without c.args.channel c.unregister_all.new.messenger.outboxes; inboxes = without_inbox c.args.channel s.inboxes }) c.self.view_is;
    }
