use Rattle.std.proofs.Common.{◌≡◌, ◌≤◌, ◌+◌, ◌++◌, ◌∷◌, [], nat_eq, sym, ap, subst, ◌∙◌}
use Rattle.indexmap.proofs.CallerLemmas.{insert_entry-new}
use Rattle.dl_channel.specs.State.{Outbox, empty}
use Rattle.dl_channel_turns.specs.State.{without}
use Rattle.dl_user.specs.Channel as cutter
use Rattle.dl_user.specs.Channel.{unfed}
use Rattle.dl_socket.specs.Channels.{Channels, Fits, with_channel}
use Rattle.dl_socket.specs.Messenger.{Messenger}
use Rattle.dl_socket.proofs.OpenChannels.{fits_with_channel, gone_again, next_has_sent_nothing, next_is_new}
use Rattle.dl_socket.proofs.channels.Channels.add.Goals as goal

pub invariant_of-self-in-Err : goal.invariant_of-self-in-Err
invariant_of-self-in-Err c =
    let next : c.args.channel ≡ c.self.inside.opened + 1 = c.requires.0 ∙ ap (λ (s : Channels). s.opened + 1) (sym c.self.view_is) in
    let out : c.remove.new.self.outboxes ≡ c.self.inside.messenger.outboxes = ap (λ (m : Messenger). m.outboxes) c.remove.ensures ∙ ap (λ (m : Messenger). without c.args.channel m.outboxes) c.in_ok-add.ensures.added
    ∙ gone_again c.args.channel c.self.inside.messenger.outboxes c.in_ok-outbox.outbox (next_is_new c.self.inside.messenger.outboxes c.self.inside.inboxes.entries c.self.inside.opened c.self.inside.at_once c.self.inside.in_all c.args.channel next c.self.invariant) in
    let ins : c.insert.new.self.entries ≡ c.self.inside.inboxes.entries = c.in-Err.ensures.err in
    subst Fits (λ i. record { outboxes = sym out i; inboxes = sym ins i; opened = c.self.inside.opened; at_once = c.self.inside.at_once; in_all = c.self.inside.in_all }) c.self.invariant

pub returns-in-Err-clause-kept : goal.returns-in-Err-clause-kept
returns-in-Err-clause-kept c =
    let next : c.args.channel ≡ c.self.inside.opened + 1 = c.requires.0 ∙ ap (λ (s : Channels). s.opened + 1) (sym c.self.view_is) in
    let out : c.remove.new.self.outboxes ≡ c.self.inside.messenger.outboxes = ap (λ (m : Messenger). m.outboxes) c.remove.ensures ∙ ap (λ (m : Messenger). without c.args.channel m.outboxes) c.in_ok-add.ensures.added
    ∙ gone_again c.args.channel c.self.inside.messenger.outboxes c.in_ok-outbox.outbox (next_is_new c.self.inside.messenger.outboxes c.self.inside.inboxes.entries c.self.inside.opened c.self.inside.at_once c.self.inside.in_all c.args.channel next c.self.invariant) in
    let ins : c.insert.new.self.entries ≡ c.self.inside.inboxes.entries = c.in-Err.ensures.err in
    (λ i. record { outboxes = out i; inboxes = ins i; opened = c.self.inside.opened; at_once = c.self.inside.at_once; in_all = c.self.inside.in_all }) ∙ c.self.view_is

pub invariant_of-self-2 : goal.invariant_of-self-2
invariant_of-self-2 c =
    let next : c.args.channel ≡ c.self.inside.opened + 1 = c.requires.0 ∙ ap (λ (s : Channels). s.opened + 1) (sym c.self.view_is) in
    let out : c.add.new.self.outboxes ≡ c.self.inside.messenger.outboxes ++ (c.args.channel, empty) ∷ [] = ap (λ (m : Messenger). m.outboxes) c.in_ok-add.ensures.added
    ∙ ap (λ (o : Outbox). c.self.inside.messenger.outboxes ++ (c.args.channel, o) ∷ []) c.in_ok-outbox.ensures in
    let ins : c.insert.new.self.entries ≡ c.self.inside.inboxes.entries ++ (c.args.channel, unfed) ∷ [] = c.in_default.ensures.entries ∙ insert_entry-new nat_eq c.self.inside.inboxes c.args.channel c.in_ok-inbox.inbox
    (next_has_sent_nothing c.self.inside.messenger.outboxes c.self.inside.inboxes.entries c.self.inside.opened c.self.inside.at_once c.self.inside.in_all c.args.channel next c.self.invariant) ∙ ap (λ (i : cutter.Channel). c.self.inside.inboxes.entries ++ (c.args.channel, i) ∷ []) c.in_ok-inbox.ensures in
    subst Fits (λ i. record { outboxes = sym out i; inboxes = sym ins i; opened = c.args.channel; at_once = c.self.inside.at_once; in_all = c.self.inside.in_all })
    (fits_with_channel c.self.inside.messenger.outboxes c.self.inside.inboxes.entries c.self.inside.opened c.self.inside.at_once c.self.inside.in_all c.args.channel next (subst (λ (s : Channels). c.args.channel ≤ s.in_all) (sym c.self.view_is) c.requires.1) c.self.invariant)

pub returns-clause-added : goal.returns-clause-added
returns-clause-added c =
    let next : c.args.channel ≡ c.self.inside.opened + 1 = c.requires.0 ∙ ap (λ (s : Channels). s.opened + 1) (sym c.self.view_is) in
    let out : c.add.new.self.outboxes ≡ c.self.inside.messenger.outboxes ++ (c.args.channel, empty) ∷ [] = ap (λ (m : Messenger). m.outboxes) c.in_ok-add.ensures.added
    ∙ ap (λ (o : Outbox). c.self.inside.messenger.outboxes ++ (c.args.channel, o) ∷ []) c.in_ok-outbox.ensures in
    let ins : c.insert.new.self.entries ≡ c.self.inside.inboxes.entries ++ (c.args.channel, unfed) ∷ [] = c.in_default.ensures.entries ∙ insert_entry-new nat_eq c.self.inside.inboxes c.args.channel c.in_ok-inbox.inbox
    (next_has_sent_nothing c.self.inside.messenger.outboxes c.self.inside.inboxes.entries c.self.inside.opened c.self.inside.at_once c.self.inside.in_all c.args.channel next c.self.invariant) ∙ ap (λ (i : cutter.Channel). c.self.inside.inboxes.entries ++ (c.args.channel, i) ∷ []) c.in_ok-inbox.ensures in
    (λ i. record { outboxes = out i; inboxes = ins i; opened = c.args.channel; at_once = c.self.inside.at_once; in_all = c.self.inside.in_all }) ∙ ap (with_channel c.args.channel) c.self.view_is
