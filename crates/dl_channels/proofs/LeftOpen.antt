-- Which channels are open behind a visit to one.
use Rattle.std.proofs.Common.{◌≡◌, ◌⊎◌, inl, inr, ℕ, Bool, true, false, List, Option, Some, None, refl, sym, ap, subst, ◌∙◌}
use Rattle.std.specs.Prelude.{nat_eq}
use Rattle.std.proofs.lemmas.Map.{keys-set_value}
use Rattle.dl_bytes.specs.declared.moment.Moment.{Moment}
use Rattle.dl_channel.specs.declared.outcome.ChannelEnd.{ChannelEnd}
use Rattle.dl_socket.specs.Channels.{Channels, open_in}
use Rattle.dl_socket.specs.Closing.{HasBegunToClose, HasClosed}
use Rattle.dl_socket.specs.Turns.{HasPumped, HasTurned, ChannelView}
use Rattle.dl_channels.specs.Visits.{Ends, EndsFor, Hears, Pumps, side_of}
use Rattle.dl_channels.proofs.Behind.{keys_filter, others_than}

-- All that were open are, or all but this one. None has come.
pub record Leaves (channel : ℕ) (old new : Channels) : Type 0 where
  pub left : (open_in new ≡ open_in old) ⊎ (open_in new ≡ others_than channel (open_in old))
  pub opened : new.opened ≡ old.opened
  pub in_all : new.in_all ≡ old.in_all

same_leaves : (channel : ℕ) (old new : Channels) → open_in new ≡ open_in old → new.opened ≡ old.opened → new.in_all ≡ old.in_all → Leaves channel old new
same_leaves channel old new same opened in_all = record { left = inl same; opened = opened; in_all = in_all }

stands : (channel : ℕ) (old new : Channels) → new ≡ old → Leaves channel old new
stands channel old new same = same_leaves channel old new (ap (λ (c : Channels). open_in c) same) (ap (λ (c : Channels). c.opened) same) (ap (λ (c : Channels). c.in_all) same)

-- first one that leaves all, and then one more
then_leaves : (channel : ℕ) (old between new : Channels) → open_in between ≡ open_in old → between.opened ≡ old.opened → between.in_all ≡ old.in_all → Leaves channel between new → Leaves channel old new
then_leaves channel old between new first opened in_all last = record {
  left = elim last.left [ inl same ↦ inl (same ∙ first) | inr gone ↦ inr (gone ∙ ap (others_than channel) first) ];
  opened = last.opened ∙ opened;
  in_all = last.in_all ∙ in_all;
}

pub ended_leaves : (channel : ℕ) (moment : Moment) (closed : Bool) (before after : ChannelView) (old new : Channels) → Ends channel moment closed before after old new → Leaves channel old new
ended_leaves channel moment true before after old new ends =
    let is = ends.closes.is in record {
      left = inr (ap (λ (c : Channels). open_in c) is ∙ keys_filter channel old.inboxes);
      opened = ap (λ (c : Channels). c.opened) is;
      in_all = ap (λ (c : Channels). c.in_all) is;
    }
ended_leaves channel moment false before after old new ends =
    let is = ends.closes.is in same_leaves channel old new (ap (λ (c : Channels). open_in c) is) (ap (λ (c : Channels). c.opened) is) (ap (λ (c : Channels). c.in_all) is)

-- where it was closed, it is gone
pub closed_gone : (channel : ℕ) (moment : Moment) (before after : ChannelView) (old new : Channels) → Ends channel moment true before after old new → open_in new ≡ others_than channel (open_in old)
closed_gone channel moment before after old new ends = ap (λ (c : Channels). open_in c) ends.closes.is ∙ keys_filter channel old.inboxes

for_leaves : (end : Option ChannelEnd) (channel : ℕ) (moment : Moment) (before after : ChannelView) (old new : Channels) → EndsFor end channel moment before after old new → Leaves channel old new
for_leaves None channel moment before after old new same = stands channel old new same.1
for_leaves (Some end) channel moment before after old new ends = ended_leaves channel moment ends.0 before after old new ends.1

turned_leaves : (channel : ℕ) (moment : Moment) (end : Option ChannelEnd) (before between after : ChannelView) (old turned new : Channels) → HasTurned channel moment end before between old turned
    → EndsFor end channel moment between after turned new → Leaves channel old new
turned_leaves channel moment end before between after old turned new has ends =
    then_leaves channel old turned new (ap (λ (c : Channels). open_in c) has.is ∙ keys-set_value (nat_eq channel) old.inboxes has.inbox_now) (ap (λ (c : Channels). c.opened) has.is) (ap (λ (c : Channels). c.in_all) has.is)
    (for_leaves end channel moment between after turned new ends)

pub heard_leaves : (channel : ℕ) (moment : Moment) (end end_now : Option ChannelEnd) (before after : ChannelView) (old new : Channels) → Hears channel moment end end_now before after old new → Leaves channel old new
heard_leaves channel moment None end_now before after old new hears = elim hears [
  | inl turned ↦ turned_leaves channel moment end_now before turned.0 after old turned.1 new turned.2 turned.3
  | inr full ↦ stands channel old new full.3
]
heard_leaves channel moment (Some cause) end_now before after old new hears = ended_leaves channel moment hears.1 before after old new hears.2

pub pumped_leaves : (channel : ℕ) (moment : Moment) (end end_now : Option ChannelEnd) (before after : ChannelView) (old new : Channels) → Pumps channel moment end end_now before after old new → Leaves channel old new
pumped_leaves channel moment None end_now before after old new pumps =
    let is = pumps.2.is in
    then_leaves channel old pumps.1 new (ap (λ (c : Channels). open_in c) is) (ap (λ (c : Channels). c.opened) is) (ap (λ (c : Channels). c.in_all) is)
    (for_leaves end_now channel moment pumps.0 after pumps.1 new pumps.4)
pumped_leaves channel moment (Some cause) end_now before after old new pumps = stands channel old new pumps.2
