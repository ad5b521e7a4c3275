-- A channel is open after its turn.
use Rattle.std.proofs.Common.{ℕ, Option, is_some, ap, ◌∙◌}
use Rattle.dl_bytes.specs.declared.moment.Moment.{Moment}
use Rattle.dl_channel.specs.declared.outcome.ChannelEnd.{ChannelEnd}
use Rattle.dl_socket.specs.Channels.{Channels, IsOpen, inbox_of}
use Rattle.dl_socket.specs.Turns.{HasTurned, ChannelView}
use Rattle.dl_socket.proofs.OpenChannels.{set_open}

pub open_after_turn : (channel : ℕ) (moment : Moment) (end : Option ChannelEnd) (before after : ChannelView) (old new : Channels) → HasTurned channel moment end before after old new → IsOpen channel old → IsOpen channel new
open_after_turn channel moment end before after old new turned open_so = ap (λ (c : Channels). is_some (inbox_of c.inboxes channel)) turned.is ∙ set_open channel channel old.inboxes turned.inbox_now ∙ open_so
