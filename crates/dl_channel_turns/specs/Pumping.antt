-- What a pump of a channel comes to.
use Rattle.std.specs.Prelude.{◌≡◌, ℕ, List, Option, Some}
use Rattle.dl_outside.specs.Told.{LinkTold}
use Rattle.dl_channel.specs.Pumping.{IsPump}
use Rattle.dl_channel.specs.State.{Outbox}
use Rattle.dl_channel.specs.declared.outcome.ChannelEnd.{ChannelEnd}
use Rattle.dl_channel_turns.specs.State.{changed, outbox_of}

-- What waits for one channel was sent, and no other channel has changed.
pub record PumpsOne (channel : ℕ) (end : Option ChannelEnd) (old new : List (ℕ × Outbox)) (link link_now : LinkTold) : Type 0 where
  pub outbox : Outbox
  pub outbox_now : Outbox
  pub was : outbox_of old channel ≡ Some outbox
  pub pumps : IsPump end outbox outbox_now link link_now
  pub is : new ≡ changed channel (λ waits. outbox_now) old
