-- What a client's turn tells the programs outside.
use Rattle.std.specs.Prelude.{◌≡◌, List}
use Rattle.std.specs.List.{filter_map}
use Rattle.dl_core.specs.Admission.{AddsEach}
use Rattle.dl_events.specs.declared.event.Event.{Event}
use Rattle.dl_turns.specs.Later.{level_in}
use Rattle.dl_socket.specs.Channels.{Channels}
use Rattle.dl_socket.specs.Turns.{ChannelView, told_each}

-- These events were noted, and their levels are put, in order, each for the program that has the context.
pub record IsTold (before after : ChannelView) (old new : Channels) : Type 0 where
  pub more : List Event
  pub events : AddsEach before.events after.events more
  pub outboxes : new.outboxes ≡ told_each before.core.registry.registry (filter_map level_in more) old.outboxes
