-- What comes of an accept of a program outside.
use Rattle.std.specs.Prelude.{◌≡◌, ℕ, ◌+◌, ◌-◌, ◌^◌, ◌≤◌, min, [], ◌∷◌, ◌++◌, length, IfSome}
use Rattle.dl_outside.specs.Links.{Links}
use Rattle.dl_outside.specs.Outside.{HasRisen, Stays}
use Rattle.dl_outside.specs.Told.{LinkTold, NetTold}
use Rattle.dl_rounds.specs.Arrivals.{Takes}
use Rattle.dl_socket.specs.Channels.{Channels, Opens, Refuses}
use Rattle.dl_socket.specs.declared.fault.ChannelFault.{ChannelFault}
use Rattle.dl_socket.specs.declared.fault.ChannelFault.TheVariants as fault
use Rattle.dl_channels.specs.declared.accepting.Entry.{Entry}
use Rattle.dl_channels.specs.declared.accepting.Entry.TheVariants as entry

-- Each channel that came has a link, and there is room for those of all that may come.
pub record AreLinked {L : Type 0} (links : Links L) (channels : Channels) : Type 0 where
  pub many : channels.opened ≡ length links.links
  pub place : channels.in_all ≤ links.room

-- what becomes of a link for which no channel opens
abbrev pub entry_of : ChannelFault → Entry
entry_of fault.Spent = entry.Dropped
entry_of fault.Full = entry.Dropped
entry_of fault.OutOfMemory = entry.Unopened

-- A link was taken, and was dropped, since no channel opens for it.
abbrev pub Drops : {L : Type 0} → (L → LinkTold) → Entry → NetTold L → NetTold L → Links L → Links L → ℕ → ℕ → Channels → Channels → Type 0
Drops {L} told answer net net_now links links_now dropped dropped_now channels channels_now =
    (link : L) × Takes told net net_now link × (links_now ≡ links) × (dropped_now ≡ min (dropped + 1) (2 ^ 32 - 1)) × (channels_now ≡ channels)
    × (fault : ChannelFault) × (answer ≡ entry_of fault) × Refuses fault channels

-- What an accept made of the net, the links, the count of links that were dropped, and the channels: the oldest connection is the link of the channel
-- that opened, or was dropped; no connection waits; or the net failed, its count of faults risen. Want of memory says nothing else.
abbrev pub Enters : {L : Type 0} → (L → LinkTold) → Entry → NetTold L → NetTold L → Links L → Links L → ℕ → ℕ → Channels → Channels → Type 0
Enters {L} told (entry.Channel number) net net_now links links_now dropped dropped_now channels channels_now =
    (link : L) × Takes told net net_now link × (links_now ≡ record { links = links.links ++ link ∷ []; room = links.room }) × (dropped_now ≡ dropped)
    × Opens number channels channels_now
Enters told entry.Dropped net net_now links links_now dropped dropped_now channels channels_now =
    Drops told entry.Dropped net net_now links links_now dropped dropped_now channels channels_now
Enters told entry.Unopened net net_now links links_now dropped dropped_now channels channels_now =
    Drops told entry.Unopened net net_now links links_now dropped dropped_now channels channels_now
Enters told entry.Nobody net net_now links links_now dropped dropped_now channels channels_now =
    IfSome net.waiting (λ waiting. waiting ≡ []) × Stays net.waiting net_now.waiting × (net_now.faults ≡ net.faults)
    × (links_now ≡ links) × (dropped_now ≡ dropped) × (channels_now ≡ channels)
Enters told entry.Failed net net_now links links_now dropped dropped_now channels channels_now =
    HasRisen net.faults net_now.faults × Stays net.waiting net_now.waiting × (links_now ≡ links) × (dropped_now ≡ dropped) × (channels_now ≡ channels)
Enters told entry.OutOfMemory net net_now links links_now dropped dropped_now channels channels_now =
    (net_now.faults ≡ net.faults) × Stays net.waiting net_now.waiting × (links_now ≡ links) × (dropped_now ≡ dropped) × (channels_now ≡ channels)
