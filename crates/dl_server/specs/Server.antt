-- What is true of a server between any two calls.
use Rattle.std.specs.Prelude.{◌≡◌, ℕ, ◌≤◌, false, None, [], length, map, replicate}
use Rattle.dl_bytes.specs.Limits.{admitted_limit}
use Rattle.dl_core.specs.State.{Core}
use Rattle.dl_outside.specs.Links.{Links}
use Rattle.dl_outside.specs.Told.{LinkTold}
use Rattle.dl_registry.specs.Kept.{owed_change}
use Rattle.dl_rounds.specs.Partings.{AreShut}
use Rattle.dl_rounds.specs.Ready.{fresh_listener}
use Rattle.dl_channels.specs.Accepting.{AreLinked}
use Rattle.dl_socket.specs.Channels.{Channels}
use Rattle.dl_socket.specs.Listening.{HaveListeners}
use Rattle.dl_server.specs.declared.server.Server.{Server}

-- Each client that came has a link, and there is room for those of all that may come. No Level event is owed.
pub record HaveLinks {L : Type 0} (links : Links L) (core : Core) : Type 0 where
  pub many : length core.hub.clients ≡ length links.links
  pub few : length core.hub.clients ≤ core.hub.limit
  pub place : core.hub.limit ≤ links.room
  pub settled : owed_change core.registry ≡ None

-- Clients have their links and listeners, channels their links; there is room for why each channel that may come ends; and no more frames were
-- admitted than may be. The links of clients that are gone are shut, unless it is noted that one may not be. This is the word for what links tell.
pub record IsServer {J L : Type 0} (told : L → LinkTold) (s : Server J L) : Type 0 where
  pub linked : HaveLinks s.clients s.core
  pub heard : HaveListeners s.seats s.core
  pub programs : AreLinked s.programs s.channels
  pub given : s.channels.opened ≤ s.channels.in_all
  pub enough : s.channels.in_all ≤ length s.ends.items
  pub few : s.core.hub.admitted ≤ admitted_limit
  pub shut : s.unshut ≡ false → AreShut s.core.hub (map told s.clients.links)

-- as many clients and channels may come as before
pub record SameLimits {J L : Type 0} (old new : Server J L) : Type 0 where
  pub clients : new.core.hub.limit ≡ old.core.hub.limit
  pub channels : new.channels.in_all ≡ old.channels.in_all

-- A server that was just made, of this core, this journal and these channels: nobody came, and nothing has ended.
pub record IsMade {J L : Type 0} (core : Core) (journal : J) (channels : Channels) (clients programs : ℕ) (s : Server J L) : Type 0 where
  pub core_is : s.core ≡ core
  pub journal_is : s.journal ≡ journal
  pub channels_are : s.channels ≡ channels
  pub no_client : s.clients ≡ record { links = []; room = clients }
  pub listeners_are : s.seats.listeners ≡ replicate clients fresh_listener
  pub no_program : s.programs ≡ record { links = []; room = programs }
  pub no_end : s.ends.items ≡ replicate programs None
  pub none_dropped : s.dropped ≡ 0
  pub clients_come : s.no_clients ≡ false
  pub programs_come : s.no_programs ≡ false
  pub unwanted : s.wanted ≡ false
  pub all_shut : s.unshut ≡ false
