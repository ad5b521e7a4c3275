-- A server is made, and the nets listen.
use Rattle.std.specs.Prelude.{◌≡◌, ◌⊎◌, ℕ, [], Some, IfSome, Result, Ok, Err}
use Rattle.dl_bytes.specs.Limits.{client_limit}
use Rattle.dl_core.specs.Follows.{Begins}
use Rattle.dl_core.specs.Settings as settings
use Rattle.dl_model.specs.Setting.{Setting}
use Rattle.dl_outside.specs.Outside.{HasRisen, Stays}
use Rattle.dl_outside.specs.Told.{LinkTold, NetTold}
use Rattle.dl_outside.specs.declared.net.NetFault.{NetFault as net_fault}
use Rattle.dl_outside.specs.declared.net.NetFault.TheVariants as fault
use Rattle.dl_server.specs.Server.{IsMade, IsServer}
use Rattle.dl_socket.specs.Channels.{channel_limit, none_opened, open_channel_limit}
use Rattle.dl_startup.specs.declared.status.Status.{Status}
use Rattle.dl_startup.specs.declared.status.Status.TheVariants.{NetFault, OutOfMemory}
use Rattle.dl_serve.specs.declared.beginning.Begun.{Begun}
use Rattle.dl_serve.specs.declared.opened.Opened.{Opened}

-- what does not change while serving
abbrev pub setting : Begun → Setting
setting begun = settings.setting_of begun.conf begun.stored 0

-- The server of what was begun: nobody came to it, and in each run of this setting, over the trace files that its trace found, its core stands for no
-- event. This is the word for what links tell.
pub record IsOpenedFor {L : Type 0} (link_told : L → LinkTold) (begun : Begun) (opened : Opened L) : Type 0 where
  pub conf : opened.conf ≡ begun.conf
  pub port : opened.port ≡ begun.port
  pub users : opened.users ≡ begun.users
  pub rounds : opened.rounds ≡ begun.rounds
  pub made : IsMade (settings.begun begun.conf begun.stored 0 begun.trace) (record { events = []; spare = 0 }) (none_opened open_channel_limit channel_limit)
      client_limit channel_limit opened.server
  pub is_server : IsServer link_told opened.server
  pub begins : Begins (setting begun) begun.trace opened.server.core

-- a net listens on this port now, and nothing else has changed of it
pub record IsHeard {L : Type 0} (port : ℕ) (old new : NetTold L) : Type 0 where
  pub listens : IfSome old.listens_on (λ _. new.listens_on ≡ Some (Some port))
  pub launched : Stays old.launched new.launched
  pub waiting : Stays old.waiting new.waiting
  pub faults : new.faults ≡ old.faults

-- A net that told at first whether it listens does listen on this port.
abbrev pub Listens : {L : Type 0} → ℕ → NetTold L → NetTold L → Type 0
Listens port first now = IfSome first.listens_on (λ _. now.listens_on ≡ Some (Some port))

-- a net failed to listen, and listens where it did
pub record HasNotListened {L : Type 0} (old new : NetTold L) : Type 0 where
  pub rose : HasRisen old.faults new.faults
  pub stays : Stays old.listens_on new.listens_on

-- a net listens on a port, or it failed to, or memory was wanting
abbrev pub ListensOn : {L : Type 0} → ℕ → NetTold L → NetTold L → Result (Unit {0}) Status → Type 0
ListensOn port old new (Ok _) = IsHeard port old new
ListensOn port old new (Err NetFault) = HasNotListened old new
ListensOn port old new (Err OutOfMemory) = Unit {0}
ListensOn port old new (Err _) = ⊥

-- Both nets listen, each on its port; or one of them failed to: that of the clients, or, once that listened, that of the programs; or memory was
-- wanting.
abbrev pub Listen : {L : Type 0} → ℕ → ℕ → NetTold L → NetTold L → NetTold L → NetTold L → Result (Unit {0}) Status → Type 0
Listen port user_port net net_now users users_now (Ok _) = IsHeard port net net_now × IsHeard user_port users users_now
Listen port user_port net net_now users users_now (Err NetFault) =
    (HasNotListened net net_now × (users_now ≡ users)) ⊎ (IsHeard port net net_now × HasNotListened users users_now)
Listen port user_port net net_now users users_now (Err OutOfMemory) = Unit {0}
Listen port user_port net net_now users users_now (Err _) = ⊥

-- the status of a net that did not listen
abbrev pub refused : net_fault → Status
refused fault.Failed = NetFault
refused fault.OutOfMemory = OutOfMemory
