-- A daemon is made of what was begun.
use Rattle.std.specs.Prelude.{◌≡◌, []}
use Rattle.dl_core.specs.Follows.{Begins}
use Rattle.dl_core.specs.Settings.{begun_for, setting_for}
use Rattle.dl_model.specs.Setting.{Setting}
use Rattle.dl_model.specs.declared.software.Software.TheVariants as software
use Rattle.dl_outside.specs.Told.{LinkTold}
use Rattle.dl_serve.specs.declared.beginning.Begun.{Begun}
use Rattle.dl_server.specs.Server.{IsMade, IsServer}
use Rattle.dl_socket.specs.Channels.{none_opened}
use Rattle.dl_daemon.specs.declared.limits.Limits.{Limits}
use Rattle.dl_daemon.specs.declared.opened.Opened.{Opened}
use Rattle.dl_daemon.specs.Renewing.{untried}

-- what does not change while the daemon runs
abbrev pub setting : Limits → Begun → Setting
setting limits begun = setting_for software.Daemon begun.conf begun.stored 0 limits.clients

-- The daemon of what was begun: nobody came to it, nothing was noted, and in each run of this setting, over the trace files that its trace found, its
-- core stands for no event. Its trace was not tried to be begun anew. This is the word for what links tell.
pub record IsOpenedFor {L : Type 0} (link_told : L → LinkTold) (limits : Limits) (begun : Begun) (opened : Opened L) : Type 0 where
  pub port : opened.port ≡ begun.port
  pub users : opened.users ≡ begun.users
  pub conf : opened.renewal.conf ≡ begun.conf
  pub tries : opened.renewal.tries ≡ untried
  pub made : IsMade (begun_for software.Daemon begun.conf begun.stored 0 begun.trace limits.clients) (record { events = []; noted = 0; spare = 0 })
      (none_opened limits.open_channels limits.channels) limits.clients limits.channels opened.server
  pub is_server : IsServer link_told opened.server
  pub begins : Begins (setting limits begun) begun.trace opened.server.core
