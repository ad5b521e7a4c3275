-- A daemon that is made of what was begun.
use Rattle.std.proofs.Common.{◌≡◌, ◌≤◌, ℕ, [], Option, sym, subst, ◌∙◌, arith}
use Rattle.dl_bytes.specs.declared.conf.Conf.{Conf}
use Rattle.dl_bytes.specs.declared.conf.Stored.{Stored}
use Rattle.dl_core.specs.Follows.{Begins}
use Rattle.dl_core.specs.Settings.{begun_for}
use Rattle.dl_core.specs.State.{Core}
use Rattle.dl_model.specs.declared.software.Software.{Software}
use Rattle.dl_model.specs.declared.software.Software.TheVariants as software
use Rattle.dl_outside.specs.Told.{LinkTold}
use Rattle.dl_server.specs.Server as server
use Rattle.dl_server.specs.declared.server.Server.{Server}
use Rattle.dl_socket.specs.Channels.{Channels, none_opened}
use Rattle.dl_trace.specs.State.{Trace}
use Rattle.dl_events.specs.Told.{Told}
use Rattle.dl_serve.specs.declared.beginning.Begun.{Begun}
use Rattle.dl_daemon.specs.declared.limits.Limits.{Limits}
use Rattle.dl_daemon.specs.declared.opened.Opened.{Opened}
use Rattle.dl_daemon.specs.Open.{IsOpenedFor, setting}
use Rattle.dl_daemon.specs.Renewing.{untried}

-- what it is made of is known
made_so : {J L : Type 0} (core core_known : Core) (journal journal_known : J) (channels channels_known : Channels) (clients programs : ℕ) (s : Server J L) → core ≡ core_known
    → journal ≡ journal_known → channels ≡ channels_known → server.IsMade core journal channels clients programs s → server.IsMade core_known journal_known channels_known clients programs s
made_so core core_known journal journal_known channels channels_known clients programs s core_is journal_is channels_are made = record {
  core_is = made.core_is ∙ core_is;
  journal_is = made.journal_is ∙ journal_is;
  channels_are = made.channels_are ∙ channels_are;
  no_client = made.no_client;
  listeners_are = made.listeners_are;
  no_program = made.no_program;
  no_end = made.no_end;
  none_dropped = made.none_dropped;
  clients_come = made.clients_come;
  programs_come = made.programs_come;
  unwanted = made.unwanted;
  all_shut = made.all_shut;
}

module _ {L : Type 0} (told : L → LinkTold) (is_one : (program : Software) (conf : Conf) (stored : Stored) (first : ℕ) (trace : Option Trace) (journal : Told) (clients programs at_once in_all : ℕ) (s : Server Told L)
    → server.IsMade (begun_for program conf stored first trace clients) journal (none_opened at_once in_all) clients programs s → in_all ≤ programs → server.IsServer told s) where
  pub opened_so : (limits : Limits) (begun : Begun) (opened : Opened L) (core : Core) (journal : Told) (channels : Channels) → core ≡ begun_for software.Daemon begun.conf begun.stored 0 begun.trace limits.clients
      → Begins (setting limits begun) begun.trace core → journal ≡ record { events = []; noted = 0; spare = 0 } → channels ≡ none_opened limits.open_channels limits.channels
      → server.IsMade core journal channels limits.clients limits.channels opened.server → opened.port ≡ begun.port → opened.users ≡ begun.users
      → (opened.renewal.conf ≡ begun.conf) × (opened.renewal.tries ≡ untried) → IsOpenedFor told limits begun opened
  opened_so limits begun opened core journal channels core_is begins journal_is channels_are made port users renewal =
      let first : Told = record { events = []; noted = 0; spare = 0 } in
      let made_of = made_so core (begun_for software.Daemon begun.conf begun.stored 0 begun.trace limits.clients) journal first channels (none_opened limits.open_channels limits.channels) limits.clients limits.channels
      opened.server core_is journal_is channels_are made in record {
        port = port;
        users = users;
        conf = renewal.0;
        tries = renewal.1;
        made = made_of;
        is_server = is_one software.Daemon begun.conf begun.stored 0 begun.trace first limits.clients limits.channels limits.open_channels limits.channels opened.server made_of (omega arith);
        begins = subst (Begins (setting limits begun) begun.trace) (sym made.core_is) begins;
      }
