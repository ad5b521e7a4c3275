-- A server that is made of a configuration.
use Rattle.std.proofs.Common.{◌≡◌, ◌≤◌, ℕ, [], Option, Some, None, sym, subst, ◌∙◌, arith}
use Rattle.std.specs.Prelude.{IfSome}
use Rattle.dl_bytes.specs.declared.conf.Conf.{Conf}
use Rattle.dl_bytes.specs.Limits.{client_limit}
use Rattle.dl_bytes.specs.declared.conf.Stored.{Stored}
use Rattle.dl_core.specs.Follows.{Begins}
use Rattle.dl_core.specs.Settings as settings
use Rattle.dl_core.specs.State.{Core}
use Rattle.dl_events.specs.Journal.{Journaled}
use Rattle.dl_model.specs.declared.software.Software.{Software}
use Rattle.dl_model.specs.declared.software.Software.TheVariants.{Run}
use Rattle.dl_outside.specs.Folder.{Files}
use Rattle.dl_outside.specs.Told.{LinkTold}
use Rattle.dl_server.specs.Server as server
use Rattle.dl_server.specs.declared.server.Server.{Server}
use Rattle.dl_socket.specs.Channels.{Channels, channel_limit, none_opened, open_channel_limit}
use Rattle.dl_startup.specs.Setup.{IsBegun}
use Rattle.dl_trace.specs.Made.{IsMade}
use Rattle.dl_trace.specs.State.{Trace}
use Rattle.dl_serve.specs.declared.beginning.Begun.{Begun}
use Rattle.dl_serve.specs.declared.opened.Opened.{Opened}
use Rattle.dl_serve.specs.Open.{IsOpenedFor, setting}

-- what it is made of is known
pub made_so : {L : Type 0} (core core_known : Core) (journal journal_known : Journaled) (channels channels_known : Channels) (clients programs : ℕ) (s : Server Journaled L) → core ≡ core_known
    → journal ≡ journal_known → channels ≡ channels_known → server.IsMade core journal channels clients programs s → server.IsMade core_known journal_known channels_known clients programs s
made_so core core_known journal journal_known channels channels_known clients programs s core_is journal_is channels_are made = record {
  core_is = made.core_is ∙ core_is;
  journal_is = made.journal_is ∙ journal_is;
  channels_are = made.channels_are ∙ channels_are;
  no_client = made.no_client;
  listeners_are = made.listeners_are;
  no_program = made.no_program;
  no_end = made.no_end;
  none_dropped = made.none_dropped;
  clients_come = made.clients_come;
  programs_come = made.programs_come;
  unwanted = made.unwanted;
  all_shut = made.all_shut;
}

-- a trace that a configuration began is one of it
pub made_trace : (conf : Conf) (files : Option Files) (kept : Option Trace) → IsBegun conf files kept → IfSome kept (IsMade conf)
made_trace conf files None begun = tt
made_trace conf files (Some kept) begun = begun.1

module _ {L : Type 0} (told : L → LinkTold) (is_one : (software : Software) (conf : Conf) (stored : Stored) (first : ℕ) (trace : Option Trace) (journal : Journaled) (clients programs at_once in_all : ℕ) (s : Server Journaled L)
    → server.IsMade (settings.begun_for software conf stored first trace clients) journal (none_opened at_once in_all) clients programs s → in_all ≤ programs → server.IsServer told s) where
  -- a server of what was begun is opened for it
  pub opened_so : (begun : Begun) (opened : Opened L) (core : Core) (journal : Journaled) (channels : Channels) → core ≡ settings.begun begun.conf begun.stored 0 begun.trace → Begins (setting begun) begun.trace core
      → journal ≡ record { events = []; spare = 0 } → channels ≡ none_opened open_channel_limit channel_limit → server.IsMade core journal channels client_limit channel_limit opened.server
      → opened.conf ≡ begun.conf → opened.port ≡ begun.port → opened.users ≡ begun.users → opened.rounds ≡ begun.rounds → IsOpenedFor told begun opened
  opened_so begun opened core journal channels core_is begins journal_is channels_are made conf port users rounds =
      let first : Journaled = record { events = []; spare = 0 } in
      let made_of = made_so core (settings.begun begun.conf begun.stored 0 begun.trace) journal first channels (none_opened open_channel_limit channel_limit) client_limit channel_limit opened.server core_is journal_is
      channels_are made in record {
        conf = conf;
        port = port;
        users = users;
        rounds = rounds;
        made = made_of;
        is_server = is_one Run begun.conf begun.stored 0 begun.trace first client_limit channel_limit open_channel_limit channel_limit opened.server made_of (omega arith);
        begins = subst (Begins (setting begun) begun.trace) (sym made.core_is) begins;
      }
