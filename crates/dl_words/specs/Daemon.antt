-- What the words of `dlt_daemon` ask for.
use Rattle.std.specs.Prelude.{◌≡◌, ◌≢◌, ℕ, List, codes, Option, Some, Result, Ok, Err, option_map}
use Rattle.clap.specs.Faults.{fault_of}
use Rattle.clap.specs.Kinds.{IsAmong}
use Rattle.clap.specs.Walk.{Row, Text}
use Rattle.clap.specs.declared.error.kind.ErrorKind.{ErrorKind}
use Rattle.clap.specs.declared.error.kind.ErrorKind.TheVariants as kind
use Rattle.dl_words.specs.Command.{daemon_command}
use Rattle.dl_words.specs.Parse.{found_in, given_number, number_in, text_in}
use Rattle.dl_words.specs.declared.parse.ParseFault.{ParseFault}
use Rattle.dl_words.specs.declared.parse.ParseFault.TheVariants.{Help, Version, Refused, OutOfMemory}
use Rattle.dl_words.specs.declared.daemon.DaemonWords.{DaemonWords}

-- a configuration, a port for clients and one for programs that log, and after how many seconds the status is said again
pub record Daemon : Type 0 where
  pub conf : Text
  pub port : ℕ
  pub users : ℕ
  pub status : Option ℕ

-- the configuration is `dlt.conf`, and the ports are 3490 and 3491, where none is named
abbrev pub daemon_in : List Row → Daemon
daemon_in rows = record {
  conf = text_in (codes "conf") (codes "dlt.conf") rows;
  port = number_in (codes "port") 3490 rows;
  users = number_in (codes "users") 3491 rows;
  status = given_number (codes "status") rows;
}

-- What the words ask for, the program's name first; nothing where `clap` doesn't take them.
unfoldable pub daemon_of : List Text → Option Daemon
daemon_of words = option_map daemon_in (found_in daemon_command words)

-- what was read of the words, in these terms
abbrev pub daemon_said : DaemonWords → Daemon
daemon_said words = record { conf = words.conf.now; port = words.port; users = words.users; status = words.status }

-- It is what the words ask for; or `clap` answers them with help or with the version, or refuses them for another cause. Of want of
-- memory this says nothing.
abbrev pub SaysDaemon : List Text → Result DaemonWords ParseFault → Type 0
SaysDaemon words (Ok asked) = daemon_of words ≡ Some (daemon_said asked)
SaysDaemon words (Err Help) = IsAmong kind.DisplayHelp (fault_of daemon_command words)
SaysDaemon words (Err Version) = IsAmong kind.DisplayVersion (fault_of daemon_command words)
SaysDaemon words (Err Refused) = (cause : ErrorKind) × IsAmong cause (fault_of daemon_command words) × (cause ≢ kind.DisplayHelp) × (cause ≢ kind.DisplayVersion)
SaysDaemon words (Err OutOfMemory) = Unit {0}
