-- What a daemon begins with, and why words begin none.
use Rattle.std.specs.Prelude.{◌≡◌, ℕ, List, Some, None, Result, Ok, Err}
use Rattle.dl_outside.specs.Told.{FolderTold}
use Rattle.dl_serve.specs.Begin.{IsStart}
use Rattle.dl_serve.specs.declared.beginning.Begun.{Begun}
use Rattle.dl_startup.specs.Configuration.{Unset}
use Rattle.dl_startup.specs.Unchanged.{IsQuiet}
use Rattle.dl_startup.specs.declared.status.Status.{Status}
use Rattle.dl_startup.specs.declared.status.Status.TheVariants.{WordsRefused, OutOfMemory}
use Rattle.dl_words.specs.Daemon.{Daemon, daemon_of, daemon_said}
use Rattle.dl_words.specs.Serve.{Serve}
use Rattle.dl_words.specs.declared.daemon.DaemonWords.{DaemonWords}
use Rattle.dl_words.specs.declared.parse.ParseFault.{ParseFault}
use Rattle.dl_words.specs.declared.parse.ParseFault.TheVariants as parse

-- what is asked for, as of a daemon that serves for a number of rounds: nobody asks for a number here
abbrev pub serving : Daemon → Serve
serving asked = record { conf = asked.conf; port = asked.port; users = asked.users; rounds = 0 }

-- what was begun: what the words ask for, and what the folder says
pub record Started (said : List (List ℕ)) (old : FolderTold) : Type 0 where
  pub asked : Daemon
  pub is_asked : daemon_of said ≡ Some asked
  pub begun : Begun
  pub between : FolderTold
  pub start : IsStart (serving asked) old between begun

-- Why words begin nothing: one line a status. They are refused, and the folder is not asked; or memory ran out; or what they ask for has no
-- configurations, or no trace.
abbrev pub Refuses : List (List ℕ) → FolderTold → FolderTold → Status → Type 0
Refuses words old new WordsRefused = (daemon_of words ≡ None) × (new ≡ old)
Refuses words old new OutOfMemory = IsQuiet old new
Refuses words old new status = (asked : Daemon) × (daemon_of words ≡ Some asked) × Unset asked.conf old new status

-- ---- for inner functions

-- what the words ask for
abbrev pub Asks : List (List ℕ) → Result DaemonWords Status → Type 0
Asks words (Ok asked) = daemon_of words ≡ Some (daemon_said asked)
Asks words (Err WordsRefused) = daemon_of words ≡ None
Asks words (Err OutOfMemory) = Unit {0}
Asks words (Err _) = ⊥

-- the status of words that ask for no daemon
abbrev pub refusal : ParseFault → Status
refusal parse.OutOfMemory = OutOfMemory
refusal _ = WordsRefused
