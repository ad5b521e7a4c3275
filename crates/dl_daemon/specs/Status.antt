-- What is said on standard error of each status.
use Rattle.std.specs.Prelude.{ℕ, List, codes}
use Rattle.dl_startup.specs.Status as startup
use Rattle.dl_startup.specs.declared.status.Status.{Status}
use Rattle.dl_startup.specs.declared.status.Status.TheVariants.{Ok, JournalFull}
use Rattle.dl_daemon.specs.declared.rounds.Stop.{Stop}
use Rattle.dl_daemon.specs.declared.rounds.Stop.TheVariants.{Asked, Spent}

-- the program's name
abbrev pub program : List ℕ
program = codes "dlt_daemon"

-- the words that it takes
abbrev pub usage : List ℕ
usage = codes "dlt_daemon [--conf NAME] [--port N] [--users N] [--status SECONDS]"

-- the line of a status
abbrev pub line_of : Status → List ℕ
line_of status = startup.line_of program usage status

-- the status of a daemon that closed, by why its rounds ended
abbrev pub status_of : Stop → Status
status_of Asked = Ok
status_of Spent = JournalFull
