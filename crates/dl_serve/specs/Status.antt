-- What is said on standard error of each status.
use Rattle.std.specs.Prelude.{ℕ, List, codes}
use Rattle.dl_startup.specs.Status as startup
use Rattle.dl_startup.specs.declared.status.Status.{Status}

-- the program's name
abbrev pub program : List ℕ
program = codes "dlt_run"

-- the words that it takes to serve
abbrev pub usage : List ℕ
usage = codes "dlt_run --serve [--conf NAME] [--port N] [--users N] [--rounds N]"

-- the line of a status
abbrev pub line_of : Status → List ℕ
line_of status = startup.line_of program usage status
