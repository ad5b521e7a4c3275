-- What the program's calls come to, over what they hand back.
use Rattle.std.specs.Prelude.{◌≡◌, ℕ, List, Option, map, option_map, string_bytes, String}
use Rattle.dl_outside.specs.Told.{DialTold, SinkTold, SourceTold}
use Rattle.dl_receive.specs.declared.counting.Counting.{Counting}
use Rattle.dl_receive.specs.declared.program.Ended.{Ended}
use Rattle.dl_receive.specs.declared.program.Received.{Received}
use Rattle.dl_receive.specs.declared.status.Status.{Status}
use Rattle.dl_receive.specs.Program.{Asked, IsRun, Told, told}
use Rattle.dl_receive.specs.Status.{number}
use Rattle.dl_receive.specs.Words.{asked_port}

-- what is done with a port, seen by what a source tells
abbrev pub Asks : {S : Type 0} → Counting → Option ℕ → (S → SourceTold) → Told → Told → Ended S → Type 0
Asks counting port tells old new ended = Asked counting port old new (option_map tells ended.source) ended.status

-- the same with the port that the words name, if they do
abbrev pub AskedFor : {S Z : Type 0} → Counting → List (String Z) → (S → SourceTold) → Told → Told → Ended S → Type 0
AskedFor counting words tells old new ended = Asks counting (asked_port (map string_bytes words)) tells old new ended

-- what a run comes to, with its status by its name
abbrev pub Runs : {S Z : Type 0} → Counting → List (String Z) → (S → SourceTold) → (dial dial_now : DialTold) → (out out_now err err_now : SinkTold) → Ended S → Type 0
Runs counting words tells dial dial_now out out_now err err_now ended =
    IsRun counting (map string_bytes words) (told dial out) (told dial_now out_now) (option_map tells ended.source) err err_now ended.status

-- what a run of the program comes to: what messages are counted by, the words, what a source tells, what dial, output and standard error told before and after, and what
-- is handed back
abbrev pub Receives : {S Z : Type 0} → Counting → List (String Z) → (S → SourceTold) → (dial dial_now : DialTold) → (out out_now err err_now : SinkTold) → Received S → Type 0
Receives counting words tells dial dial_now out out_now err err_now received =
    (status : Status) × (received.status ≡ number status)
    × IsRun counting (map string_bytes words) (told dial out) (told dial_now out_now) (option_map tells received.source) err err_now status
