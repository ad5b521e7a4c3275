-- The statuses of the programs: their numbers, and what is said of each.
use Rattle.std.specs.Prelude.{ℕ, List, [], ◌∷◌, codes}
use Rattle.std.specs.List.{concat}
use Rattle.dl_startup.specs.Refusal.{conf_word, refusal_line, script_word, storage_word, stored_word}
use Rattle.dl_startup.specs.declared.status.Status.{Status}
use Rattle.dl_startup.specs.declared.status.Status.TheVariants.{Ok, WordsRefused, ConfRefused, StoredRefused, ScriptRefused, WriteFault, FolderFault, NetFault, OutOfMemory, NamesSpent, ReadFault, JournalFull, StorageRefused}

-- the exit status
abbrev pub number : Status → ℕ
number Ok = 0
number WordsRefused = 2
number (ConfRefused line kind) = 3
number (StoredRefused line kind) = 3
number (ScriptRefused line kind) = 4
number WriteFault = 6
number FolderFault = 7
number NetFault = 8
number OutOfMemory = 9
number NamesSpent = 10
number ReadFault = 11
number JournalFull = 12
number (StorageRefused line kind) = 13

-- what went wrong, in words, where the line names no line of a text
abbrev pub trouble : Status → List ℕ
trouble WriteFault = codes "write fault"
trouble FolderFault = codes "folder fault"
trouble NetFault = codes "net fault"
trouble OutOfMemory = codes "out of memory"
trouble NamesSpent = codes "trace names spent"
trouble ReadFault = codes "read fault"
trouble JournalFull = codes "journal full"
trouble _ = []

-- the line `PROGRAM: usage: USAGE`
abbrev pub usage_line : List ℕ → List ℕ → List ℕ
usage_line program usage = concat (program ∷ codes ": usage: " ∷ usage ∷ codes "\n" ∷ [])

-- the line `PROGRAM: TEXT`
abbrev pub short_line : List ℕ → List ℕ → List ℕ
short_line program text = concat (program ∷ codes ": " ∷ text ∷ codes "\n" ∷ [])

-- The line on standard error of a program of this name and this usage; none where all went well. A text that is refused is named, with
-- the number of its first line at fault and its kind.
unfoldable pub line_of : (program usage : List ℕ) → Status → List ℕ
line_of program usage Ok = []
line_of program usage WordsRefused = usage_line program usage
line_of program usage (ConfRefused line kind) = refusal_line program (codes "conf") line (conf_word kind)
line_of program usage (StoredRefused line kind) = refusal_line program (codes "stored") line (stored_word kind)
line_of program usage (ScriptRefused line kind) = refusal_line program (codes "script") line (script_word kind)
line_of program usage (StorageRefused line kind) = refusal_line program (codes "storage") line (storage_word kind)
line_of program usage status = short_line program (trouble status)
