-- The statuses of an account of traces: their numbers, and what is said of each.
use Rattle.std.specs.Prelude.{ℕ, Bool, true, false, List, [], ◌++◌, codes, Option, Some, None}
use Rattle.std.specs.Option.{option_map_or}
use Rattle.std.specs.Fmt.{decimal}
use Rattle.dl_outside.specs.declared.folder.FolderFault.{FolderFault}
use Rattle.dl_outside.specs.declared.folder.FolderFault.TheVariants as failed
use Rattle.dl_trace_why.specs.declared.status.Status.{Status}
use Rattle.dl_trace_why.specs.declared.status.Status.TheVariants.{Ok, BadMessage, NoFile, NoTrace, WriteFault, ReadFault, PictureFault, OutOfMemory}

-- the exit status
abbrev pub number : Status → ℕ
number Ok = 0
number (BadMessage file place) = 3
number (NoFile file) = 4
number NoTrace = 4
number WriteFault = 6
number ReadFault = 7
number PictureFault = 7
number OutOfMemory = 9

-- all went well
abbrev pub is_ok : Status → Bool
is_ok Ok = true
is_ok _ = false

-- the words of the line on standard error
abbrev pub words_of : Status → List ℕ
words_of Ok = []
words_of (BadMessage file place) = codes "bad message at byte "
words_of (NoFile file) = codes "no such file\n"
words_of NoTrace = codes "no trace file\n"
words_of WriteFault = codes "write fault\n"
words_of ReadFault = codes "read fault\n"
words_of PictureFault = codes "picture fault\n"
words_of OutOfMemory = codes "out of memory\n"

-- the file that it is about, where there is one
abbrev pub file_in : Status → Option (List ℕ)
file_in (BadMessage file place) = Some file
file_in (NoFile file) = Some file
file_in _ = None

abbrev pub file_words : List ℕ → List ℕ
file_words name = name ++ codes ": "

-- the place that it ends with, in bytes from 0
abbrev pub place_in : Status → Option ℕ
place_in (BadMessage file place) = Some place
place_in _ = None

-- the whole line
abbrev pub line_of : Status → List ℕ
line_of status =
    codes "dlt_why: " ++ option_map_or file_words (file_in status) [] ++ words_of status ++ option_map_or (λ n. decimal n ++ codes "\n") (place_in status) []

-- the status of a folder that could not be read
abbrev pub fault_status : FolderFault → Status
fault_status failed.Failed = ReadFault
fault_status failed.OutOfMemory = OutOfMemory
