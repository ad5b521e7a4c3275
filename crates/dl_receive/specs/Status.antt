-- The statuses of a receiver: their numbers, and what is said of each.
use Rattle.std.specs.Prelude.{ℕ, List, [], codes}
use Rattle.dl_receive.specs.declared.status.Status.{Status}
use Rattle.dl_receive.specs.declared.status.Status.TheVariants.{Ok, WordsRefused, BadMessage, Truncated, WriteFault, NetFault, OutOfMemory, ReadFault, Limit}

-- the exit status
abbrev pub number : Status → ℕ
number Ok = 0
number WordsRefused = 2
number BadMessage = 3
number Truncated = 5
number WriteFault = 6
number NetFault = 8
number OutOfMemory = 9
number ReadFault = 11
number Limit = 12

-- the line on standard error
abbrev pub line_of : Status → List ℕ
line_of Ok = []
line_of WordsRefused = codes "dlt_receive: usage: dlt_receive PORT\n"
line_of BadMessage = codes "dlt_receive: bad message\n"
line_of Truncated = codes "dlt_receive: truncated\n"
line_of WriteFault = codes "dlt_receive: write fault\n"
line_of NetFault = codes "dlt_receive: net fault\n"
line_of OutOfMemory = codes "dlt_receive: out of memory\n"
line_of ReadFault = codes "dlt_receive: read fault\n"
line_of Limit = codes "dlt_receive: limit\n"
