-- What the receiver stands for: the stream so far, and how much of its text was taken.
use Rattle.std.specs.Prelude.{◌≡◌, ℕ, ◌+◌, ◌-◌, ◌<◌, Bool, true, false, List, [], ◌++◌, length, map, Option, Some, None, IsSome}
use Rattle.std.specs.HashMap as hash
use Rattle.dl_bytes.specs.Cutting.{AreCut}
use Rattle.dl_message.specs.Cut.{IsOpen, rest_fault}
use Rattle.dl_message.specs.Cutting.{Begins}
use Rattle.dl_receive.specs.declared.counting.Counted.{Counted}
use Rattle.dl_receive.specs.declared.counting.Counting.{Counting}
use Rattle.dl_receive.specs.declared.counting.Entry.{Entry}
use Rattle.dl_receive.specs.declared.printer.Printer.{Printer}
use Rattle.dl_receive.specs.declared.receiver.Receiver.{Receiver}
use Rattle.dl_receive.specs.declared.status.Status.{Status}
use Rattle.dl_receive.specs.declared.status.Status.TheVariants.{BadMessage, WriteFault, OutOfMemory}
use Rattle.dl_receive.specs.Counting.{entry_of, same_counted}
use Rattle.dl_receive.specs.Program.{IsBad}
use Rattle.dl_outside.specs.Told.{SinkTold}
use Rattle.dl_outside.specs.Written.{WroteAll, WroteFront, WroteNothing}
use Rattle.dl_receive.specs.Text.{last_counter, text_of, len_limit, received}

-- the counter that a printer keeps of messages that are counted together
abbrev pub kept : Printer → Counted → Option ℕ
kept printer who = hash.get same_counted printer.counters who

-- the counters that a printer keeps are the last ones of these messages
abbrev pub Keeps : Printer → List Entry → Type 0
Keeps printer entries = (who : Counted) → kept printer who ≡ last_counter who entries

-- A receiver that took this stream, and counts so: it printed the messages with which the stream begins, and holds what stands behind
-- them. What was shown of its text, and the lines that were not taken yet, are their text.
pub record IsAfter (counting : Counting) (stream shown : List ℕ) (receiver : Receiver) : Type 0 where
  pub given : List (List ℕ)
  pub counts : receiver.counting ≡ counting
  pub limit : receiver.cutter.limit ≡ len_limit
  pub cut : AreCut (Begins len_limit) stream given receiver.cutter.unread
  pub keeps : Keeps receiver.printer (map (entry_of counting) given)
  pub text : shown ++ receiver.printer.text.items ≡ text_of (map (entry_of counting) given)

-- what is unread may yet become a message, and there is room for what is missing
pub record IsReady (receiver : Receiver) : Type 0 where
  pub limit : receiver.cutter.limit ≡ len_limit
  pub is_open : IsOpen len_limit receiver.cutter.unread
  pub room : receiver.cutter.room ≡ len_limit + 4 - length receiver.cutter.unread
  pub more : 0 < receiver.cutter.room

-- whether more may come: what is unread is open, or it is bad
abbrev pub Stands : Bool → Receiver → Type 0
Stands true receiver = IsReady receiver
Stands false receiver = IsSome (rest_fault len_limit receiver.cutter.unread)

-- between two pieces: the text of the stream so far was shown, and more may come
pub record IsAt (counting : Counting) (stream : List ℕ) (receiver : Receiver) : Type 0 where
  pub after : IsAfter counting stream (received counting stream) receiver
  pub ready : IsReady receiver
  pub shown : receiver.printer.text.items ≡ []

-- what is left once a piece of the stream was taken: its lines are there, and more may come, or it is bad
abbrev pub Took : Bool → Counting → List ℕ → List ℕ → Receiver → Type 0
Took true counting stream shown receiver = IsAfter counting stream shown receiver × IsReady receiver
Took false counting stream shown receiver = IsBad stream × (shown ++ receiver.printer.text.items ≡ received counting stream)

-- What became of a piece of the stream, which showed these lines more: more may come, or it is bad, or the output failed
-- or there was no memory.
abbrev pub Heard : Counting → List ℕ → List ℕ → SinkTold → SinkTold → Receiver → Option Status → Type 0
Heard counting stream more old new receiver None = IsAt counting stream receiver × WroteAll old new more
Heard counting stream more old new receiver (Some BadMessage) = IsBad stream × WroteAll old new more
Heard counting stream more old new receiver (Some WriteFault) = WroteFront old new more
Heard counting stream more old new receiver (Some OutOfMemory) = WroteNothing old new
Heard counting stream more old new receiver (Some _) = ⊥

-- what became of a piece behind a stream, whatever lines it showed
abbrev pub Hears : Counting → List ℕ → List ℕ → SinkTold → SinkTold → Receiver → Option Status → Type 0
Hears counting stream piece old new receiver heard =
    (more : List ℕ) × (received counting (stream ++ piece) ≡ received counting stream ++ more) × Heard counting (stream ++ piece) more old new receiver heard
