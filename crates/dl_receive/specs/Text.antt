-- The text that a receiver prints of a stream.
use Rattle.std.specs.Prelude.{ℕ, ◌+◌, ◌-◌, ◌%◌, ◌==◌, List, [], ◌∷◌, ◌++◌, map, codes, Option, Some, None, if◌then◌else◌}
use Rattle.std.specs.Option.{option_and_then, option_or, option_map_or}
use Rattle.std.specs.Fmt.{decimal}
use Rattle.dl_text.specs.IdText.{id_text}
use Rattle.dl_message.specs.Cut.{messages}
use Rattle.dl_model.specs.Along.{along}
use Rattle.dl_receive.specs.declared.counting.Counted.{Counted}
use Rattle.dl_receive.specs.declared.counting.Counter.{Counter}
use Rattle.dl_receive.specs.declared.counting.Counting.{Counting}
use Rattle.dl_receive.specs.declared.counting.Entry.{Entry}
use Rattle.dl_receive.specs.declared.kind.Kind.{Kind}
use Rattle.dl_receive.specs.declared.kind.Kind.TheVariants.{Log, Overflow, Other}
use Rattle.dl_receive.specs.Counting.{entry_of, same_counted}

-- ---- what is missing

-- the message counter of a message that is counted with these
abbrev pub counter_for : Counted → Entry → Option ℕ
counter_for who entry = option_and_then (λ c. if same_counted c.counted who then Some c.mcnt else None) entry.counter

-- the counter of the last message that is counted with these
abbrev pub last_counter : Counted → List Entry → Option ℕ
last_counter who [] = None
last_counter who (entry ∷ entries) = option_or (last_counter who entries) (counter_for who entry)

-- how many counters were passed over from one message to the next that is counted with it: counters have one byte
abbrev pub passed_over : ℕ → ℕ → ℕ
passed_over last mcnt = (mcnt + 255 - last) % 256

-- the gap before a message with a counter, after these messages; there is none before the first that is counted so
abbrev pub gap : List Entry → Counter → ℕ
gap before counter = option_map_or (λ last. passed_over last counter.mcnt) (last_counter counter.counted before) 0

-- ---- lines

-- the application and the context, each behind a blank
abbrev pub names : (apid ctid : List ℕ) → List ℕ
names apid ctid = codes " " ++ id_text apid ++ codes " " ++ id_text ctid

abbrev pub log_line : (seid mcnt : ℕ) → (apid ctid : List ℕ) → ℕ → List ℕ
log_line seid mcnt apid ctid len =
    codes "log " ++ decimal seid ++ codes " " ++ decimal mcnt ++ names apid ctid ++ codes " " ++ decimal len ++ codes "\n"

abbrev pub overflow_line : List ℕ → ℕ → List ℕ
overflow_line apid counter = codes "overflow " ++ id_text apid ++ codes " " ++ decimal counter ++ codes "\n"

abbrev pub other_line : ℕ → List ℕ
other_line len = codes "other " ++ decimal len ++ codes "\n"

-- the line of a gap, where there is one
abbrev pub gap_line : ℕ → ℕ → List ℕ
gap_line session missing =
    if missing == 0 then [] else codes "gap " ++ decimal session ++ codes " " ++ decimal missing ++ codes "\n"

-- the line of the gap before a message, where it takes a counter and there is one
abbrev pub gap_before : List Entry → Option Counter → List ℕ
gap_before before counter = option_map_or (λ c. gap_line c.counted.seid (gap before c)) counter []

-- the line of a message
abbrev pub kind_line : Kind → List ℕ
kind_line (Log seid mcnt apid ctid len) = log_line seid mcnt apid ctid len
kind_line (Overflow apid counter) = overflow_line apid counter
kind_line (Other len) = other_line len

-- the lines of a message, after those before it
abbrev pub lines_of : List Entry → Entry → List ℕ
lines_of before entry = gap_before before entry.counter ++ kind_line entry.kind

-- the text of messages
unfoldable pub text_of : List Entry → List ℕ
text_of entries = along lines_of entries

-- ---- a stream

-- the greatest LEN, which has two bytes
abbrev pub len_limit : ℕ
len_limit = 65535

-- the text of a stream is that of the messages of its one cut
unfoldable pub received : Counting → List ℕ → List ℕ
received counting stream = text_of (map (entry_of counting) (messages len_limit stream))
