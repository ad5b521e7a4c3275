-- What the program promises of each status.
use Rattle.std.specs.Prelude.{◌≡◌, ◌≢◌, ℕ, ◌^◌, ◌≤◌, ◌⊎◌, List, [], length, Option, Some, None, IfSome, IsSome, option_map}
use Rattle.dl_outside.specs.Outside.{HasRisen}
use Rattle.dl_message.specs.Cut.{rest_of, rest_fault}
use Rattle.dl_receive.specs.declared.counting.Counting.{Counting}
use Rattle.dl_receive.specs.declared.status.Status.{Status}
use Rattle.dl_receive.specs.declared.status.Status.TheVariants.{Ok, WordsRefused, BadMessage, Truncated, WriteFault, NetFault, OutOfMemory, ReadFault, Limit}
use Rattle.dl_receive.specs.Status.{line_of}
use Rattle.dl_outside.specs.Told.{DialTold, SinkTold, SourceTold}
use Rattle.dl_outside.specs.Written.{TookFront, Wrote, WroteAll, WroteFront, WroteNothing}
use Rattle.dl_receive.specs.Streams.{Gave}
use Rattle.dl_receive.specs.Text.{len_limit, received}
use Rattle.dl_receive.specs.Words.{asked_port}

-- ---- how a stream ends

-- the rest of its cut: what stands behind its messages
unfoldable pub stream_rest : List ℕ → List ℕ
stream_rest stream = rest_of len_limit stream

-- it ends after a whole message, or has no byte
abbrev pub IsWhole : List ℕ → Type 0
IsWhole stream = stream_rest stream ≡ []

-- behind its messages no message begins, whatever follows
abbrev pub IsBad : List ℕ → Type 0
IsBad stream = IsSome (rest_fault len_limit (stream_rest stream))

-- behind its messages stands nothing, or the beginning of one that may yet become whole
abbrev pub IsGood : List ℕ → Type 0
IsGood stream = rest_fault len_limit (stream_rest stream) ≡ None

-- it ends within a message
abbrev pub IsTruncated : List ℕ → Type 0
IsTruncated stream = IsGood stream × (stream_rest stream ≢ [])

-- ---- what a run leaves

-- what the dial and the output tell
pub record Told : Type 0 where
  pub dial : DialTold
  pub out : SinkTold

-- both
abbrev pub told : DialTold → SinkTold → Told
told dial out = record { dial = dial; out = out }

-- what a port serves, where that is told
abbrev pub served : ℕ → DialTold → Option (List ℕ)
served port dial = option_map (λ all. all port) dial.serves

-- the dial did not fail
abbrev pub DialsWell : Told → Told → Type 0
DialsWell old new = new.dial.faults ≡ old.dial.faults

-- a front of a text was written, and the output did not fail
pub record WroteSome (old new : SinkTold) (text : List ℕ) : Type 0 where
  pub front : TookFront old.held new.held text
  pub well : new.faults ≡ old.faults

-- What is left of a source that had all that its port serves and had not failed, once it gave these bytes; it is handed
-- back. After a read fault its count of faults has risen.
pub record Gives (serves : Option (List ℕ)) (source : Option SourceTold) (given : List ℕ) : Type 0 where
  pub back : SourceTold
  pub handed_back : source ≡ Some back
  pub gave : Gave serves back.left given

-- the source gave these bytes and did not fail
abbrev pub ReadsWell : Option (List ℕ) → Option SourceTold → List ℕ → Type 0
ReadsWell serves source given = (gives : Gives serves source given) × (gives.back.faults ≡ 0)

-- the same, and it was read to its end, where it tells what is left
abbrev pub ReadsUp : Option (List ℕ) → Option SourceTold → List ℕ → Type 0
ReadsUp serves source given = (gives : Gives serves source given) × (gives.back.faults ≡ 0) × IfSome serves (λ all. gives.back.left ≡ Some [])

-- it gave these bytes, and then it failed
abbrev pub FailsToRead : Option (List ℕ) → Option SourceTold → List ℕ → Type 0
FailsToRead serves source given = (gives : Gives serves source given) × HasRisen 0 gives.back.faults

-- the text of what the source gave was written whole
abbrev pub IsPrinted : Counting → Told → Told → List ℕ → Type 0
IsPrinted counting old new given = WroteAll old.out new.out (received counting given)

-- What each status says, with messages counted so, of a port that serves these bytes, where that is told: how the bytes that came from there end,
-- that their text was written, and what failed.
abbrev pub Outcome : Counting → Option (List ℕ) → Told → Told → Option SourceTold → Status → Type 0
Outcome counting serves old new source Ok =
    DialsWell old new × ((given : List ℕ) × ReadsUp serves source given × IsPrinted counting old new given × IsWhole given)
Outcome counting serves old new source WordsRefused = ⊥
Outcome counting serves old new source BadMessage =
    DialsWell old new × ((given : List ℕ) × ReadsWell serves source given × IsPrinted counting old new given × IsBad given)
Outcome counting serves old new source Truncated =
    DialsWell old new × ((given : List ℕ) × ReadsUp serves source given × IsPrinted counting old new given × IsTruncated given)
Outcome counting serves old new source WriteFault =
    DialsWell old new × ((given : List ℕ) × ReadsWell serves source given × WroteFront old.out new.out (received counting given))
Outcome counting serves old new source NetFault = HasRisen old.dial.faults new.dial.faults × (source ≡ None) × WroteNothing old.out new.out
Outcome counting serves old new source OutOfMemory = DialsWell old new
    × (((source ≡ None) × WroteNothing old.out new.out)
    ⊎ ((given : List ℕ) × ReadsWell serves source given × WroteSome old.out new.out (received counting given)))
Outcome counting serves old new source ReadFault =
    DialsWell old new × ((given : List ℕ) × FailsToRead serves source given × IsPrinted counting old new given × IsGood given)
Outcome counting serves old new source Limit =
    DialsWell old new × ((given : List ℕ) × ReadsWell serves source given × IsPrinted counting old new given × IsGood given × (2 ^ 40 ≤ length given))

-- What is done with a port that the words name, and without one: then nothing is dialled and nothing is written.
abbrev pub Asked : Counting → Option ℕ → Told → Told → Option SourceTold → Status → Type 0
Asked counting None old new source status = (status ≡ WordsRefused) × (source ≡ None) × (new ≡ old)
Asked counting (Some port) old new source status = Outcome counting (served port old.dial) old new source status

-- What a run of the program comes to: the words, what dial and output told before and after, what the source that is handed back tells,
-- what standard error told before and after, and the status.
pub record IsRun (counting : Counting) (words : List (List ℕ)) (old new : Told) (source : Option SourceTold) (err err_now : SinkTold) (status : Status) : Type 0 where
  -- the words decide first, and then what comes from the port that they name
  pub asked : Asked counting (asked_port words) old new source status
  -- nothing is said where all went well
  pub silent : status ≡ Ok → WroteNothing err err_now
  -- else the status's line, whole; or a front of it, where standard error failed
  pub said : status ≢ Ok → Wrote err err_now (line_of status)
