-- What listening to a source comes to.
use Rattle.std.specs.Prelude.{◌≡◌, ℕ, ◌^◌, ◌≤◌, List, [], length, Option, Some, IfSome}
use Rattle.dl_outside.specs.Outside.{HasRisen}
use Rattle.dl_receive.specs.declared.counting.Counting.{Counting}
use Rattle.dl_receive.specs.declared.receiver.Receiver.{Receiver}
use Rattle.dl_receive.specs.declared.status.Status.{Status}
use Rattle.dl_receive.specs.declared.status.Status.TheVariants.{Ok, WordsRefused, BadMessage, Truncated, WriteFault, NetFault, OutOfMemory, ReadFault, Limit}
use Rattle.dl_receive.specs.Program.{IsBad, IsGood, IsTruncated, IsWhole, WroteSome}
use Rattle.dl_receive.specs.Receiving.{IsAt}
use Rattle.dl_outside.specs.Told.{SinkTold, SourceTold}
use Rattle.dl_outside.specs.Written.{WroteAll, WroteFront}
use Rattle.dl_receive.specs.Streams.{Gave}
use Rattle.dl_receive.specs.Text.{received}

-- what a source and an output tell
pub record Sides : Type 0 where
  pub source : SourceTold
  pub out : SinkTold

-- both
abbrev pub sides : SourceTold → SinkTold → Sides
sides source out = record { source = source; out = out }

-- the source did not fail
abbrev pub ReadsOn : Sides → Sides → Type 0
ReadsOn old new = new.source.faults ≡ old.source.faults

-- the source gave this stream, and its text was written
abbrev pub Printed : Counting → Sides → Sides → List ℕ → Type 0
Printed counting old new stream = Gave old.source.left new.source.left stream × WroteAll old.out new.out (received counting stream)

-- the source gave this stream and did not fail, and a front of its text was written; the output did not fail
abbrev pub CutShort : Counting → Sides → Sides → List ℕ → Type 0
CutShort counting old new stream = Gave old.source.left new.source.left stream × ReadsOn old new × WroteSome old.out new.out (received counting stream)

-- the source has nothing left
abbrev pub ReadUp : Sides → Sides → Type 0
ReadUp old new = IfSome old.source.left (λ all. new.source.left ≡ Some [])

-- what each status says: how the stream ends that the source gave, that its text was written, and what failed
abbrev pub Listened : Counting → Sides → Sides → Status → Type 0
Listened counting old new Ok = (stream : List ℕ) × Printed counting old new stream × IsWhole stream × ReadUp old new × ReadsOn old new
Listened counting old new BadMessage = (stream : List ℕ) × Printed counting old new stream × IsBad stream × ReadsOn old new
Listened counting old new Truncated = (stream : List ℕ) × Printed counting old new stream × IsTruncated stream × ReadUp old new × ReadsOn old new
Listened counting old new WriteFault =
    (stream : List ℕ) × Gave old.source.left new.source.left stream × ReadsOn old new × WroteFront old.out new.out (received counting stream)
Listened counting old new OutOfMemory = (stream : List ℕ) × CutShort counting old new stream
Listened counting old new ReadFault = (stream : List ℕ) × Printed counting old new stream × IsGood stream × HasRisen old.source.faults new.source.faults
Listened counting old new Limit = (stream : List ℕ) × Printed counting old new stream × IsGood stream × (2 ^ 40 ≤ length stream) × ReadsOn old new
Listened counting old new WordsRefused = ⊥
Listened counting old new NetFault = ⊥

-- Between two reads: the source gave this stream, so many bytes of it, and its text is written.
pub record IsListening (counting : Counting) (old new : Sides) (total : ℕ) (receiver : Receiver) : Type 0 where
  pub stream : List ℕ
  pub printed : Printed counting old new stream
  pub at : IsAt counting stream receiver
  pub count : length stream ≡ total
  pub reads_on : ReadsOn old new
