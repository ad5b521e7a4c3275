-- One call of a writer: when it is refused, what its record tells, and what it leaves.
use Rattle.std.specs.Prelude.{◌≡◌, ℕ, ◌+◌, ◌%◌, ◌^◌, ◌==◌, Bool, not, List, [], ◌∷◌, ◌++◌, length, Option, Some, None, if◌then◌else◌}
use Rattle.std.specs.Option.{option_map}
use Rattle.dl_bytes.specs.Context.{Context, slot_of}
use Rattle.dl_bytes.specs.Level.{passes}
use Rattle.dl_bytes.specs.Payload.{Arguments}
use Rattle.dl_bytes.specs.declared.item.Item.{Item}
use Rattle.dl_bytes.specs.declared.item.Injection.{Injection}
use Rattle.dl_bytes.specs.declared.level.Severity.{Severity}
use Rattle.dl_events.specs.declared.record.Answer.{Answer}
use Rattle.dl_events.specs.declared.record.Answer.TheVariants as answer
use Rattle.dl_events.specs.declared.record.Record.{Record}
use Rattle.dl_model.specs.Report.{is_answer}
use Rattle.dl_ring.specs.Items.{calls_in}
use Rattle.dl_ring.specs.Order.{MetFull}
use Rattle.dl_ring.specs.declared.item.RingItem.{RingItem}
use Rattle.dl_ring.specs.declared.item.RingItem.TheVariants.{Log}
use Rattle.dl_cells.specs.declared.level_history.Read.{Read}
use Rattle.dl_cells.specs.LevelHistory.{read, NoneAbove}
use Rattle.dl_cells.specs.LevelStates.{ReaderState}
use Rattle.dl_writer.specs.declared.fault.LogFault.{LogFault}
use Rattle.dl_writer.specs.declared.fault.LogFault.TheVariants.{Foreign, Spent}
use Rattle.dl_writer.specs.declared.fault.BookFault.{BookFault}
use Rattle.dl_writer.specs.declared.fault.BookFault.TheVariants as book
use Rattle.dl_writer.specs.Faults.{book_fault}
use Rattle.dl_writer.specs.State.{WriterState, BookState}

-- ---- when a call is refused

-- A writer refuses a context of another application, and every call after 2^40.
abbrev pub call_fault : WriterState → Context → Option LogFault
call_fault w ctx = if ctx.app == w.app then (if w.calls == 2 ^ 40 then Some Spent else None) else Some Foreign

-- A book that has as many records as it has room for refuses first.
abbrev pub record_fault : BookState → Context → Option BookFault
record_fault b ctx = if length b.records == b.room then Some book.Full else option_map book_fault (call_fault b.writer ctx)

-- ---- what its record tells

-- how many calls of a writer passed their level: each was queued or lost
abbrev pub passed : WriterState → ℕ
passed w = length (calls_in w.push.pushed) + length w.losses.counted

-- The call as a message: it has the next number of its writer's calls, and its message counter is how many of the calls
-- before it passed, modulo 256.
abbrev pub item_of : WriterState → Context → Severity → ℕ → Arguments → Item
item_of w ctx severity at payload = record {
  app = w.app;
  writer = w.push.number;
  call = w.calls + 1;
  apid = ctx.apid;
  ctid = ctx.ctid;
  severity = severity;
  at = at;
  mcnt = passed w % 256;
  payload = payload;
}

-- What the record of a call tells: the message; a level of the context's slot, found at a version that no read of the
-- writer's before was above; that the call was filtered exactly where this level doesn't let its severity through; and
-- where it was lost, that its push met a full ring.
pub record Tells (w : WriterState) (ctx : Context) (severity : Severity) (at : ℕ) (payload : Arguments) (r : Record) : Type 0 where
  pub message : r.item ≡ item_of w ctx severity at payload
  pub place : r.slot ≡ slot_of ctx
  pub newest : NoneAbove r.slot r.version w.reader.reads
  pub filtered : is_answer answer.Filtered r.answer ≡ not (passes severity r.held)
  pub full : r.answer ≡ answer.Lost → MetFull w.push.capacity w.push.number w.push.pushed

-- ---- what it leaves

-- one more read
abbrev pub with_read : ReaderState → Read → ReaderState
with_read reader r = record reader { reads = reader.reads ++ r ∷ [] }

-- the one load that a record tells of
abbrev pub read_of : Record → Read
read_of r = read r.slot r.version r.held

-- a queued item was pushed
abbrev pub pushed_after : Answer → Item → List RingItem → List RingItem
pushed_after answer.Filtered item pushed = pushed
pushed_after answer.Queued item pushed = pushed ++ Log item ∷ []
pushed_after answer.Lost item pushed = pushed

-- a lost one was refused
abbrev pub refusals_after : Answer → ℕ → ℕ
refusals_after answer.Filtered refusals = refusals
refusals_after answer.Queued refusals = refusals
refusals_after answer.Lost refusals = refusals + 1

-- and counted, once
abbrev pub counted_after : Answer → Item → List ℕ → List ℕ
counted_after answer.Filtered item counted = counted
counted_after answer.Queued item counted = counted
counted_after answer.Lost item counted = counted ++ item.app ∷ []

-- what a call with this answer leaves of the ring and of the losses
abbrev pub answered : WriterState → Answer → Item → WriterState
answered w what item = record w {
  push = record w.push { pushed = pushed_after what item w.push.pushed; refusals = refusals_after what w.push.refusals };
  losses = record w.losses { counted = counted_after what item w.losses.counted };
}

-- What a call with this record leaves: one call more, one load, and what its answer says.
abbrev pub after : WriterState → Record → WriterState
after w r = record (answered w r.answer r.item) { calls = w.calls + 1; reader = with_read w.reader (read_of r) }

-- What a call with this answer leaves where no record is made of it: there is one that tells of it, and that is all it leaves.
pub record Sends (old : WriterState) (ctx : Context) (severity : Severity) (at : ℕ) (payload : Arguments) (what : Answer) (new : WriterState) : Type 0 where
  pub made : Record
  pub answer : made.answer ≡ what
  pub told : Tells old ctx severity at payload made
  pub left : new ≡ after old made

-- What a call leaves of a book: one record more, with the answer that the caller got, which tells of the call.
pub record Keeps (old : BookState) (ctx : Context) (severity : Severity) (at : ℕ) (payload : Arguments) (what : Answer) (new : BookState) : Type 0 where
  pub made : Record
  pub answer : made.answer ≡ what
  pub told : Tells old.writer ctx severity at payload made
  pub kept : new ≡ record old { writer = after old.writer made; records = old.records ++ made ∷ [] }

-- ---- a look at the level, which is no call

-- One load of the context's level at a version that no read before was above; the answer is whether that level lets the
-- severity through, and nothing else changes.
pub record LooksUp (old : WriterState) (ctx : Context) (severity : Severity) (answer : Bool) (new : WriterState) : Type 0 where
  pub version : ℕ
  pub level : ℕ
  pub newest : NoneAbove (slot_of ctx) version old.reader.reads
  pub loaded : new ≡ record old { reader = with_read old.reader (read (slot_of ctx) version level) }
  pub passing : answer ≡ passes severity level

-- ---- injections

-- how many injections a writer asked for: those that it was given, and the takes that found none
abbrev pub asked : WriterState → ℕ
asked w = length w.injections.taken + w.injections.empties

-- one more was taken, which was pushed under this number
abbrev pub with_injection : WriterState → ℕ → Injection → WriterState
with_injection w number injection = record w { injections = record w.injections { taken = w.injections.taken ++ (record { number = number; injection = injection }) ∷ [] } }

-- one more take found none
abbrev pub with_empty : WriterState → WriterState
with_empty w = record w { injections = record w.injections { empties = w.injections.empties + 1 } }
