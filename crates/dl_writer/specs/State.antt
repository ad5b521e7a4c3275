-- What contracts see of a writer and of a book.
use Rattle.std.specs.Prelude.{◌≡◌, ℕ, List, [], length, map}
use Rattle.dl_bytes.specs.Claim.{Claimed}
use Rattle.dl_events.specs.declared.record.Record.{Record}
use Rattle.dl_ring.specs.Items.{claims_in}
use Rattle.dl_ring.specs.State.{PushState}
use Rattle.dl_cells.specs.LevelStates.{ReaderState}
use Rattle.dl_cells.specs.LossStates as losses
use Rattle.dl_ring.specs.InjectionState.{TakeState}
use Rattle.dl_writer.specs.declared.writer.Owner.{Owner}
use Rattle.dl_writer.specs.declared.writer.WriterHandles.{WriterHandles}

-- A writer: its application's number; how many calls it made; its application's id, and how many contexts the application had
-- when the writer was made; the claims that wait for the ring, in order; how many `register` calls it answered but for those
-- that were refused by their arguments, and how many of these with a full table; and its handles of the ring, of the level
-- words, of the loss words and of the queue of injections, which show what it pushed, read, claimed, counted and took. Its
-- number is that of its push.
pub record WriterState : Type 0 where
  pub app : ℕ
  pub calls : ℕ
  pub apid : List ℕ
  pub base : ℕ
  pub waiting : List Claimed
  pub registers : ℕ
  pub table_full : ℕ
  pub push : PushState
  pub reader : ReaderState
  pub losses : losses.WriterState
  pub injections : TakeState

-- a writer of this application with these handles, which has done nothing yet
abbrev pub new_writer : Owner → WriterHandles → WriterState
new_writer owner handles = record {
  app = owner.app;
  calls = 0;
  apid = owner.apid;
  base = owner.base;
  waiting = [];
  registers = 0;
  table_full = 0;
  push = handles.push;
  reader = handles.reader;
  losses = handles.losses;
  injections = handles.injections;
}

-- a book: its writer, for how many records it has room, the records of the calls that were made through it, in order, and the
-- claims that the ring took of its writer through it, in order
pub record BookState : Type 0 where
  pub writer : WriterState
  pub room : ℕ
  pub records : List Record
  pub claims : List Claimed

-- a book is whole where it has a record of every call of its writer, and every claim that the ring took of it
abbrev pub IsWhole : BookState → Type 0
IsWhole b = (length b.records ≡ b.writer.calls) × (length b.claims ≡ length (claims_in b.writer.push.pushed))

-- the numbers of the books' writers
abbrev pub numbers : List BookState → List ℕ
numbers books = map (λ b. b.writer.push.number) books
