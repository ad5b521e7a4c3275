-- The fields of a book, and what is true of them.
use Rattle.std.specs.Prelude.{◌≤◌, length, take, vec_len}
use Rattle.dl_ring.specs.Items.{claims_in}
use Rattle.dl_writer.specs.declared.book.Book.TheInside as book
use Rattle.dl_writer.specs.State.{BookState, IsWhole}
use Rattle.dl_writer.specs.Records.{TellAll}

-- its room is filled with records, of which the first ones are kept
abbrev pub book_state : book.Inside → BookState
book_state b = record { writer = b.writer; room = vec_len b.records; records = take b.kept b.records.items; claims = b.claims }

-- there is room for the records that are kept, no more claims are kept than the ring took, and where the book is whole it tells
-- all that the writer did
pub record IsBook (b : book.Inside) : Type 0 where
  pub fits : b.kept ≤ vec_len b.records
  pub taken : length b.claims ≤ length (claims_in b.writer.push.pushed)
  pub told : IsWhole (book_state b) → TellAll b.writer (take b.kept b.records.items) b.claims
