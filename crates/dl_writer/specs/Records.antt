-- What the records and the claims of a whole book tell of its writer.
use Rattle.std.specs.Prelude.{◌≡◌, ℕ, ◌-◌, ◌≤◌, List, length, map, not, Some, slice_get, All, Contains}
use Rattle.dl_bytes.specs.Claim.{Claimed}
use Rattle.dl_bytes.specs.Level.{passes}
use Rattle.dl_events.specs.declared.event.Event.{Event}
use Rattle.dl_events.specs.declared.record.Record.{Record}
use Rattle.dl_events.specs.declared.record.Answer.TheVariants as answer
use Rattle.dl_model.specs.Report.{is_answer}
use Rattle.dl_model.specs.Accounts.{with_answer, AreNumbered, AreCounted, NeverFall}
use Rattle.dl_model.specs.History.{history}
use Rattle.dl_cells.specs.declared.level_history.Read.{Read}
use Rattle.dl_ring.specs.Items.{calls_in, claims_in}
use Rattle.dl_writer.specs.Calls.{read_of}
use Rattle.dl_writer.specs.State.{WriterState}

-- the record is of this writer's, by application and number
abbrev pub IsOf : WriterState → Record → Type 0
IsOf w r = (r.item.app ≡ w.app) × (r.item.writer ≡ w.push.number)

-- The records tell all that their writer did: calls numbered from 1, each filtered exactly where the level that its load
-- found doesn't let it through, message counters that count the calls which passed, versions that never fall; what was
-- queued are the calls that were pushed, in order, and what was lost was counted, each once, and met a full ring each. The
-- claims are those that were pushed, in order.
pub record TellAll (w : WriterState) (records : List Record) (claims : List Claimed) : Type 0 where
  pub own : All (IsOf w) records
  pub numbered : AreNumbered records
  pub counted : AreCounted 0 records
  pub filtered : All (λ r. is_answer answer.Filtered r.answer ≡ not (passes r.item.severity r.held)) records
  pub loaded : All (λ r. Contains w.reader.reads (read_of r)) records
  pub never_fall : NeverFall records
  pub queued : calls_in w.push.pushed ≡ map (λ r. r.item) (with_answer answer.Queued records)
  pub claimed : claims_in w.push.pushed ≡ claims
  pub lost : w.losses.counted ≡ map (λ r. r.item.app) (with_answer answer.Lost records)
  pub refused : length (with_answer answer.Lost records) ≤ w.push.refusals

-- the level that was read is the one that the journal gave the slot at that version
abbrev pub IsHeld : ℕ → List Event → Read → Type 0
IsHeld first events q = (first ≤ q.version) × (slice_get (history events q.slot) (q.version - first) ≡ Some q.level)
