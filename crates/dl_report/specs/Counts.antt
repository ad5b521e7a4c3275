-- What is counted of each application, and what is kept of each client that went.
use Rattle.std.specs.Prelude.{◌≡◌, ℕ, ◌≤◌, ◌+◌, ◌*◌, ◌==◌, List, [], ◌∷◌, ◌++◌, filter, length, slice_get, Option, Some, None, if◌then◌else◌, zero, suc}
use Rattle.std.specs.Option.{option_map_or}
use Rattle.dl_bytes.specs.declared.outcome.LinkEnd.{LinkEnd}
use Rattle.dl_events.specs.declared.event.Event.{Event}
use Rattle.dl_events.specs.declared.event.Event.TheVariants as event
use Rattle.dl_events.specs.declared.event.Why.{Why}
use Rattle.dl_events.specs.declared.record.Record.{Record}
use Rattle.dl_events.specs.declared.record.Answer.{Answer}
use Rattle.dl_events.specs.declared.record.Answer.TheVariants as answer
use Rattle.dl_model.specs.Report.{answered, reported, client_line, frame_lines}
use Rattle.dl_report.specs.declared.count.AppCounts.{AppCounts}
use Rattle.dl_report.specs.declared.count.Closed.{Closed}

-- ---- tables: an entry for each number, from 0 on

-- P holds of each number and its entry
abbrev pub Each : {A : Type 0} → (ℕ → A → Type 0) → List A → Type 0
Each {A = A} P table = (number : ℕ) (entry : A) → slice_get table number ≡ Some entry → P number entry

-- the entry of this number changed, where there is one
abbrev pub changed_at : {A : Type 0} → ℕ → (A → A) → List A → List A
changed_at number change [] = []
changed_at zero change (entry ∷ table) = change entry ∷ table
changed_at (suc number) change (entry ∷ table) = entry ∷ changed_at number change table

-- ---- applications

abbrev pub no_counts : AppCounts
no_counts = record { queued = 0; filtered = 0; lost = 0; reported = 0 }

-- one answer more
abbrev pub with_answer : Answer → AppCounts → AppCounts
with_answer answer.Queued counts = record counts { queued = counts.queued + 1 }
with_answer answer.Filtered counts = record counts { filtered = counts.filtered + 1 }
with_answer answer.Lost counts = record counts { lost = counts.lost + 1 }

-- so many more losses reported
abbrev pub with_loss : ℕ → AppCounts → AppCounts
with_loss count counts = record counts { reported = counts.reported + count }

-- the counts of the application with this number, in these records and events
abbrev pub counts_of : List Record → List Event → ℕ → AppCounts
counts_of records events app =
    let own = filter (λ (r : Record). r.item.app == app) records in
    record { queued = answered answer.Queued own; filtered = answered answer.Filtered own; lost = answered answer.Lost own; reported = reported app events }

-- these are the counts of the application with this number
abbrev pub IsCount : List Record → List Event → ℕ → AppCounts → Type 0
IsCount records events app counts = counts ≡ counts_of records events app

-- no answer is counted more than `answers` times, and no more than `losses` losses are reported
pub record AreAtMost (answers losses : ℕ) (app : ℕ) (counts : AppCounts) : Type 0 where
  pub queued : counts.queued ≤ answers
  pub filtered : counts.filtered ≤ answers
  pub lost : counts.lost ≤ answers
  pub reported : counts.reported ≤ losses

-- what the table has of some calls, it has of these calls too
pub record HasCounted (records : List Record) (old new : List AppCounts) : Type 0 where
  pub size : length new ≡ length old
  pub counts : (before : List Record) (events : List Event) → Each (IsCount before events) old → Each (IsCount (before ++ records) events) new
  pub bounds : (answers losses : ℕ) → Each (AreAtMost answers losses) old → Each (AreAtMost (answers + length records) losses) new

-- what the table has of some events, it has of these events too
pub record HasNoted (events : List Event) (old new : List AppCounts) : Type 0 where
  pub size : length new ≡ length old
  pub counts : (records : List Record) (before : List Event) → Each (IsCount records before) old → Each (IsCount records (before ++ events)) new
  pub bounds : (answers losses : ℕ) → Each (AreAtMost answers losses) old → Each (AreAtMost answers (losses + 18446744073709551615 * length events)) new

-- ---- clients

-- a client that went
abbrev pub close_in : Event → Option Closed
close_in (event.Close client why) = Some (record { client = client; why = why })
close_in _ = None

-- why a client went, where it is this one
abbrev pub why_in : ℕ → Closed → Option Why
why_in client closed = if closed.client == client then Some closed.why else None

-- where frames are given, they are given of this client
abbrev pub HasStreams : Option (List (List (List ℕ))) → LinkEnd → Type 0
HasStreams None link = Unit {0}
HasStreams (Some streams) link = (1 ≤ link.client) × (link.client ≤ length streams)

-- the lines of a client, where it went for this cause
abbrev pub link_lines : Option Why → Option (List (List (List ℕ))) → LinkEnd → List ℕ
link_lines why frames link = option_map_or (λ cause. client_line link cause ++ frame_lines frames link.client) why []
