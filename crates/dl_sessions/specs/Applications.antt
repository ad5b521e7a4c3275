-- What a stream of messages has of each application: its messages, and what its reports tell of lost ones.
use Rattle.std.specs.Prelude.{◌≡◌, ℕ, ◌+◌, ◌==◌, ◌&&◌, not, is_none, Bool, false, List, [], ◌∷◌, fold, sum, sum_by, count_by, Option, Some, None, unwrap_or, if◌then◌else◌}
use Rattle.std.specs.Option.{option_map_or}
use Rattle.std.specs.HashMap as hash
use Rattle.dl_model.specs.Along.{along}
use Rattle.dl_sessions.specs.declared.applications.Applications.{Applications}
use Rattle.dl_sessions.specs.declared.session.Position.{Position}
use Rattle.dl_sessions.specs.declared.session.Source.{Source}
use Rattle.dl_sessions.specs.declared.session.Tally.{Tally}
use Rattle.dl_sessions.specs.declared.session.Told.{Told}
use Rattle.dl_sessions.specs.declared.session.Told.TheVariants as told
use Rattle.dl_sessions.specs.Gaps.{counted, entries, gap_in_context, gap_in_session, is_in, latest, same_source, source_of}

-- ---- what is counted of an application

-- whose a message is
abbrev pub source_in : Told → Option Source
source_in (told.Log e) = Some (source_of e.session)
source_in (told.Lost l) = Some l.source
source_in _ = None

abbrev pub is_message_of : Source → Told → Bool
is_message_of source (told.Log e) = same_source (source_of e.session) source
is_message_of source _ = false

abbrev pub is_report_of : Source → Told → Bool
is_report_of source (told.Lost l) = same_source l.source source
is_report_of source _ = false

-- how many messages an application reported as lost
abbrev pub lost_in : Source → Told → ℕ
lost_in source (told.Lost l) = if same_source l.source source then l.count else 0
lost_in source _ = 0

-- whether messages are missing before a message, by one of the countings
abbrev pub has_hole : List Told → Told → Bool
has_hole before (told.Log e) = not (gap_in_session (entries before) e == 0 && gap_in_context (entries before) e == 0)
has_hole before _ = false

-- whether they are missing before each message of an application
abbrev pub hole_of : Source → List Told → Told → List Bool
hole_of source before t = if is_message_of source t then has_hole before t ∷ [] else []

-- whether a message is the first of its session
abbrev pub is_first : List Told → Told → Bool
is_first before (told.Log e) = is_none (latest (is_in e.session) (entries before))
is_first before _ = false

-- 1 at each first message of a session of an application
abbrev pub session_of : Source → List Told → Told → List ℕ
session_of source before t = if is_message_of source t then (if is_first before t then 1 else 0) ∷ [] else []

abbrev pub last_of : List Bool → Bool
last_of flags = fold (λ so_far flag. flag) false flags

abbrev pub tally_of : Source → List Told → Tally
tally_of source stream = record {
  messages = counted (count_by (is_message_of source) stream);
  sessions = counted (sum (along (session_of source) stream));
  reports = counted (count_by (is_report_of source) stream);
  lost = counted (sum_by (lost_in source) stream);
  has_hole = last_of (along (hole_of source) stream);
}

abbrev pub no_tally : Tally
no_tally = record { messages = 0; sessions = 0; reports = 0; lost = 0; has_hole = false }

-- the number of an application's next message
abbrev pub next_number : Tally → ℕ
next_number tally = counted (tally.messages + 1)

-- ---- where a report belongs

-- A report tells of messages that were lost before the last message of its application, where some are missing there; else of such as were lost
-- behind it, before the next one. So each report belongs to one place.
abbrev pub owner : Tally → ℕ
owner tally = if tally.has_hole then tally.messages else next_number tally

abbrev pub same_position : Position → Position → Bool
same_position a b = same_source a.source b.source && a.number == b.number

abbrev pub told_at : Position → List Told → Told → List ℕ
told_at position before (told.Lost l) = if same_position (record { source = l.source; number = owner (tally_of l.source before) }) position then l.count ∷ [] else []
told_at position before _ = []

-- how many messages were reported as lost before this one
abbrev pub told_for : Position → List Told → ℕ
told_for position stream = counted (sum (along (told_at position) stream))

-- ---- the applications

-- a message or a report came of it
abbrev pub is_heard : Tally → Bool
is_heard tally = not (tally.messages == 0 && tally.reports == 0)

abbrev pub first_of : List Told → Told → List Source
first_of before t = option_map_or (λ s. if is_heard (tally_of s before) then [] else s ∷ []) (source_in t) []

-- the applications, in the order of their first messages or reports
abbrev pub sources : List Told → List Source
sources stream = along first_of stream

-- ---- what is kept

-- a message more: messages are missing before it or not, and it is the first of its session or not
abbrev pub noted_message : Tally → Bool → Bool → Tally
noted_message tally flag first = record tally { messages = next_number tally; sessions = counted (tally.sessions + (if first then 1 else 0)); has_hole = flag }

abbrev pub noted_report : Tally → ℕ → Tally
noted_report tally count = record tally { reports = counted (tally.reports + 1); lost = counted (tally.lost + count) }

abbrev pub KeepsTallies : {S : Type 0} → hash.HashMap Source Tally S → List Told → Type 0
KeepsTallies tallies stream = (source : Source) → unwrap_or (hash.get same_source tallies source) no_tally ≡ tally_of source stream

abbrev pub KeepsReports : {S : Type 0} → hash.HashMap Position ℕ S → List Told → Type 0
KeepsReports told stream = (position : Position) → unwrap_or (hash.get same_position told position) 0 ≡ told_for position stream

abbrev pub tally_by : Applications → Source → Tally
tally_by applications source = unwrap_or (hash.get same_source applications.tallies source) no_tally

abbrev pub told_by : Applications → Position → ℕ
told_by applications position = unwrap_or (hash.get same_position applications.told position) 0

-- The applications of a stream.
pub record AreOf (stream : List Told) (applications : Applications) : Type 0 where
  pub tallies_are : KeepsTallies applications.tallies stream
  pub told_are : KeepsReports applications.told stream
  pub sources_are : applications.sources.items ≡ sources stream
