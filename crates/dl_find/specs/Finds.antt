-- What is found of a message that is asked for, in the messages of files.
use Rattle.std.specs.Prelude.{ℕ, ◌+◌, ◌==◌, ◌&&◌, ◌||◌, not, nat_le, nat_lt, Bool, true, false, List, [], ◌∷◌, length, count_by, sum, sum_by, Option, Some, None, is_some, unwrap_or, if◌then◌else◌}
use Rattle.std.specs.List.{after_last, cons_option, filter_map, find}
use Rattle.std.specs.Option.{option_map, option_map_or, option_or}
use Rattle.std.specs.Str.{bytes_eq}
use Rattle.dl_control.specs.Reply.{daemon_apid}
use Rattle.dl_model.specs.Along.{along, last_that}
use Rattle.dl_receive.specs.Text.{passed_over}
use Rattle.dl_sessions.specs.Gaps.{counted, entry_of, gap, goes_on, latest, latest_of, of_session, same_session}
use Rattle.dl_sessions.specs.Ledger.{with_message}
use Rattle.dl_sessions.specs.declared.session.Entry.{Entry}
use Rattle.dl_sessions.specs.declared.session.Latest.{Latest}
use Rattle.dl_sessions.specs.declared.session.Lost.{Lost}
use Rattle.dl_sessions.specs.declared.session.Since.{Since}
use Rattle.dl_sessions.specs.declared.session.Told.{Told}
use Rattle.dl_sessions.specs.declared.session.Told.TheVariants as told
use Rattle.dl_find_words.specs.Questions.{is_about, is_account, is_asked, is_named, is_of_context}
use Rattle.dl_find_words.specs.declared.found.Book.{Book}
use Rattle.dl_find_words.specs.declared.found.Books.{Books}
use Rattle.dl_find_words.specs.declared.found.Finding.{Finding}
use Rattle.dl_find_words.specs.declared.question.Point.{Point}
use Rattle.dl_find_words.specs.declared.question.Point.TheVariants.{Time, Counter}
use Rattle.dl_find_words.specs.declared.question.Question.{Question}
use Rattle.dl_find_words.specs.declared.found.Reports.{Reports}
use Rattle.dl_find_words.specs.declared.seen.Hit.{Hit}
use Rattle.dl_find_words.specs.declared.seen.Seen.{Seen}
use Rattle.dl_find_words.specs.declared.seen.Spot.{Spot}
use Rattle.dl_find_words.specs.declared.found.Hole.{Hole}
use Rattle.dl_find_words.specs.declared.found.Track.{Track}

-- ---- messages

-- a message of a file: where it stands, what it tells, and its bytes
pub record Met : Type 0 where
  pub spot : Spot
  pub told : Told
  pub bytes : List ℕ

abbrev pub met : Spot → Told → List ℕ → Met
met spot t bytes = record { spot = spot; told = t; bytes = bytes }

abbrev pub any : {A : Type 0} → A → Bool
any x = true

abbrev pub first_in : {A : Type 0} → List A → Option A
first_in xs = find any xs

abbrev pub last_in : {A : Type 0} → List A → Option A
last_in xs = last_that any xs

-- a message of a session that passes a test
abbrev pub passes : (Entry → Bool) → Met → Bool
passes test m = option_map_or test (entry_of m.told) false

abbrev pub seen_by : (Entry → Bool) → Spot → Told → Option Seen
seen_by test spot (told.Log e) = if test e then Some (record { spot = spot; entry = e }) else None
seen_by test spot _ = None

abbrev pub seen_if : (Entry → Bool) → Met → Option Seen
seen_if test m = seen_by test m.spot m.told

abbrev pub passing : (Entry → Bool) → List Met → List Seen
passing test mets = filter_map (seen_if test) mets

-- ---- what is asked for

abbrev pub hit_by : Question → List ℕ → Option Seen → Option Hit
hit_by q bytes seen = option_map (λ s. record { seen = s; bytes = bytes }) seen

abbrev pub hits_of : Question → List Met → List Hit
hits_of q mets = filter_map (λ m. hit_by q m.bytes (seen_if (is_named q) m)) mets

-- ---- reports

-- the report of lost messages of this application
abbrev pub tells_of : List ℕ → Told → Bool
tells_of apid (told.Lost lost) = bytes_eq lost.source.apid apid
tells_of apid _ = false

abbrev pub part : Bool → Lost → ℕ
part counts lost = if counts then lost.count else 0

-- how many messages it tells as lost
abbrev pub told_of : List ℕ → Told → ℕ
told_of apid (told.Lost lost) = part (bytes_eq lost.source.apid apid) lost
told_of apid _ = 0

-- how many messages a record tells as not stored, while the trace had ended
abbrev pub unstored_at : Told → Option ℕ
unstored_at (told.Unstored count) = Some count
unstored_at _ = None

abbrev pub unstored_of : Met → ℕ
unstored_of m = unwrap_or (unstored_at m.told) 0

-- of the application, of the daemon's buffer, or of what was not stored
abbrev pub tells : Question → Told → Bool
tells q t = tells_of q.apid t || tells_of daemon_apid t

abbrev pub is_record : Question → Met → Bool
is_record q m = tells q m.told || is_some (unstored_at m.told)

abbrev pub reports_in : Question → List Met → Reports
reports_in q mets = record {
  ring = counted (sum_by (λ m. told_of q.apid m.told) mets);
  buffer = counted (sum_by (λ m. told_of daemon_apid m.told) mets);
  unstored = counted (sum_by unstored_of mets);
  last = option_map (λ m. m.spot) (last_that (is_record q) mets);
}

-- ---- holes

-- Counters were passed over between two messages, and the question points there: its time is between theirs, or its counter is among those that were passed over.
abbrev pub covers : Point → Entry → Entry → ℕ → Bool
covers (Time ticks) last e missing = nat_le last.ticks ticks && (nat_le ticks e.ticks && not (missing == 0))
covers (Counter mcnt) last e missing = nat_lt (passed_over last.mcnt mcnt) missing

abbrev pub hole_behind : Point → Seen → Seen → ℕ → Reports → ℕ → Option Hole
hole_behind point last s messages since missing =
    if covers point last.entry s.entry missing
    then Some (record { before = last; behind = s; missing = missing; number = counted (messages + 1); told = since })
    else None

-- the hole before a message, behind the last one of so many
abbrev pub hole_by : Point → Option Seen → Seen → ℕ → Reports → Option Hole
hole_by point None s messages since = None
hole_by point (Some last) s messages since = hole_behind point last s messages since (gap (Some (latest_of last.entry)) s.entry)

abbrev pub number_in : (Entry → Bool) → List Met → ℕ
number_in test mets = counted (length (passing test mets))

-- what reports tell since the last message that passes
abbrev pub since_in : Question → (Entry → Bool) → List Met → Reports
since_in q test mets = reports_in q (after_last (passes test) mets)

abbrev pub list_of : {A : Type 0} → Option A → List A
list_of found = cons_option found []

abbrev pub hole_of : Question → (Entry → Bool) → List Met → Option Seen → List Hole
hole_of q test before None = []
hole_of q test before (Some s) = list_of (hole_by q.point (last_in (passing test before)) s (number_in test before) (since_in q test before))

abbrev pub hole_at : Question → (Entry → Bool) → List Met → Met → List Hole
hole_at q test before m = hole_of q test before (seen_if test m)

abbrev pub holes_of : Question → (Entry → Bool) → List Met → List Hole
holes_of q test mets = along (hole_at q test) mets

-- the last one of so many messages is that behind the hole
abbrev pub is_open : Option Hole → ℕ → Bool
is_open hole messages = option_map_or (λ h. h.number == messages) hole false

-- what stands right behind the first hole's last message, before the next one
abbrev pub behind_at : Question → (Entry → Bool) → List Met → Met → List Met
behind_at q test before m = if is_open (first_in (holes_of q test before)) (number_in test before) then m ∷ [] else []

abbrev pub behind_in : Question → (Entry → Bool) → List Met → Reports
behind_in q test mets = reports_in q (along (behind_at q test) mets)

-- ---- the messages that pass a test

-- 1 where the session changes, and where the time steps back
abbrev pub change : Option Seen → Entry → ℕ
change last e = option_map_or (λ l. if same_session l.entry.session e.session then 0 else 1) last 0

abbrev pub back : Option Seen → Entry → ℕ
back last e = option_map_or (λ l. if nat_lt e.ticks l.entry.ticks then 1 else 0) last 0

-- 1 where the session's counter is met again or steps back with another context: at least 127 of 256 counters would be passed over
abbrev pub met_again : Option Seen → Entry → ℕ
met_again last e = option_map_or (λ l. if not (bytes_eq l.entry.ctid e.ctid) && nat_le 127 (gap (Some (latest_of l.entry)) e) then 1 else 0) last 0

abbrev pub steps_of : (Option Seen → Entry → ℕ) → Option Seen → Option Seen → List ℕ
steps_of step last None = []
steps_of step last (Some s) = step last s.entry ∷ []

abbrev pub steps_at : (Option Seen → Entry → ℕ) → (Entry → Bool) → List Met → Met → List ℕ
steps_at step test before m = steps_of step (last_in (passing test before)) (seen_if test m)

abbrev pub steps : (Option Seen → Entry → ℕ) → (Entry → Bool) → List Met → ℕ
steps step test mets = counted (sum (along (steps_at step test) mets))

abbrev pub track_of : Question → (Entry → Bool) → List Met → Track
track_of q test mets = record {
  messages = number_in test mets;
  first = first_in (passing test mets);
  last = last_in (passing test mets);
  changes = steps change test mets;
  backs = steps back test mets;
  returns = steps met_again test mets;
  holes = counted (length (holes_of q test mets));
  hole = first_in (holes_of q test mets);
  since = since_in q test mets;
  behind = behind_in q test mets;
}

-- ---- who counts

abbrev pub latest_in : Option Seen → Option Latest
latest_in seen = option_map (λ s. latest_of s.entry) seen

-- 1 where a message of the context goes on from its session's last counter, and not from its context's
abbrev pub session_goes : Option Seen → Option Seen → Entry → ℕ
session_goes session context e = of_session (latest_in session) (goes_on (latest_in context) e) e

abbrev pub goes_of : (Option Seen → Option Seen → Entry → ℕ) → Option Seen → Option Seen → Option Seen → List ℕ
goes_of goes session context None = []
goes_of goes session context (Some s) = goes session context s.entry ∷ []

abbrev pub goes_at : (Option Seen → Option Seen → Entry → ℕ) → Question → List Met → Met → List ℕ
goes_at goes q before m = goes_of goes (last_in (passing (is_asked q) before)) (last_in (passing (is_of_context q) before)) (seen_if (is_of_context q) m)

abbrev pub shown : (Option Seen → Option Seen → Entry → ℕ) → Question → List Met → ℕ
shown goes q mets = counted (sum (along (goes_at goes q) mets))

-- ---- accounts

-- the messages of sessions
abbrev pub entries_in : List Met → List Entry
entries_in mets = filter_map (λ m. entry_of m.told) mets

-- how many counters were passed over between messages of this kind
abbrev pub gap_at : (Entry → Bool) → List Entry → Entry → List ℕ
gap_at test before e = if test e then gap (latest test before) e ∷ [] else []

abbrev pub gaps_of : (Entry → Bool) → List Entry → List ℕ
gaps_of test es = along (gap_at test) es

-- messages of this kind, which came behind so many accounts
abbrev pub since_over : (Entry → Bool) → ℕ → List Entry → Since
since_over test accounts es = record {
  accounts = accounts;
  messages = counted (count_by test es);
  missing = counted (sum (gaps_of test es));
  last = latest test es;
}

-- what is here of the context since the last account of it
abbrev pub since_account : Question → List Entry → Since
since_account q es = since_over (is_of_context q) (counted (count_by (is_about q) es)) (after_last (is_about q) es)

-- the accounts of the session, which are messages of a context of their own
abbrev pub accounts_in : Question → List Entry → Since
accounts_in q es = since_over (is_account q) 0 es

-- one message stands before another one
abbrev pub is_ahead : Spot → Spot → Bool
is_ahead a b = nat_lt a.file b.file || ((a.file == b.file) && nat_lt a.offset b.offset)

-- Two accounts with the moment that is asked for between them; or with the hole that the counter points to, whose last message came between them too.
abbrev pub holds : Point → Option Hole → Seen → Seen → Bool
holds (Time ticks) hole last s = nat_lt last.entry.ticks ticks && nat_lt ticks s.entry.ticks
holds (Counter mcnt) hole last s = option_map_or (λ h. is_ahead last.spot h.before.spot) hole false

-- Two accounts of the context, one behind the other.
abbrev pub book_by : Point → Option Hole → Option Seen → Seen → Since → Since → Option Book
book_by point hole None s since own = None
book_by point hole (Some last) s since own =
    if holds point hole last s then Some (record { before = last; behind = s; since = since; lacking = (with_message own s.entry).missing }) else None

-- an account at or behind the time that is asked for
abbrev pub is_behind : Point → Seen → Bool
is_behind (Time ticks) s = nat_le ticks s.entry.ticks
is_behind (Counter mcnt) s = false

abbrev pub book_of : Question → List Met → Option Seen → List Book
book_of q before None = []
book_of q before (Some s) =
    list_of (book_by q.point (first_in (holes_of q (is_of_context q) before)) (last_in (passing (is_about q) before)) s (since_account q (entries_in before)) (accounts_in q (entries_in before)))

abbrev pub book_at : Question → List Met → Met → List Book
book_at q before m = book_of q before (seen_if (is_about q) m)

abbrev pub books_of : Question → List Met → List Book
books_of q mets = along (book_at q) mets

abbrev pub books_in : Question → List Met → Books
books_in q mets = record {
  since = since_account q (entries_in mets);
  own = accounts_in q (entries_in mets);
  last = last_in (passing (is_about q) mets);
  book = first_in (books_of q mets);
  next = find (is_behind q.point) (passing (is_about q) mets);
}

-- ---- all

-- What is found in the messages of files.
abbrev pub finding_of : Question → List Met → Finding
finding_of q mets = record {
  hits = counted (length (hits_of q mets));
  hit = first_in (hits_of q mets);
  start = first_in (passing any mets);
  session = track_of q (is_asked q) mets;
  context = track_of q (is_of_context q) mets;
  of_session = shown session_goes q mets;
  books = books_in q mets;
}
