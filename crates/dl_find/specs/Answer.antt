-- What is said of a message that is asked for: which word an answer begins with, and when.
use Rattle.std.specs.Prelude.{◌≡◌, ℕ, ◌+◌, ◌-◌, ◌==◌, ◌&&◌, ◌||◌, nat_le, nat_lt, nat_eq, not, Bool, true, false, List, ◌++◌, codes, length, drop, slice_get, Option, Some, None, is_some, if◌then◌else◌, unwrap_or}
use Rattle.std.specs.List.{starts_with}
use Rattle.std.specs.Option.{option_map_or, option_or}
use Rattle.std.specs.Str.{bytes_eq}
use Rattle.dl_text.specs.Decimal.{number_of}
use Rattle.dl_text.specs.Lines.{parted_at}
use Rattle.dl_sessions.specs.Gaps.{counted}
use Rattle.dl_sessions.specs.declared.session.Calls.{Calls}
use Rattle.dl_sessions.specs.declared.session.Since.{Since}
use Rattle.dl_find_words.specs.Answer.{fits, hits_text, verdict_text, word_text}
use Rattle.dl_find_words.specs.Verdict.{decides, word_of}
use Rattle.dl_find_words.specs.declared.found.Book.{Book}
use Rattle.dl_find_words.specs.declared.found.Finding.{Finding}
use Rattle.dl_find_words.specs.declared.found.Gone.{Gone}
use Rattle.dl_find_words.specs.declared.found.Hole.{Hole}
use Rattle.dl_find_words.specs.declared.found.Reports.{Reports}
use Rattle.dl_find_words.specs.declared.found.Track.{Track}
use Rattle.dl_find_words.specs.declared.question.Point.{Point}
use Rattle.dl_find_words.specs.declared.question.Point.TheVariants.{Time, Counter}
use Rattle.dl_find_words.specs.declared.question.Question.{Question}
use Rattle.dl_find_words.specs.declared.seen.Seen.{Seen}
use Rattle.dl_find_words.specs.declared.verdict.Verdict.{Verdict}
use Rattle.dl_find_words.specs.declared.verdict.Verdict.TheVariants as verdict
use Rattle.dl_find_words.specs.declared.verdict.Word.{Word}
use Rattle.dl_find_words.specs.declared.verdict.Word.TheVariants as word
use Rattle.dl_find.specs.Finds.{Met, finding_of}

-- ---- by records

-- what records tell of a hole: those between its messages, and those right behind them
abbrev pub reports_of : Hole → Reports → Reports
reports_of hole behind = record {
  ring = counted (hole.told.ring + behind.ring);
  buffer = counted (hole.told.buffer + behind.buffer);
  unstored = counted (hole.told.unstored + behind.unstored);
  last = option_or behind.last hole.told.last;
}

-- Records of lost messages tell of all messages of an application, those of the buffer and of what was not stored of all applications. So those between
-- the two messages tell of at least as many as are missing. Those right behind may tell of the next hole: with them there are as many, modulo 256. So
-- it is where they can tell of no others.
abbrev pub is_enough : Bool → ℕ → ℕ → ℕ → Bool
is_enough own between told missing = fits told missing || (not own && nat_le missing between)

-- Records decide where one kind alone tells of messages there, and of enough.
abbrev pub is_lost : Gone → Bool
is_lost g = is_enough g.is_own g.hole.told.ring g.told.ring g.hole.missing && (g.told.buffer == 0 && g.told.unstored == 0)

abbrev pub is_refused : Gone → Bool
is_refused g = is_enough false g.hole.told.buffer g.told.buffer g.hole.missing && (g.told.ring == 0 && g.told.unstored == 0)

abbrev pub is_unstored : Gone → Bool
is_unstored g = is_enough false g.hole.told.unstored g.told.unstored g.hole.missing && (g.told.ring == 0 && g.told.buffer == 0)

abbrev pub gone_verdict : Gone → Verdict
gone_verdict g =
    if is_lost g then verdict.Lost g
    else if is_refused g then verdict.Refused g
    else if is_unstored g then verdict.Unstored g
    else verdict.Untold g

abbrev pub gone_of : Bool → Bool → Hole → Reports → Gone
gone_of own passed hole told = record { hole = hole; told = told; is_own = own; has_passed = passed }

-- where counters were passed over in one place alone
abbrev pub holes_verdict : Bool → Bool → Track → Hole → Verdict
holes_verdict own passed track hole =
    if track.holes == 1 then gone_verdict (gone_of own passed hole (reports_of hole track.behind)) else verdict.Holes track.holes hole

-- ---- before the first message

-- the number of a trace file, by the end of its name: six digits between `dlt_offlinetrace.` and `.dlt`
abbrev pub end_number : List ℕ → Option (List ℕ × List ℕ) → Option ℕ
end_number end None = None
end_number end (Some parts) = if starts_with nat_eq end (codes "dlt_offlinetrace.") && bytes_eq parts.1 (codes "dlt") then number_of parts.0 else None

abbrev pub name_end : List ℕ → List ℕ
name_end name = drop (length name - 27) name

abbrev pub file_number : List ℕ → Option ℕ
file_number name = end_number (name_end name) (parted_at 46 (drop 17 (name_end name)))

-- a trace begins with number 1, and the first file here has a greater one
abbrev pub is_above : Option ℕ → Bool
is_above number = option_map_or (λ n. nat_lt 1 n) number false

abbrev pub begins_later : List (List ℕ) → Bool
begins_later names = option_map_or (λ name. is_above (file_number name)) (slice_get names 0) false

-- A counter may be of a message before the first one here, where that isn't counter 0 or files before the first are not here.
abbrev pub may_be_before : List (List ℕ) → Point → Seen → Bool
may_be_before names (Time ticks) first = false
may_be_before names (Counter mcnt) first = begins_later names || not (first.entry.mcnt == 0)

-- one of this counter was before it: who counts begins with 0
abbrev pub was_before : Point → Seen → Bool
was_before (Time ticks) first = false
was_before (Counter mcnt) first = nat_lt mcnt first.entry.mcnt

abbrev pub early_verdict : Point → Track → Seen → Verdict
early_verdict point track first =
    option_map_or (λ hole. verdict.Early first track.holes hole) track.hole (if was_before point first then verdict.Before first else verdict.Whole)

abbrev pub track_verdict : List (List ℕ) → Point → Bool → Bool → Track → Verdict
track_verdict names point own passed track = option_map_or
    (λ first. if may_be_before names point first then early_verdict point track first else option_map_or (holes_verdict own passed track) track.hole verdict.Whole)
    track.first verdict.NoContext

-- ---- who counts

-- Each context counts its own messages where the program gives accounts, or where the session's counter is met again or steps back with another context
-- more often than messages of the context go on in the session alone: twice more, since a loss may look so.
abbrev pub contexts_count : Finding → Bool
contexts_count f = not (f.books.own.messages == 0) || nat_lt 1 (f.session.returns - f.of_session)

-- Else the session counts, where messages of the context go on in the session alone, likewise; or where the two are the same.
abbrev pub shows_session : Finding → Bool
shows_session f = nat_lt 1 (f.of_session - f.session.returns)

abbrev pub session_counts : Finding → Bool
session_counts f = shows_session f || (f.session.messages == f.context.messages)

-- Nothing tells who counts: what is missing by either.
abbrev pub open_verdict : Finding → Verdict
open_verdict f =
    if is_some f.session.hole || is_some f.context.hole then verdict.Counting f.session.hole f.context.hole
    else if f.context.messages == 0 then verdict.NoContext
    else verdict.Whole

-- Records of an application tell of no other messages, where its session counts and all of its sessions are asked for.
abbrev pub are_own : Question → Finding → Bool
are_own q f = shows_session f && not (is_some q.seid)

abbrev pub counted_verdict : List (List ℕ) → Question → Bool → Finding → Verdict
counted_verdict names q passed f =
    if contexts_count f then track_verdict names q.point false passed f.context
    else if session_counts f then track_verdict names q.point (are_own q f) passed f.session
    else open_verdict f

-- ---- by the program's own account

-- an account can be where no more messages are here than it has queued, and their counters went on by no more than its calls that passed their level
abbrev pub can_be : Calls → Since → Bool
can_be calls since = nat_le since.messages calls.queued && nat_le (since.messages + since.missing) (calls.queued + calls.lost)

-- what has a counter was not filtered
abbrev pub none_filtered : Point → Calls → Bool
none_filtered (Time ticks) calls = calls.filtered == 0
none_filtered (Counter mcnt) calls = true

-- an account of which each queued message is here: whether calls were filtered, or lost by the queue
abbrev pub kind_verdict : Book → Option Hole → Bool → Bool → Verdict
kind_verdict book hole true true = verdict.Unlogged book
kind_verdict book hole false true = verdict.Filtered book
kind_verdict book hole true false = verdict.Dropped book
kind_verdict book hole false false = verdict.Mixed book hole

abbrev pub queued_verdict : Point → Book → Option Hole → Calls → Verdict
queued_verdict point book hole calls =
    if calls.queued == book.since.messages then kind_verdict book hole (none_filtered point calls) (calls.lost == 0) else verdict.Mixed book hole

abbrev pub book_verdict : Point → Book → Option Hole → Verdict
book_verdict point book hole =
    if not (book.lacking == 0) then verdict.Gapped book
    else if can_be book.behind.entry.calls book.since then queued_verdict point book hole book.behind.entry.calls
    else verdict.Refuted book

-- one that was logged passed its level: by its counter, or by an account that can be
abbrev pub believes : Book → Bool
believes book = (book.lacking == 0) && can_be book.behind.entry.calls book.since

abbrev pub has_passed : Point → Option Book → Bool
has_passed (Time ticks) book = option_map_or (λ b. believes b && b.behind.entry.calls.filtered == 0) book false
has_passed (Counter mcnt) book = true

-- ---- accounts beside records

abbrev pub is_of_ring : Verdict → Bool
is_of_ring (verdict.Lost gone) = true
is_of_ring _ = false

-- records may decide beside an account that tells of no filtered calls, and of none that the queue lost: a ring's records tell of these too
abbrev pub agrees : Point → Calls → Verdict → Bool
agrees point calls v = none_filtered point calls && ((calls.lost == 0) || is_of_ring v)

-- An account decides before records do, and it says more where neither does.
abbrev pub first_decided : Verdict → Verdict → Bool → Verdict
first_decided own other agreed = if decides (word_of own) then own else if agreed && decides (word_of other) then other else own

abbrev pub beside_book : Point → Book → Option Hole → Verdict → Verdict
beside_book point book hole v = first_decided (book_verdict point book hole) v (agrees point book.behind.entry.calls v)

-- what records tell as missing
abbrev pub gone_in : Verdict → Option Gone
gone_in (verdict.Lost gone) = Some gone
gone_in (verdict.Refused gone) = Some gone
gone_in (verdict.Unstored gone) = Some gone
gone_in _ = None

-- the next account tells of filtered calls, so that it may be one of them
abbrev pub doubted_by : Verdict → Gone → Seen → Verdict
doubted_by v gone account = if account.entry.calls.filtered == 0 then v else verdict.Doubted gone account

abbrev pub beside_next : Option Seen → Verdict → Verdict
beside_next next v = option_map_or (λ gone. option_map_or (doubted_by v gone) next v) (gone_in v) v

-- one hole alone, that accounts may be of too
abbrev pub is_one_hole : Verdict → Bool
is_one_hole (verdict.Untold gone) = true
is_one_hole v = is_some (gone_in v)

-- by a counter accounts decide where it points to one hole alone
abbrev pub may_tell : Point → Verdict → Bool
may_tell (Time ticks) v = true
may_tell (Counter mcnt) v = is_one_hole v

abbrev pub beside_accounts : Question → Finding → Verdict → Verdict
beside_accounts q f v =
    if may_tell q.point v then option_map_or (λ book. beside_book q.point book f.context.hole v) f.books.book (beside_next f.books.next v) else v

abbrev pub inside : List (List ℕ) → Question → Finding → Verdict
inside names q f = beside_accounts q f (counted_verdict names q (has_passed q.point f.books.book) f)

-- ---- outside of what is recorded

-- before all messages here
abbrev pub is_before_all : ℕ → Option Seen → Bool
is_before_all ticks start = option_map_or (λ s. nat_lt ticks s.entry.ticks) start false

abbrev pub before_verdict : List (List ℕ) → ℕ → Option Seen → Seen → Verdict
before_verdict names ticks start first = if is_before_all ticks start && begins_later names then verdict.Rotated first else verdict.Before first

abbrev pub span_verdict : List (List ℕ) → Question → Finding → Point → Seen → Seen → Verdict
span_verdict names q f (Time ticks) first last =
    if nat_lt ticks first.entry.ticks then before_verdict names ticks f.start first
    else if nat_lt last.entry.ticks ticks then verdict.Behind last
    else inside names q f
span_verdict names q f (Counter mcnt) first last = inside names q f

-- ---- all

abbrev pub order_verdict : List (List ℕ) → Question → Finding → Seen → Seen → Verdict
order_verdict names q f first last =
    if not (f.session.changes == 0) then verdict.Sessions
    else if not (f.session.backs == 0) then verdict.Backs f.session.backs
    else span_verdict names q f q.point first last

abbrev pub both_verdict : List (List ℕ) → Question → Finding → Option Seen → Option Seen → Verdict
both_verdict names q f (Some first) (Some last) = order_verdict names q f first last
both_verdict names q f _ _ = verdict.Nobody

-- What is said of a message that isn't here.
abbrev pub verdict_of : List (List ℕ) → Question → Finding → Verdict
verdict_of names q f = both_verdict names q f f.session.first f.session.last

abbrev pub finding_text : List (List ℕ) → Question → Finding → List ℕ
finding_text names q f = option_map_or (hits_text names f.hits) f.hit (verdict_text names q (verdict_of names q f))

-- The answer to a question, by the messages of the files of these names.
abbrev pub answer_text : List (List ℕ) → Question → List Met → List ℕ
answer_text names q mets = finding_text names q (finding_of q mets)

-- ---- its first word

abbrev pub hits_word : ℕ → Word
hits_word n = if n == 1 then word.Here else word.Unknown

abbrev pub finding_word : List (List ℕ) → Question → Finding → Word
finding_word names q f = option_map_or (λ hit. hits_word f.hits) f.hit (word_of (verdict_of names q f))

-- The word of the answer: that one message is here, or the word of what is said of it.
abbrev pub answer_word : List (List ℕ) → Question → List Met → Word
answer_word names q mets = finding_word names q (finding_of q mets)

-- An answer begins with its word.
abbrev pub BeginsWithItsWord : Type 0
BeginsWithItsWord = (names : List (List ℕ)) (q : Question) (mets : List Met) → (rest : List ℕ) × (answer_text names q mets ≡ word_text (answer_word names q mets) ++ rest)
