-- The answer to a question, in one line.
use Rattle.std.specs.Prelude.{ℕ, ◌+◌, ◌-◌, ◌%◌, ◌==◌, nat_lt, Bool, List, [], ◌++◌, codes, slice_get, Option, Some, None, if◌then◌else◌}
use Rattle.std.specs.Fmt.{decimal}
use Rattle.std.specs.Option.{option_map_or}
use Rattle.dl_text.specs.IdText.{id_text}
use Rattle.dl_sessions.specs.Text.{session_text, time_text}
use Rattle.dl_sessions.specs.declared.session.Calls.{Calls}
use Rattle.dl_sessions.specs.declared.session.Entry.{Entry}
use Rattle.dl_find_words.specs.Arguments.{message_text}
use Rattle.dl_find_words.specs.declared.question.Question.{Question}
use Rattle.dl_find_words.specs.declared.found.Reports.{Reports}
use Rattle.dl_find_words.specs.declared.seen.Hit.{Hit}
use Rattle.dl_find_words.specs.declared.seen.Seen.{Seen}
use Rattle.dl_find_words.specs.declared.seen.Spot.{Spot}
use Rattle.dl_find_words.specs.declared.verdict.Verdict.{Verdict}
use Rattle.dl_find_words.specs.declared.verdict.Verdict.TheVariants as verdict
use Rattle.dl_find_words.specs.declared.verdict.Word.{Word}
use Rattle.dl_find_words.specs.declared.verdict.Word.TheVariants as word
use Rattle.dl_find_words.specs.Verdict.{word_of}
use Rattle.dl_find_words.specs.declared.found.Book.{Book}
use Rattle.dl_find_words.specs.declared.found.Gone.{Gone}
use Rattle.dl_find_words.specs.declared.found.Hole.{Hole}

-- ---- words

unfoldable pub several_words : List ℕ
several_words = codes " messages have it, the first of them is at "

unfoldable pub record_words : List ℕ
record_words = codes "; told by the record at "

unfoldable pub ring_words : List ℕ
ring_words = codes " by the full ring of "

unfoldable pub buffer_words : List ℕ
buffer_words = codes " by the full buffer"

unfoldable pub missing_words : List ℕ
missing_words = codes " missing, or "

unfoldable pub multiple_words : List ℕ
multiple_words = codes " and a multiple of 256"

unfoldable pub anew_words : List ℕ
anew_words = codes "none missing, if it began anew with counter 0; else "

unfoldable pub level_words : List ℕ
level_words = codes ", if its level passed it,"

unfoldable pub filtered_words : List ℕ
filtered_words = codes " filtered by level "

unfoldable pub doubt_words : List ℕ
doubt_words = codes "; or it is one of "

unfoldable pub early_words : List ℕ
early_words = codes "it may be before the first message here, "

unfoldable pub each_words : List ℕ
each_words = codes ", or missing in each of "

unfoldable pub session_words : List ℕ
session_words = codes "if its session counts its messages, "

unfoldable pub context_words : List ℕ
context_words = codes "; if each context counts its own, "

unfoldable pub none_words : List ℕ
none_words = codes "none is missing there, or a multiple of 256"

unfoldable pub whole_words : List ℕ
whole_words = codes "no counter is missing there, or a multiple of 256; it may be filtered by its level, not logged, or outside of what is recorded here of "

unfoldable pub holes_words : List ℕ
holes_words = codes "it may be missing in each of "

unfoldable pub before_words : List ℕ
before_words = codes "not recorded here, the first message is "

unfoldable pub behind_words : List ℕ
behind_words = codes "not recorded here, the last message is "

unfoldable pub first_words : List ℕ
first_words = codes "the first file here is "

unfoldable pub rotated_words : List ℕ
rotated_words = codes ", and no file before that is here; the first message is "

unfoldable pub ended_words : List ℕ
ended_words = codes " while the trace had ended"

unfoldable pub all_words : List ℕ
all_words = codes " of all applications"

unfoldable pub sessions_words : List ℕ
sessions_words = codes " has several sessions here: ask with the session's number before it\n"

unfoldable pub backs_words : List ℕ
backs_words = codes "the times of its messages step back, so often: "

unfoldable pub ring_told_words : List ℕ
ring_told_words = codes " told by the ring, "

unfoldable pub buffer_told_words : List ℕ
buffer_told_words = codes " told by the buffer, "

unfoldable pub stored_words : List ℕ
stored_words = codes " not stored"

unfoldable pub accounts_words : List ℕ
accounts_words = codes " between its accounts at "

unfoldable pub own_words : List ℕ
own_words = codes ", by its own account at "

unfoldable pub calls_words : List ℕ
calls_words = codes " of its context, each of them here, were logged"

unfoldable pub gapped_words : List ℕ
gapped_words = codes "an account is missing before that at "

unfoldable pub refuted_words : List ℕ
refuted_words = codes "its account can't be, with "

unfoldable pub queue_words : List ℕ
queue_words = codes " by the full queue of "

unfoldable pub queued_words : List ℕ
queued_words = codes " queued and "

unfoldable pub program_words : List ℕ
program_words = codes " missing behind the program"

-- a file and an offset in it
abbrev pub name_text : Option (List ℕ) → List ℕ
name_text name = option_map_or (λ n. n) name []

unfoldable pub spot_text : List (List ℕ) → Spot → List ℕ
spot_text names spot = name_text (slice_get names spot.file) ++ codes " " ++ decimal spot.offset

-- a message by its counter and its time
unfoldable pub entry_text : Entry → List ℕ
entry_text e = codes "counter " ++ decimal e.mcnt ++ codes " at " ++ time_text e.ticks

unfoldable pub between_text : Hole → List ℕ
between_text hole = codes " between " ++ entry_text hole.before.entry ++ codes " and " ++ entry_text hole.behind.entry

-- ---- the word

abbrev pub word_text : Word → List ℕ
word_text word.Here = codes "here "
word_text word.Filtered = codes "filtered: "
word_text word.Lost = codes "lost: "
word_text word.Refused = codes "refused: "
word_text word.Unstored = codes "unstored: "
word_text word.Rotated = codes "rotated: "
word_text word.Before = codes "before: "
word_text word.Behind = codes "behind: "
word_text word.Unlogged = codes "unlogged: "
word_text word.Unknown = codes "unknown: "

-- ---- it is here

unfoldable pub entry_line : Entry → List ℕ
entry_line e = codes " " ++ time_text e.ticks ++ session_text e.session ++ codes " " ++ id_text e.ctid ++ codes " " ++ decimal e.mcnt

abbrev pub hit_text : List (List ℕ) → Hit → List ℕ
hit_text names hit = word_text word.Here ++ spot_text names hit.seen.spot ++ entry_line hit.seen.entry ++ message_text hit.bytes ++ codes "\n"

abbrev pub several_text : List (List ℕ) → ℕ → Hit → List ℕ
several_text names n hit = word_text word.Unknown ++ decimal n ++ several_words ++ spot_text names hit.seen.spot ++ codes "\n"

abbrev pub hits_text : List (List ℕ) → ℕ → Hit → List ℕ
hits_text names n hit = if n == 1 then hit_text names hit else several_text names n hit

-- ---- it is missing

-- so many are as many as are missing: their counters have one byte
abbrev pub fits : ℕ → ℕ → Bool
fits told missing = told % 256 == missing

-- how many are missing, as far as counters of one byte tell
abbrev pub multiple_text : ℕ → List ℕ
multiple_text missing = decimal missing ++ multiple_words

abbrev pub missing_text : ℕ → List ℕ
missing_text missing = decimal missing ++ missing_words ++ multiple_text missing

-- Before counter 0 none need be missing: a program that is started again counts from 0.
abbrev pub count_text : Hole → List ℕ
count_text hole = if hole.behind.entry.mcnt == 0 then anew_words ++ decimal hole.missing ++ codes ", or " ++ multiple_text hole.missing else missing_text hole.missing

-- So many of those that records tell of: they tell of others too. Where they tell of fewer than 256 more, they are no more than are missing modulo 256.
abbrev pub of_text : ℕ → ℕ → List ℕ
of_text missing told = if nat_lt told (missing + 256) then decimal missing ++ codes " of " else decimal missing ++ codes ", or " ++ multiple_text missing ++ codes ", of "

abbrev pub part_text : ℕ → ℕ → List ℕ
part_text missing told = if told == missing then decimal told else of_text missing told ++ decimal told

-- records that tell of no other messages tell how many are missing
abbrev pub own_part_text : Bool → ℕ → ℕ → List ℕ
own_part_text own missing told = if own then decimal told else part_text missing told

-- the same of records that tell of all applications
abbrev pub all_part_text : ℕ → ℕ → List ℕ
all_part_text missing told = if told == missing then decimal told else of_text missing told ++ decimal told ++ all_words

-- what a level filtered is not missing
abbrev pub passed_text : Bool → List ℕ
passed_text passed = if passed then [] else level_words

abbrev pub record_text : List (List ℕ) → Option Spot → List ℕ
record_text names None = codes "\n"
record_text names (Some spot) = record_words ++ spot_text names spot ++ codes "\n"

-- where they are missing, and which record says so
abbrev pub place_text : List (List ℕ) → Gone → List ℕ
place_text names gone = passed_text gone.has_passed ++ between_text gone.hole ++ record_text names gone.told.last

abbrev pub lost_text : List (List ℕ) → Question → Gone → List ℕ
lost_text names q gone = own_part_text gone.is_own gone.hole.missing gone.told.ring ++ ring_words ++ id_text q.apid ++ place_text names gone

abbrev pub refused_text : List (List ℕ) → Gone → List ℕ
refused_text names gone = all_part_text gone.hole.missing gone.told.buffer ++ buffer_words ++ place_text names gone

abbrev pub unstored_text : List (List ℕ) → Gone → List ℕ
unstored_text names gone = all_part_text gone.hole.missing gone.told.unstored ++ ended_words ++ place_text names gone

abbrev pub told_text : Reports → List ℕ
told_text told = codes ", " ++ decimal told.ring ++ ring_told_words ++ decimal told.buffer ++ buffer_told_words ++ decimal told.unstored ++ stored_words

abbrev pub counts_text : Gone → List ℕ
counts_text gone = count_text gone.hole ++ told_text gone.told ++ between_text gone.hole

abbrev pub untold_text : List (List ℕ) → Gone → List ℕ
untold_text names gone = counts_text gone ++ record_text names gone.told.last

-- no counter was passed over where the question points
abbrev pub whole_text : Question → List ℕ
whole_text q = whole_words ++ id_text q.apid ++ codes "\n"

abbrev pub several_holes_text : ℕ → Hole → List ℕ
several_holes_text n hole = decimal n ++ codes " holes, the first is" ++ between_text hole ++ codes "\n"

abbrev pub holes_text : ℕ → Hole → List ℕ
holes_text n hole = holes_words ++ several_holes_text n hole

-- its counter may be of a message before the first one here, too
abbrev pub early_text : Seen → ℕ → Hole → List ℕ
early_text first n hole = early_words ++ entry_text first.entry ++ each_words ++ several_holes_text n hole

-- who counts is open
abbrev pub by_text : Option Hole → List ℕ
by_text None = none_words
by_text (Some hole) = count_text hole ++ between_text hole

abbrev pub counting_text : Option Hole → Option Hole → List ℕ
counting_text session context = session_words ++ by_text session ++ context_words ++ by_text context ++ codes "\n"

-- ---- outside of what is recorded

abbrev pub seen_text : List (List ℕ) → Seen → List ℕ
seen_text names seen = entry_text seen.entry ++ codes ", at " ++ spot_text names seen.spot ++ codes "\n"

abbrev pub before_text : List (List ℕ) → Seen → List ℕ
before_text names first = before_words ++ seen_text names first

abbrev pub behind_text : List (List ℕ) → Seen → List ℕ
behind_text names last = behind_words ++ seen_text names last

unfoldable pub first_name : List (List ℕ) → List ℕ
first_name names = name_text (slice_get names 0)

-- which file is the first here
unfoldable pub first_text : List (List ℕ) → List ℕ
first_text names = first_words ++ first_name names ++ rotated_words

abbrev pub rotated_text : List (List ℕ) → Seen → List ℕ
rotated_text names first = first_text names ++ seen_text names first

-- ---- by the program's own account

-- between which accounts
unfoldable pub accounts_text : Book → List ℕ
accounts_text b = accounts_words ++ time_text b.before.entry.ticks ++ codes " and " ++ time_text b.behind.entry.ticks

-- the second one of them
unfoldable pub own_text : List (List ℕ) → Spot → List ℕ
own_text names spot = own_words ++ spot_text names spot

abbrev pub book_text : List (List ℕ) → Book → List ℕ
book_text names b = accounts_text b ++ own_text names b.behind.spot

-- the account's filtered calls, with their level
abbrev pub level_text : Calls → List ℕ
level_text calls = decimal calls.filtered ++ codes " by level " ++ decimal calls.level

abbrev pub filtered_text : List (List ℕ) → Book → List ℕ
filtered_text names b = level_text b.behind.entry.calls ++ book_text names b ++ codes "; it is one of them, or nobody logged it\n"

-- an account that tells of filtered calls at that time, where records tell of others
abbrev pub filtered_part_text : Calls → List ℕ
filtered_part_text calls = decimal calls.filtered ++ filtered_words ++ decimal calls.level

abbrev pub doubted_text : List (List ℕ) → Gone → Seen → List ℕ
doubted_text names gone account = counts_text gone ++ doubt_words ++ filtered_part_text account.entry.calls ++ own_text names account.spot ++ codes "\n"

abbrev pub dropped_text : List (List ℕ) → Question → Book → List ℕ
dropped_text names q b = decimal b.behind.entry.calls.lost ++ queue_words ++ id_text q.apid ++ book_text names b ++ codes "\n"

abbrev pub unlogged_text : List (List ℕ) → Book → List ℕ
unlogged_text names b = decimal b.behind.entry.calls.queued ++ calls_words ++ book_text names b ++ codes "\n"

abbrev pub gapped_text : List (List ℕ) → Book → List ℕ
gapped_text names b = gapped_words ++ spot_text names b.behind.spot ++ codes "\n"

-- what the account has, and what is here
abbrev pub queued_text : Book → List ℕ
queued_text b = decimal b.behind.entry.calls.queued ++ queued_words ++ decimal b.behind.entry.calls.lost ++ codes " lost, "

abbrev pub here_text : Book → List ℕ
here_text b = decimal b.since.messages ++ codes " here and " ++ decimal b.since.missing ++ codes " missing"

abbrev pub refuted_text : List (List ℕ) → Book → List ℕ
refuted_text names b = refuted_words ++ queued_text b ++ here_text b ++ book_text names b ++ codes "\n"

-- calls of several kinds, and the hole where the question points
abbrev pub kinds_text : Book → List ℕ
kinds_text b = filtered_part_text b.behind.entry.calls ++ codes ", " ++ decimal b.behind.entry.calls.lost ++ codes " lost, " ++ decimal (b.behind.entry.calls.queued - b.since.messages) ++ program_words

abbrev pub hole_text : Option Hole → List ℕ
hole_text None = codes "\n"
hole_text (Some hole) = codes "; " ++ count_text hole ++ between_text hole ++ codes "\n"

abbrev pub mixed_text : List (List ℕ) → Book → Option Hole → List ℕ
mixed_text names b hole = kinds_text b ++ book_text names b ++ hole_text hole

-- ---- what leaves it open

-- none of its context is here, which may count its own messages
abbrev pub no_context_text : List ℕ
no_context_text = codes "no message of its context is here, which may count its own messages\n"

abbrev pub none_text : Question → List ℕ
none_text q = codes "no message of " ++ id_text q.apid ++ codes " is here\n"

abbrev pub sessions_text : Question → List ℕ
sessions_text q = id_text q.apid ++ sessions_words

abbrev pub backs_text : ℕ → List ℕ
backs_text n = backs_words ++ decimal n ++ codes "\n"

-- ---- all

-- what stands behind the word
abbrev pub said_text : List (List ℕ) → Question → Verdict → List ℕ
said_text names q (verdict.Filtered book) = filtered_text names book
said_text names q (verdict.Dropped book) = dropped_text names q book
said_text names q (verdict.Unlogged book) = unlogged_text names book
said_text names q (verdict.Lost gone) = lost_text names q gone
said_text names q (verdict.Refused gone) = refused_text names gone
said_text names q (verdict.Unstored gone) = unstored_text names gone
said_text names q (verdict.Doubted gone account) = doubted_text names gone account
said_text names q (verdict.Rotated first) = rotated_text names first
said_text names q (verdict.Before first) = before_text names first
said_text names q (verdict.Behind last) = behind_text names last
said_text names q (verdict.Untold gone) = untold_text names gone
said_text names q (verdict.Holes count hole) = holes_text count hole
said_text names q (verdict.Early first count hole) = early_text first count hole
said_text names q (verdict.Counting session context) = counting_text session context
said_text names q verdict.Whole = whole_text q
said_text names q verdict.NoContext = no_context_text
said_text names q verdict.Nobody = none_text q
said_text names q verdict.Sessions = sessions_text q
said_text names q (verdict.Backs count) = backs_text count
said_text names q (verdict.Gapped book) = gapped_text names book
said_text names q (verdict.Refuted book) = refuted_text names book
said_text names q (verdict.Mixed book hole) = mixed_text names book hole

-- The line of a message that isn't here begins with the word of what is said of it.
abbrev pub verdict_text : List (List ℕ) → Question → Verdict → List ℕ
verdict_text names q v = word_text (word_of v) ++ said_text names q v
