-- What one message more changes of what is found. (Of the code alone.)
use Rattle.std.specs.Prelude.{ℕ, ◌+◌, ◌&&◌, Bool, false, List, Option, Some, None, is_some, if◌then◌else◌}
use Rattle.std.specs.Option.{option_or}
use Rattle.dl_control.specs.Reply.{daemon_apid}
use Rattle.dl_sessions.specs.Gaps.{counted}
use Rattle.dl_sessions.specs.Ledger.{no_since, with_account, with_message}
use Rattle.dl_sessions.specs.declared.session.Entry.{Entry}
use Rattle.dl_sessions.specs.declared.session.Lost.{Lost}
use Rattle.dl_sessions.specs.declared.session.Since.{Since}
use Rattle.dl_sessions.specs.declared.session.Told.{Told}
use Rattle.dl_sessions.specs.declared.session.Told.TheVariants as told
use Rattle.dl_find.specs.Finds.{Met, back, book_by, change, hole_by, is_behind, is_open, met_again, session_goes, tells, told_of}
use Rattle.dl_find_words.specs.Questions.{is_about, is_account, is_asked, is_named, is_of_context}
use Rattle.dl_find_words.specs.declared.found.Book.{Book}
use Rattle.dl_find_words.specs.declared.found.Books.{Books}
use Rattle.dl_find_words.specs.declared.found.Finding.{Finding}
use Rattle.dl_find_words.specs.declared.found.Hole.{Hole}
use Rattle.dl_find_words.specs.declared.question.Point.{Point}
use Rattle.dl_find_words.specs.declared.question.Question.{Question}
use Rattle.dl_find_words.specs.declared.found.Reports.{Reports}
use Rattle.dl_find_words.specs.declared.seen.Hit.{Hit}
use Rattle.dl_find_words.specs.declared.seen.Seen.{Seen}
use Rattle.dl_find_words.specs.declared.seen.Spot.{Spot}
use Rattle.dl_find_words.specs.declared.found.Track.{Track}

abbrev pub no_reports : Reports
no_reports = record { ring = 0; buffer = 0; unstored = 0; last = None }

abbrev pub with_report : Question → Reports → Spot → Lost → Reports
with_report q reports spot lost = record {
  ring = counted (reports.ring + told_of q.apid (told.Lost lost));
  buffer = counted (reports.buffer + told_of daemon_apid (told.Lost lost));
  unstored = reports.unstored;
  last = if tells q (told.Lost lost) then Some spot else reports.last;
}

abbrev pub with_unstored : Reports → Spot → ℕ → Reports
with_unstored reports spot count = record reports { unstored = counted (reports.unstored + count); last = Some spot }

abbrev pub no_track : Track
no_track = record { messages = 0; first = None; last = None; changes = 0; backs = 0; returns = 0; holes = 0; hole = None; since = no_reports; behind = no_reports }

abbrev pub one_if : Bool → ℕ
one_if b = if b then 1 else 0

abbrev pub with_entry : Point → Track → Seen → Track
with_entry point t s = record {
  messages = counted (t.messages + 1);
  first = option_or t.first (Some s);
  last = Some s;
  changes = counted (t.changes + change t.last s.entry);
  backs = counted (t.backs + back t.last s.entry);
  returns = counted (t.returns + met_again t.last s.entry);
  holes = counted (t.holes + one_if (is_some (hole_by point t.last s t.messages t.since)));
  hole = option_or t.hole (hole_by point t.last s t.messages t.since);
  since = no_reports;
  behind = t.behind;
}

-- what is told since the last message, and behind the hole where that is there
abbrev pub retold : Track → Reports → Reports → Track
retold t since behind = record t { since = since; behind = if is_open t.hole t.messages then behind else t.behind }

abbrev pub reported : Question → Track → Spot → Lost → Track
reported q t spot lost = retold t (with_report q t.since spot lost) (with_report q t.behind spot lost)

abbrev pub ended : Track → Spot → ℕ → Track
ended t spot count = retold t (with_unstored t.since spot count) (with_unstored t.behind spot count)

abbrev pub track_by : Bool → Point → Track → Seen → Track
track_by passes point t s = if passes then with_entry point t s else t

abbrev pub goes_by : (Option Seen → Option Seen → Entry → ℕ) → Question → Finding → Entry → ℕ
goes_by goes q f e = if is_of_context q e then goes f.session.last f.context.last e else 0

abbrev pub hit_if : Bool → Seen → List ℕ → Option Hit
hit_if named s bytes = if named then Some (record { seen = s; bytes = bytes }) else None

-- ---- accounts

abbrev pub no_books : Books
no_books = record { since = no_since; own = no_since; last = None; book = None; next = None }

-- what came of the context, with an account of it more or with another message
abbrev pub since_with : Bool → Bool → Since → Entry → Since
since_with about own since e = if about then with_account since else if own then with_message since e else since

abbrev pub book_with : Bool → Point → Option Hole → Books → Seen → Option Book
book_with about point hole books s = if about then book_by point hole books.last s books.since books.own else None

abbrev pub next_with : Bool → Point → Seen → Option Seen
next_with about point s = if about && is_behind point s then Some s else None

-- the hole of the context is where the question points
abbrev pub books_with : Question → Option Hole → Books → Seen → Books
books_with q hole books s = record {
  since = since_with (is_about q s.entry) (is_of_context q s.entry) books.since s.entry;
  own = since_with false (is_account q s.entry) books.own s.entry;
  last = if is_about q s.entry then Some s else books.last;
  book = option_or books.book (book_with (is_about q s.entry) q.point hole books s);
  next = option_or books.next (next_with (is_about q s.entry) q.point s);
}

-- ---- all

abbrev pub with_seen : Question → Finding → Seen → List ℕ → Finding
with_seen q f s bytes = record {
  hits = counted (f.hits + one_if (is_named q s.entry));
  hit = option_or f.hit (hit_if (is_named q s.entry) s bytes);
  start = option_or f.start (Some s);
  session = track_by (is_asked q s.entry) q.point f.session s;
  context = track_by (is_of_context q s.entry) q.point f.context s;
  of_session = counted (f.of_session + goes_by session_goes q f s.entry);
  books = books_with q f.context.hole f.books s;
}

abbrev pub with_lost : Question → Finding → Spot → Lost → Finding
with_lost q f spot lost = record f { session = reported q f.session spot lost; context = reported q f.context spot lost }

abbrev pub with_ended : Finding → Spot → ℕ → Finding
with_ended f spot count = record f { session = ended f.session spot count; context = ended f.context spot count }

abbrev pub noted_by : Question → Finding → Spot → List ℕ → Told → Finding
noted_by q f spot bytes (told.Log e) = with_seen q f (record { spot = spot; entry = e }) bytes
noted_by q f spot bytes (told.Lost lost) = with_lost q f spot lost
noted_by q f spot bytes (told.Unstored count) = with_ended f spot count
noted_by q f spot bytes told.Other = f

abbrev pub noted : Question → Finding → Met → Finding
noted q f m = noted_by q f m.spot m.bytes m.told
