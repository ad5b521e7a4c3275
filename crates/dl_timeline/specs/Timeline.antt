-- The timeline of a stream: for each session, what each column of time has.
use Rattle.std.specs.Prelude.{◌≡◌, ℕ, ◌+◌, ◌-◌, ◌^◌, ◌==◌, ◌&&◌, min, max, Bool, false, List, [], ◌∷◌, ◌++◌, codes, fold, map, unwrap_or, if◌then◌else◌}
use Rattle.std.specs.HashMap as hash
use Rattle.std.specs.List.{flat_map, range_with_len}
use Rattle.std.specs.Fmt.{decimal}
use Rattle.dl_text.specs.IdText.{id_text}
use Rattle.dl_picture.specs.Axis.{column_of, start_of}
use Rattle.dl_picture.specs.Picture.{Chart}
use Rattle.dl_picture.specs.Row.{ChartRow}
use Rattle.dl_picture.specs.Tally.{joined, no_bin}
use Rattle.dl_picture.specs.declared.axis.Axis.{Axis}
use Rattle.dl_picture.specs.declared.chart.Bin.{Bin}
use Rattle.dl_sessions.specs.declared.session.Hole.{Hole}
use Rattle.dl_sessions.specs.declared.session.Session.{Session}
use Rattle.dl_sessions.specs.declared.session.Source.{Source}
use Rattle.dl_sessions.specs.declared.session.Told.{Told}
use Rattle.dl_sessions.specs.declared.session.Told.TheVariants as told
use Rattle.dl_sessions.specs.declared.session.Totals.{Totals}
use Rattle.dl_timeline.specs.declared.timeline.Report.{Report}
use Rattle.dl_timeline.specs.declared.timeline.ReportSpot.{ReportSpot}
use Rattle.dl_timeline.specs.declared.timeline.Spot.{Spot}
use Rattle.dl_timeline.specs.declared.timeline.SpotMark.{SpotMark}
use Rattle.dl_timeline.specs.declared.timeline.Timeline.{Timeline}
use Rattle.dl_sessions.specs.Account.{holes, sessions, totals_of}
use Rattle.dl_sessions.specs.Gaps.{entries, same_session, same_source, source_of}
use Rattle.dl_sessions.specs.Text.{buffer, lack_words, missing_here, time_text}

-- ---- time

-- the least timestamp of log messages, and the greatest
abbrev pub least : ℕ → Told → ℕ
least so_far (told.Log e) = min so_far e.ticks
least so_far _ = so_far

abbrev pub greatest : ℕ → Told → ℕ
greatest so_far (told.Log e) = max so_far e.ticks
greatest so_far _ = so_far

-- the time of a stream, in units of 0.1 ms
abbrev pub axis_of : List Told → Axis
axis_of stream = record { first = fold least (2 ^ 32 - 1) stream; last = fold greatest 0 stream }

-- ---- messages and holes

abbrev pub same_spot : Spot → Spot → Bool
same_spot a b = same_session a.session b.session && a.column == b.column

-- a log message counts at its own time
abbrev pub message_mark : Axis → Told → List SpotMark
message_mark axis (told.Log e) = record { spot = record { session = e.session; column = column_of axis e.ticks }; bin = record no_bin { messages = 1 } } ∷ []
message_mark axis _ = []

-- what is missing counts at the time of the message behind it, by the counting that the session follows; what is not known counts nothing
abbrev pub hole_mark : Axis → (Session → Totals) → Hole → SpotMark
hole_mark axis totals hole = record {
  spot = record { session = hole.entry.session; column = column_of axis hole.entry.ticks };
  bin = record no_bin { missing = missing_here (totals hole.entry.session) hole };
}

abbrev pub marks_of : List Told → List SpotMark
marks_of stream =
    flat_map (message_mark (axis_of stream)) stream ++ map (hole_mark (axis_of stream) (λ session. totals_of session (entries stream))) (holes stream)

-- what a column of a session has of marks
abbrev pub with_mark : Spot → Bin → SpotMark → Bin
with_mark spot so_far mark = if same_spot mark.spot spot then joined so_far mark.bin else so_far

abbrev pub marked : Spot → List SpotMark → Bin
marked spot marks = fold (with_mark spot) no_bin marks

-- ---- reports of lost messages

abbrev pub same_report : ReportSpot → ReportSpot → Bool
same_report a b = same_source a.source b.source && a.column == b.column

-- the column in which a report counts behind a message: that of the last log message before it
abbrev pub column_behind : Axis → ℕ → Told → ℕ
column_behind axis column (told.Log e) = column_of axis e.ticks
column_behind axis column _ = column

-- the report that a message is
abbrev pub report_of : ℕ → Told → List Report
report_of column (told.Lost l) = record { spot = record { source = l.source; column = column }; bin = record no_bin { lost = l.count } } ∷ []
report_of column _ = []

abbrev pub reports_from : Axis → ℕ → List Told → List Report
reports_from axis column [] = []
reports_from axis column (t ∷ stream) = report_of column t ++ reports_from axis (column_behind axis column t) stream

abbrev pub reports_of : List Told → List Report
reports_of stream = reports_from (axis_of stream) 0 stream

-- what a column of an application has of reports
abbrev pub with_report : ReportSpot → Bin → Report → Bin
with_report spot so_far report = if same_report report.spot spot then joined so_far report.bin else so_far

abbrev pub reported : ReportSpot → List Report → Bin
reported spot reports = fold (with_report spot) no_bin reports

-- ---- the picture

-- what a column of a session shows: its messages, its holes, and the reports of its application and of the buffer
abbrev pub bin_of : List Told → Session → ℕ → Bin
bin_of stream session column =
    joined (marked (record { session = session; column = column }) (marks_of stream))
    (joined (reported (record { source = source_of session; column = column }) (reports_of stream)) (reported (record { source = buffer; column = column }) (reports_of stream)))

-- a session by its name
abbrev pub name_text : Session → List ℕ
name_text session = id_text session.ecu ++ codes " " ++ id_text session.apid ++ codes " " ++ decimal session.seid

-- how many messages it has, and how many are missing
abbrev pub note_text : Totals → List ℕ
note_text totals = decimal totals.messages ++ codes " messages, " ++ lack_words totals

abbrev pub row_of : List Told → Session → ChartRow
row_of stream session = record {
  name = name_text session;
  note = note_text (totals_of session (entries stream));
  bins = map (bin_of stream session) (range_with_len 0 120);
}

-- a time in seconds, with four digits behind the point
abbrev pub column_name : Axis → ℕ → List ℕ
column_name axis column = time_text (start_of axis column)

-- The picture of a stream: a row for each session, in the order of their first messages.
abbrev pub timeline : List Told → Chart
timeline stream = record {
  title = codes "Messages by time, in seconds";
  columns = map (column_name (axis_of stream)) (range_with_len 0 120);
  rows = map (row_of stream) (sessions (entries stream));
  filters = false;
}

-- ---- what is kept

abbrev pub KeepsMarks : {S : Type 0} → hash.HashMap Spot Bin S → List SpotMark → Type 0
KeepsMarks bins marks = (spot : Spot) → unwrap_or (hash.get same_spot bins spot) no_bin ≡ marked spot marks

abbrev pub KeepsReports : {S : Type 0} → hash.HashMap ReportSpot Bin S → List Report → Type 0
KeepsReports bins reports = (spot : ReportSpot) → unwrap_or (hash.get same_report bins spot) no_bin ≡ reported spot reports

-- the timeline of a stream
pub record IsTimeline (stream : List Told) (now : Timeline) : Type 0 where
  pub axis_is : now.axis ≡ axis_of stream
  pub spots_are : KeepsMarks now.spots (marks_of stream)
  pub reports_are : KeepsReports now.reports (reports_of stream)
