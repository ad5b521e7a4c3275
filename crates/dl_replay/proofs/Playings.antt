-- What was played is a run.
use Rattle.std.proofs.Common.{◌≡◌, ◌≢◌, ℕ, ◌+◌, ◌-◌, ◌^◌, ◌<◌, ◌≤◌, min, List, [], ◌++◌, length, map as mapped, get_or, Option, Some, None, refl, sym, ap, subst, ◌∙◌, arith}
use Rattle.std.specs.Prelude.{◌==◌, count_by, if◌then◌else◌, IfSome, IsSomeAnd}
use Rattle.std.specs.List.{All, range_with_len}
use Rattle.std.proofs.lemmas.Bool.{ne_eqb}
use Rattle.std.proofs.lemmas.List.{append-nil}
use Rattle.std.proofs.lemmas.List.Elements.{All-map}
use Rattle.std.proofs.lemmas.List.FromFn.{get_or-range_with_len, length-map-range_with_len, length-range_with_len}
use Rattle.std.specs.FinMap as map
use Rattle.dl_bytes.specs.declared.conf.AppSpec.{AppSpec}
use Rattle.dl_bytes.specs.declared.conf.Conf.{Conf}
use Rattle.dl_bytes.specs.declared.outcome.Backlog.{Backlog}
use Rattle.dl_bytes.specs.declared.outcome.Ends.{Ends}
use Rattle.dl_bytes.specs.declared.outcome.LinkEnd.{LinkEnd}
use Rattle.dl_bytes.specs.declared.outcome.TraceEnd.{TraceEnd}
use Rattle.dl_bytes.specs.declared.outcome.TraceState.{TraceState}
use Rattle.dl_events.specs.declared.event.Event.{Event}
use Rattle.dl_events.specs.declared.record.Record.{Record}
use Rattle.dl_model.specs.Journal.{is_connect}
use Rattle.dl_model.specs.Backlog.{left}
use Rattle.dl_model.specs.ClientStream.{traffic}
use Rattle.dl_script_model.specs.Marks.{Mark, journal, records}
use Rattle.dl_script_model.specs.Replay.{clients, ends_of, files_of, link_of, report_of, source_of, specs_of, stream_of}
use Rattle.dl_model.specs.Report.{report}
use Rattle.dl_model.specs.Setting.{Setting}
use Rattle.dl_model.specs.TraceFiles.{StoredFile}
use Rattle.dl_outside.specs.Folder.{Files}
use Rattle.dl_outside.specs.Outside.{Stays}
use Rattle.dl_startup.specs.Setup.{IsBegun, stored_name}
use Rattle.dl_report.specs.Counts.{HasStreams}
use Rattle.dl_trace.specs.Made.{IsMade}
use Rattle.dl_trace.specs.InFolder.{HasFiles, IsTraceName}
use Rattle.dl_trace.specs.State.{Trace, IsAfter}
use Rattle.dl_core.specs.Files.{ChangesOwnFiles}
use Rattle.dl_core.specs.Standing.{Stands, files_with}
use Rattle.dl_world.specs.Played.{IsPlayed, IsTraced, failures, frames_in, is_failed}
use Rattle.dl_world.specs.declared.played.Played.{Played}
use Rattle.dl_replay.specs.declared.begin.Start.{Start}
use Rattle.dl_replay.specs.declared.task.Task.{Task}
use Rattle.dl_replay.specs.declared.task.Task.TheVariants.{Steps, Generate}
use Rattle.dl_replay.specs.Finish.{frames_for, report_for}
use Rattle.dl_replay.specs.Playing.{IsOf, OwnFiles}
use Rattle.dl_replay.specs.Run.{Run, HoldsItsStored, marks, setting}
use Rattle.dl_replay.specs.Task.{shows_frames}
use Rattle.dl_outside.specs.Told.{FolderTold}
use Rattle.dl_replay.proofs.Folders.{stored_before, traced_before}
use Rattle.dl_lemmas.proofs.Lists.{not_empty}
use Rattle.dl_lemmas.proofs.Options.{if_some_of}

-- ---- the report

-- the report of equal parts
same_report : (records other_records : List (List Record)) (events other_events : List Event) (specs other_specs : List AppSpec) (ends other_ends : Ends) (backlog other_backlog : Backlog) (frames other_frames : Option (List (List (List ℕ))))
    → records ≡ other_records → events ≡ other_events → specs ≡ other_specs → ends ≡ other_ends → backlog ≡ other_backlog → frames ≡ other_frames
    → report records events specs ends backlog frames ≡ report other_records other_events other_specs other_ends other_backlog other_frames
same_report records other_records events other_events specs other_specs ends other_ends backlog other_backlog frames other_frames a b c d e f =
    λ i. report (a i) (b i) (c i) (d i) (e i) (f i)

-- the clients whose numbers are those of the streams
numbered : (setting : Setting) (done : List Mark) (n count : ℕ) → n ≡ count → All (λ (link : LinkEnd). (1 ≤ link.client) × (link.client ≤ count)) (mapped (link_of setting done) (range_with_len 1 n))
numbered setting done n count same =
    All-map (λ (link : LinkEnd). (1 ≤ link.client) × (link.client ≤ count)) (link_of setting done) (range_with_len 1 n) (λ k d below.
    let within : k < n = omega (arith, below, length-range_with_len 1 n) in
    let is : get_or (range_with_len 1 n) k d ≡ 1 + k = get_or-range_with_len 1 n k d within in
    (omega (arith, is), omega (arith, is, within, same)))

-- the frames that a report shows are those of its clients
has_streams : (setting : Setting) (done : List Mark) (played : Played) → played.streams ≡ mapped (stream_of setting done) (clients done) → played.ends.links ≡ mapped (link_of setting done) (clients done)
    → (task : Task) → All (HasStreams (frames_for task played)) played.ends.links
has_streams setting done played streams links Steps =
    let count : length played.streams ≡ count_by is_connect (journal done) = ap length streams ∙ length-map-range_with_len (stream_of setting done) 1 (count_by is_connect (journal done)) in
    subst (λ (ls : List LinkEnd). All (λ (link : LinkEnd). (1 ≤ link.client) × (link.client ≤ length played.streams)) ls) (sym links)
    (numbered setting done (count_by is_connect (journal done)) (length played.streams) (sym count))
has_streams setting done played streams links (Generate number calls) = λ k d below. tt

-- ---- the run

-- what was played, at the marks of the run
text_with : (setting : Setting) (done : List Mark) (played : Played) (trace : TraceState)
    → played.records ≡ records done → played.events.events ≡ journal done → played.specs ≡ specs_of done → played.ends ≡ ends_of setting done trace
    → played.backlog ≡ left setting.buffer (traffic (source_of setting done) (journal done)) → played.streams ≡ mapped (stream_of setting done) (clients done)
    → (task : Task) → report_for task played ≡ report_of setting done trace (shows_frames task)
text_with setting done played trace a b c d e f Steps =
    same_report played.records (records done) played.events.events (journal done) played.specs (specs_of done) played.ends (ends_of setting done trace)
    played.backlog (left setting.buffer (traffic (source_of setting done) (journal done))) (Some played.streams) (Some (mapped (stream_of setting done) (clients done)))
    a b c d e (ap Some f)
text_with setting done played trace a b c d e f (Generate number calls) =
    same_report played.records (records done) played.events.events (journal done) played.specs (specs_of done) played.ends (ends_of setting done trace)
    played.backlog (left setting.buffer (traffic (source_of setting done) (journal done))) None None
    a b c d e refl

is_of : (start : Start) (old new : FolderTold) (stood : List StoredFile) (trace : Option Trace) (played : Played) (told told_now : FolderTold)
    → (p : IsPlayed (setting start) stood start.steps trace played told told_now) (run : Run start old new) → run.answers ≡ p.answers → run.trace ≡ played.ends.trace → IsOf run played
is_of start old new stood trace played told told_now p run answers trace_is =
    let done = marks start run.answers in
    let same : p.done ≡ done = p.run_is ∙ ap (marks start) (sym answers) in
    let ends : played.ends ≡ ends_of (setting start) done run.trace =
    p.ends_are ∙ ap (λ (d : List Mark). ends_of (setting start) d played.ends.trace) same ∙ ap (ends_of (setting start) done) (sym trace_is) in
    let streams : played.streams ≡ mapped (stream_of (setting start) done) (clients done) =
    p.streams_are ∙ ap (λ (d : List Mark). mapped (stream_of (setting start) d) (clients d)) same in
    record {
      text =
          text_with (setting start) done played run.trace (p.records_are ∙ ap records same) (p.events_are ∙ ap journal same) (p.specs_are ∙ ap specs_of same) ends
          (p.backlog_is ∙ ap (λ (d : List Mark). left (setting start).buffer (traffic (source_of (setting start) d) (journal d))) same) streams;
      events = p.events_are ∙ ap journal same;
      trace = sym trace_is;
      links = has_streams (setting start) done played streams (ap (λ (e : Ends). e.links) ends);
    }

named_files : (directory : List ℕ) (files : List StoredFile) → 0 < length directory → files ≡ (if length directory == 0 then [] else files)
named_files directory files named = sym (ap (λ b. if b then [] else files) (ne_eqb (length directory) 0 (λ e. absurd (omega (arith, e, named)))))

-- what the stored configuration holds, where the folder stood while the trace was begun
stored_at_end : (start : Start) (old mid new : Option Files) (done other : List Mark) → Stays old mid → done ≡ other
    → (count_by is_failed done ≡ 0 → HoldsItsStored start mid new done) → count_by is_failed other ≡ 0 → HoldsItsStored start old new other
stored_at_end start old mid new done other told same stored none =
    stored_before start old mid new other told (subst (λ (d : List Mark). count_by is_failed d ≡ 0 → HoldsItsStored start mid new d) same stored none)

-- a run without a trace
untraced_run : (start : Start) (old mid new : FolderTold) (played : Played) → start.conf.directory ≡ [] → Stays old.files mid.files → mid.faults ≡ old.faults
    → IsPlayed (setting start) [] start.steps None played mid new → (run : Run start old new) × IsOf run played
untraced_run start old mid new played unnamed told well p =
    let run : Run start old new = record {
      stood = [];
      answers = p.answers;
      trace = played.ends.trace;
      stood_are = λ named. absurd (not_empty start.conf.directory unnamed named);
      untraced = λ _. p.trace_is;
      traced = λ named. absurd (not_empty start.conf.directory unnamed named);
      holds = λ named goes. absurd (not_empty start.conf.directory unnamed named);
      stored = stored_at_end start old.files mid.files new.files p.done (marks start p.answers) told p.run_is p.stored;
      failed =
          subst (λ (n : ℕ). min (n + failures (marks start p.answers) played.ends.trace) (2 ^ 64 - 1) ≤ new.faults) well
          (subst (λ (d : List Mark). min (mid.faults + failures d played.ends.trace) (2 ^ 64 - 1) ≤ new.faults) p.run_is p.faults_rose);
    } in
    (run, is_of start old new [] None played mid new p run refl refl)

-- what the folder holds while the trace goes on, where it held the files that stood
holding : (start : Start) (stood : List StoredFile) (done : List Mark) (state : TraceState) (old new : Option Files) → 0 < length start.conf.directory
    → IfSome old (λ files. HasFiles start.conf.directory files stood) → IsTraced (setting start) stood done state old new → state.end ≡ None
    → IfSome old (λ files. IsSomeAnd new (λ now. HasFiles start.conf.directory now (files_of (setting start) stood done)))
holding start stood done state None new named had traced goes = tt
holding start stood done state (Some files) new named had traced goes =
    let all : traced.stored ≡ frames_in (setting start) done = sym (append-nil traced.stored) ∙ ap (λ (later : List (List ℕ)). traced.stored ++ later) (sym (traced.whole goes)) ∙ sym traced.all in
    let stands : IsSomeAnd new (Stands None (setting start) stood traced.stored traced.later) =
    subst (λ (e : Option TraceEnd). IsSomeAnd new (Stands e (setting start) stood traced.stored traced.later)) goes (traced.stands had) in
    subst (λ (fs : List StoredFile). IsSomeAnd new (λ now. HasFiles start.conf.directory now fs))
    (ap (files_with (setting start) stood) all ∙ named_files start.conf.directory (files_with (setting start) stood (frames_in (setting start) done)) named) stands

-- a run with a trace
traced_run : (start : Start) (old mid new : FolderTold) (stood : List StoredFile) (trace : Trace) (played : Played) → 0 < length start.conf.directory
    → Stays old.files mid.files → mid.faults ≡ old.faults → IfSome old.files (λ files. HasFiles start.conf.directory files stood)
    → IsPlayed (setting start) stood start.steps (Some trace) played mid new → (run : Run start old new) × IsOf run played
traced_run start old mid new stood trace played named told well had p =
    let traced : IsTraced (setting start) stood (marks start p.answers) played.ends.trace old.files new.files =
    traced_before (setting start) stood (marks start p.answers) played.ends.trace old.files mid.files new.files told
    (subst (λ (d : List Mark). IsTraced (setting start) stood d played.ends.trace mid.files new.files) p.run_is p.trace_is) in
    let run : Run start old new = record {
      stood = stood;
      answers = p.answers;
      trace = played.ends.trace;
      stood_are = λ _. had;
      untraced = λ unnamed. absurd (not_empty start.conf.directory unnamed named);
      traced = λ _. traced;
      holds = λ _ goes. holding start stood (marks start p.answers) played.ends.trace old.files new.files named had traced goes;
      stored = stored_at_end start old.files mid.files new.files p.done (marks start p.answers) told p.run_is p.stored;
      failed =
          subst (λ (n : ℕ). min (n + failures (marks start p.answers) played.ends.trace) (2 ^ 64 - 1) ≤ new.faults) well
          (subst (λ (d : List Mark). min (mid.faults + failures d played.ends.trace) (2 ^ 64 - 1) ≤ new.faults) p.run_is p.faults_rose);
    } in
    (run, is_of start old new stood (Some trace) played mid new p run refl refl)

-- What was played over a trace that was begun is a run. The folder stood while the trace was begun.
pub is_run : (start : Start) (old mid new : FolderTold) (trace : Option Trace) (played : Played) → Stays old.files mid.files → mid.faults ≡ old.faults → IsBegun start.conf old.files trace
    → ((stood : List StoredFile) → IfSome trace (IsAfter stood []) → IsPlayed (setting start) stood start.steps trace played mid new) → (run : Run start old new) × IsOf run played
is_run start old mid new None played told well begun plays = untraced_run start old mid new played begun told well (plays [] tt)
is_run start old mid new (Some trace) played told well begun plays =
    traced_run start old mid new begun.2.0 trace played begun.0 told well begun.2.2 (plays begun.2.0 begun.2.1)

-- ---- files that change

-- a trace that was begun changes the files of the start
pub changes_own : (start : Start) (old : Option Files) (mid new : Option Files) (trace : Option Trace) → Stays old mid → IsBegun start.conf old trace → ChangesOwnFiles trace mid new → OwnFiles start old new
changes_own start None mid new trace told begun changes = tt
changes_own start (Some files) mid new None told begun changes =
    let here = if_some_of mid files (λ (folder : Files). (now : Files) × (new ≡ Some now) × ((name : List ℕ) → name ≢ stored_name → map.get now name ≡ map.get folder name)) told changes in
    (here.0, here.1, λ name apart other. here.2 name apart)
changes_own start (Some files) mid new (Some trace) told begun changes =
    let here = if_some_of mid files (λ (folder : Files). (now : Files) × (new ≡ Some now) × ((name : List ℕ) → ¬ (IsTraceName trace.directory name) → name ≢ stored_name → map.get now name ≡ map.get folder name)) told changes in
    (here.0, here.1, λ name apart other. here.2 name (λ traced. other (begun.0, subst (λ (d : List ℕ). IsTraceName d name) begun.1.directory traced)) apart)

-- files that stayed are the start's own alone
pub own_stay : (start : Start) (old new : Option Files) → Stays old new → OwnFiles start old new
own_stay start None new told = tt
own_stay start (Some files) new told = (files, told, λ name apart other. refl)
