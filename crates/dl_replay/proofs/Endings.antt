-- How a run ends, by what its report's writing left; and that it began earlier.
use Rattle.std.proofs.Common.{◌≡◌, ℕ, ◌+◌, ◌-◌, ◌^◌, ◌<◌, ◌≤◌, ◌⊎◌, inl, inr, min, Bool, true, false, List, [], ◌∷◌, ◌++◌, length, map, Option, Some, None, refl, sym, ap, subst, ◌∙◌, arith}
use Rattle.std.specs.Prelude.{◌==◌, count_by, if◌then◌else◌, nat_lt, Err, IsSomeAnd}
use Rattle.std.proofs.lemmas.Bool.{ne_eqb}
use Rattle.std.proofs.lemmas.List.{append-nil}
use Rattle.dl_bytes.specs.declared.outcome.TraceState.{TraceState}
use Rattle.dl_outside.proofs.Staying.{counted}
use Rattle.dl_script_model.specs.Replay.{files_of, trace_of}
use Rattle.dl_model.specs.Setting.{Setting}
use Rattle.dl_model.specs.TraceFiles.{StoredFile}
use Rattle.dl_trace.specs.InFolder.{HasFiles}
use Rattle.dl_trace.specs.State.{listed}
use Rattle.dl_bytes.specs.declared.outcome.TraceEnd.{TraceEnd}
use Rattle.dl_bytes.specs.declared.outcome.TraceEnd.TheVariants as end
use Rattle.dl_script_model.specs.Marks.{Mark, journal}
use Rattle.dl_outside.specs.Folder.{Files}
use Rattle.dl_outside.specs.Outside.{HasRisen}
use Rattle.dl_core.specs.Later.{trace_failures}
use Rattle.dl_core.specs.Standing.{files_with}
use Rattle.dl_world.specs.Played.{IsTraced, failures, frames_in, is_failed}
use Rattle.dl_world.specs.declared.played.Played.{Played}
use Rattle.dl_replay.specs.declared.begin.Start.{Start}
use Rattle.dl_startup.specs.declared.status.Status.{Status}
use Rattle.dl_startup.specs.declared.status.Status.TheVariants.{Ok, WordsRefused, ConfRefused, StoredRefused, ScriptRefused, WriteFault, FolderFault, OutOfMemory, NamesSpent, ReadFault, NetFault, JournalFull, StorageRefused}
use Rattle.dl_replay.specs.declared.task.Task.{Task}
use Rattle.dl_replay.specs.Finish.{Ends, Finishes, report_for, status_after}
use Rattle.dl_replay.specs.Playing.{IsOf, Plays}
use Rattle.dl_replay.specs.Run.{Run, HasDecided, HasNames, HoldsItsStored, IsDecided, IsSpent, IsWhole, marks, no_trace, setting, text_of}
use Rattle.dl_startup.specs.Failures.{unserved}
use Rattle.dl_outside.specs.Told.{FolderTold, SinkTold}
use Rattle.dl_outside.specs.Written.{WroteAll, WroteFront}
use Rattle.dl_startup.specs.Unchanged.{FolderWell, IsQuiet}
use Rattle.dl_replay.proofs.Answering.{said_yes}
use Rattle.dl_startup.proofs.Told.{known_before, unchanged_on}
use Rattle.dl_replay.proofs.Folders.{stored_before, traced_before}

-- ---- what the trace tells

-- a directory is named or not
is_named : (directory : List ℕ) → (directory ≡ []) ⊎ (0 < length directory)
is_named [] = inl refl
is_named (x ∷ directory) = inr (omega arith)

-- where one is named, its files are those of the rotation rule
named_files : (directory : List ℕ) (files : List StoredFile) → 0 < length directory → (if length directory == 0 then [] else files) ≡ files
named_files directory files named = ap (λ b. if b then [] else files) (ne_eqb (length directory) 0 (λ e. absurd (omega (arith, e, named))))

unnamed_files : (directory : List ℕ) (files : List StoredFile) → directory ≡ [] → (if length directory == 0 then [] else files) ≡ []
unnamed_files directory files unnamed = ap (λ (d : List ℕ). if length d == 0 then [] else files) unnamed

-- a state of a trace, field by field
by_fields : (state other : TraceState) → state.files ≡ other.files → state.end ≡ other.end → state ≡ other
by_fields state other files ended = λ i. record { files = files i; end = ended i }

-- a trace that did not end tells of the files of the rotation rule
goes_on : (setting : Setting) (stood : List StoredFile) (done : List Mark) (state : TraceState) (told told_now : Option Files) → 0 < length setting.directory → IsTraced setting stood done state told told_now → state.end ≡ None
    → state ≡ trace_of setting stood done
goes_on setting stood done state told told_now named traced ended =
    let all : frames_in setting done ≡ traced.stored = traced.all ∙ ap (λ (later : List (List ℕ)). traced.stored ++ later) (traced.whole ended) ∙ append-nil traced.stored in
    let files : files_with setting stood traced.stored ≡ files_of setting stood done =
    ap (files_with setting stood) (sym all) ∙ sym (named_files setting.directory (files_with setting stood (frames_in setting done)) named) in
    by_fields state (trace_of setting stood done) (traced.files_are ∙ ap (λ (fs : List StoredFile). map (listed setting.directory) fs) files) ended

-- so does one that isn't kept: there are none
is_none : (setting : Setting) (stood : List StoredFile) (done : List Mark) (state : TraceState) → setting.directory ≡ [] → state ≡ no_trace → state ≡ trace_of setting stood done
is_none setting stood done state unnamed none =
    by_fields state (trace_of setting stood done)
    (ap (λ (s : TraceState). s.files) none ∙ sym (ap (λ (fs : List StoredFile). map (listed setting.directory) fs) (unnamed_files setting.directory (files_with setting stood (frames_in setting done)) unnamed)))
    (ap (λ (s : TraceState). s.end) none)

whole : {start : Start} {old new : FolderTold} → (run : Run start old new) → run.trace.end ≡ None → IsWhole run
whole {start = start} {old = old} {new = new} run ended =
    elim (is_named start.conf.directory) [
      | inl unnamed ↦ is_none (setting start) run.stood (marks start run.answers) run.trace unnamed (run.untraced unnamed)
      | inr named ↦ goes_on (setting start) run.stood (marks start run.answers) run.trace old.files new.files named (run.traced named) ended
    ]

spent : {start : Start} {old new : FolderTold} → (run : Run start old new) → run.trace.end ≡ Some end.Spent → IsSpent run
spent {start = start} run ended = record {
  told = ended;
  spent =
      elim (is_named start.conf.directory) [
        | inl unnamed ↦ let none : run.trace.end ≡ None = ap (λ (s : TraceState). s.end) (run.untraced unnamed) in let both : None ≡ Some end.Spent = sym none ∙ ended in cc
        | inr named ↦ (run.traced named).spent ended
      ];
}

-- ---- a run whose report was made

-- what is known of a run when its report is written
record Known {start : Start} {old new : FolderTold} (run : Run start old new) (failed : Bool) (cause : Option TraceEnd) (short : Bool) : Type 0 where
  later : old.faults ≤ new.faults
  rose : failed ≡ true → HasRisen old.faults new.faults
  well : failed ≡ false → FolderWell old new
  cause_is : run.trace.end ≡ cause
  short_is : unserved (journal (marks start run.answers)) ≡ short

-- a trace that ended for another cause, or not at all
has_names : {start : Start} {old new : FolderTold} → (run : Run start old new) (cause : Option TraceEnd) → run.trace.end ≡ cause → (cause ≡ Some end.Spent → ⊥) → HasNames run
has_names run cause is other = λ spent. other (sym is ∙ spent)

-- the folder failed where the trace ended so
risen : {start : Start} {old new : FolderTold} → (run : Run start old new) → run.trace.end ≡ Some end.Failed → old.faults ≤ new.faults → HasRisen old.faults new.faults
risen {start = start} {old = old} {new = new} run ended later =
    let count = count_by is_failed (marks start run.answers) in
    let rises : min (old.faults + (count + 1)) (2 ^ 64 - 1) ≤ new.faults =
    subst (λ (e : Option TraceEnd). min (old.faults + (count + trace_failures e)) (2 ^ 64 - 1) ≤ new.faults) ended run.failed in
    (later, omega (arith, rises))

-- the folder did not fail, and each Store and each Reset had memory
decided : {start : Start} {old new : FolderTold} → (run : Run start old new) → FolderWell old new → unserved (journal (marks start run.answers)) ≡ false → IsDecided run
decided {start = start} {old = old} {new = new} run well served = λ room.
    let count = count_by is_failed (marks start run.answers) in
    let more = trace_failures run.trace.end in
    let rises : min (old.faults + (count + more)) (2 ^ 64 - 1) ≤ new.faults = run.failed in
    said_yes (setting start) run.answers start.steps (omega (arith, rises, well, room)) served

-- so the stored configuration is that of the run in which it said Yes each time
has_decided : {start : Start} {old new : FolderTold} → (run : Run start old new) → FolderWell old new → unserved (journal (marks start run.answers)) ≡ false → HasDecided run
has_decided {start = start} {old = old} {new = new} run well served = λ room.
    let more = trace_failures run.trace.end in
    let rises : min (old.faults + (count_by is_failed (marks start run.answers) + more)) (2 ^ 64 - 1) ≤ new.faults = run.failed in
    subst (λ (done : List Mark). HoldsItsStored start old.files new.files done) (decided run well served room) (run.stored (omega (arith, rises, well, room)))

-- a fault of the folder comes before all else
folder_first : (cause : Option TraceEnd) (written short : Bool) → status_after true cause written short ≡ FolderFault
folder_first None written short = refl
folder_first (Some end.Failed) written short = refl
folder_first (Some end.Spent) written short = refl
folder_first (Some end.NoMemory) written short = refl

written_whole : {start : Start} {old new : FolderTold} → (task : Task) (run : Run start old new) (out out_now : SinkTold) (failed : Bool) (cause : Option TraceEnd) (short : Bool) → Known run failed cause short
    → WroteAll out out_now (text_of task run) → Ends task start old new out out_now (status_after failed cause true short)
written_whole {start = start} {old = old} {new = new} task run out out_now true cause short known all =
    subst (λ (s : Status). Ends task start old new out out_now s) (sym (folder_first cause true short)) (known.rose refl, inr (run, inl all))
written_whole task run out out_now false (Some end.Failed) short known all = (risen run known.cause_is known.later, inr (run, inl all))
written_whole task run out out_now false (Some end.Spent) short known all = (run, inl all, known.well refl, spent run known.cause_is)
written_whole task run out out_now false (Some end.NoMemory) short known all = inr (run, all, known.well refl, has_names run (Some end.NoMemory) known.cause_is (λ e. cc), inr known.cause_is)
written_whole task run out out_now false None true known all = inr (run, all, known.well refl, has_names run None known.cause_is (λ e. cc), inl known.short_is)
written_whole task run out out_now false None false known all = (run, all, known.well refl, whole run known.cause_is, known.short_is, decided run (known.well refl) known.short_is, has_decided run (known.well refl) known.short_is)

written_front : {start : Start} {old new : FolderTold} → (task : Task) (run : Run start old new) (out out_now : SinkTold) (failed : Bool) (cause : Option TraceEnd) (short : Bool) → Known run failed cause short
    → WroteFront out out_now (text_of task run) → Ends task start old new out out_now (status_after failed cause false short)
written_front {start = start} {old = old} {new = new} task run out out_now true cause short known front =
    subst (λ (s : Status). Ends task start old new out out_now s) (sym (folder_first cause false short)) (known.rose refl, inr (run, inr front))
written_front task run out out_now false (Some end.Failed) short known front = (risen run known.cause_is known.later, inr (run, inr front))
written_front task run out out_now false (Some end.Spent) short known front = (run, inr front, known.well refl, spent run known.cause_is)
written_front task run out out_now false (Some end.NoMemory) short known front = (run, front, known.well refl, has_names run (Some end.NoMemory) known.cause_is (λ e. cc))
written_front task run out out_now false None short known front = (run, front, known.well refl, has_names run None known.cause_is (λ e. cc))

pub ended : {start : Start} {old new : FolderTold} → (task : Task) (run : Run start old new) (played : Played) (out out_now : SinkTold) (failed : Bool) (status : Status) → IsOf run played → old.faults ≤ new.faults
    → failed ≡ nat_lt old.faults new.faults → Finishes (report_for task played) failed played.ends.trace.end (unserved played.events.events) out out_now status → Ends task start old new out out_now status
ended {start = start} {old = old} {new = new} task run played out out_now failed status of later failed_is finishes =
    let cause = played.ends.trace.end in
    let short = unserved played.events.events in
    let count = counted old.faults new.faults failed later failed_is in
    let known : Known run failed cause short = record {
      later = later;
      rose = count.0;
      well = count.1;
      cause_is = ap (λ (s : TraceState). s.end) (sym of.trace);
      short_is = ap unserved (sym of.events);
    } in
    elim finishes [
      | inl w ↦ subst (λ (s : Status). Ends task start old new out out_now s) (sym w.1) (inl w.0)
      | inr w ↦
          elim w [
            | inl v ↦ subst (λ (s : Status). Ends task start old new out out_now s) (sym v.1) (written_whole task run out out_now failed cause short known (subst (λ (t : List ℕ). WroteAll out out_now t) (of.text task) v.0))
            | inr v ↦ subst (λ (s : Status). Ends task start old new out out_now s) (sym v.1) (written_front task run out out_now failed cause short known (subst (λ (t : List ℕ). WroteFront out out_now t) (of.text task) v.0))
          ]
    ]

-- ---- a run that began earlier

earlier_run : (start : Start) (old mid new : FolderTold) → IsQuiet old mid → Run start mid new → Run start old new
earlier_run start old mid new quiet run = record {
  stood = run.stood;
  answers = run.answers;
  trace = run.trace;
  stood_are = λ named. known_before old.files mid.files (λ files. HasFiles start.conf.directory files run.stood) quiet.unchanged.files (run.stood_are named);
  untraced = run.untraced;
  traced = λ named. traced_before (setting start) run.stood (marks start run.answers) run.trace old.files mid.files new.files quiet.unchanged.files (run.traced named);
  holds = λ named goes. known_before old.files mid.files (λ files. IsSomeAnd new.files (λ now. HasFiles start.conf.directory now (files_of (setting start) run.stood (marks start run.answers)))) quiet.unchanged.files (run.holds named goes);
  stored = λ none. stored_before start old.files mid.files new.files (marks start run.answers) quiet.unchanged.files (run.stored none);
  failed = subst (λ (n : ℕ). min (n + failures (marks start run.answers) run.trace) (2 ^ 64 - 1) ≤ new.faults) quiet.well run.failed;
}

pub earlier : (task : Task) (start : Start) (old mid new : FolderTold) (out out_now : SinkTold) (status : Status) → IsQuiet old mid → Ends task start mid new out out_now status → Ends task start old new out out_now status
unfolding earlier_run
earlier task start old mid new out out_now Ok quiet h = (
  earlier_run start old mid new quiet h.0,
  h.1,
  h.2 ∙ quiet.well,
  h.3,
  h.4,
  subst (λ (n : ℕ). n < 2 ^ 64 - 1 → marks start h.0.answers ≡ marks start []) quiet.well h.5,
  λ room. stored_before start old.files mid.files new.files (marks start []) quiet.unchanged.files (h.6 (subst (λ (n : ℕ). n < 2 ^ 64 - 1) (sym quiet.well) room)),
)
earlier task start old mid new out out_now WriteFault quiet h = (earlier_run start old mid new quiet h.0, h.1, h.2 ∙ quiet.well, h.3)
earlier task start old mid new out out_now FolderFault quiet h = (
  subst (λ (n : ℕ). HasRisen n new.faults) quiet.well h.0,
  elim h.1 [ inl w ↦ inl (unchanged_on old mid new quiet.unchanged w.0, w.1) | inr w ↦ inr (earlier_run start old mid new quiet w.0, w.1) ],
)
earlier task start old mid new out out_now OutOfMemory quiet h =
    elim h [ inl w ↦ inl w | inr w ↦ inr (earlier_run start old mid new quiet w.0, w.1, w.2 ∙ quiet.well, w.3, w.4) ]
earlier task start old mid new out out_now NamesSpent quiet h =
    (earlier_run start old mid new quiet h.0, h.1, h.2 ∙ quiet.well, record { told = h.3.told; spent = h.3.spent })
earlier task start old mid new out out_now WordsRefused quiet h = absurd h
earlier task start old mid new out out_now NetFault quiet h = absurd h
earlier task start old mid new out out_now JournalFull quiet h = absurd h
earlier task start old mid new out out_now (StorageRefused line kind) quiet h = absurd h
earlier task start old mid new out out_now (ConfRefused line kind) quiet h = absurd h
earlier task start old mid new out out_now (StoredRefused line kind) quiet h = absurd h
earlier task start old mid new out out_now (ScriptRefused line kind) quiet h = absurd h
earlier task start old mid new out out_now ReadFault quiet h = absurd h
