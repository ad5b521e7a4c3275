-- Folder and script decide what is printed.
use Rattle.std.proofs.Common.{◌≡◌, ℕ, ◌-◌, ◌^◌, ◌<◌, Bool, List, [], ◌∷◌, length, map, Option, Some, None, refl, sym, ap, subst, ◌∙◌, arith, inl, inr}
use Rattle.std.specs.Prelude.{◌==◌, IfSome, if◌then◌else◌}
use Rattle.dl_bytes.specs.Limits.{client_limit}
use Rattle.dl_bytes.specs.declared.conf.Stored.{Stored}
use Rattle.dl_bytes.specs.declared.outcome.TraceState.{TraceState}
use Rattle.dl_script_model.specs.declared.step.Step.{Step}
use Rattle.dl_conf.specs.Conf.{Values}
use Rattle.dl_conf.specs.Outcome.{values_of}
use Rattle.dl_model.specs.Frames.{stored_frames}
use Rattle.dl_script_model.specs.Marks.{Mark, journal}
use Rattle.dl_script_model.specs.Replay.{files_of, printed, report_of, source_of, trace_of}
use Rattle.dl_model.specs.Setting.{Setting}
use Rattle.dl_model.specs.declared.software.Software.TheVariants.{Run}
use Rattle.dl_script_model.specs.Steps as steps
use Rattle.dl_model.specs.TraceFiles.{StoredFile, trace_files, trace_name}
use Rattle.dl_outside.specs.Folder.{Files}
use Rattle.dl_outside.specs.Written.{WroteAll}
use Rattle.dl_trace.specs.InFolder.{HasFiles}
use Rattle.dl_trace.proofs.Alike.{one_list}
use Rattle.dl_replay.specs.declared.begin.Start.{Start}
use Rattle.dl_startup.specs.declared.status.Status.TheVariants as status
use Rattle.dl_replay.specs.declared.task.Task.{Task}
use Rattle.dl_replay.specs.declared.task.Task.TheVariants.{Steps, Generate}
use Rattle.dl_replay.specs.Begin.{SaySteps}
use Rattle.dl_startup.specs.Configuration.{SayConfs}
use Rattle.dl_startup.specs.Setup.{conf_name}
use Rattle.dl_replay.specs.Decided.{EndsWell, EndsWellOver, Prints, PrintsFor, WriteOneText}
use Rattle.dl_replay.specs.Program.{Asked, Outcome}
use Rattle.dl_replay.specs.Run.{marks, setting, text_of}
use Rattle.dl_replay.specs.Task.{shows_frames, task_of}
use Rattle.dl_replay.specs.Told.{Told}
use Rattle.dl_lemmas.proofs.Options.{same_thing}

-- ---- one run

by_outcome : (task : Task) (old new : Told) → Outcome task old new status.Ok → old.folder.faults < 2 ^ 64 - 1 → Prints task old new
by_outcome task old new (inl refused) counts = absurd refused.0
by_outcome task old new (inr well) counts =
    let it = well.0 in
    let start = it.start in
    let run = well.1.0 in
    let flag = shows_frames task in
    let same : text_of task run ≡ printed (setting start) [] run.stood flag start.steps =
    ap (λ (trace : TraceState). report_of (setting start) (marks start run.answers) trace flag) well.1.3
    ∙ ap (λ (done : List Mark). report_of (setting start) done (trace_of (setting start) run.stood done) flag) (well.1.5 counts) in
    record {
      start = start;
      said = it.said;
      stood = run.stood;
      stood_are = run.stood_are;
      wrote = subst (λ (text : List ℕ). WroteAll old.out new.out text) same well.1.1;
    }

pub prints : (words : List (List ℕ)) (old new : Told) → EndsWell words old new → PrintsFor words old new
prints words old new is = by (task_of words) refl is.run.outcome where
  by : (o : Option Task) → task_of words ≡ o → Asked o old new status.Ok → PrintsFor words old new
  by None named asked = absurd (let bad : status.Ok ≡ status.WordsRefused = asked.0 in cc)
  by (Some task) named outcome = (task, named, by_outcome task old new outcome is.counts)

-- ---- what is said is one

set_by : Values → Stored → Setting
set_by values stored = record {
  ecu = values.ecu;
  level = values.level;
  buffer = values.buffer;
  directory = values.directory;
  file_size = values.file_size;
  max_size = values.max_size;
  injection = values.injection;
  stored = stored;
  first = 0;
  clients = client_limit;
  software = Run;
}

at_some : {A : Type 0} (o : Option A) (x : A) (P : A → Type 0) → o ≡ Some x → IfSome o P → P x
at_some {A = A} o x P is has = let family : Option A → Type 0 = λ v. IfSome v P in subst family is has

one_setting : (files : Files) (first second : Start) → SayConfs conf_name files (record { conf = first.conf; stored = first.stored }) → SayConfs conf_name files (record { conf = second.conf; stored = second.stored })
    → setting first ≡ setting second
unfolding set_by
one_setting files first second one two =
    let values : values_of first.conf ≡ values_of second.conf = (let same = sym one.conf ∙ two.conf in cc) in
    let stored : first.stored ≡ second.stored = (let same = sym one.stored ∙ two.stored in cc) in
    ap (λ (v : Values). set_by v first.stored) values ∙ ap (set_by (values_of second.conf)) stored

one_script : (task : Task) (script : List ℕ) (first second : List Step) → SaySteps task (Some script) first → SaySteps task (Some script) second → first ≡ second
one_script Steps script first second one two = let same = sym one ∙ two in cc
one_script (Generate number calls) script first second one two = one ∙ sym two

-- ---- the text

-- without a directory no trace file is told of
without_files : (set : Setting) (stood : List StoredFile) (done : List Mark) → set.directory ≡ [] → files_of set stood done ≡ []
without_files set stood done empty =
    ap (λ (d : List ℕ). if length d == 0 then [] else trace_files set.file_size set.max_size stood (stored_frames (source_of set done) (journal done))) empty

-- what is told of these files
abbrev told_as : Setting → List StoredFile → TraceState
told_as set files = record { files = map (λ file. record { name = trace_name set.directory file.number; bytes = length file.bytes }) files; end = None }

same_files : (set : Setting) (first second : List StoredFile) (flag : Bool) (lines : List Step) → ((done : List Mark) → files_of set first done ≡ files_of set second done)
    → printed set [] first flag lines ≡ printed set [] second flag lines
same_files set first second flag lines same =
    let done = steps.run set [] lines in
    ap (λ (files : List StoredFile). report_of set done (told_as set files) flag) (same done)

same_text : (set : Setting) (files : Files) (first second : List StoredFile) (flag : Bool) (lines : List Step)
    → (0 < length set.directory → HasFiles set.directory files first) → (0 < length set.directory → HasFiles set.directory files second) → printed set [] first flag lines ≡ printed set [] second flag lines
same_text set files first second flag lines one two = by set.directory refl where
  by : (d : List ℕ) → set.directory ≡ d → printed set [] first flag lines ≡ printed set [] second flag lines
  by [] empty = same_files set first second flag lines (λ done. without_files set first done empty ∙ sym (without_files set second done empty))
  by (letter ∷ d) named =
      let some : 0 < length set.directory = omega (arith, ap length named) in
      ap (λ (stood : List StoredFile). printed set [] stood flag lines) (one_list set.directory files first second (one some) (two some))

pub one_text : (words : List (List ℕ)) (script : List ℕ) (files : Files) (first first_now second second_now : Told) → EndsWellOver words script files first first_now
    → EndsWellOver words script files second second_now → WriteOneText first first_now second second_now
one_text words script files first first_now second second_now one two =
    let a = prints words first first_now one.well in
    let b = prints words second second_now two.well in
    let task_same : a.0 ≡ b.0 = same_thing a.0 b.0 (sym a.1 ∙ b.1) in
    let p = a.2 in
    let q : Prints a.0 second second_now = subst (λ (task : Task). Prints task second second_now) (sym task_same) b.2 in
    let flag = shows_frames a.0 in
    let confs_a = at_some first.folder.files files (λ all. SayConfs conf_name all (record { conf = p.start.conf; stored = p.start.stored })) one.files_are p.said.confs in
    let confs_b = at_some second.folder.files files (λ all. SayConfs conf_name all (record { conf = q.start.conf; stored = q.start.stored })) two.files_are q.said.confs in
    let set : setting p.start ≡ setting q.start = one_setting files p.start q.start confs_a confs_b in
    let lines : p.start.steps ≡ q.start.steps =
    one_script a.0 script p.start.steps q.start.steps
    (subst (λ (left : Option (List ℕ)). SaySteps a.0 left p.start.steps) one.script_is p.said.steps)
    (subst (λ (left : Option (List ℕ)). SaySteps a.0 left q.start.steps) two.script_is q.said.steps) in
    let had_a : 0 < length (setting p.start).directory → HasFiles (setting p.start).directory files p.stood =
    λ named. at_some first.folder.files files (λ all. HasFiles p.start.conf.directory all p.stood) one.files_are (p.stood_are named) in
    let had_b : 0 < length (setting q.start).directory → HasFiles (setting q.start).directory files q.stood =
    λ named. at_some second.folder.files files (λ all. HasFiles q.start.conf.directory all q.stood) two.files_are (q.stood_are named) in
    let had_there : 0 < length (setting q.start).directory → HasFiles (setting q.start).directory files p.stood =
    subst (λ (s : Setting). 0 < length s.directory → HasFiles s.directory files p.stood) set had_a in
    let text : printed (setting p.start) [] p.stood flag p.start.steps ≡ printed (setting q.start) [] q.stood flag q.start.steps =
    ap (λ (s : Setting). printed s [] p.stood flag p.start.steps) set
    ∙ ap (λ (ls : List Step). printed (setting q.start) [] p.stood flag ls) lines
    ∙ same_text (setting q.start) files p.stood q.stood flag q.start.steps had_there had_b in
    (printed (setting q.start) [] q.stood flag q.start.steps, subst (λ (t : List ℕ). WroteAll first.out first_now.out t) text p.wrote, q.wrote)
