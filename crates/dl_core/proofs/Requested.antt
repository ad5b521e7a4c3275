-- A request that was served, against the journal with its event.
use Rattle.std.proofs.Common.{◌≡◌, ◌≢◌, ℕ, ◌+◌, Bool, false, List, [], ◌∷◌, ◌++◌, length, Option, Some, None, Result, Ok, Err, refl, sym, ap, subst, ◌∙◌, length-append, arith}
use Rattle.std.specs.Prelude.{codes, IfSome}
use Rattle.std.specs.FinMap as map
use Rattle.std.specs.Ordering.{nat_cmp, eq_by_cmp, is_eq}
use Rattle.std.specs.Cmp.Lexicographic.{slice_cmp}
use Rattle.std.specs.declared.cmp.Ordering.TheVariants.{Less, Equal, Greater}
use Rattle.std.specs.FinMap.{slice_cmp-IsAntisymmetric, nat_cmp-IsAntisymmetric}
use Rattle.std.proofs.lemmas.List.{append-nil}
use Rattle.dl_bytes.specs.declared.outcome.Done.{Done}
use Rattle.dl_control.specs.Reply.{control_reply}
use Rattle.dl_control.specs.declared.reply.Reply.{Reply}
use Rattle.dl_events.specs.declared.event.Event.{Event}
use Rattle.dl_events.specs.declared.event.Event.TheVariants as event
use Rattle.dl_outside.specs.Folder.{Files, AllBut, Puts, Removes}
use Rattle.dl_outside.specs.Told.{FolderTold}
use Rattle.dl_outside.specs.declared.folder.FolderFault.{FolderFault}
use Rattle.dl_outside.specs.declared.folder.FolderFault.TheVariants as fault
use Rattle.dl_model.specs.declared.registry.Slot.{Slot}
use Rattle.dl_model.specs.Journal.{registry_of, reply_after}
use Rattle.dl_model.specs.Registry.{Registry}
use Rattle.dl_model.specs.Reply.{apid_of, asked, ctid_of, reply_frame_to, reply_to}
use Rattle.dl_model.specs.Setting.{Setting}
use Rattle.dl_model.specs.TraceFiles.{six_digits, trace_name}
use Rattle.dl_model.specs.Traffic as traffic
use Rattle.dl_registry.specs.Kept.{Kept, slots}
use Rattle.dl_registry.specs.Kept as registry
use Rattle.dl_registry.proofs.Following.{after_event}
use Rattle.dl_hub.specs.Follows as hub
use Rattle.dl_services.specs.declared.wish.Want.{Want}
use Rattle.dl_services.specs.declared.wish.Want.TheVariants as want
use Rattle.dl_trace.specs.State.{Trace}
use Rattle.dl_trace.specs.InFolder.{HasFiles}
use Rattle.dl_trace.proofs.Holding.{gone_other, put_other}
use Rattle.dl_core.specs.State.{Core}
use Rattle.dl_core.specs.Settings.{IsSetTo, seen}
use Rattle.dl_core.specs.Follows.{Run, stored_by, files_with, HoldsFiles, Adds}
use Rattle.dl_core.specs.Serving.{Answers, reply_now, served_now, stored_name}
use Rattle.dl_core.proofs.Asked.{reply_alike, served_alike}
use Rattle.dl_core.proofs.Journals.{IsSameCore, event_follows}
use Rattle.dl_core.proofs.Tracing.{Traced}

-- ---- the file of the stored configuration is no trace file

pub name_length : (directory digits : List ℕ) → length digits ≡ 6 → length (directory ++ codes "/dlt_offlinetrace." ++ digits ++ codes ".dlt") ≢ 14
name_length directory digits six e =
    let front : length (directory ++ codes "/dlt_offlinetrace.") ≡ length directory + 18 = length-append directory (codes "/dlt_offlinetrace.") in
    let behind : length ((directory ++ codes "/dlt_offlinetrace.") ++ digits) ≡ length (directory ++ codes "/dlt_offlinetrace.") + length digits =
    length-append (directory ++ codes "/dlt_offlinetrace.") digits in
    let whole = length-append ((directory ++ codes "/dlt_offlinetrace.") ++ digits) (codes ".dlt") in
    absurd (omega (arith, front, behind, whole, six, e))

apart : (directory : List ℕ) (number : ℕ) → trace_name directory number ≢ stored_name
apart directory number e = name_length directory (six_digits number) refl (ap length e)

-- ---- so the trace files stay

-- the folder goes on telling, and each trace file is as it was
abbrev pub KeepsTraces : Option Files → Option Files → Type 0
KeepsTraces told told_now =
    IfSome told (λ files. (now : Files) × (told_now ≡ Some now) × ((directory : List ℕ) (number : ℕ) → map.get now (trace_name directory number) ≡ map.get files (trace_name directory number)))

kept_same : (told : Option Files) → KeepsTraces told told
kept_same None = tt {0}
kept_same (Some files) = (files, refl, λ directory number. refl)

kept_as : (told told_now : Option Files) → told_now ≡ told → KeepsTraces told told_now
kept_as told told_now same = subst (λ (o : Option Files). KeepsTraces told o) (sym same) (kept_same told)

kept_but : (told told_now : Option Files) → AllBut stored_name told told_now → KeepsTraces told told_now
kept_but None told_now all = tt {0}
kept_but (Some files) told_now all = (
  all.0,
  all.1,
  λ directory number.
      sym (gone_other all.0 stored_name (trace_name directory number) (apart directory number))
      ∙ ap (λ (f : Files). map.get f (trace_name directory number)) all.2
      ∙ gone_other files stored_name (trace_name directory number) (apart directory number),
)

kept_put : (told told_now : Option Files) (result : Result (Unit {0}) FolderFault) (text : List ℕ) → Puts told told_now result stored_name text → KeepsTraces told told_now
kept_put None told_now result text puts = tt {0}
kept_put (Some files) told_now (Ok made) text puts = (
  map.insert files stored_name text,
  puts,
  λ directory number.
      put_other files stored_name text (trace_name directory number) (apart directory number),
)
kept_put (Some files) told_now (Err fault.Failed) text puts = kept_but (Some files) told_now puts
kept_put (Some files) told_now (Err fault.OutOfMemory) text puts = (files, puts, λ directory number. refl)

kept_removed : (told told_now : Option Files) (result : Result (Unit {0}) FolderFault) → Removes told told_now result stored_name → KeepsTraces told told_now
kept_removed None told_now result removes = tt {0}
kept_removed (Some files) told_now (Ok gone) removes = (
  map.remove files stored_name,
  removes,
  λ directory number.
      gone_other files stored_name (trace_name directory number) (apart directory number),
)
kept_removed (Some files) told_now (Err fault.Failed) removes = kept_but (Some files) told_now removes
kept_removed (Some files) told_now (Err fault.OutOfMemory) removes = (files, removes, λ directory number. refl)

-- whatever the request wanted
pub answers_keep : (wants : Want) (pushed : Bool) (answer : Done) (told told_now : FolderTold) → Answers wants pushed answer told told_now
    → KeepsTraces told.files told_now.files
answers_keep want.Nothing pushed answer told told_now acts = kept_as told.files told_now.files (ap (λ (f : FolderTold). f.files) acts.1)
answers_keep (want.Put text stored) pushed answer told told_now acts = kept_put told.files told_now.files acts.0 text acts.2
answers_keep want.Remove pushed answer told told_now acts = kept_removed told.files told_now.files acts.0 acts.2
answers_keep (want.Inject app injection) pushed answer told told_now acts = kept_as told.files told_now.files (ap (λ (f : FolderTold). f.files) acts.1)

files_kept : (run : Run) (frames : List (List ℕ)) (told told_now : Option Files) → KeepsTraces told told_now → HoldsFiles run frames told → HoldsFiles run frames told_now
files_kept run frames None told_now keeps holds = absurd holds
files_kept run frames (Some files) told_now keeps holds =
    subst (λ (o : Option Files). HoldsFiles run frames o) (sym keeps.1) (let has : HasFiles run.setting.directory keeps.0 (files_with run frames) = record {
      rising = holds.rising;
      each = λ number least most. keeps.2 run.setting.directory number ∙ holds.each number least most;
    } in has)

trace_kept : (run : Run) (frames : List (List ℕ)) (kept : Option Trace) (told told_now : Option Files) → KeepsTraces told told_now
    → Traced run frames (frames ++ []) kept kept told told_now
trace_kept run frames kept told told_now keeps = subst (λ (fs : List (List ℕ)). Traced run frames fs kept kept told told_now) (sym (append-nil frames)) (by kept) where
  by : (o : Option Trace) → Traced run frames frames o o told told_now
  by None = λ is. (tt {0}, λ holds. tt {0})
  by (Some trace) = λ is. (is, λ holds goes_on. files_kept run frames told told_now keeps (holds goes_on))

-- ---- the reply and the registry, as the run has them

reply_seen : (setting : Setting) (core : Core) (frame : List ℕ) (answer : Done) → IsSetTo setting core
    → reply_frame_to setting (slots core.registry) core.registry.registry frame answer ≡ reply_now core frame answer
reply_seen setting core frame answer is =
    ap (λ (r : Reply). control_reply setting.ecu r)
    (reply_alike setting (seen core) (slots core.registry) core.registry.registry (apid_of frame) (ctid_of frame) (asked frame) answer (sym is.level) (sym is.injection) (sym is.software))
    ∙ ap (λ (e : List ℕ). control_reply e (reply_to (seen core) (slots core.registry) core.registry.registry (apid_of frame) (ctid_of frame) (asked frame) answer)) (sym is.ecu)

reply_of_run : (run : Run) (events : List Event) (core : Core) (frame : List ℕ) (answer : Done) → IsSetTo run.setting core → registry.IsAfter run.setting events core.registry
    → reply_after run.setting events frame answer ≡ reply_now core frame answer
reply_of_run run events core frame answer set is =
    ap (λ (s : ℕ → Slot). reply_frame_to run.setting s (registry_of run.setting events) frame answer) (sym is.slots)
    ∙ ap (λ (r : Registry). reply_frame_to run.setting (slots core.registry) r frame answer) (sym is.registry)
    ∙ reply_seen run.setting core frame answer set

registry_follows : (run : Run) (events : List Event) (client : ℕ) (frame : List ℕ) (answer : Done) (old new : Core) → IsSetTo run.setting old
    → registry.IsAfter run.setting events old.registry → new.registry ≡ served_now old frame answer
    → registry.IsAfter run.setting (events ++ event.Request client frame answer ∷ []) new.registry
registry_follows run events client frame answer old new set is serves =
    after_event run.setting events (event.Request client frame answer) old.registry new.registry is (λ slot. refl)
    (ap (λ (k : Kept). k.first) serves) (ap (λ (k : Kept). k.held) serves)
    (ap (λ (k : Kept). k.registry) serves
    ∙ served_alike (seen old) run.setting (slots old.registry) old.registry.registry (asked frame) answer set.level)

-- the event of a request that was served
pub request_follows : (client : ℕ) (frame : List ℕ) (answer : Done) (old new : Core) (told told_now : FolderTold)
    → IsSameCore old new → new.trace ≡ old.trace → new.registry ≡ served_now old frame answer
    → hub.Adds (traffic.Reply client (reply_now old frame answer)) old.hub new.hub
    → KeepsTraces told.files told_now.files
    → Adds (event.Request client frame answer ∷ []) (λ run. Unit {0}) old new told told_now
request_follows client frame answer old new told told_now same trace serves talks keeps = λ run events taken gives is.
    event_follows run events taken (event.Request client frame answer) [] old new told told_now same
    (registry_follows run events client frame answer old new is.set_to is.registry serves)
    (subst (λ (f : List ℕ). hub.Adds (traffic.Reply client f) old.hub new.hub) (sym (reply_of_run run events old frame answer is.set_to is.registry)) talks)
    refl
    (subst (λ (o : Option Trace). Traced run (stored_by run events) (stored_by run events ++ []) old.trace o told.files told_now.files) (sym trace)
    (trace_kept run (stored_by run events) old.trace told.files told_now.files keeps))
    is
