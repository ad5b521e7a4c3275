-- A folder is later, event by event.
use Rattle.std.proofs.Common.{◌≡◌, ℕ, Bool, ◌+◌, ◌-◌, ◌^◌, ◌≤◌, min, List, [], ◌∷◌, ◌++◌, length, Option, Some, None, Result, Ok, Err, refl, sym, ap, subst, ◌∙◌, length-append, arith}
use Rattle.dl_bytes.specs.declared.outcome.Done.{Done}
use Rattle.dl_bytes.specs.declared.outcome.Done.TheVariants as did
use Rattle.dl_bytes.specs.declared.outcome.TraceEnd.{TraceEnd}
use Rattle.dl_events.specs.declared.event.Event.{Event}
use Rattle.dl_events.specs.declared.event.Event.TheVariants as event
use Rattle.dl_model.specs.Journal.{need_after}
use Rattle.dl_model.specs.Reply.{Need}
use Rattle.dl_model.specs.Reply as need
use Rattle.dl_model.specs.Setting.{Setting}
use Rattle.dl_model.proofs.Lists.{along_from-append}
use Rattle.dl_outside.specs.Folder.{Files, HasCause, Puts, Removes}
use Rattle.dl_outside.specs.Told.{FolderTold}
use Rattle.dl_outside.specs.declared.folder.FolderFault.{FolderFault}
use Rattle.dl_outside.specs.declared.folder.FolderFault.TheVariants as fault
use Rattle.dl_services.specs.Wish.{needed}
use Rattle.dl_services.specs.declared.wish.Want.{Want}
use Rattle.dl_services.specs.declared.wish.Want.TheVariants as want
use Rattle.dl_core.specs.Serving.{Answers, done_by, stored_name}
use Rattle.dl_core.specs.Files.{KeepsStored}
use Rattle.dl_core.specs.Later.{IsFolderLater, done_at, done_in, failed_at, failed_in, if_folder, trace_failures}
use Rattle.dl_core.proofs.AskedFiles.{faults_later}

-- ---- the stored configuration

pub keeps_same : (told : Option Files) → KeepsStored told told
keeps_same None = tt
keeps_same (Some folder) = refl

pub keeps_both : (a b c : Option Files) → KeepsStored a b → KeepsStored b c → KeepsStored a c
keeps_both None b c one two = tt
keeps_both (Some x) None c one two = absurd one
keeps_both (Some x) (Some y) None one two = absurd two
keeps_both (Some x) (Some y) (Some z) one two = two ∙ one

-- ---- one after the other

-- parts of nothing are nothing
parts_none : {A : Type 0} (xs ys : List A) → xs ++ ys ≡ [] → (xs ≡ []) × (ys ≡ [])
parts_none [] ys none = (refl, none)
parts_none (x ∷ xs) ys none = absurd (cc none)

pub folder_none : (setting : Setting) (before : List Event) (ended : Option TraceEnd) (told : FolderTold) → IsFolderLater setting before [] ended ended told told
folder_none setting before ended told = record {
  never_falls = omega arith;
  failed = omega arith;
  stored = λ none_failed none_done. keeps_same told.files;
}

pub folder_both : (setting : Setting) (before first second : List Event) (ended between now : Option TraceEnd) (a b c : FolderTold) → IsFolderLater setting before first ended between a b
    → IsFolderLater setting (before ++ first) second between now b c → IsFolderLater setting before (first ++ second) ended now a c
folder_both setting before first second ended between now a b c one two =
    let failed = along_from-append (failed_at setting) before first second in
    let done = along_from-append (done_at setting) before first second in
    let many : length (failed_in setting before (first ++ second)) ≡ length (failed_in setting before first) + length (failed_in setting (before ++ first) second) =
    ap length failed ∙ length-append (failed_in setting before first) (failed_in setting (before ++ first) second) in
    record {
      never_falls = omega (arith, one.never_falls, two.never_falls);
      failed = omega (arith, one.failed, two.failed, many);
      stored = λ none_failed none_done.
          let fails = parts_none (failed_in setting before first) (failed_in setting (before ++ first) second) (sym failed ∙ none_failed) in
          let does = parts_none (done_in setting before first) (done_in setting (before ++ first) second) (sym done ∙ none_done) in
          keeps_both a.files b.files c.files (one.stored fails.0 does.0) (two.stored fails.1 does.1);
    }

-- ---- events that ask nothing of the folder

-- Events of which none is a request, where the folder was told to fail only as the trace ended.
pub folder_quiet : (setting : Setting) (before events : List Event) (ended ended_now : Option TraceEnd) (old new : FolderTold) → failed_in setting before events ≡ []
    → old.faults ≤ new.faults → min (old.faults + (trace_failures ended_now - trace_failures ended)) (2 ^ 64 - 1) ≤ new.faults → KeepsStored old.files new.files
    → IsFolderLater setting before events ended ended_now old new
folder_quiet setting before events ended ended_now old new none later rose keeps = record {
  never_falls = later;
  failed = omega (arith, ap length none, rose);
  stored = λ none_failed none_done. keeps;
}

-- ---- a request

-- what the folder was asked for, and answered so
put_keeps : (told told_now : Option Files) (result : Result (Unit {0}) FolderFault) (text : List ℕ) → Puts told told_now result stored_name text → done_by result ≡ did.NoMemory → KeepsStored told told_now
put_keeps None told_now result text puts none = tt
put_keeps (Some files) told_now (Ok made) text puts none = absurd (cc none)
put_keeps (Some files) told_now (Err fault.Failed) text puts none = absurd (cc none)
put_keeps (Some files) told_now (Err fault.OutOfMemory) text puts none = subst (λ (o : Option Files). KeepsStored (Some files) o) (sym puts) refl

removed_keeps : (told told_now : Option Files) (result : Result (Unit {0}) FolderFault) → Removes told told_now result stored_name → done_by result ≡ did.NoMemory → KeepsStored told told_now
removed_keeps None told_now result removes none = tt
removed_keeps (Some files) told_now (Ok made) removes none = absurd (cc none)
removed_keeps (Some files) told_now (Err fault.Failed) removes none = absurd (cc none)
removed_keeps (Some files) told_now (Err fault.OutOfMemory) removes none = subst (λ (o : Option Files). KeepsStored (Some files) o) (sym removes) refl

-- the count of faults rose where the folder failed
rose_by : (result : Result (Unit {0}) FolderFault) (faults faults_now : ℕ) → HasCause faults faults_now result → done_by result ≡ did.Failed → min (faults + 1) (2 ^ 64 - 1) ≤ faults_now
rose_by (Ok made) faults faults_now cause failed = absurd (cc failed)
rose_by (Err fault.Failed) faults faults_now cause failed = cause.1
rose_by (Err fault.OutOfMemory) faults faults_now cause failed = absurd (cc failed)

-- what it asked of the folder did what its answer tells
record IsAsked (wants : Want) (answer : Done) (old new : FolderTold) : Type 0 where
  rose : needed wants ≡ need.Folder → answer ≡ did.Failed → min (old.faults + 1) (2 ^ 64 - 1) ≤ new.faults
  wanting : answer ≡ did.NoMemory → KeepsStored old.files new.files
  other : (needed wants ≡ need.Folder → ⊥) → KeepsStored old.files new.files

asked_by : (wants : Want) (pushed : Bool) (answer : Done) (old new : FolderTold) → Answers wants pushed answer old new → IsAsked wants answer old new
asked_by want.Nothing pushed answer old new acts =
    let same : KeepsStored old.files new.files = subst (λ (f : FolderTold). KeepsStored old.files f.files) (sym acts.1) (keeps_same old.files) in record {
      rose = λ folder failed. absurd (cc folder);
      wanting = λ none. same;
      other = λ apart. same;
    }
asked_by (want.Put text stored) pushed answer old new acts = record {
  rose = λ folder failed. rose_by acts.0 old.faults new.faults acts.3 (sym acts.1 ∙ failed);
  wanting = λ none. put_keeps old.files new.files acts.0 text acts.2 (sym acts.1 ∙ none);
  other = λ apart. absurd (apart refl);
}
asked_by want.Remove pushed answer old new acts = record {
  rose = λ folder failed. rose_by acts.0 old.faults new.faults acts.3 (sym acts.1 ∙ failed);
  wanting = λ none. removed_keeps old.files new.files acts.0 acts.2 (sym acts.1 ∙ none);
  other = λ apart. absurd (apart refl);
}
asked_by (want.Inject app injection) pushed answer old new acts =
    let same : KeepsStored old.files new.files = subst (λ (f : FolderTold). KeepsStored old.files f.files) (sym acts.1) (keeps_same old.files) in record {
      rose = λ folder failed. absurd (cc folder);
      wanting = λ none. same;
      other = λ apart. same;
    }

-- the Request event of one that was served, by what was answered
module _ (setting : Setting) (before : List Event) (client : ℕ) (frame : List ℕ) (ended : Option TraceEnd) (wants : Want) (old new : FolderTold) (later : old.faults ≤ new.faults) where
  abbrev asking : Done → Event
  asking answer = event.Request client frame answer

  failed_is : (what : Need) → need_after setting before frame ≡ what → failed_in setting before (asking did.Failed ∷ []) ≡ if_folder what (asking did.Failed ∷ []) ++ []
  failed_is what is = ap (λ (n : Need). if_folder n (asking did.Failed ∷ []) ++ []) is

  done_is : (what : Need) → need_after setting before frame ≡ what → done_in setting before (asking did.Yes ∷ []) ≡ if_folder what (asking did.Yes ∷ []) ++ []
  done_is what is = ap (λ (n : Need). if_folder n (asking did.Yes ∷ []) ++ []) is

  -- it needed no folder, or memory was wanting
  still : (answer : Done) → failed_in setting before (asking answer ∷ []) ≡ [] → KeepsStored old.files new.files → IsFolderLater setting before (asking answer ∷ []) ended ended old new
  still answer none keeps = record { never_falls = later; failed = omega (arith, ap length none, later); stored = λ none_failed none_done. keeps }

  failed_by : (what : Need) → need_after setting before frame ≡ what → needed wants ≡ what → IsAsked wants did.Failed old new → IsFolderLater setting before (asking did.Failed ∷ []) ended ended old new
  failed_by need.Folder is needs asked = record {
    never_falls = later;
    failed = omega (arith, asked.rose needs refl, ap length (failed_is need.Folder is));
    stored = λ none_failed none_done. absurd (cc (sym (failed_is need.Folder is) ∙ none_failed));
  }
  failed_by need.Nothing is needs asked = still did.Failed (failed_is need.Nothing is) (asked.other (λ folder. cc (sym needs ∙ folder)))
  failed_by (need.Queue app) is needs asked = still did.Failed (failed_is (need.Queue app) is) (asked.other (λ folder. cc (sym needs ∙ folder)))

  done_in_turn : (what : Need) → need_after setting before frame ≡ what → needed wants ≡ what → IsAsked wants did.Yes old new → IsFolderLater setting before (asking did.Yes ∷ []) ended ended old new
  done_in_turn need.Folder is needs asked = record {
    never_falls = later;
    failed = omega (arith, later);
    stored = λ none_failed none_done. absurd (cc (sym (done_is need.Folder is) ∙ none_done));
  }
  done_in_turn need.Nothing is needs asked = still did.Yes refl (asked.other (λ folder. cc (sym needs ∙ folder)))
  done_in_turn (need.Queue app) is needs asked = still did.Yes refl (asked.other (λ folder. cc (sym needs ∙ folder)))

  by_answer : (answer : Done) → need_after setting before frame ≡ needed wants → IsAsked wants answer old new → IsFolderLater setting before (asking answer ∷ []) ended ended old new
  by_answer did.Yes is asked = done_in_turn (needed wants) is refl asked
  by_answer did.Failed is asked = failed_by (needed wants) is refl asked
  by_answer did.NoMemory is asked = still did.NoMemory refl (asked.wanting refl)

pub folder_asked : (setting : Setting) (before : List Event) (client : ℕ) (frame : List ℕ) (ended : Option TraceEnd) (wants : Want) (pushed : Bool) (answer : Done) (old new : FolderTold)
    → need_after setting before frame ≡ needed wants → Answers wants pushed answer old new → IsFolderLater setting before (event.Request client frame answer ∷ []) ended ended old new
folder_asked setting before client frame ended wants pushed answer old new is acts =
    by_answer setting before client frame ended wants old new (faults_later wants pushed answer old new acts) answer is (asked_by wants pushed answer old new acts)
