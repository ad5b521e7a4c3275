-- What a status says of a run as a whole.
use Rattle.std.proofs.Common.{◌≡◌, ◌≢◌, ℕ, ◌⊎◌, inl, inr, List, Option, Some, None, refl, sym, ap, subst, arith}
use Rattle.std.specs.Prelude.{◌↔◌, true, false, IfSome, IsSomeAnd, IsOk, Result, Err}
use Rattle.dl_conf.specs.declared.conf.ConfKind.{ConfKind}
use Rattle.dl_conf.specs.declared.stored.StoredKind.{StoredKind}
use Rattle.dl_outside.specs.Folder.{Files}
use Rattle.dl_outside.specs.Outside.{Stays}
use Rattle.dl_startup.specs.Input.{GaveAtMost}
use Rattle.dl_startup.specs.Setup.{conf_in, stored_in, conf_name}
use Rattle.dl_script.specs.Script.{steps_of}
use Rattle.dl_script.specs.declared.error.ScriptError.{ScriptError}
use Rattle.dl_script.specs.declared.error.ScriptError.TheVariants as bad
use Rattle.dl_replay.specs.declared.begin.Start.{Start}
use Rattle.dl_startup.specs.declared.status.Status.{Status}
use Rattle.dl_startup.specs.declared.status.Status.TheVariants as status
use Rattle.dl_replay.specs.declared.task.Task.{Task}
use Rattle.dl_replay.specs.declared.task.Task.TheVariants.{Steps}
use Rattle.dl_replay.specs.Begin.{IsReadUp, Refuses}
use Rattle.dl_startup.specs.Configuration.{AreSetUp}
use Rattle.dl_replay.specs.Finish.{Ends}
use Rattle.dl_replay.specs.Program.{Asked, ChangesOwnFiles, HasReported, HasSteps, IsLawful, IsRun, IsUntouched, Outcome, Started}
use Rattle.dl_replay.specs.Status.{line_of}
use Rattle.dl_replay.specs.Task.{task_of}
use Rattle.dl_outside.specs.Told.{FolderTold, SinkTold, SourceTold}
use Rattle.dl_outside.specs.Written.{Wrote}
use Rattle.dl_startup.specs.Unchanged.{IsUnchanged}
use Rattle.dl_replay.specs.Told.{Told}
use Rattle.dl_replay.proofs.Folders.{nothing_changes}

-- ---- refusals

-- a run that did not begin left the folder alone
pub refusal_leaves : (task : Task) (input input_now : SourceTold) (folder folder_now : FolderTold) (s : Status) → Refuses task input input_now folder folder_now s → IsUnchanged folder folder_now
refusal_leaves task input input_now folder folder_now (status.ConfRefused line kind) h = h.1.unchanged
refusal_leaves task input input_now folder folder_now (status.StoredRefused line kind) h = h.1.unchanged
refusal_leaves task input input_now folder folder_now (status.ScriptRefused line kind) h = h.1.unchanged
refusal_leaves task input input_now folder folder_now status.ReadFault h = h.1.unchanged
refusal_leaves task input input_now folder folder_now status.FolderFault h = h.1
refusal_leaves task input input_now folder folder_now status.OutOfMemory h = h.0.unchanged
refusal_leaves task input input_now folder folder_now status.Ok h = absurd h
refusal_leaves task input input_now folder folder_now status.WordsRefused h = absurd h
refusal_leaves task input input_now folder folder_now status.NetFault h = absurd h
refusal_leaves task input input_now folder folder_now status.JournalFull h = absurd h
refusal_leaves task input input_now folder folder_now (status.StorageRefused line kind) h = absurd h
refusal_leaves task input input_now folder folder_now status.WriteFault h = absurd h
refusal_leaves task input input_now folder folder_now status.NamesSpent h = absurd h

-- ---- completeness

not_ok : {A E : Type 0} → (r : Result A E) (e : E) → r ≡ Err e → IsOk r → ⊥
not_ok r e fails ok = let bad : false ≡ true = subst (λ v. IsOk v) fails ok in cc

conf_is_good : (files : Option Files) (fault : ℕ × ConfKind) → IsSomeAnd files (AreSetUp conf_name) → IfSome files (λ all. conf_in conf_name all ≡ Err fault) → ⊥
conf_is_good None fault good bad = good
conf_is_good (Some files) fault good bad = not_ok (conf_in conf_name files) fault bad good.conf

stored_is_good : (files : Option Files) (fault : ℕ × StoredKind) → IsSomeAnd files (AreSetUp conf_name) → IfSome files (λ all. IsOk (conf_in conf_name all) × (stored_in all ≡ Err fault)) → ⊥
stored_is_good None fault good bad = good
stored_is_good (Some files) fault good bad = not_ok (stored_in files) fault bad.1 good.stored

steps_are_good : (left : Option (List ℕ)) (fault : ScriptError) → HasSteps Steps left → IfSome left (λ script. steps_of script ≡ Err fault) → ⊥
steps_are_good None fault good bad = good
steps_are_good (Some script) fault good bad = not_ok (steps_of script) fault bad good

-- the ends that are left where all is well
abbrev IsWell : Status → Type 0
IsWell s = (s ≡ status.Ok) ⊎ (s ≡ status.NamesSpent) ⊎ (s ≡ status.OutOfMemory)

begins_well : (task : Task) (old new : Told) (s : Status) → IsLawful task old new → Refuses task old.input new.input old.folder new.folder s → IsWell s
begins_well task old new (status.ConfRefused line kind) lawful h = absurd (conf_is_good old.folder.files (line, kind) lawful.confs h.0)
begins_well task old new (status.StoredRefused line kind) lawful h = absurd (stored_is_good old.folder.files (line, kind) lawful.confs h.0)
begins_well task old new (status.ScriptRefused line kind) lawful h =
    absurd (steps_are_good old.input.left (bad.Fault line kind) (subst (λ (t : Task). HasSteps t old.input.left) h.2.0 lawful.steps) h.2.1)
begins_well task old new status.ReadFault lawful h = absurd (lawful.reads h.2.1)
begins_well task old new status.FolderFault lawful h = absurd (lawful.keeps h.0)
begins_well task old new status.OutOfMemory lawful h = inr (inr refl)
begins_well task old new status.Ok lawful h = absurd h
begins_well task old new status.WordsRefused lawful h = absurd h
begins_well task old new status.NetFault lawful h = absurd h
begins_well task old new status.JournalFull lawful h = absurd h
begins_well task old new (status.StorageRefused line kind) lawful h = absurd h
begins_well task old new status.WriteFault lawful h = absurd h
begins_well task old new status.NamesSpent lawful h = absurd h

ends_well : (task : Task) (start : Start) (old new : Told) (s : Status) → IsLawful task old new → Ends task start old.folder new.folder old.out new.out s → IsWell s
ends_well task start old new status.Ok lawful h = inl refl
ends_well task start old new status.NamesSpent lawful h = inr (inl refl)
ends_well task start old new status.OutOfMemory lawful h = inr (inr refl)
ends_well task start old new status.WriteFault lawful h = absurd (lawful.writes h.1.failed)
ends_well task start old new status.FolderFault lawful h = absurd (lawful.keeps h.0)
ends_well task start old new status.WordsRefused lawful h = absurd h
ends_well task start old new status.NetFault lawful h = absurd h
ends_well task start old new status.JournalFull lawful h = absurd h
ends_well task start old new (status.StorageRefused line kind) lawful h = absurd h
ends_well task start old new (status.ConfRefused line kind) lawful h = absurd h
ends_well task start old new (status.StoredRefused line kind) lawful h = absurd h
ends_well task start old new (status.ScriptRefused line kind) lawful h = absurd h
ends_well task start old new status.ReadFault lawful h = absurd h

complete : (named : Option Task) (old new : Told) (s : Status) → Asked named old new s → (task : Task) → named ≡ Some task → IsLawful task old new → IsWell s
complete None old new s h task is lawful = cc
complete (Some named) old new s h task is lawful =
    let same : named ≡ task = cc in
    let here : Outcome task old new s = subst (λ (t : Task). Outcome t old new s) same h in
    elim here [
      | inl w ↦ begins_well task old new s lawful w.0
      | inr w ↦ ends_well task w.0.start old new s lawful w.1
    ]

-- ---- words

never_words : (task : Task) (old new : Told) → Outcome task old new status.WordsRefused → ⊥
never_words task old new h = elim h [ inl w ↦ w.0 | inr w ↦ w.1 ]

words_decide : (named : Option Task) (old new : Told) (s : Status) → Asked named old new s → (s ≡ status.WordsRefused) ↔ (named ≡ None)
words_decide None old new s h = (λ refused. refl, λ none. h.0)
words_decide (Some task) old new s h = (
  λ refused. absurd (never_words task old new (subst (λ (t : Status). Outcome task old new t) refused h)),
  λ none. cc,
)

-- ---- what is written, and what is read

reported : (task : Task) (old new : Told) (s : Status) (it : Started task old new) → Ends task it.start old.folder new.folder old.out new.out s → (new.out ≡ old.out) ⊎ HasReported task old new
reported task old new status.Ok it h = inr (record { it = it; run = h.0; wrote = inl h.1 })
reported task old new status.WriteFault it h = inr (record { it = it; run = h.0; wrote = inr h.1 })
reported task old new status.NamesSpent it h = inr (record { it = it; run = h.0; wrote = h.1 })
reported task old new status.FolderFault it h = elim h.1 [ inl w ↦ inl w.1 | inr w ↦ inr (record { it = it; run = w.0; wrote = w.1 }) ]
reported task old new status.OutOfMemory it h = elim h [ inl w ↦ inl w | inr w ↦ inr (record { it = it; run = w.0; wrote = inl w.1 }) ]
reported task old new status.WordsRefused it h = absurd h
reported task old new status.NetFault it h = absurd h
reported task old new status.JournalFull it h = absurd h
reported task old new (status.StorageRefused line kind) it h = absurd h
reported task old new (status.ConfRefused line kind) it h = absurd h
reported task old new (status.StoredRefused line kind) it h = absurd h
reported task old new (status.ScriptRefused line kind) it h = absurd h
reported task old new status.ReadFault it h = absurd h

written : (named : Option Task) (old new : Told) (s : Status) → Asked named old new s → (new.out ≡ old.out) ⊎ ((task : Task) × (named ≡ Some task) × HasReported task old new)
written None old new s h = inl (ap (λ (t : Told). t.out) h.1)
written (Some task) old new s h =
    elim h [
      | inl w ↦ inl w.1
      | inr w ↦ elim (reported task old new s w.0 w.1) [ inl v ↦ inl v | inr v ↦ inr (task, refl, v) ]
    ]

told_stays : (files : Option Files) → Stays files files
told_stays None = tt
told_stays (Some files) = refl

same_is_untouched : (old : Told) → IsUntouched old old
same_is_untouched old = record { out = refl; folder = record { files = told_stays old.folder.files; changes = refl } }

read_up : (named : Option Task) (old new : Told) (s : Status) → Asked named old new s → IsUntouched old new ⊎ ((task : Task) × (named ≡ Some task) × IsReadUp task old.input new.input)
read_up None old new s h = inl (subst (λ (t : Told). IsUntouched old t) (sym h.1) (same_is_untouched old))
read_up (Some task) old new s h =
    elim h [
      | inl w ↦ inl (record { out = w.1; folder = refusal_leaves task old.input new.input old.folder new.folder s w.0 })
      | inr w ↦ inr (task, refl, w.0.read)
    ]

-- ---- the whole

pub a_run : (words : List (List ℕ)) (old new : Told) (said said_now : SinkTold) (s : Status) → Asked (task_of words) old new s → GaveAtMost old.input.left new.input.left
    → ChangesOwnFiles old.folder.files new.folder.files → (s ≡ status.Ok → said_now ≡ said) → (s ≢ status.Ok → Wrote said said_now (line_of s)) → IsRun words old new said said_now s
a_run words old new said said_now s asked at_most others silent told = record {
  words_decide = words_decide (task_of words) old new s asked;
  outcome = asked;
  written = written (task_of words) old new s asked;
  read_up = read_up (task_of words) old new s asked;
  at_most = at_most;
  others = others;
  complete = complete (task_of words) old new s asked;
  silent = silent;
  told = told;
}

-- ---- parts that are left alone

-- a run that did not begin changes no file
pub refusal_changes : (task : Task) (input input_now : SourceTold) (folder folder_now : FolderTold) (s : Status) → Refuses task input input_now folder folder_now s → ChangesOwnFiles folder.files folder_now.files
refusal_changes task input input_now folder folder_now s h =
    nothing_changes folder.files folder_now.files (refusal_leaves task input input_now folder folder_now s h).files
