-- What a request leaves in the folder: every file but the stored configuration as it was.
use Rattle.std.proofs.Common.{◌≡◌, ◌≢◌, ℕ, ◌≤◌, Bool, List, Option, Some, None, Result, Ok, Err, refl, sym, ap, subst, ◌∙◌, arith}
use Rattle.std.specs.Prelude.{IfSome}
use Rattle.std.specs.Option.{option_map}
use Rattle.std.specs.FinMap as map
use Rattle.dl_bytes.specs.declared.outcome.Done.{Done}
use Rattle.dl_outside.specs.Folder.{Files, AllBut, Puts, Removes, HasCause}
use Rattle.dl_outside.specs.declared.folder.FolderFault.{FolderFault}
use Rattle.dl_outside.specs.declared.folder.FolderFault.TheVariants as fault
use Rattle.dl_services.specs.declared.wish.Want.{Want}
use Rattle.dl_services.specs.declared.wish.Want.TheVariants as want
use Rattle.dl_trace.specs.State.{Trace}
use Rattle.dl_trace.proofs.Holding.{gone_other, put_other}
use Rattle.dl_core.specs.Serving.{Answers, stored_name}
use Rattle.dl_core.specs.State.{Core}
use Rattle.dl_outside.specs.Told.{FolderTold}
use Rattle.dl_core.specs.Files.{ChangesOwnFiles, Leaves}

-- ---- the others stay

abbrev KeepsOthers : Option Files → Option Files → Type 0
KeepsOthers told told_now = IfSome told (λ files. (now : Files) × (told_now ≡ Some now) × ((name : List ℕ) → name ≢ stored_name → map.get now name ≡ map.get files name))

kept_as : (told told_now : Option Files) → told_now ≡ told → KeepsOthers told told_now
kept_as told told_now same = subst (λ (o : Option Files). KeepsOthers told o) (sym same) (by told) where
  by : (o : Option Files) → KeepsOthers o o
  by None = tt
  by (Some files) = (files, refl, λ name other. refl)

kept_but : (told told_now : Option Files) → AllBut stored_name told told_now → KeepsOthers told told_now
kept_but None told_now all = tt
kept_but (Some files) told_now all = (
  all.0,
  all.1,
  λ name apart. sym (gone_other all.0 stored_name name apart) ∙ ap (λ (f : Files). map.get f name) all.2 ∙ gone_other files stored_name name apart,
)

kept_put : (told told_now : Option Files) (result : Result (Unit {0}) FolderFault) (text : List ℕ) → Puts told told_now result stored_name text → KeepsOthers told told_now
kept_put None told_now result text puts = tt
kept_put (Some files) told_now (Ok made) text puts = (map.insert files stored_name text, puts, λ name apart. put_other files stored_name text name apart)
kept_put (Some files) told_now (Err fault.Failed) text puts = kept_but (Some files) told_now puts
kept_put (Some files) told_now (Err fault.OutOfMemory) text puts = (files, puts, λ name other. refl)

kept_removed : (told told_now : Option Files) (result : Result (Unit {0}) FolderFault) → Removes told told_now result stored_name → KeepsOthers told told_now
kept_removed None told_now result removes = tt
kept_removed (Some files) told_now (Ok gone) removes = (map.remove files stored_name, removes, λ name apart. gone_other files stored_name name apart)
kept_removed (Some files) told_now (Err fault.Failed) removes = kept_but (Some files) told_now removes
kept_removed (Some files) told_now (Err fault.OutOfMemory) removes = (files, removes, λ name other. refl)

others_kept : (wants : Want) (pushed : Bool) (answer : Done) (told told_now : FolderTold) → Answers wants pushed answer told told_now
    → KeepsOthers told.files told_now.files
others_kept want.Nothing pushed answer told told_now acts = kept_as told.files told_now.files (ap (λ (f : FolderTold). f.files) acts.1)
others_kept (want.Put text stored) pushed answer told told_now acts = kept_put told.files told_now.files acts.0 text acts.2
others_kept want.Remove pushed answer told told_now acts = kept_removed told.files told_now.files acts.0 acts.2
others_kept (want.Inject app injection) pushed answer told told_now acts = kept_as told.files told_now.files (ap (λ (f : FolderTold). f.files) acts.1)

-- where a trace is kept, and where none is
own_files : (trace : Option Trace) (told told_now : Option Files) → KeepsOthers told told_now → ChangesOwnFiles trace told told_now
own_files None told told_now kept = kept
own_files (Some trace) None told_now kept = tt
own_files (Some trace) (Some files) told_now kept = (kept.0, kept.1, λ name not_trace apart. kept.2 name apart)

-- ---- the faults

pub caused : (result : Result (Unit {0}) FolderFault) (faults faults_now : ℕ) → HasCause faults faults_now result → faults ≤ faults_now
caused (Ok made) faults faults_now cause = omega (arith, cause)
caused (Err fault.Failed) faults faults_now cause = cause.0
caused (Err fault.OutOfMemory) faults faults_now cause = omega (arith, cause)

pub faults_later : (wants : Want) (pushed : Bool) (answer : Done) (told told_now : FolderTold) → Answers wants pushed answer told told_now → told.faults ≤ told_now.faults
faults_later want.Nothing pushed answer told told_now acts = omega (arith, ap (λ (f : FolderTold). f.faults) acts.1)
faults_later (want.Put text stored) pushed answer told told_now acts = caused acts.0 told.faults told_now.faults acts.3
faults_later want.Remove pushed answer told told_now acts = caused acts.0 told.faults told_now.faults acts.3
faults_later (want.Inject app injection) pushed answer told told_now acts = omega (arith, ap (λ (f : FolderTold). f.faults) acts.1)

-- ---- what a request leaves

pub request_leaves : (wants : Want) (pushed : Bool) (answer : Done) (old new : Core) (told told_now : FolderTold) → Answers wants pushed answer told told_now
    → new.trace ≡ old.trace → Leaves old new told told_now
request_leaves wants pushed answer old new told told_now acts same = record {
  others = own_files old.trace told.files told_now.files (others_kept wants pushed answer told told_now acts);
  same = ap (option_map (λ (t : Trace). t.directory)) same;
  later = faults_later wants pushed answer told told_now acts;
}
