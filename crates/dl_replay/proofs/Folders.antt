-- What a folder tells, over calls in a row; and which of its files changed.
use Rattle.std.proofs.Common.{◌≡◌, ◌≢◌, ℕ, ◌<◌, List, length, Option, Some, None, refl, sym, subst}
use Rattle.std.specs.Prelude.{IfSome, IsSomeAnd, IsOkAnd, Result, Ok}
use Rattle.std.specs.FinMap as map
use Rattle.dl_bytes.specs.declared.outcome.TraceState.{TraceState}
use Rattle.dl_conf.specs.Outcome.{values_of}
use Rattle.dl_script_model.specs.Marks.{Mark, journal}
use Rattle.dl_model.specs.Setting.{Setting}
use Rattle.dl_model.specs.TraceFiles.{StoredFile}
use Rattle.dl_outside.specs.Folder.{Files}
use Rattle.dl_outside.specs.Outside.{Stays}
use Rattle.dl_startup.proofs.Told.{known_before}
use Rattle.dl_startup.specs.Setup.{conf_in, conf_name, stored_name}
use Rattle.dl_replay.specs.declared.begin.Start.{Start}
use Rattle.dl_replay.specs.Begin.{IsSaid}
use Rattle.dl_replay.specs.Playing.{OwnFiles}
use Rattle.dl_replay.specs.Program.{ChangesOwnFiles}
use Rattle.dl_replay.specs.Run.{HoldsItsStored, setting}
use Rattle.dl_replay.specs.declared.task.Task.{Task}
use Rattle.dl_trace.specs.InFolder.{HasFiles, IsTraceName}
use Rattle.dl_core.specs.Standing.{Stands}
use Rattle.dl_world.specs.Played.{IsTraced}
use Rattle.dl_world.specs.Stored.{HoldsStored}
use Rattle.dl_lemmas.proofs.Options.{if_some_of}

-- ---- what is told

pub both : {A : Type 0} → (o : Option A) (P Q : A → Type 0) → IfSome o P → IfSome o Q → IfSome o (λ x. P x × Q x)
both None P Q p q = tt
both (Some x) P Q p q = (p, q)

-- the stored configuration of a run over files that stayed before it
pub stored_before : (start : Start) (old mid new : Option Files) (done : List Mark) → Stays old mid → HoldsItsStored start mid new done → HoldsItsStored start old new done
stored_before start old mid new done = known_before old mid (λ files. HoldsStored (setting start) (map.get files stored_name) (journal done) new)

-- what a trace tells of a run over files that stayed before it
pub traced_before : (its : Setting) (stood : List StoredFile) (done : List Mark) (state : TraceState) (old mid new : Option Files) → Stays old mid → IsTraced its stood done state mid new → IsTraced its stood done state old new
traced_before its stood done state old mid new same is = record {
  stored = is.stored;
  later = is.later;
  all = is.all;
  files_are = is.files_are;
  whole = is.whole;
  unspent = is.unspent;
  spent = is.spent;
  stands = by old same;
} where
  by : (o : Option Files) → Stays o mid → IsSomeAnd o (λ folder. HasFiles its.directory folder stood) → IsSomeAnd new (Stands state.end its stood is.stored is.later)
  by None same held = absurd held
  by (Some files) same held = is.stands (subst (λ (o : Option Files). IsSomeAnd o (λ folder. HasFiles its.directory folder stood)) (sym same) held)

-- ---- files that change

-- nothing changed
pub nothing_changes : (old new : Option Files) → Stays old new → ChangesOwnFiles old new
nothing_changes None new same = tt
nothing_changes (Some files) new same = (files, same, λ name apart other. refl)

pub all_stay : (old : Option Files) → ChangesOwnFiles old old
all_stay None = tt
all_stay (Some files) = (files, refl, λ name apart other. refl)

as_ok : {A E : Type 0} → (r : Result A E) (x : A) (P : A → Type 0) → r ≡ Ok x → P x → IsOkAnd r P
as_ok r x P e h = subst (λ v. IsOkAnd v P) (sym e) h

-- where the files say the configuration of the start, its own files are those of the files
pub own_files : (task : Task) (left : Option (List ℕ)) (old mid new : Option Files) (start : Start) → IsSaid task left old start → Stays old mid → OwnFiles start mid new → ChangesOwnFiles old new
own_files task left None mid new start said same own = tt
own_files task left (Some files) mid new start said same own =
    let here : (now : Files) × (new ≡ Some now) × ((name : List ℕ) → name ≢ stored_name → ¬ ((0 < length start.conf.directory) × IsTraceName start.conf.directory name) → _) = if_some_of mid files _ same own in
    (here.0, here.1, λ name apart other. here.2 name apart (λ traced. other (as_ok (conf_in conf_name files) (values_of start.conf) (λ values. (0 < length values.directory) × IsTraceName values.directory name) said.confs.conf traced)))
