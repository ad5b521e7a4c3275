-- Files that are no trace files stay as they were.
use Rattle.std.proofs.Common.{◌≡◌, ◌≢◌, ℕ, suc, ◌+◌, ◌-◌, ◌<◌, Bool, true, false, arith, List, [], ◌∷◌, ◌++◌, length, take, Option, Some, None, Ok, Err, refl, sym, ap, subst, ◌∙◌, inl, inr, unwrap_or}
use Rattle.std.specs.Prelude.{All, Result, ◌⊎◌, slice_get}
use Rattle.std.specs.Option.{option_map_or}
use Rattle.std.specs.FinMap as map
use Rattle.std.proofs.lemmas.List.Elements.{All-head, All-tail, All-take}
use Rattle.dl_bytes.specs.declared.outcome.TraceEnd.{TraceEnd}
use Rattle.dl_bytes.specs.declared.outcome.TraceEnd.TheVariants.{Failed, Spent, NoMemory}
use Rattle.dl_bytes.specs.declared.outcome.TraceFile.{TraceFile}
use Rattle.dl_outside.specs.Folder.{Files, with_more}
use Rattle.dl_outside.specs.Outside.{Stays}
use Rattle.dl_trace.specs.State.{Trace}
use Rattle.dl_trace.specs.Kept.{IsSound}
use Rattle.dl_trace.specs.InFolder.{IsTraceName, ChangesTraceFiles}
use Rattle.dl_trace.specs.Steps.{names_of, without, HasFront, StopsRemoving, Extends, Begins, Places, last_name, next_name, going_of}
use Rattle.dl_trace.proofs.Holding.{put_other, gone_other}

-- each is a name of a trace file
abbrev pub AreNames : List ℕ → List (List ℕ) → Type 0
AreNames directory [] = Unit {0}
AreNames directory (name ∷ names) = IsTraceName directory name × AreNames directory names

pub named_files : (directory : List ℕ) (files : List TraceFile) → All (λ (file : TraceFile). IsTraceName directory file.name) files → AreNames directory (names_of files)
named_files directory [] all = tt
named_files directory (file ∷ files) all = (All-head (λ (file : TraceFile). IsTraceName directory file.name) file files all, named_files directory files (All-tail (λ (file : TraceFile). IsTraceName directory file.name) file files all))

named_parts : (directory : List ℕ) (gone : List (List ℕ)) (unknown : List ℕ) (waiting : List (List ℕ)) → AreNames directory (gone ++ unknown ∷ waiting) → AreNames directory gone × IsTraceName directory unknown
named_parts directory [] unknown waiting all = (tt, all.0)
named_parts directory (name ∷ gone) unknown waiting all = let rest = named_parts directory gone unknown waiting all.1 in ((all.0, rest.0), rest.1)

apart : (directory name other : List ℕ) → IsTraceName directory name → ¬ (IsTraceName directory other) → other ≢ name
apart directory name other is not e = not (subst (IsTraceName directory) (sym e) is)

without_others : (directory : List ℕ) (folder : Files) (names : List (List ℕ)) → AreNames directory names → (other : List ℕ) → ¬ (IsTraceName directory other) → map.get (without folder names) other ≡ map.get folder other
without_others directory folder [] all other not = refl
without_others directory folder (name ∷ names) all other not =
    without_others directory (map.remove folder name) names all.1 other not ∙ gone_other folder name other (apart directory name other all.0 not)

more_others : (directory : List ℕ) (folder : Files) (name piece : List ℕ) → IsTraceName directory name → (other : List ℕ) → ¬ (IsTraceName directory other) → map.get (with_more folder name piece) other ≡ map.get folder other
more_others directory folder name piece is other not = put_other folder name (unwrap_or (map.get folder name) [] ++ piece) other (apart directory name other is not)

front_changes : (directory : List ℕ) (folder : Files) (now : Option Files) (name piece : List ℕ) → IsTraceName directory name → HasFront folder now name piece → ChangesTraceFiles directory (Some folder) now
front_changes directory folder now name piece is (inl same) = (folder, same, λ other not. refl)
front_changes directory folder now name piece is (inr more) = (with_more folder name (take more.0 piece), more.2, more_others directory folder name (take more.0 piece) is)

removing_changes : (directory : List ℕ) (folder base : Files) (now : Option Files) (names : List (List ℕ)) → AreNames directory names → ((other : List ℕ) → ¬ (IsTraceName directory other) → map.get base other ≡ map.get folder other) →
    StopsRemoving base now names → ChangesTraceFiles directory (Some folder) now
removing_changes directory folder base now names all before stopped =
    let parts = named_parts directory stopped.gone stopped.unknown stopped.waiting (subst (AreNames directory) stopped.names_are all) in
    let held = stopped.others.0 in (
      held,
      stopped.others.1,
      λ other not.
          let far = apart directory stopped.unknown other parts.1 not in
          sym (gone_other held stopped.unknown other far) ∙ ap (λ (f : Files). map.get f other) stopped.others.2 ∙ gone_other (without base stopped.gone) stopped.unknown other far
          ∙ without_others directory base stopped.gone parts.0 other not ∙ before other not,
    )

pub extends_changes : (directory : List ℕ) (told now : Option Files) (result : Result (Unit {0}) TraceEnd) (name piece : List ℕ) → IsTraceName directory name → Extends told now result name piece → ChangesTraceFiles directory told now
extends_changes directory None now result name piece is does = tt
extends_changes directory (Some folder) now (Ok done) name piece is does = (with_more folder name piece, does, more_others directory folder name piece is)
extends_changes directory (Some folder) now (Err Spent) name piece is does = absurd does
extends_changes directory (Some folder) now (Err Failed) name piece is does = front_changes directory folder now name piece is does
extends_changes directory (Some folder) now (Err NoMemory) name piece is does = front_changes directory folder now name piece is does

begun_changes : (directory : List ℕ) (folder : Files) (now : Option Files) (name piece : List ℕ) (names : List (List ℕ)) → IsTraceName directory name → AreNames directory names →
    HasFront folder now name piece ⊎ StopsRemoving (with_more folder name piece) now names → ChangesTraceFiles directory (Some folder) now
begun_changes directory folder now name piece names is all (inl front) = front_changes directory folder now name piece is front
begun_changes directory folder now name piece names is all (inr stopped) = removing_changes directory folder (with_more folder name piece) now names all (more_others directory folder name piece is) stopped

pub begins_changes : (directory : List ℕ) (told now : Option Files) (result : Result (Unit {0}) TraceEnd) (name piece : List ℕ) (names : List (List ℕ)) → IsTraceName directory name → AreNames directory names → Begins told now result name piece names → ChangesTraceFiles directory told now
begins_changes directory None now result name piece names is all does = tt
begins_changes directory (Some folder) now (Ok done) name piece names is all does =
    (without (with_more folder name piece) names, does, λ other not. without_others directory (with_more folder name piece) names all other not ∙ more_others directory folder name piece is other not)
begins_changes directory (Some folder) now (Err Spent) name piece names is all does = absurd does
begins_changes directory (Some folder) now (Err Failed) name piece names is all does = begun_changes directory folder now name piece names is all does
begins_changes directory (Some folder) now (Err NoMemory) name piece names is all does = begun_changes directory folder now name piece names is all does

-- ---- a piece, wherever it goes

named_last : (directory : List ℕ) (files : List TraceFile) → 0 < length files → All (λ (file : TraceFile). IsTraceName directory file.name) files → IsTraceName directory (last_name files)
named_last directory [] some all = absurd (omega arith)
named_last directory (file ∷ []) some all = All-head (λ (file : TraceFile). IsTraceName directory file.name) file [] all
named_last directory (file ∷ next ∷ files) some all =
    let at : length (file ∷ next ∷ files) - 1 ≡ suc (length (next ∷ files) - 1) = omega arith in
    subst (IsTraceName directory) (sym (ap (λ (k : ℕ). option_map_or (λ (f : TraceFile). f.name) (slice_get (file ∷ next ∷ files) k) []) at))
    (named_last directory (next ∷ files) (omega arith) (All-tail (λ (file : TraceFile). IsTraceName directory file.name) file (next ∷ files) all))

pub places_changes : (begins : Bool) (trace new : Trace) (told now : Option Files) (result : Result (Unit {0}) TraceEnd) (piece : List ℕ) → IsSound trace → (begins ≡ false → trace.begun ≡ true) → Places begins trace new told now result piece →
    ChangesTraceFiles trace.directory told now
places_changes false trace new told now result piece sound begun does =
    extends_changes trace.directory told now result (last_name trace.state.files) piece (named_last trace.directory trace.state.files (sound.some (begun refl)) sound.named) does.1
places_changes true trace new told now result piece sound begun (inl spent) = stayed trace.directory told now spent.3 where
  stayed : (directory : List ℕ) (told now : Option Files) → Stays told now → ChangesTraceFiles directory told now
  stayed directory None now stays = tt
  stayed directory (Some folder) now stays = (folder, stays, λ other not. refl)
places_changes true trace new told now result piece sound begun (inr does) =
    begins_changes trace.directory told now result (next_name trace) piece (names_of (take (going_of trace) trace.state.files)) (trace.last + 1, omega arith, omega (arith, does.0), refl)
    (named_files trace.directory (take (going_of trace) trace.state.files) (All-take (λ (file : TraceFile). IsTraceName trace.directory file.name) (going_of trace) trace.state.files sound.named)) does.1.1
