-- What one filter stored.
use Rattle.std.proofs.Common.{◌≡◌, ℕ, List, Option, Some, None, refl, sym, subst, true}
use Rattle.std.specs.Prelude.{IfSome, IsSomeAnd}
use Rattle.dl_bytes.specs.declared.outcome.TraceEnd.{TraceEnd}
use Rattle.dl_bytes.specs.declared.outcome.TraceEnd.TheVariants.{Failed, Spent, NoMemory}
use Rattle.dl_outside.specs.Folder.{Files}
use Rattle.dl_outside.specs.Told.{FolderTold}
use Rattle.dl_model.specs.TraceFiles.{StoredFile, is_spent, trace_files}
use Rattle.dl_trace.specs.InFolder.{ChangesTraceFiles, HasFiles}
use Rattle.dl_trace.specs.State.{Trace}
use Rattle.dl_storage.specs.declared.filter.Filter.{Filter}
use Rattle.dl_storage.specs.Beginning.{IsFiltersTrace}
use Rattle.dl_storage.specs.Passing.{directory_of}
use Rattle.dl_storage.specs.Storing.{EndsAs, HoldsFiles, IsStored}
use Rattle.dl_storage.specs.Writing.{HasNotFailed, IsAfterFrames}
use Rattle.dl_storage.specs.declared.writing.Writing.{Writing}

-- what holds of the directory and the sizes of its trace holds of those of the filter
of_filter : (P : List ℕ → ℕ → ℕ → Type 0) (filter : Filter) (trace : Trace) (folder : FolderTold) → IsFiltersTrace filter trace folder
    → P trace.directory trace.file_size trace.max_size → P (directory_of filter) filter.size filter.max
of_filter P filter trace folder fit h =
    subst (λ (d : List ℕ). P d filter.size filter.max) fit.directory
    (subst (λ (n : ℕ). P trace.directory n filter.max) fit.file_size (subst (λ (n : ℕ). P trace.directory trace.file_size n) fit.max_size h))

both : (directory : List ℕ) (size max : ℕ) (stood : List StoredFile) (stored : List (List ℕ)) (told now : Option Files) → IfSome told (λ files. HasFiles directory files stood)
    → IfSome told (λ before. IsSomeAnd now (λ files. HasFiles directory files (trace_files size max stood stored)))
    → IfSome told (λ folder. HasFiles directory folder stood × IsSomeAnd now (λ files. HasFiles directory files (trace_files size max stood stored)))
both directory size max stood stored None now found holds = tt
both directory size max stood stored (Some folder) now found holds = (found, holds)

held : (filter : Filter) (trace : Trace) (frames : List (List ℕ)) (start last : FolderTold) (w : Writing) (fit : IsFiltersTrace filter trace start) (is : IsAfterFrames trace fit.stood frames start last w)
    → HasNotFailed w.trace.state.end → IfSome start.files (λ folder. HasFiles (directory_of filter) folder fit.stood × HoldsFiles filter fit.stood is.stored last.files)
held filter trace frames start last w fit is well =
    of_filter (λ d n m. IfSome start.files (λ folder. HasFiles d folder fit.stood × IsSomeAnd last.files (λ files. HasFiles d files (trace_files n m fit.stood is.stored)))) filter trace start fit
    (both trace.directory trace.file_size trace.max_size fit.stood is.stored start.files last.files fit.begins.found (is.holds well))

ends_as : (filter : Filter) (trace : Trace) (frames : List (List ℕ)) (start last : FolderTold) (w : Writing) (fit : IsFiltersTrace filter trace start) (is : IsAfterFrames trace fit.stood frames start last w)
    (end : Option TraceEnd) → w.trace.state.end ≡ end → EndsAs end filter is.stored is.later start.files last.files
ends_as filter trace frames start last w fit is None e = (is.whole e, (fit.stood, held filter trace frames start last w fit is (subst HasNotFailed (sym e) tt)))
ends_as filter trace frames start last w fit is (Some Spent) e = (
  fit.stood,
  subst (λ (fs : List (List ℕ)). is_spent filter.size fit.stood fs ≡ true) is.all
      (of_filter (λ d n m. is_spent n fit.stood frames ≡ true) filter trace start fit (is.spent e)),
  held filter trace frames start last w fit is (subst HasNotFailed (sym e) tt),
)
ends_as filter trace frames start last w fit is (Some Failed) e = tt
ends_as filter trace frames start last w fit is (Some NoMemory) e = tt

pub stored_alone : (filter : Filter) (trace : Trace) (frames : List (List ℕ)) (start last : FolderTold) (w : Writing) (fit : IsFiltersTrace filter trace start)
    → IsAfterFrames trace fit.stood frames start last w → IsStored filter frames start.files last.files (record { frames = w.frames; bytes = w.bytes; end = w.trace.state.end })
stored_alone filter trace frames start last w fit is = record {
  stored = is.stored;
  left = is.later;
  all = is.all;
  frames_are = is.frames_are;
  bytes_are = is.bytes_are;
  ends = ends_as filter trace frames start last w fit is w.trace.state.end refl;
}
