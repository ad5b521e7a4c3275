-- What a trace's writing leaves in the folder: every file but the trace files as it was, and so the stored configuration.
use Rattle.std.proofs.Common.{◌≡◌, ℕ, List, length, Option, Some, None, refl, sym, ap, subst, ◌∙◌}
use Rattle.dl_model.specs.TraceFiles.{six_digits}
use Rattle.dl_outside.specs.Folder.{Files}
use Rattle.dl_outside.specs.Told.{FolderTold}
use Rattle.dl_trace.specs.State.{Trace}
use Rattle.dl_trace.specs.InFolder.{ChangesTraceFiles, IsTraceName}
use Rattle.dl_core.specs.Serving.{stored_name}
use Rattle.dl_trace.specs.Written.{ChangesTraceAlone}
use Rattle.dl_core.proofs.Requested.{name_length}
use Rattle.dl_core.specs.Files.{ChangesOwnFiles, KeepsStored}

-- no file of others changes
pub own_files : (trace : Option Trace) (told told_now : FolderTold) → ChangesTraceAlone trace told told_now → ChangesOwnFiles trace told.files told_now.files
own_files trace told told_now changes = by trace told.files refl changes where
  by : (kept : Option Trace) (o : Option Files) → told.files ≡ o → ChangesTraceAlone kept told told_now → ChangesOwnFiles kept told.files told_now.files
  by None None is changes = subst (λ (files : Option Files). ChangesOwnFiles None files told_now.files) (sym is) tt
  by None (Some folder) is changes = subst (λ (files : Option Files). ChangesOwnFiles None files told_now.files) (sym is) (folder, changes ∙ is, λ name other. refl)
  by (Some kept) None is changes = subst (λ (files : Option Files). ChangesOwnFiles (Some kept) files told_now.files) (sym is) tt
  by (Some kept) (Some folder) is changes =
      let there = subst (λ (files : Option Files). ChangesTraceFiles kept.directory files told_now.files) is changes in
      subst (λ (files : Option Files). ChangesOwnFiles (Some kept) files told_now.files) (sym is) (there.0, there.1, λ name not_trace other. there.2 name not_trace)

-- ---- the stored configuration

no_trace_name : (directory : List ℕ) → IsTraceName directory stored_name → ⊥
no_trace_name directory is = name_length directory (six_digits is.0) refl (ap length (sym is.3))

-- what the trace writes leaves it alone
pub traced_keeps : (trace : Option Trace) (told told_now : FolderTold) → ChangesTraceAlone trace told told_now → KeepsStored told.files told_now.files
traced_keeps trace told told_now changes = by trace told.files refl changes where
  by : (kept : Option Trace) (o : Option Files) → told.files ≡ o → ChangesTraceAlone kept told told_now → KeepsStored told.files told_now.files
  by kept None is changes = subst (λ (files : Option Files). KeepsStored files told_now.files) (sym is) tt
  by None (Some folder) is changes =
      subst (λ (files : Option Files). KeepsStored files told_now.files) (sym is)
      (subst (λ (files : Option Files). KeepsStored (Some folder) files) (sym (changes ∙ is)) refl)
  by (Some kept) (Some folder) is changes =
      let there = subst (λ (files : Option Files). ChangesTraceFiles kept.directory files told_now.files) is changes in
      subst (λ (files : Option Files). KeepsStored files told_now.files) (sym is)
      (subst (λ (files : Option Files). KeepsStored (Some folder) files) (sym there.1) (there.2 stored_name (no_trace_name kept.directory)))
