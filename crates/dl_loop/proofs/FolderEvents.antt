-- What becomes of the folder by events that ask nothing of it, and by what is admitted.
use Rattle.std.proofs.Common.{◌≡◌, ◌+◌, ◌-◌, ◌^◌, ◌≤◌, min, List, [], ◌∷◌, ◌++◌, Option, Some, None, inl, inr, refl, sym, ap, subst, arith}
use Rattle.std.specs.List.{AllByRecursion}
use Rattle.dl_bytes.specs.declared.outcome.TraceEnd.{TraceEnd}
use Rattle.dl_bytes.specs.declared.outcome.TraceEnd.TheVariants.{Failed, Spent, NoMemory}
use Rattle.dl_events.specs.declared.event.Event.{Event}
use Rattle.dl_events.specs.declared.event.Event.TheVariants as event
use Rattle.dl_model.specs.Setting.{Setting}
use Rattle.dl_outside.specs.Told.{FolderTold}
use Rattle.dl_trace.specs.State.{Trace}
use Rattle.dl_core.specs.State.{Core}
use Rattle.dl_core.specs.Files.{Leaves}
use Rattle.dl_core.specs.Later.{IsFolderLater, failed_in, trace_failures}
use Rattle.dl_core.proofs.LaterFolders.{folder_quiet}
use Rattle.dl_core.proofs.TracedFiles.{own_files, traced_keeps}
use Rattle.dl_admission.specs.Kept.{KeepsTrace, end_of}
use Rattle.dl_admission.proofs.KeptTraces.{trace_none}
use Rattle.dl_settling.proofs.NoRequests.{AsksNothing}

-- the folder failed at none of them
failed_none : (setting : Setting) (before events : List Event) → AllByRecursion AsksNothing events → failed_in setting before events ≡ []
failed_none setting before [] none = refl
failed_none setting before (event.Log app writer call moment ∷ events) none = failed_none setting (before ++ event.Log app writer call moment ∷ []) events none.1
failed_none setting before (event.Claim claim moment ∷ events) none = failed_none setting (before ++ event.Claim claim moment ∷ []) events none.1
failed_none setting before (event.Lost app count moment ∷ events) none = failed_none setting (before ++ event.Lost app count moment ∷ []) events none.1
failed_none setting before (event.User channel msg moment ∷ events) none = failed_none setting (before ++ event.User channel msg moment ∷ []) events none.1
failed_none setting before (event.Level slot level ∷ events) none = failed_none setting (before ++ event.Level slot level ∷ []) events none.1
failed_none setting before (event.Connect client ∷ events) none = failed_none setting (before ++ event.Connect client ∷ []) events none.1
failed_none setting before (event.Close client why ∷ events) none = failed_none setting (before ++ event.Close client why ∷ []) events none.1
failed_none setting before (event.Request client frame answer ∷ events) none = absurd none.0

-- ---- what keeps a trace

module _ (old new : Option Trace) (told told_now : FolderTold) (keeps : KeepsTrace old new told told_now) where
  rose : (now : Option TraceEnd) → end_of new ≡ now → min (told.faults + (trace_failures now - trace_failures (end_of old))) (2 ^ 64 - 1) ≤ told_now.faults
  rose None is = omega (arith, keeps.faults)
  rose (Some Spent) is = omega (arith, keeps.faults)
  rose (Some NoMemory) is = omega (arith, keeps.faults)
  rose (Some Failed) is = elim (keeps.failed is) [
    | inl was ↦ omega (arith, keeps.faults, ap trace_failures was)
    | inr risen ↦ omega (arith, risen.1)
  ]

  pub folder_kept : (setting : Setting) (before events : List Event) → AllByRecursion AsksNothing events → IsFolderLater setting before events (end_of old) (end_of new) told told_now
  folder_kept setting before events none =
      folder_quiet setting before events (end_of old) (end_of new) told told_now (failed_none setting before events none) keeps.faults (rose (end_of new) refl) (traced_keeps old told told_now keeps.others)

pub leaves_kept : (old new : Core) (told told_now : FolderTold) → KeepsTrace old.trace new.trace told told_now → Leaves old new told told_now
leaves_kept old new told told_now keeps = record { others = own_files old.trace told told_now keeps.others; same = keeps.directory; later = keeps.faults }

-- the trace and the folder are as they were
pub keeps_still : (old new : Option Trace) (told told_now : FolderTold) → new ≡ old → told_now ≡ told → KeepsTrace old new told told_now
keeps_still old new told told_now same still =
    subst (λ (t : Option Trace). KeepsTrace old t told told_now) (sym same) (subst (λ (f : FolderTold). KeepsTrace old old told f) (sym still) (trace_none old told))
