-- Traces that are kept, and the folder beside them.
use Rattle.std.proofs.Common.{◌≡◌, ◌≤◌, ◌⊎◌, ℕ, List, [], ◌∷◌, Option, Some, None, refl, sym, ap, subst, ◌∙◌, inl, inr, arith}
use Rattle.std.specs.Prelude.{option_map}
use Rattle.std.specs.FinMap as map
use Rattle.dl_bytes.specs.declared.outcome.TraceEnd.{TraceEnd}
use Rattle.dl_bytes.specs.declared.outcome.TraceEnd.TheVariants.{Failed, Spent, NoMemory}
use Rattle.dl_outside.specs.Folder.{Files}
use Rattle.dl_outside.specs.Outside.{HasRisen}
use Rattle.dl_outside.specs.Told.{FolderTold}
use Rattle.dl_trace.specs.InFolder.{ChangesTraceFiles}
use Rattle.dl_trace.specs.State.{Trace}
use Rattle.dl_trace.specs.Written.{ChangesTraceAlone, StoresEach, StoresIn, StoresTill}
use Rattle.dl_admission.specs.Kept.{KeepsTrace, end_of}
use Rattle.dl_trace.proofs.Joined.{unchanged}

-- ---- no file changes but the trace files

files_both : (directory : List ℕ) (a b c : Option Files) → ChangesTraceFiles directory a b → ChangesTraceFiles directory b c → ChangesTraceFiles directory a c
files_both directory None b c first second = tt
files_both directory (Some x) None c first second = absurd (cc first.1)
files_both directory (Some x) (Some y) c first second =
    let same : y ≡ first.0 = cc first.1 in
    (second.0, second.1, λ name other. second.2 name other ∙ ap (λ (f : Files). map.get f name) same ∙ first.2 name other)

changes_none : (trace : Option Trace) (told : FolderTold) → ChangesTraceAlone trace told told
changes_none None told = refl
changes_none (Some t) told = unchanged t.directory told.files

changes_both : (old between : Option Trace) (a b c : FolderTold) → option_map (λ (t : Trace). t.directory) between ≡ option_map (λ (t : Trace). t.directory) old
    → ChangesTraceAlone old a b → ChangesTraceAlone between b c → ChangesTraceAlone old a c
changes_both None None a b c same first second = second ∙ first
changes_both None (Some y) a b c same first second = absurd (cc same)
changes_both (Some x) None a b c same first second = absurd (cc same)
changes_both (Some x) (Some y) a b c same first second =
    let directory : y.directory ≡ x.directory = cc same in
    files_both x.directory a.files b.files c.files first (subst (λ (d : List ℕ). ChangesTraceFiles d b.files c.files) directory second)

-- ---- why a trace ends

-- what is kept but for the files
pub record EndsRightly (old new : Option Trace) (a b : FolderTold) : Type 0 where
  pub directory : option_map (λ (t : Trace). t.directory) new ≡ option_map (λ (t : Trace). t.directory) old
  pub failed : end_of new ≡ Some Failed → (end_of old ≡ Some Failed) ⊎ HasRisen a.faults b.faults
  pub faults : a.faults ≤ b.faults

ends_none : (trace : Option Trace) (told : FolderTold) → EndsRightly trace trace told told
ends_none trace told = record { directory = refl; failed = λ failed. inl failed; faults = omega arith }

pub risen_later : (a b c : ℕ) → HasRisen a b → b ≤ c → HasRisen a c
risen_later a b c risen later = (omega (arith, risen.0, later), omega (arith, risen.1, later))

pub risen_before : (a b c : ℕ) → a ≤ b → HasRisen b c → HasRisen a c
risen_before a b c before risen = (omega (arith, risen.0, before), omega (arith, risen.1, before))

ends_both : (old between new : Option Trace) (a b c : FolderTold) → EndsRightly old between a b → EndsRightly between new b c → EndsRightly old new a c
ends_both old between new a b c first second = record {
  directory = second.directory ∙ first.directory;
  failed = λ failed. elim (second.failed failed) [
    | inl before ↦ elim (first.failed before) [
      | inl earlier ↦ inl earlier
      | inr rose ↦ inr (risen_later a.faults b.faults c.faults rose second.faults)
    ]
    | inr rose ↦ inr (risen_before a.faults b.faults c.faults first.faults rose)
  ];
  faults = omega (arith, first.faults, second.faults);
}

by_end : (frames : List (List ℕ)) (old new : Trace) (a b : FolderTold) (end end_now : Option TraceEnd) → old.state.end ≡ end → new.state.end ≡ end_now
    → StoresTill end end_now frames old new a b → EndsRightly (Some old) (Some new) a b
by_end frames old new a b (Some ended) end_now was is stores = record {
  directory = ap (λ (t : Trace). Some t.directory) stores.0;
  failed = λ failed. inl (ap (λ (t : Trace). t.state.end) (sym stores.0) ∙ failed);
  faults = omega (arith, ap (λ (f : FolderTold). f.faults) stores.1);
}
by_end frames old new a b None None was is stores = record {
  directory = ap Some stores.0.same.directory;
  failed = λ failed. absurd (none_failed (sym is ∙ failed));
  faults = omega (arith, stores.1);
} where
  none_failed : None ≡ Some Failed → ⊥
  none_failed e = absurd (cc e)
by_end frames old new a b None (Some Failed) was is stores = record {
  directory = ap Some stores.0.same.directory;
  failed = λ failed. inr stores.1;
  faults = stores.1.0;
}
by_end frames old new a b None (Some Spent) was is stores = record {
  directory = ap Some stores.0.same.directory;
  failed = λ failed. absurd (spent_failed (sym is ∙ failed));
  faults = omega (arith, stores.1);
} where
  spent_failed : Some Spent ≡ Some Failed → ⊥
  spent_failed e = absurd (cc e)
by_end frames old new a b None (Some NoMemory) was is stores = record {
  directory = ap Some stores.0.same.directory;
  failed = λ failed. absurd (memory_failed (sym is ∙ failed));
  faults = omega (arith, stores.1);
} where
  memory_failed : Some NoMemory ≡ Some Failed → ⊥
  memory_failed e = absurd (cc e)

ends_in : (frames : List (List ℕ)) (old new : Option Trace) (a b : FolderTold) → StoresIn frames old new a b → EndsRightly old new a b
ends_in frames None new a b stores = record {
  directory = ap (option_map (λ (t : Trace). t.directory)) stores.0;
  failed = λ failed. inl (ap end_of (sym stores.0) ∙ failed);
  faults = omega (arith, ap (λ (f : FolderTold). f.faults) stores.1);
}
ends_in frames (Some old) None a b stores = absurd stores
ends_in frames (Some old) (Some new) a b stores = by_end frames old new a b old.state.end new.state.end refl refl stores

ends_each : (frames : List (List ℕ)) (old new : Option Trace) (a b : FolderTold) → StoresEach frames old new a b → EndsRightly old new a b
ends_each [] old new a b stores =
    subst (λ (t : Option Trace). EndsRightly old t a b) (sym stores.0) (subst (λ (f : FolderTold). EndsRightly old old a f) (sym stores.1) (ends_none old a))
ends_each (frame ∷ frames) old new a b stores =
    ends_both old stores.0 new a stores.1 b (ends_in (frame ∷ []) old stores.0 a stores.1 stores.2) (ends_each frames stores.0 new stores.1 b stores.3)

-- ---- all of it

keeps_by : (old new : Option Trace) (a b : FolderTold) → EndsRightly old new a b → ChangesTraceAlone old a b → KeepsTrace old new a b
keeps_by old new a b ends others = record { directory = ends.directory; failed = ends.failed; faults = ends.faults; others = others }

ends_by : {old new : Option Trace} {a b : FolderTold} → KeepsTrace old new a b → EndsRightly old new a b
ends_by keeps = record { directory = keeps.directory; failed = keeps.failed; faults = keeps.faults }

pub trace_none : (trace : Option Trace) (told : FolderTold) → KeepsTrace trace trace told told
trace_none trace told = keeps_by trace trace told told (ends_none trace told) (changes_none trace told)

pub trace_both : (old between new : Option Trace) (a b c : FolderTold) → KeepsTrace old between a b → KeepsTrace between new b c → KeepsTrace old new a c
trace_both old between new a b c first second =
    keeps_by old new a c (ends_both old between new a b c (ends_by first) (ends_by second)) (changes_both old between a b c first.directory first.others second.others)

pub trace_in : (frames : List (List ℕ)) (old new : Option Trace) (a b : FolderTold) → StoresIn frames old new a b → ChangesTraceAlone old a b → KeepsTrace old new a b
trace_in frames old new a b stores others = keeps_by old new a b (ends_in frames old new a b stores) others

pub trace_each : (frames : List (List ℕ)) (old new : Option Trace) (a b : FolderTold) → StoresEach frames old new a b → ChangesTraceAlone old a b → KeepsTrace old new a b
trace_each frames old new a b stores others = keeps_by old new a b (ends_each frames old new a b stores) others
