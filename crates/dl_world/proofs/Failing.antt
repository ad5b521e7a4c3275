-- What storing frames leaves of the trace, of its files and of the folder's count of faults.
use Rattle.std.proofs.Common.{◌≡◌, ℕ, ◌+◌, ◌-◌, ◌^◌, ◌≤◌, min, List, [], ◌∷◌, ◌++◌, Option, Some, None, refl, sym, ap, subst, ◌∙◌, arith}
use Rattle.std.specs.Prelude.{option_map}
use Rattle.std.specs.Option.{option_map_or}
use Rattle.dl_bytes.specs.declared.outcome.TraceEnd.{TraceEnd}
use Rattle.dl_bytes.specs.declared.outcome.TraceEnd.TheVariants.{Failed, Spent, NoMemory}
use Rattle.dl_trace.specs.State.{Trace}
use Rattle.dl_core.specs.Follows.{Run}
use Rattle.dl_trace.specs.Written.{StoresTill, StoresIn, StoresEach, ChangesTraceAlone}
use Rattle.dl_core.specs.State.{Core}
use Rattle.dl_outside.specs.Folder.{Files}
use Rattle.dl_outside.specs.Told.{FolderTold}
use Rattle.dl_core.specs.Files.{Leaves}
use Rattle.dl_core.specs.Later.{trace_failures}
use Rattle.dl_core.proofs.StandingFiles.{GoesOn, each_goes_on, in_goes_on}
use Rattle.dl_core.proofs.TracedFiles.{own_files}

abbrev pub failed_in : Option Trace → ℕ
failed_in trace = option_map_or (λ (t : Trace). trace_failures t.state.end) trace 0

abbrev pub stands_in : Option Trace → Option (List ℕ)
stands_in trace = option_map (λ (t : Trace). t.directory) trace

-- the trace failed so often meanwhile, and the count of faults rose by as many at least; the trace stays where it is
record FailsSo (old new : Option Trace) (faults faults_now : ℕ) : Type 0 where
  trace_failed : ℕ
  failures : failed_in new ≡ failed_in old + trace_failed
  rose : min (faults + trace_failed) (2 ^ 64 - 1) ≤ faults_now
  later : faults ≤ faults_now
  same : stands_in new ≡ stands_in old

-- the same where these frames were to be stored, with which its files go on
pub record Fails (frames : List (List ℕ)) (old new : Option Trace) (told told_now : FolderTold) : Type 0 where
  pub trace_failed : ℕ
  pub failures : failed_in new ≡ failed_in old + trace_failed
  pub rose : min (told.faults + trace_failed) (2 ^ 64 - 1) ≤ told_now.faults
  pub later : told.faults ≤ told_now.faults
  pub same : stands_in new ≡ stands_in old
  pub goes_on : (run : Run) (first : Option Files) (before : List (List ℕ)) → GoesOn run first before (before ++ frames) old new told.files told_now.files

fails_none : (trace : Option Trace) (faults : ℕ) → FailsSo trace trace faults faults
fails_none trace faults = record { trace_failed = 0; failures = omega arith; rose = omega arith; later = omega arith; same = refl }

fails_both : (a b c : Option Trace) (x y z : ℕ) → FailsSo a b x y → FailsSo b c y z → FailsSo a c x z
fails_both a b c x y z one two = record {
  trace_failed = one.trace_failed + two.trace_failed;
  failures = omega (arith, one.failures, two.failures);
  rose = omega (arith, one.rose, two.rose);
  later = omega (arith, one.later, two.later);
  same = two.same ∙ one.same;
}

-- a call that stores frames
by_end : (frames : List (List ℕ)) (old new : Trace) (told told_now : FolderTold) (end end_now : Option TraceEnd) → old.state.end ≡ end → new.state.end ≡ end_now
    → StoresTill end end_now frames old new told told_now → FailsSo (Some old) (Some new) told.faults told_now.faults
by_end frames old new told told_now (Some ended) end_now was is stores = record {
  trace_failed = 0;
  failures = ap (λ (t : Trace). trace_failures t.state.end) stores.0 ∙ omega arith;
  rose = omega (arith, ap (λ (f : FolderTold). f.faults) stores.1);
  later = omega (arith, ap (λ (f : FolderTold). f.faults) stores.1);
  same = ap (λ (t : Trace). Some t.directory) stores.0;
}
by_end frames old new told told_now None None was is stores = record {
  trace_failed = 0;
  failures = omega (arith, ap trace_failures was, ap trace_failures is);
  rose = omega (arith, stores.1);
  later = omega (arith, stores.1);
  same = ap Some stores.0.same.directory;
}
by_end frames old new told told_now None (Some Failed) was is stores = record {
  trace_failed = 1;
  failures = omega (arith, ap trace_failures was, ap trace_failures is);
  rose = stores.1.1;
  later = stores.1.0;
  same = ap Some stores.0.same.directory;
}
by_end frames old new told told_now None (Some Spent) was is stores = record {
  trace_failed = 0;
  failures = omega (arith, ap trace_failures was, ap trace_failures is);
  rose = omega (arith, stores.1);
  later = omega (arith, stores.1);
  same = ap Some stores.0.same.directory;
}
by_end frames old new told told_now None (Some NoMemory) was is stores = record {
  trace_failed = 0;
  failures = omega (arith, ap trace_failures was, ap trace_failures is);
  rose = omega (arith, stores.1);
  later = omega (arith, stores.1);
  same = ap Some stores.0.same.directory;
}

-- nothing was to be stored
left_alone : (old new : Option Trace) (told told_now : FolderTold) → new ≡ old → told_now ≡ told → FailsSo old new told.faults told_now.faults
left_alone old new told told_now same stands =
    subst (λ (trace : Option Trace). FailsSo old trace told.faults told_now.faults) (sym same)
    (subst (λ (f : FolderTold). FailsSo old old told.faults f.faults) (sym stands) (fails_none old told.faults))

in_fails : (frames : List (List ℕ)) (old new : Option Trace) (told told_now : FolderTold) → StoresIn frames old new told told_now → FailsSo old new told.faults told_now.faults
in_fails frames None new told told_now stores = left_alone None new told told_now stores.0 stores.1
in_fails frames (Some old) None told told_now stores = absurd stores
in_fails frames (Some old) (Some new) told told_now stores = by_end frames old new told told_now old.state.end new.state.end refl refl stores

each_fails : (frames : List (List ℕ)) (old new : Option Trace) (told told_now : FolderTold) → StoresEach frames old new told told_now → FailsSo old new told.faults told_now.faults
each_fails [] old new told told_now stores = left_alone old new told told_now stores.0 stores.1
each_fails (frame ∷ frames) old new told told_now stores =
    fails_both old stores.0 new told.faults stores.1.faults told_now.faults
    (in_fails (frame ∷ []) old stores.0 told stores.1 stores.2)
    (each_fails frames stores.0 new stores.1 told_now stores.3)

whole : (frames : List (List ℕ)) (old new : Option Trace) (told told_now : FolderTold) → FailsSo old new told.faults told_now.faults
    → ((run : Run) (first : Option Files) (before : List (List ℕ)) → GoesOn run first before (before ++ frames) old new told.files told_now.files) → Fails frames old new told told_now
whole frames old new told told_now fails goes_on = record {
  trace_failed = fails.trace_failed;
  failures = fails.failures;
  rose = fails.rose;
  later = fails.later;
  same = fails.same;
  goes_on = goes_on;
}

pub stores_in : (frames : List (List ℕ)) (old new : Option Trace) (told told_now : FolderTold) → StoresIn frames old new told told_now → Fails frames old new told told_now
stores_in frames old new told told_now stores =
    whole frames old new told told_now (in_fails frames old new told told_now stores) (λ run first before. in_goes_on run first before frames old new told told_now stores)

pub stores_each : (frames : List (List ℕ)) (old new : Option Trace) (told told_now : FolderTold) → StoresEach frames old new told told_now → Fails frames old new told told_now
stores_each frames old new told told_now stores =
    whole frames old new told told_now (each_fails frames old new told told_now stores) (λ run first before. each_goes_on run first before frames old new told told_now stores)

pub leaves_where : {frames : List (List ℕ)} (old new : Core) (stored : Option Trace) (told told_now : FolderTold) → ChangesTraceAlone old.trace told told_now → Fails frames old.trace stored told told_now → new.trace ≡ stored
    → Leaves old new told told_now
leaves_where old new stored told told_now changes fails still = record {
  others = own_files old.trace told told_now changes;
  same = ap stands_in still ∙ fails.same;
  later = fails.later;
}
