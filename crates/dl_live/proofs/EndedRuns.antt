-- How a run ends that came to an account, by what its report's writing left.
use Rattle.std.proofs.Common.{◌≡◌, ◌≢◌, inl, inr, ℕ, Bool, true, false, List, [], ◌∷◌, Option, Some, None, refl, sym, ap, subst, ◌∙◌}
use Rattle.std.specs.List.{AllByRecursion}
use Rattle.dl_bytes.specs.declared.outcome.TraceEnd.{TraceEnd}
use Rattle.dl_bytes.specs.declared.outcome.TraceEnd.TheVariants as end
use Rattle.dl_ending.specs.Ending.{Finishes}
use Rattle.dl_ending.specs.Storage.{has_failed, has_no_memory, is_spent, some_end}
use Rattle.dl_account.specs.State.{AccountState}
use Rattle.dl_outside.specs.Written.{WroteAll, WroteFront}
use Rattle.dl_startup.specs.Failures.{status_of}
use Rattle.dl_startup.specs.declared.failures.Failures.{Failures}
use Rattle.dl_startup.specs.declared.status.Status.{Status}
use Rattle.dl_storage.specs.declared.ends.StoreEnd.{StoreEnd}
use Rattle.dl_live.specs.declared.beginning.Begun.{Begun}
use Rattle.dl_live.specs.Ends.{EndsStored, KnownOf, report}
use Rattle.dl_live.specs.Told.{Told}
use Rattle.dl_lemmas.proofs.Bools.{or_left as left, or_right as right}

-- ---- a trace and filters that ended for no cause go on

goes_on : (ended : Option TraceEnd) → ended ≢ Some end.Failed → ended ≢ Some end.Spent → ended ≢ Some end.NoMemory → ended ≡ None
goes_on None failed spent wanted = refl
goes_on (Some end.Failed) failed spent wanted = absurd (failed refl)
goes_on (Some end.Spent) failed spent wanted = absurd (spent refl)
goes_on (Some end.NoMemory) failed spent wanted = absurd (wanted refl)

none_of : (ended : Option TraceEnd) → has_failed ended ≡ false → is_spent ended ≡ false → has_no_memory ended ≡ false → ended ≡ None
none_of None failed spent wanted = refl
none_of (Some end.Failed) failed spent wanted = absurd (cc failed)
none_of (Some end.Spent) failed spent wanted = absurd (cc spent)
none_of (Some end.NoMemory) failed spent wanted = absurd (cc wanted)

all_go_on : (ends : List StoreEnd) → some_end has_failed ends ≡ false → some_end is_spent ends ≡ false → some_end has_no_memory ends ≡ false → AllByRecursion (λ (e : StoreEnd). e.end ≡ None) ends
all_go_on [] failed spent wanted = tt
all_go_on (e ∷ ends) failed spent wanted = (
  none_of e.end (left (has_failed e.end) (some_end has_failed ends) failed) (left (is_spent e.end) (some_end is_spent ends) spent) (left (has_no_memory e.end) (some_end has_no_memory ends) wanted),
  all_go_on ends (right (has_failed e.end) (some_end has_failed ends) failed) (right (is_spent e.end) (some_end is_spent ends) spent)
      (right (has_no_memory e.end) (some_end has_no_memory ends) wanted),
)

module _ {L : Type 0} (begun : Begun) (account : AccountState) (ends : List StoreEnd) (old new : Told L) where
  -- the text
  abbrev pub text : List ℕ
  text = report begun account ends

  abbrev pub status_with : (net folder spent memory output : Bool) → Status
  status_with net folder spent memory output =
      status_of (record { net = net; folder = folder; names_spent = spent; journal_full = false; output = output; memory = memory })

  whole : (net folder spent memory : Bool) → KnownOf begun account ends old new net folder spent memory → WroteAll old.out new.out text
      → EndsStored begun account ends old new (status_with net folder spent memory false)
  whole true folder spent memory known all = (inl all, known.net_failed refl)
  whole false true spent memory known all = (inl all, known.net_well refl, known.folder_failed refl)
  whole false false true memory known all = (inl all, known.net_well refl, known.folder_well refl, known.are_spent refl)
  whole false false false true known all = inr (all, known.net_well refl, known.folder_well refl, known.has_names refl)
  whole false false false false known all = (
    all,
    record {
      net = known.net_well refl;
      folder = known.folder_well refl;
      trace = goes_on account.outcome.trace.end (known.trace_failed refl) (known.has_names refl).0 (known.trace_wanted refl);
      stored = all_go_on ends (known.filter_failed refl) (known.has_names refl).1 (known.filter_wanted refl);
      served = (known.served refl).0;
      heard = (known.served refl).1;
      launched = known.launched refl;
      all_came = known.all_came refl refl;
    },
  )

  front : (net folder spent memory : Bool) → KnownOf begun account ends old new net folder spent memory → WroteFront old.out new.out text
      → EndsStored begun account ends old new (status_with net folder spent memory true)
  front true folder spent memory known part = (inr part, known.net_failed refl)
  front false true spent memory known part = (inr part, known.net_well refl, known.folder_failed refl)
  front false false true memory known part = (inr part, known.net_well refl, known.folder_well refl, known.are_spent refl)
  front false false false memory known part = (part, known.net_well refl, known.folder_well refl, known.has_names refl)

  -- so it ends as its status says
  pub ended : (failures : Failures) (status : Status) → failures.journal_full ≡ false
      → KnownOf begun account ends old new failures.net failures.folder failures.names_spent failures.memory
      → Finishes text failures old.out new.out status → EndsStored begun account ends old new status
  ended failures status unfilled known finishes = elim finishes [
    | inl nothing ↦ subst (λ (s : Status). EndsStored begun account ends old new s) (sym nothing.1) (inl nothing.0)
    | inr written ↦ elim written [
      | inl all ↦ subst (λ (s : Status). EndsStored begun account ends old new s) (sym (all.1 ∙ ap (λ (full : Bool). status_of (of_full full false)) unfilled))
          (whole failures.net failures.folder failures.names_spent failures.memory known all.0)
      | inr part ↦ subst (λ (s : Status). EndsStored begun account ends old new s) (sym (part.1 ∙ ap (λ (full : Bool). status_of (of_full full true)) unfilled))
          (front failures.net failures.folder failures.names_spent failures.memory known part.0)
    ]
  ] where
    of_full : Bool → Bool → Failures
    of_full full output = record { net = failures.net; folder = failures.folder; names_spent = failures.names_spent; journal_full = full; output = output; memory = failures.memory }
