-- What is done of an ended trace before a round: nothing, a try in vain, or a new trace.
use Rattle.std.proofs.Common.{◌≡◌, ◌⊎◌, inl, inr, ℕ, Bool, true, false, List, Option, Some, None, refl, sym, ap, subst, ◌∙◌}
use Rattle.std.specs.Prelude.{◌&&◌, IfSome, IsSome, IsSomeAnd, IfOk, Result, Ok, Err}
use Rattle.std.proofs.lemmas.Bool.{false≢true}
use Rattle.dl_bytes.specs.declared.conf.Conf.{Conf}
use Rattle.dl_bytes.specs.declared.moment.Moment.{Moment}
use Rattle.dl_core.specs.Follows.{TakesPlace, unstored_records}
use Rattle.dl_core.specs.State.{Core}
use Rattle.dl_model.specs.TraceFiles.{StoredFile, trace_files}
use Rattle.dl_outside.specs.Folder.{Files}
use Rattle.dl_outside.specs.Outside.{Stays}
use Rattle.dl_outside.specs.Told.{FolderTold}
use Rattle.dl_startup.specs.Setup.{IsBegun}
use Rattle.dl_startup.specs.Unchanged.{IsUnchanged}
use Rattle.dl_trace.specs.Made.{HasBegun}
use Rattle.dl_trace.specs.InFolder.{HasFiles}
use Rattle.dl_trace.specs.State.{Trace}
use Rattle.dl_trace.specs.declared.trace.TraceFault.{TraceFault}
use Rattle.dl_trace.proofs.Making.{begun_files, begun_with}
use Rattle.dl_daemon.specs.declared.renewing.Tries.{Tries}
use Rattle.dl_daemon.specs.Renewing.{Renews, RenewsIf, Takes, has_passed, is_mendable, is_try_due, may_go_on}

-- the core with this trace
abbrev pub with_new : Core → Trace → Core
with_new core trace = record core { trace = Some trace }

-- a trace that is kept has ended
abbrev pub HasEnded : Option Trace → Type 0
HasEnded trace = IfSome trace (λ kept. ¬ (kept.state.end ≡ None))

-- nothing was begun: the core is as it was; and so are the folder's files, or the trace has ended
pub record IsStill (begun : Option ℕ) (old new : Core) (folder folder_now : FolderTold) : Type 0 where
  pub unbegun : begun ≡ None
  pub same : new ≡ old
  pub stays : Stays folder.files folder_now.files ⊎ HasEnded old.trace

-- a trace was begun, with the records of so many frames
pub record IsAnew (conf : Conf) (moment : Moment) (begun : Option ℕ) (old new : Core) (folder folder_now : FolderTold) : Type 0 where
  pub unstored : ℕ
  pub begun_so : begun ≡ Some unstored
  pub trace : Trace
  pub stood : List StoredFile
  pub has : HasBegun conf stood (unstored_records old.ecu moment unstored) trace
  pub is : new ≡ with_new old trace
  pub stood_so : IfSome folder.files (λ files. HasFiles conf.directory files stood)
  pub files : IfSome folder.files (λ was. IsSomeAnd folder_now.files (λ files. HasFiles conf.directory files (trace_files conf.file_size conf.max_size stood (unstored_records old.ecu moment unstored))))

stays_same : {A : Type 0} (old new : Option A) → new ≡ old → Stays old new
stays_same None new same = tt
stays_same (Some x) new same = same

-- what holds of the files that a folder told before holds of those that it tells, by what holds between
files_then : (told between now : Option Files) (P Q : Files → Type 0) → Stays told between → IfSome told P → (IsSomeAnd between P → IsSomeAnd now Q) → IfSome told (λ was. IsSomeAnd now Q)
files_then None between now P Q stays so step = tt
files_then (Some files) between now P Q stays so step = step (subst (λ (o : Option Files). IsSomeAnd o P) (sym stays) so)

mendable_ended : (trace : Option Trace) → is_mendable trace ≡ true → HasEnded trace
mendable_ended None mendable = tt
mendable_ended (Some kept) mendable = λ none. false≢true (ap may_go_on (sym none) ∙ mendable)

and_left : (a b : Bool) → (a && b) ≡ true → a ≡ true
and_left true b both = refl
and_left false b both = absurd (false≢true both)

module _ (conf : Conf) (moment : Moment) (begun : Option ℕ) (old new : Core) (folder folder_now : FolderTold) (rest : new ≡ record old { trace = new.trace }) where
  abbrev Became : Type 0
  Became = IsStill begun old new folder folder_now ⊎ IsAnew conf moment begun old new folder folder_now

  -- the trace that was kept stays
  as_before : new.trace ≡ old.trace → new ≡ old
  as_before same = rest ∙ ap (λ (kept : Option Trace). record old { trace = kept }) same

  still : (between : FolderTold) → IsUnchanged folder between → folder_now ≡ between → Stays folder.files folder_now.files
  still between unchanged same = subst (λ (f : FolderTold). Stays folder.files f.files) (sym same) unchanged.files

  taken : (o : Option ℕ) (trace : Trace) (between : FolderTold) → begun ≡ o → HasEnded old.trace → IsBegun conf folder.files (Some trace) → IsUnchanged folder between
      → TakesPlace o old.ecu moment trace old.trace new.trace between folder_now → Became
  taken None trace between is ended over unchanged takes = inl (record { unbegun = is; same = as_before takes.0; stays = inr ended })
  taken (Some unstored) trace between is ended over unchanged takes = inr (record {
    unstored = unstored;
    begun_so = is;
    trace = takes.1;
    stood = over.2.0;
    has = begun_with conf trace takes.1 over.2.0 (unstored_records old.ecu moment unstored) between.files folder_now.files over.1 over.2.1 takes.5.0;
    is = rest ∙ ap (λ (kept : Option Trace). record old { trace = kept }) takes.4;
    stood_so = over.2.2;
    files = files_then folder.files between.files folder_now.files (λ files. HasFiles conf.directory files over.2.0) _ unchanged.files over.2.2
        (begun_files conf trace takes.1 over.2.0 (unstored_records old.ecu moment unstored) between.files folder_now.files over.1 over.2.1 takes.5.0);
  })

  tried : (made : Result (Option Trace) TraceFault) (between : FolderTold) → HasEnded old.trace → IfOk made (IsBegun conf folder.files) → IsUnchanged folder between
      → Takes old.ecu moment made begun old.trace new.trace between folder_now → Became
  tried (Ok None) between ended over unchanged takes = inl (record { unbegun = takes.0; same = as_before takes.1; stays = inl (still between unchanged takes.2) })
  tried (Ok (Some trace)) between ended over unchanged takes = taken begun trace between refl ended over unchanged takes.0
  tried (Err fault) between ended over unchanged takes = inl (record { unbegun = takes.0; same = as_before takes.1; stays = inl (still between unchanged takes.2) })

  by_due : (due : Bool) (tries tries_now : Tries) → (due ≡ true → HasEnded old.trace) → RenewsIf due conf old.ecu moment begun tries tries_now old.trace new.trace folder folder_now → Became
  by_due true tries tries_now ended renews = tried renews.0.made renews.0.between (ended refl) renews.0.over renews.0.unchanged renews.0.takes
  by_due false tries tries_now ended renews =
      inl (record { unbegun = renews.0; same = as_before renews.2; stays = inl (stays_same folder.files folder_now.files (ap (λ (f : FolderTold). f.files) renews.3)) })

  pub renewed_so : (tries tries_now : Tries) → Renews conf old.ecu moment begun tries tries_now old.trace new.trace folder folder_now → Became
  renewed_so tries tries_now renews =
      by_due (is_try_due tries old.trace moment) tries tries_now (λ due. mendable_ended old.trace (and_left (is_mendable old.trace) (has_passed tries.last moment.ticks) due)) renews

-- what the folder's files are stays so
pub some_stays : {A : Type 0} (P : A → Type 0) (old new : Option A) → Stays old new → IsSomeAnd old P → IsSomeAnd new P
some_stays P None new stays some = absurd some
some_stays P (Some x) new stays some = subst (λ (o : Option _). IsSomeAnd o P) (sym stays) some

-- where it told files, it tells them so
pub told_so : {A : Type 0} (Q : Type 0) (told : Option A) → IfSome told (λ was. Q) → IsSome told → Q
told_so Q None so some = absurd (cc some)
told_so Q (Some x) so some = so
