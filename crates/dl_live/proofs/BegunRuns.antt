-- From what the words begin to what the program comes to.
use Rattle.std.proofs.Common.{◌≡◌, ◌≢◌, ℕ, ◌+◌, ◌<◌, List, [], ◌∷◌, ◌++◌, length, map, Option, Some, None, refl, sym, ap, subst, ◌∙◌}
use Rattle.std.specs.Prelude.{codes, IfOk, IsOkAnd, Result, Ok, Err}
use Rattle.std.specs.FinMap as entries
use Rattle.std.specs.List.{AllByRecursion, flat_map}
use Rattle.std.proofs.lemmas.List.{length-append}
use Rattle.dl_conf.specs.Conf.{Values}
use Rattle.dl_conf.specs.Outcome.{values_of}
use Rattle.dl_conf.specs.declared.conf.ConfKind.{ConfKind}
use Rattle.dl_events.specs.declared.record.Record.{Record}
use Rattle.dl_core.specs.Files as folders
use Rattle.dl_account.specs.State.{AccountState}
use Rattle.dl_outside.specs.Folder.{Files}
use Rattle.dl_outside.specs.Links.{Links}
use Rattle.dl_outside.specs.Net.{HasCause}
use Rattle.dl_outside.specs.Outside.{Stays}
use Rattle.dl_outside.specs.Told.{FolderTold, LinkTold}
use Rattle.dl_outside.specs.Written.{WroteNothing}
use Rattle.dl_outside.specs.declared.net.NetFault as net
use Rattle.dl_outside.specs.declared.net.NetFault.TheVariants as fault
use Rattle.dl_settling.specs.Room.{together}
use Rattle.dl_startup.specs.Setup.{IsBegun, conf_in, stored_name}
use Rattle.dl_startup.specs.Unchanged.{IsUnchanged}
use Rattle.dl_startup.specs.declared.status.Status.{Status}
use Rattle.dl_startup.specs.declared.status.Status.TheVariants as status
use Rattle.dl_startup.specs.declared.storage_kind.StorageKind.{StorageKind}
use Rattle.dl_storage.specs.Storing.{ChangesFiltersFiles, IsOther}
use Rattle.dl_storage.specs.declared.ends.StoreEnds.{StoreEnds}
use Rattle.dl_storage.specs.FilterLine.{Wanted}
use Rattle.dl_storage.specs.FilterWhole.{wanted_of}
use Rattle.dl_storage.specs.declared.filter.Filter.{Filter}
use Rattle.dl_trace.specs.InFolder.{IsTraceName}
use Rattle.dl_trace.specs.State.{Trace}
use Rattle.dl_words.specs.Run as words
use Rattle.dl_writer.specs.State.{BookState}
use Rattle.dl_live.specs.declared.beginning.Begun.{Begun}
use Rattle.dl_live.specs.Account.{Started}
use Rattle.dl_live.specs.Begin.{AreSaid, IsStart, Refuses}
use Rattle.dl_live.specs.Ends.{EndsEarly}
use Rattle.dl_live.specs.Filters.{IsOfNoFilter, filters_in}
use Rattle.dl_live.specs.Folder.{ChangesOwnFiles, IsTraceFile}
use Rattle.dl_live.specs.Performing.{Fails, LeavesOthers, Performs, status_of}
use Rattle.dl_live.specs.Program.{ChangesNoOther, Outcome, no_links}
use Rattle.dl_live.specs.Told.{Told}
use Rattle.dl_lemmas.proofs.Options.{if_some_is}

-- ---- a run that does not begin

-- words that begin no run end it early, where the net was left alone
pub refused : {L : Type 0} (said : List (List ℕ)) (old new : Told L) (s : Status) → new.net ≡ old.net → Refuses said old.folder new.folder s → EndsEarly said old new s
refused said old new status.WordsRefused same h = (h, same)
refused said old new status.OutOfMemory same h = tt
refused said old new status.NetFault same h = absurd h.2
refused said old new (status.ConfRefused line kind) same h = (h, same)
refused said old new (status.StoredRefused line kind) same h = (h, same)
refused said old new (status.ScriptRefused line kind) same h = (h, same)
refused said old new (status.StorageRefused line kind) same h = (h, same)
refused said old new status.FolderFault same h = (h, same)
refused said old new status.Ok same h = (h, same)
refused said old new status.WriteFault same h = (h, same)
refused said old new status.NamesSpent same h = (h, same)
refused said old new status.ReadFault same h = (h, same)
refused said old new status.JournalFull same h = (h, same)

-- ---- the files of others

unchanged_files : (asked : words.Run) (old new : Option Files) → Stays old new → ChangesOwnFiles asked old new
unchanged_files asked None new stays = tt
unchanged_files asked (Some was) new stays = (was, stays, λ name not_stored not_trace of_no_filter. refl)

same_files : (old new : FolderTold) → new ≡ old → Stays old.files new.files
same_files old new same = by old.files refl where
  by : (o : Option Files) → old.files ≡ o → Stays o new.files
  by None is = tt
  by (Some files) is = ap (λ (f : FolderTold). f.files) same ∙ is

quiet_refusal : (said : List (List ℕ)) (old new : FolderTold) (s : Status) → Refuses said old new s → Stays old.files new.files
quiet_refusal said old new status.WordsRefused h = same_files old new h.1
quiet_refusal said old new status.OutOfMemory h = h.unchanged.files
quiet_refusal said old new (status.ConfRefused line kind) h = h.2.1.unchanged.files
quiet_refusal said old new (status.StoredRefused line kind) h = h.2.1.unchanged.files
quiet_refusal said old new (status.ScriptRefused line kind) h = h.2.1.unchanged.files
quiet_refusal said old new status.FolderFault h = h.2.1.files
quiet_refusal said old new (status.StorageRefused line kind) h = h.2.1.unchanged.files
quiet_refusal said old new status.NetFault h = absurd h.2
quiet_refusal said old new status.Ok h = absurd h.2
quiet_refusal said old new status.WriteFault h = absurd h.2
quiet_refusal said old new status.NamesSpent h = absurd h.2
quiet_refusal said old new status.ReadFault h = absurd h.2
quiet_refusal said old new status.JournalFull h = absurd h.2

-- words that begin no run change no file
pub refused_changes : (said : List (List ℕ)) (old new : FolderTold) (s : Status) → Refuses said old new s → ChangesNoOther said old new
refused_changes said old new s refuses asked is_asked = unchanged_files asked old.files new.files (quiet_refusal said old new s refuses)

-- a trace file of the configuration's directory is one of the run
is_trace_file : (asked : words.Run) (was : Files) (begun : Begun) (name directory : List ℕ) → conf_in asked.conf was ≡ Ok (values_of begun.conf) → 0 < length begun.conf.directory
    → directory ≡ begun.conf.directory → IsTraceName directory name → IsTraceFile asked was name
is_trace_file asked was begun name directory said named same is_name =
    subst (λ (found : Result Values (ℕ × ConfKind)). IsOkAnd found (λ values. (0 < length values.directory) × IsTraceName values.directory name)) (sym said)
    (named, subst (λ (d : List ℕ). IsTraceName d name) same is_name)

-- every file is as it was, but the trace files and the stored configuration
abbrev ChangesOwn : words.Run → Files → Option Files → Type 0
ChangesOwn asked was new = (now : Files) × (new ≡ Some now) × ((name : List ℕ) → name ≢ stored_name → ¬ (IsTraceFile asked was name) → entries.get now name ≡ entries.get was name)

own_files : (asked : words.Run) (begun : Begun) (was : Files) (kept : Option Trace) (between new : Option Files) → AreSaid asked was begun → IsBegun begun.conf (Some was) kept
    → between ≡ Some was → folders.ChangesOwnFiles kept between new → ChangesOwn asked was new
own_files asked begun was None between new said begins is changes =
    let now = subst (λ (o : Option Files). folders.ChangesOwnFiles None o new) is changes in
    (now.0, now.1, λ name not_stored not_trace. now.2 name not_stored)
own_files asked begun was (Some trace) between new said begins is changes =
    let now = subst (λ (o : Option Files). folders.ChangesOwnFiles (Some trace) o new) is changes in (
      now.0,
      now.1,
      λ name not_stored not_trace. now.2 name (λ is_name. not_trace (is_trace_file asked was begun name trace.directory said.confs.conf begins.0 begins.1.directory is_name)) not_stored,
    )

-- a file of none of the filters that the files say is one of none of the run's
of_none : (filters : List Filter) (name : List ℕ) → AllByRecursion (λ (w : Wanted). ¬ (IsTraceName (codes "storage/" ++ w.name) name)) (map wanted_of filters) → IsOther filters name
of_none [] name are = tt
of_none (filter ∷ filters) name are = (are.0, of_none filters name are.1)

of_no_filter : (begun : Begun) (was : Files) (name : List ℕ) → filters_in was ≡ Ok (map wanted_of begun.filters) → IsOfNoFilter was name → IsOther begun.filters name
of_no_filter begun was name said is =
    of_none begun.filters name
    (subst (λ (found : Result (List Wanted) (ℕ × StorageKind)). IfOk found (λ filters. AllByRecursion (λ (w : Wanted). ¬ (IsTraceName (codes "storage/" ++ w.name) name)) filters)) said is)

-- nor is any other file changed as the filters store
and_filters : (asked : words.Run) (begun : Begun) (was : Files) (settled new : Option Files) → AreSaid asked was begun → ChangesOwn asked was settled → ChangesFiltersFiles begun.filters settled new
    → ChangesOwnFiles asked (Some was) new
and_filters asked begun was settled new said own changes =
    let now = subst (λ (o : Option Files). ChangesFiltersFiles begun.filters o new) own.1 changes in (
      now.0,
      now.1,
      λ name not_stored not_trace none. now.2 name (of_no_filter begun was name said.filters none) ∙ own.2 name not_stored not_trace,
    )

-- a run that began changes no other file, if what came after its begin does not
pub begun_changes : (said : List (List ℕ)) (asked : words.Run) (begun : Begun) (old between new : FolderTold) → words.run_of said ≡ Some asked → IsStart asked old between begun
    → LeavesOthers begun between.files new.files → ChangesNoOther said old new
begun_changes said asked begun old between new is_asked start changes other is_other =
    let same : asked ≡ other = (let both : Some asked ≡ Some other = sym is_asked ∙ is_other in cc both) in
    subst (λ (a : words.Run). ChangesOwnFiles a old.files new.files) same (by old.files refl) where
      by : (o : Option Files) → old.files ≡ o → ChangesOwnFiles asked o new.files
      by None is = tt
      by (Some was) is =
          let said = if_some_is old.files (λ files. AreSaid asked files begun) was is start.said in
          and_filters asked begun was changes.0 new.files said
          (own_files asked begun was begun.trace between.files changes.0 said (subst (λ (o : Option Files). IsBegun begun.conf o begun.trace) is start.trace)
          (if_some_is old.files (λ files. between.files ≡ Some files) was is start.quiet.unchanged.files) changes.1)
          changes.2

-- ---- a run that began

pub outcome_of : {L : Type 0} (link_told : L → LinkTold) (said : List (List ℕ)) (asked : words.Run) (begun : Begun) (old new : Told L) (between : FolderTold)
    → words.run_of said ≡ Some asked → IsStart asked old.folder between begun → (s : Status) (account : Option AccountState) (stored : Option StoreEnds) (links : Links L)
    → Performs link_told begun old new s account stored links → Outcome link_told said old new s account stored links
outcome_of {L} link_told said asked begun old new between is_asked start s (Some account) stored links performs =
    (record { it = started; come_to = performs.0; has_stored = performs.1 }, performs.2) where
      started : Started said old.folder
      started = record { asked = asked; is_asked = is_asked; begun = begun; between = between; start = start }
outcome_of {L} link_told said asked begun old new between is_asked start s None stored links performs = (early s performs.0, performs.1, performs.2, performs.3) where
  started : Started said old.folder
  started = record { asked = asked; is_asked = is_asked; begun = begun; between = between; start = start }

  early : (t : Status) → Fails old new t → EndsEarly said old new t
  early status.NetFault h = (started, h.0, h.1, h.2)
  early status.OutOfMemory h = tt
  early status.WordsRefused h = absurd h
  early (status.ConfRefused line kind) h = absurd h
  early (status.StoredRefused line kind) h = absurd h
  early (status.ScriptRefused line kind) h = absurd h
  early (status.StorageRefused line kind) h = absurd h
  early status.FolderFault h = absurd h
  early status.Ok h = absurd h
  early status.WriteFault h = absurd h
  early status.NamesSpent h = absurd h
  early status.ReadFault h = absurd h
  early status.JournalFull h = absurd h

-- ---- nothing was written

pub performs_nothing : {L : Type 0} (link_told : L → LinkTold) (begun : Begun) (old new : Told L) (s t : Status) (account : Option AccountState) (stored : Option StoreEnds) (links : Links L) → s ≡ t → account ≡ None
    → stored ≡ None → links ≡ no_links → Fails old new t → WroteNothing old.out new.out → Performs link_told begun old new s account stored links
performs_nothing {L} link_told begun old new s t account stored links is none nothing no_link fails wrote =
    subst (λ (a : Option AccountState). Performs link_told begun old new s a stored links) (sym none) (subst (λ (u : Status). Fails old new u) (sym is) fails, wrote, nothing, no_link)

pub outcome_of_none : {L : Type 0} (link_told : L → LinkTold) (said : List (List ℕ)) (old new : Told L) (s t : Status) (account : Option AccountState) (stored : Option StoreEnds) (links : Links L) → s ≡ t → account ≡ None
    → stored ≡ None → links ≡ no_links → EndsEarly said old new t → WroteNothing old.out new.out → Outcome link_told said old new s account stored links
outcome_of_none {L} link_told said old new s t account stored links is none nothing no_link early wrote =
    subst (λ (a : Option AccountState). Outcome link_told said old new s a stored links) (sym none) (subst (λ (u : Status). EndsEarly said old new u) (sym is) early, wrote, nothing, no_link)

-- a net that could not listen, or memory ran out
pub unheard : {L : Type 0} (f : net.NetFault) (old new : Told L) → HasCause {T = Unit {0}} old.net.faults new.net.faults (Err f) → Stays old.net.listens_on new.net.listens_on → IsUnchanged old.folder new.folder
    → Fails old new (status_of f)
unheard fault.Failed old new cause stays unchanged = (cause, stays, unchanged)
unheard fault.OutOfMemory old new cause stays unchanged = tt

-- ---- the records of books

pub counted : (books : List BookState) → length (flat_map (λ (records : List Record). records) (map (λ (b : BookState). b.records) books)) ≡ together books
counted [] = refl
counted (b ∷ books) = length-append b.records (flat_map (λ (records : List Record). records) (map (λ (c : BookState). c.records) books)) ∙ ap (λ (n : ℕ). length b.records + n) (counted books)
