-- What a run that was played comes to, once its filters stored what passes them.
use Rattle.std.proofs.Common.{◌≡◌, ◌≢◌, ℕ, ◌≤◌, Bool, true, false, ◌||◌, List, [], ◌∷◌, ◌++◌, length, count_by, Option, Some, None, refl, sym, ap, subst, ◌∙◌, append_assoc, length-append, arith}
use Rattle.std.specs.Prelude.{codes, IfSome, IsSomeAnd, if◌then◌else◌}
use Rattle.std.specs.List.{AllByRecursion}
use Rattle.std.specs.Str.{bytes_eq}
use Rattle.std.specs.FinMap as map
use Rattle.std.proofs.lemmas.Slice.Eq.{bytes_eq-Decides}
use Rattle.dl_bytes.specs.declared.outcome.TraceEnd.{TraceEnd}
use Rattle.dl_bytes.specs.declared.outcome.TraceEnd.TheVariants.{Failed, Spent, NoMemory}
use Rattle.dl_crew.specs.Plays.{ArePairs}
use Rattle.dl_core.specs.Follows.{HoldsFiles, Run, stored_by}
use Rattle.dl_ending.specs.Ending.{records_of}
use Rattle.dl_ending.specs.Storage.{has_failed, some_end}
use Rattle.dl_events.specs.declared.event.Event.{Event}
use Rattle.dl_events.specs.declared.record.Record.{Record}
use Rattle.dl_core.specs.Files as folders
use Rattle.dl_core.specs.Files.{KeepsStored}
use Rattle.dl_account.specs.State.{AccountState}
use Rattle.dl_model.specs.Journal.{is_connect}
use Rattle.dl_model.specs.TraceFiles.{StoredFile, six_digits, trace_name}
use Rattle.dl_outside.specs.Folder.{Files}
use Rattle.dl_outside.specs.Links.{Links}
use Rattle.dl_outside.specs.Outside.{HasRisen}
use Rattle.dl_outside.specs.Told.{LinkTold}
use Rattle.dl_startup.specs.Setup.{IsBegun, stored_name}
use Rattle.dl_storage.specs.Ended.{EndHasCause}
use Rattle.dl_storage.specs.Passing.{directory_of, frames_for}
use Rattle.dl_storage.specs.Storing.{AreStored, ChangesFiltersFiles, EndsAs, HoldsFiles as HoldsFiltersFiles, IsOther, IsStored}
use Rattle.dl_storage.specs.declared.ends.StoreEnd.{StoreEnd}
use Rattle.dl_storage.specs.declared.filter.Filter.{Filter}
use Rattle.dl_trace.specs.InFolder.{HasFiles, IsTraceName}
use Rattle.dl_trace.specs.State.{Trace}
use Rattle.dl_live.specs.declared.beginning.Begun.{Begun}
use Rattle.dl_live.specs.Account.{IsComeTo, run_of, setting}
use Rattle.dl_live.specs.Clients.{IsNetAfter}
use Rattle.dl_live.specs.Filters.{AreElsewhere, told_of}
use Rattle.dl_live.specs.Folder.{IsFolderAfter}
use Rattle.dl_live.specs.Performing.{LeavesOthers}
use Rattle.dl_live.specs.Stored.{AreKept, IsFiltered}
use Rattle.dl_live.specs.Told.{Told, told}
use Rattle.dl_lemmas.proofs.Lists.{same_front}
use Rattle.dl_admission.proofs.KeptTraces.{risen_later, risen_before}

-- ---- names of files tell their directories

-- what stands behind the directory in a trace file's name
abbrev tail : ℕ → List ℕ
tail number = codes "/dlt_offlinetrace." ++ (six_digits number ++ codes ".dlt")

named : (directory : List ℕ) (number : ℕ) → trace_name directory number ≡ directory ++ tail number
named directory number = append_assoc (directory ++ codes "/dlt_offlinetrace.") (six_digits number) (codes ".dlt") ∙ append_assoc directory (codes "/dlt_offlinetrace.") (six_digits number ++ codes ".dlt")

one_directory : (directory other name : List ℕ) → IsTraceName directory name → IsTraceName other name → directory ≡ other
one_directory directory other name is there =
    same_front directory other (tail is.0) (tail there.0) refl (sym (named directory is.0) ∙ sym is.3 ∙ there.3 ∙ named other there.0)

-- the stored configuration is no trace file, whose name is longer
no_trace_name : (directory name : List ℕ) → IsTraceName directory name → name ≢ stored_name
no_trace_name directory name is same =
    let long = ap length (sym (named directory is.0) ∙ sym is.3 ∙ same) in
    let parts = length-append directory (tail is.0) in
    absurd (omega (arith, long, parts))

-- ---- files that no filter has

-- a trace file of another directory
elsewhere : (filters : List Filter) (directory name : List ℕ) → AreElsewhere filters directory → IsTraceName directory name → IsOther filters name
elsewhere [] directory name are is = tt
elsewhere (filter ∷ filters) directory name are is =
    (λ there. are.0 (one_directory (directory_of filter) directory name there is), elsewhere filters directory name are.1 is)

-- the stored configuration
stored_elsewhere : (filters : List Filter) → IsOther filters stored_name
stored_elsewhere [] = tt
stored_elsewhere (filter ∷ filters) = (λ is. no_trace_name (directory_of filter) stored_name is refl, stored_elsewhere filters)

still_stored : (filters : List Filter) (told settled last : Option Files) → KeepsStored told settled → ChangesFiltersFiles filters settled last → KeepsStored told last
still_stored filters None settled last keeps changes = tt
still_stored filters (Some was) None last keeps changes = absurd keeps
still_stored filters (Some was) (Some now) last keeps changes =
    subst (λ (o : Option Files). KeepsStored (Some was) o) (sym changes.1) (changes.2 stored_name (stored_elsewhere filters) ∙ keeps)

-- the trace files of a directory are those that they were, where each of their names has what it had
same_files : (directory : List ℕ) (now last : Files) (files : List StoredFile) → ((name : List ℕ) → IsTraceName directory name → map.get last name ≡ map.get now name)
    → HasFiles directory now files → HasFiles directory last files
same_files directory now last files same has = record {
  rising = has.rising;
  each = λ number least most. same (trace_name directory number) (number, least, most, refl) ∙ has.each number least most;
}

still_held : (filters : List Filter) (run : Run) (frames : List (List ℕ)) (settled last : Option Files) → AreElsewhere filters run.setting.directory → ChangesFiltersFiles filters settled last
    → HoldsFiles run frames settled → HoldsFiles run frames last
still_held filters run frames None last are changes holds = absurd holds
still_held filters run frames (Some now) last are changes holds =
    subst (λ (o : Option Files). HoldsFiles run frames o) (sym changes.1)
    (same_files run.setting.directory now changes.0 _ (λ name is. changes.2 name (elsewhere filters run.setting.directory name are is)) holds)

-- where a folder told its files before
held : (filters : List Filter) (run : Run) (frames : List (List ℕ)) (settled last told : Option Files) → ChangesFiltersFiles filters settled last
    → IfSome told (λ files. HoldsFiles run frames settled) → AreElsewhere filters run.setting.directory → IfSome told (λ files. HoldsFiles run frames last)
held filters run frames settled last None changes holds are = tt
held filters run frames settled last (Some files) changes holds are = still_held filters run frames settled last are changes holds

-- ---- what a run is come to

-- a run that was played is come to the same, where only files of its filters changed since, and the folder's count of faults did not fall
pub stored_so : {L : Type 0} (link_told : L → LinkTold) (begun : Begun) (old settled last : Told L) (account : AccountState) (links : Links L) → last.net ≡ settled.net
    → ChangesFiltersFiles begun.filters settled.folder.files last.folder.files → settled.folder.faults ≤ last.folder.faults
    → IsComeTo link_told begun old settled account links → IsComeTo link_told begun old last account links
stored_so link_told begun old settled last account links same_net changes later come =
    let played = come.played_out in
    record {
      played_out = record {
        is_account = played.is_account;
        settled = played.settled;
        journal = played.journal;
        scenario = played.scenario;
        injected = played.injected;
        net_after = subst (λ net. IsNetAfter begun.port begun.scenario (count_by is_connect account.events) account.outcome.dropped old.net net) (sym same_net) played.net_after;
        stood = played.stood;
        stood_so = played.stood_so;
        clients = played.clients;
        untraced = played.untraced;
        folder_after = folder_so played.folder_after;
      };
      traced = λ named.
          let is = come.traced named in record {
            kept = is.kept;
            state = is.state;
            after = is.after;
            stood = is.stood;
            holds = λ goes_on are.
                let run = run_of begun come.played_out.stood account in
                held begun.filters run (stored_by run account.events) settled.folder.files last.folder.files old.folder.files changes (is.holds goes_on are) are;
          };
    } where
      folder_so : IsFolderAfter (setting begun) account.events account.outcome.trace.end old.folder settled.folder → IsFolderAfter (setting begun) account.events account.outcome.trace.end old.folder last.folder
      folder_so after = record {
        never_falls = let never = after.never_falls in omega (arith, never, later);
        failed = let failed = after.failed in omega (arith, failed, later);
        stored = λ none_failed none_done. still_stored begun.filters old.folder.files settled.folder.files last.folder.files (after.stored none_failed none_done) changes;
      }

-- ---- why filters ended

one_cause : (before now : ℕ) (ended : Option TraceEnd) → EndHasCause before now ended → (before ≤ now) × (has_failed ended ≡ true → HasRisen before now) × (has_failed ended ≡ false → now ≡ before)
one_cause before now None cause = (omega (arith, cause), λ bad. absurd (cc bad), λ good. cause)
one_cause before now (Some Failed) cause = (cause.0, λ bad. cause, λ good. absurd (cc good))
one_cause before now (Some Spent) cause = (omega (arith, cause), λ bad. absurd (cc bad), λ good. cause)
one_cause before now (Some NoMemory) cause = (omega (arith, cause), λ bad. absurd (cc bad), λ good. cause)

-- the folder's count of faults rose where it failed a filter, and stands where it failed none
pub all_causes : (ecu : List ℕ) (records : List (List Record)) (events : List Event) (told told_now : Option Files) (before now : ℕ) (filters : List Filter) (ends : List StoreEnd)
    → AreStored ecu records events told told_now before now filters ends
    → (before ≤ now) × (some_end has_failed ends ≡ true → HasRisen before now) × (some_end has_failed ends ≡ false → now ≡ before)
all_causes ecu records events told told_now before now [] [] are = (omega (arith, are), λ bad. absurd (cc bad), λ good. are)
all_causes ecu records events told told_now before now (filter ∷ filters) (end ∷ ends) are =
    let first = one_cause before are.1.0 end.end are.1.1 in
    let rest = all_causes ecu records events told told_now are.1.0 now filters ends are.1.2 in
    by_test (has_failed end.end) refl first rest where
      by_test : (t : Bool) → has_failed end.end ≡ t
          → (before ≤ are.1.0) × (has_failed end.end ≡ true → HasRisen before are.1.0) × (has_failed end.end ≡ false → are.1.0 ≡ before)
          → (are.1.0 ≤ now) × (some_end has_failed ends ≡ true → HasRisen are.1.0 now) × (some_end has_failed ends ≡ false → now ≡ are.1.0)
          → (before ≤ now) × ((t || some_end has_failed ends) ≡ true → HasRisen before now) × ((t || some_end has_failed ends) ≡ false → now ≡ before)
      by_test true is first rest = (omega (arith, first.0, rest.0), λ bad. risen_later before are.1.0 now (first.1 is) rest.0, λ good. absurd (cc good))
      by_test false is first rest = (omega (arith, first.0, rest.0), λ bad. risen_before before are.1.0 now first.0 (rest.1 bad), λ good. rest.2 good ∙ first.2 is)
all_causes ecu records events told told_now before now [] (end ∷ ends) are = absurd are
all_causes ecu records events told told_now before now (filter ∷ filters) [] are = absurd are

-- ---- what stood in a filter's directory before the run

-- files that the run itself wrote are in no filter's directory, but where it keeps its own trace there
pub kept_before : (begun : Begun) (filter : Filter) (told : Option Files) (settled : Option Files) → IsBegun begun.conf told begun.trace → folders.ChangesOwnFiles begun.trace told settled
    → AreKept filter (told_of begun.conf.directory filter told) settled
kept_before begun filter told settled begins changes = by_test (bytes_eq (directory_of filter) begun.conf.directory) refl where
  other : bytes_eq (directory_of filter) begun.conf.directory ≡ false → directory_of filter ≢ begun.conf.directory
  other is same = absurd (cc (is, (bytes_eq-Decides (directory_of filter) begun.conf.directory).1 same))

  by_trace : (kept : Option Trace) (o : Option Files) → IsBegun begun.conf o kept → directory_of filter ≢ begun.conf.directory → folders.ChangesOwnFiles kept o settled → AreKept filter o settled
  by_trace kept None begun_so apart left = tt
  by_trace None (Some was) begun_so apart left =
      subst (λ (o : Option Files). IsSomeAnd o (λ now. (name : List ℕ) → IsTraceName (directory_of filter) name → map.get now name ≡ map.get was name)) (sym left.1)
      (λ name is. left.2 name (no_trace_name (directory_of filter) name is))
  by_trace (Some trace) (Some was) begun_so apart left =
      subst (λ (o : Option Files). IsSomeAnd o (λ now. (name : List ℕ) → IsTraceName (directory_of filter) name → map.get now name ≡ map.get was name)) (sym left.1)
      (λ name is. left.2 name (λ there. apart (one_directory (directory_of filter) trace.directory name is there ∙ begun_so.1.directory)) (no_trace_name (directory_of filter) name is))

  by_test : (t : Bool) → bytes_eq (directory_of filter) begun.conf.directory ≡ t → AreKept filter (if t then None else told) settled
  by_test true is = tt
  by_test false is = by_trace begun.trace told begins (other is) changes

begun_held : (filter : Filter) (stood : List StoredFile) (stored : List (List ℕ)) (told now next : Option Files) → AreKept filter told now
    → IfSome now (λ folder. HasFiles (directory_of filter) folder stood × HoldsFiltersFiles filter stood stored next)
    → IfSome told (λ folder. HasFiles (directory_of filter) folder stood × HoldsFiltersFiles filter stood stored next)
begun_held filter stood stored None now next kept held = tt
begun_held filter stood stored (Some folder) None next kept held = absurd kept
begun_held filter stood stored (Some folder) (Some there) next kept held =
    (same_files (directory_of filter) there folder stood (λ name is. sym (kept name is)) held.0, held.1)

begun_ends : (filter : Filter) (stored left : List (List ℕ)) (told now next : Option Files) (end : Option TraceEnd) → AreKept filter told now → EndsAs end filter stored left now next → EndsAs end filter stored left told next
begun_ends filter stored left told now next None kept ends = (ends.0, (ends.1.0, begun_held filter ends.1.0 stored told now next kept ends.1.1))
begun_ends filter stored left told now next (Some Spent) kept ends = (ends.0, ends.1, begun_held filter ends.0 stored told now next kept ends.2)
begun_ends filter stored left told now next (Some Failed) kept ends = tt
begun_ends filter stored left told now next (Some NoMemory) kept ends = tt

begun_stored : (filter : Filter) (frames : List (List ℕ)) (told now next : Option Files) (end : StoreEnd) → AreKept filter told now → IsStored filter frames now next end → IsStored filter frames told next end
begun_stored filter frames told now next end kept is = record {
  stored = is.stored;
  left = is.left;
  all = is.all;
  frames_are = is.frames_are;
  bytes_are = is.bytes_are;
  ends = begun_ends filter is.stored is.left told now next end.end kept is.ends;
}

-- each filter stored its frames over the files that stood before the run
pub all_filtered : (begun : Begun) (account : AccountState) (told settled last : Option Files) (before now : ℕ) (filters : List Filter) (ends : List StoreEnd)
    → ((filter : Filter) → AreKept filter (told_of begun.conf.directory filter told) settled)
    → AreStored begun.conf.ecu (records_of account) account.events settled last before now filters ends → ArePairs (IsFiltered begun account told last) filters ends
all_filtered begun account told settled last before now [] [] kept are = tt
all_filtered begun account told settled last before now (filter ∷ filters) (end ∷ ends) kept are = (
  begun_stored filter (frames_for begun.conf.ecu filter (records_of account) account.events) (told_of begun.conf.directory filter told) settled last end (kept filter) are.0,
  all_filtered begun account told settled last are.1.0 now filters ends kept are.1.2,
)
all_filtered begun account told settled last before now [] (end ∷ ends) kept are = absurd are
all_filtered begun account told settled last before now (filter ∷ filters) [] kept are = absurd are

-- no filter's files changed
pub all_kept : (begun : Begun) (filters : List Filter) (told settled : Option Files) → ((filter : Filter) → AreKept filter (told_of begun.conf.directory filter told) settled)
    → AllByRecursion (λ (filter : Filter). AreKept filter (told_of begun.conf.directory filter told) settled) filters
all_kept begun [] told settled kept = tt
all_kept begun (filter ∷ filters) told settled kept = (kept filter, all_kept begun filters told settled kept)

-- ---- where nothing was stored

unchanged : (filters : List Filter) (told : Option Files) → ChangesFiltersFiles filters told told
unchanged filters None = tt
unchanged filters (Some folder) = (folder, refl, λ name is. refl)

pub leaves_so : (begun : Begun) (old settled : Option Files) → folders.ChangesOwnFiles begun.trace old settled → LeavesOthers begun old settled
leaves_so begun old settled own = (settled, own, unchanged begun.filters settled)
