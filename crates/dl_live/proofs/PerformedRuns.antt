-- What a run comes to that was played, once its report was written.
use Rattle.std.proofs.Common.{◌≡◌, Bool, true, false, ℕ, ◌≤◌, List, Option, Some, None, refl, sym, ap, subst, ◌∙◌, arith}
use Rattle.std.specs.Prelude.{IfSome, nat_lt, ◌||◌}
use Rattle.std.specs.List.{AllByRecursion}
use Rattle.dl_bytes.specs.declared.conf.Conf.{Conf}
use Rattle.dl_core.specs.State.{Core}
use Rattle.dl_ending.specs.Ending.{CanReport, IsSettingOf, records_of}
use Rattle.dl_ending.specs.Storage.{Concludes}
use Rattle.dl_core.specs.Files as folders
use Rattle.dl_account.specs.State.{AccountState}
use Rattle.dl_model.specs.Setting.{Setting}
use Rattle.dl_opening.proofs.AllCalls.{few_calls}
use Rattle.dl_outside.specs.Folder.{Files}
use Rattle.dl_outside.specs.Links.{Links}
use Rattle.dl_outside.specs.Outside.{HasRisen, Stays}
use Rattle.dl_outside.specs.Told.{FolderTold, LinkTold, NetTold, SinkTold}
use Rattle.dl_outside.proofs.Staying as staying
use Rattle.dl_script.specs.Playable.{IsRunnable}
use Rattle.dl_settling.specs.Room.{together}
use Rattle.dl_startup.specs.Setup.{IsBegun}
use Rattle.dl_startup.specs.Unchanged.{IsQuiet}
use Rattle.dl_startup.specs.declared.status.Status.{Status}
use Rattle.dl_storage.specs.Storing.{ChangesFiltersFiles}
use Rattle.dl_storage.specs.declared.ends.StoreEnds.{StoreEnds}
use Rattle.dl_storage.specs.declared.filter.Filter.{Filter}
use Rattle.dl_trace.specs.Made.{IsMade}
use Rattle.dl_trace.specs.State.{Trace}
use Rattle.dl_writer.specs.State.{BookState}
use Rattle.dl_live.specs.declared.beginning.Begun.{Begun}
use Rattle.dl_live.specs.declared.players.Players.{Players}
use Rattle.dl_live.specs.Account.{IsComeTo, setting}
use Rattle.dl_live.specs.Clients.{IsHeard}
use Rattle.dl_live.specs.Ends.{failed_so}
use Rattle.dl_live.specs.Filters.{told_of}
use Rattle.dl_live.specs.Performing.{HasBegun, Performs}
use Rattle.dl_live.specs.Playing.{ArePlayersOf, CanBePlayed, HasBeenPlayed}
use Rattle.dl_live.specs.Stored.{AreKept}
use Rattle.dl_live.specs.Told.{told}
use Rattle.dl_live.proofs.BegunRuns.{counted}
use Rattle.dl_live.proofs.ComeTo as come
use Rattle.dl_live.proofs.EndedRuns as ended
use Rattle.dl_live.proofs.KnownRuns.{ends_so}
use Rattle.dl_live.proofs.Performed.{come_to}
use Rattle.dl_live.proofs.Starting.{few}
use Rattle.dl_live.proofs.StoredRuns.{all_causes, all_filtered, all_kept, kept_before, stored_so}
use Rattle.dl_admission.proofs.KeptTraces.{risen_before}

-- a folder that tells nothing of its files owes nothing
changes_untold : (kept : Option Trace) (told_now : Option Files) → folders.ChangesOwnFiles kept None told_now
changes_untold None told_now = tt
changes_untold (Some trace) told_now = tt

pub can_be_played : {L : Type 0} (begun : Begun) (p : Players L) → IsRunnable begun.scenario → ArePlayersOf begun p → CanBePlayed p
can_be_played begun p runnable are = (begun, runnable, are)

pub has_begun : (begun : Begun) (files : Option Files) → IsBegun begun.conf files begun.trace → HasBegun begun
has_begun begun files is = (files, is)

-- the trace of a run that began is one of its configuration
pub made_trace : (begun : Begun) → HasBegun begun → IfSome begun.trace (IsMade begun.conf)
made_trace begun has = by begun.trace has.1 where
  by : (kept : Option Trace) → IsBegun begun.conf has.0 kept → IfSome kept (IsMade begun.conf)
  by None is = tt
  by (Some t) is = is.1

-- its players have that trace
pub own_changes : {L : Type 0} (begun : Begun) (p : Players L) (told told_now : FolderTold) → ArePlayersOf begun p → folders.ChangesOwnFiles p.daemon.core.trace told.files told_now.files
    → folders.ChangesOwnFiles begun.trace told.files told_now.files
own_changes begun p told told_now are changes = subst (λ (kept : Option Trace). folders.ChangesOwnFiles kept told.files told_now.files) (ap (λ (core : Core). core.trace) are.core) changes

-- a net that listens on the port that was asked for is heard
pub heard_so : {L : Type 0} (port : ℕ) (old new : NetTold L) → IfSome old.listens_on (λ _. new.listens_on ≡ Some (Some port)) → Stays old.launched new.launched → Stays old.waiting new.waiting → new.faults ≡ old.faults
    → IsHeard port old new
heard_so port old new listens launched waiting faults = record { listens = listens; launched = launched; waiting = waiting; faults = faults }

-- the account of a run that was played can be reported
pub can_report : {L : Type 0} (link_told : L → LinkTold) (begun : Begun) (p : Players L) (wanted failed : Bool) (net net_now : NetTold L) (folder folder_now : FolderTold) (account : AccountState) (links : Links L)
    → IsRunnable begun.scenario → ArePlayersOf begun p → HasBegun begun → HasBeenPlayed link_told p wanted failed net net_now folder folder_now account links → CanReport account
can_report link_told begun p wanted failed net net_now folder folder_now account links runnable are has been = record {
  setting = setting begun;
  is_account = come.is_account link_told begun p wanted failed net net_now folder folder_now account links runnable are has.0 has.1 been;
  few =
      let all = ap (λ (books : List BookState). together books) (come.same_books link_told begun p wanted failed net net_now folder folder_now account links runnable are has.0 has.1 been) in
      let within = few p (begun, runnable, are) been.books been.played p.daemon.calls refl in
      let calls = are.calls in
      let most = few_calls begun.scenario runnable in
      let records = counted account.books in
      omega (arith, all, within, calls, most, records);
}

module _ {L : Type 0} (link_told : L → LinkTold) (begun : Begun) (p : Players L) (wanted failed : Bool) (before net net_now : NetTold L) (first folder folder_now : FolderTold)
    (account : AccountState) (links : Links L) (runnable : IsRunnable begun.scenario) (are : ArePlayersOf begun p) (begins : IsBegun begun.conf first.files begun.trace)
    (quiet : IsQuiet first folder) (heard : IsHeard begun.port before net)
    (been : HasBeenPlayed link_told p wanted failed net net_now folder folder_now account links) where
  -- the folder when the run had settled, and what the filters left
  pub performs_so : (conf : Conf) (filters : List Filter) (last : FolderTold) (out out_now : SinkTold) (net_failed folder_failed : Bool) (status : Status) (stored : Option StoreEnds)
      → conf ≡ begun.conf → filters ≡ begun.filters → net_failed ≡ nat_lt before.faults net_now.faults → folder_failed ≡ nat_lt folder.faults folder_now.faults
      → folders.ChangesOwnFiles begun.trace folder.files folder_now.files → ChangesFiltersFiles filters folder_now.files last.files
      → ((s : Setting) → IsSettingOf conf s → Concludes s account filters (failed_so (failed || net_failed) folder_failed wanted) folder_now last out out_now status stored)
      → Performs link_told begun (told first before out) (told last net_now out_now) status (Some account) stored links
  performs_so conf filters last out out_now net_failed folder_failed status stored same same_filters net_is folder_is own changes concludes =
      by stored (subst (λ (fs : List Filter). Concludes (setting begun) account fs (failed_so (failed || net_failed) folder_failed wanted) folder_now last out out_now status stored) same_filters
      (concludes (setting begun) setting_so)) where
        come_so : IsComeTo link_told begun (told first before out) (told folder_now net_now out_now) account links
        come_so = come_to link_told begun p wanted failed net net_now folder folder_now account links runnable are first begins been before out out_now quiet heard

        setting_so : IsSettingOf conf (setting begun)
        setting_so = record { ecu = sym (ap (λ (c : Conf). c.ecu) same); buffer = sym (ap (λ (c : Conf). c.buffer) same) }

        filters_so : ChangesFiltersFiles begun.filters folder_now.files last.files
        filters_so = subst (λ (fs : List Filter). ChangesFiltersFiles fs folder_now.files last.files) same_filters changes

        own_first : folders.ChangesOwnFiles begun.trace first.files folder_now.files
        own_first = since_first first.files refl where
          since_first : (o : Option Files) → first.files ≡ o → folders.ChangesOwnFiles begun.trace o folder_now.files
          since_first None is = changes_untold begun.trace folder_now.files
          since_first (Some files) is =
              let there : folder.files ≡ Some files = subst (λ (o : Option Files). Stays o folder.files) is quiet.unchanged.files in
              subst (λ (o : Option Files). folders.ChangesOwnFiles begun.trace o folder_now.files) there own

        kept : (filter : Filter) → AreKept filter (told_of begun.conf.directory filter first.files) folder_now.files
        kept filter = kept_before begun filter first.files folder_now.files begins own_first

        net_counts : (net_failed ≡ true → HasRisen before.faults net_now.faults) × (net_failed ≡ false → net_now.faults ≡ before.faults)
        net_counts = staying.counted before.faults net_now.faults net_failed come_so.played_out.net_after.faults net_is

        later : folder.faults ≤ folder_now.faults
        later = let well = quiet.well in let never = come_so.played_out.folder_after.never_falls in omega (arith, well, never)

        folder_counts : (folder_failed ≡ true → HasRisen folder.faults folder_now.faults) × (folder_failed ≡ false → folder_now.faults ≡ folder.faults)
        folder_counts = staying.counted folder.faults folder_now.faults folder_failed later folder_is

        by : (o : Option StoreEnds) → Concludes (setting begun) account begun.filters (failed_so (failed || net_failed) folder_failed wanted) folder_now last out out_now status o
            → Performs link_told begun (told first before out) (told last net_now out_now) status (Some account) o links
        by None is = (
          subst (λ (f : FolderTold). IsComeTo link_told begun (told first before out) (told f net_now out_now) account links) (sym is.2) come_so,
          subst (λ (f : FolderTold). AllByRecursion (λ (filter : Filter). AreKept filter (told_of begun.conf.directory filter first.files) f.files) begun.filters) (sym is.2)
              (all_kept begun begun.filters first.files folder_now.files kept),
          (is.0, is.1),
        )
        by (Some ends) is =
            let causes = all_causes begun.conf.ecu (records_of account) account.events folder_now.files last.files folder_now.faults last.faults begun.filters ends.filters is.0 in (
              stored_so link_told begun (told first before out) (told folder_now net_now out_now) (told last net_now out_now) account links refl filters_so causes.0 come_so,
              (
                all_filtered begun account first.files folder_now.files last.files folder_now.faults last.faults begun.filters ends.filters kept is.0,
                λ some. risen_before first.faults folder_now.faults last.faults come_so.played_out.folder_after.never_falls (causes.1 some),
              ),
              ends_so link_told begun p wanted failed before net net_now first folder folder_now account links runnable are begins quiet heard been ends.filters last causes.0 causes.1 causes.2 out out_now
                  net_failed folder_failed net_counts.0 net_counts.1 (λ rose. subst (λ (n : ℕ). HasRisen n folder_now.faults) quiet.well (folder_counts.0 rose))
                  (λ still. folder_counts.1 still ∙ quiet.well) status is.1,
            )
