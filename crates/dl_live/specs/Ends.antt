-- How a run ends: its statuses, one line each.
use Rattle.std.specs.Prelude.{◌≡◌, ◌≢◌, ℕ, ◌≤◌, ◌⊎◌, false, List, ◌++◌, Some, None, IfSome, Bool, true, Option}
use Rattle.std.specs.List.{AllByRecursion}
use Rattle.dl_bytes.specs.declared.outcome.TraceEnd.TheVariants as end
use Rattle.dl_ending.specs.Ending.{failures_with, unheard}
use Rattle.dl_ending.specs.Storage.{has_failed, has_no_memory, is_spent, report_text, some_end, with_storage}
use Rattle.dl_account.specs.State.{AccountState}
use Rattle.dl_opening.specs.Scenario.{clients, scripts_of}
use Rattle.dl_outside.specs.Outside.{HasRisen, Stays}
use Rattle.dl_outside.specs.Told.{NetTold}
use Rattle.dl_outside.specs.Written.{Wrote, WroteAll, WroteFront, WroteNothing}
use Rattle.dl_script_model.specs.declared.scenario.ScenarioLine.{ScenarioLine}
use Rattle.dl_startup.specs.Failures.{unserved}
use Rattle.dl_startup.specs.Unchanged.{FolderWell, IsUnchanged}
use Rattle.dl_startup.specs.declared.failures.Failures.{Failures}
use Rattle.dl_startup.specs.declared.status.Status.{Status}
use Rattle.dl_storage.specs.declared.ends.StoreEnd.{StoreEnd}
use Rattle.dl_storage.specs.declared.ends.StoreEnds.{StoreEnds}
use Rattle.dl_startup.specs.declared.status.Status.TheVariants.{Ok, WriteFault, FolderFault, NetFault, OutOfMemory, NamesSpent}
use Rattle.dl_live.specs.declared.beginning.Begun.{Begun}
use Rattle.dl_live.specs.Account.{Started, came, setting}
use Rattle.dl_live.specs.Begin.{Refuses}
use Rattle.dl_live.specs.Told.{Told}

-- ---- a run without an account

-- Why a run came to no account: one line a status. It did not begin, and the net was left alone; or the net could not listen, and listens as before;
-- or memory ran out. A net or a folder that fails later ends no run.
abbrev pub EndsEarly : {L : Type 0} → List (List ℕ) → Told L → Told L → Status → Type 0
EndsEarly words old new NetFault =
    Started words old.folder × HasRisen old.net.faults new.net.faults × Stays old.net.listens_on new.net.listens_on × IsUnchanged old.folder new.folder
EndsEarly words old new OutOfMemory = Unit {0}
EndsEarly words old new status = Refuses words old.folder new.folder status × (new.net ≡ old.net)

-- ---- a run with one

-- the net did not fail
abbrev pub NetWell : {L : Type 0} → NetTold L → NetTold L → Type 0
NetWell old new = new.faults ≡ old.faults

-- neither the trace nor a filter ended for want of a name
abbrev pub HasNames : AccountState → List StoreEnd → Type 0
HasNames account ends = (account.outcome.trace.end ≢ Some end.Spent) × (some_end is_spent ends ≡ false)

-- the trace did, or a filter
abbrev pub IsOutOfNames : AccountState → List StoreEnd → Type 0
IsOutOfNames account ends = (account.outcome.trace.end ≡ Some end.Spent) ⊎ (some_end is_spent ends ≡ true)

-- Nothing went wrong: the trace goes on, each filter stored all, memory was never wanted, the net launched each client of the scenario, and a link came
-- of each, where the net tells which connections wait.
pub record HasGoneWell {L : Type 0} (lines : List ScenarioLine) (account : AccountState) (ends : List StoreEnd) (old new : Told L) : Type 0 where
  pub net : NetWell old.net new.net
  pub folder : FolderWell old.folder new.folder
  pub trace : account.outcome.trace.end ≡ None
  pub stored : AllByRecursion (λ (e : StoreEnd). e.end ≡ None) ends
  pub served : unserved account.events ≡ false
  pub heard : unheard account.events ≡ false
  pub launched : IfSome old.net.launched (λ before. new.net.launched ≡ Some (before ++ scripts_of lines))
  pub all_came : IfSome old.net.waiting (λ before. clients lines ≤ came account)

-- the report of a run: the text of its account, and what its filters stored
abbrev pub report : Begun → AccountState → List StoreEnd → List ℕ
report begun account ends = report_text (setting begun) account begun.filters ends

-- What each status says of a run whose filters ended so: the report was written, or nothing, and what failed. A net fault comes before a folder
-- fault, that before the names, these before a write fault, and that before want of memory: so each says that those before it did not come. Where
-- there was no memory for the report itself, nothing was written, and nothing more is said.
abbrev pub EndsStored : {L : Type 0} → Begun → AccountState → List StoreEnd → Told L → Told L → Status → Type 0
EndsStored begun account ends old new Ok = WroteAll old.out new.out (report begun account ends) × HasGoneWell begun.scenario account ends old new
EndsStored begun account ends old new NetFault = Wrote old.out new.out (report begun account ends) × HasRisen old.net.faults new.net.faults
EndsStored begun account ends old new FolderFault =
    Wrote old.out new.out (report begun account ends) × NetWell old.net new.net × HasRisen old.folder.faults new.folder.faults
EndsStored begun account ends old new NamesSpent =
    Wrote old.out new.out (report begun account ends) × NetWell old.net new.net × FolderWell old.folder new.folder × IsOutOfNames account ends
EndsStored begun account ends old new WriteFault =
    WroteFront old.out new.out (report begun account ends) × NetWell old.net new.net × FolderWell old.folder new.folder × HasNames account ends
EndsStored begun account ends old new OutOfMemory =
    WroteNothing old.out new.out
    ⊎ (WroteAll old.out new.out (report begun account ends) × NetWell old.net new.net × FolderWell old.folder new.folder × HasNames account ends)
EndsStored begun account ends old new _ = ⊥

-- The same of a run that came to an account. Where there was no memory to store anything, nothing was written.
abbrev pub Ends : {L : Type 0} → Begun → AccountState → Option StoreEnds → Told L → Told L → Status → Type 0
Ends begun account None old new status = (status ≡ OutOfMemory) × WroteNothing old.out new.out
Ends begun account (Some stored) old new status = EndsStored begun account stored.filters old new status

-- ---- when the report is written

-- What is known of a run when its report is written, by what went wrong in it, with what its account and its filters tell: whether net and folder
-- failed, whether names were spent, and whether memory was wanted.
pub record KnownOf {L : Type 0} (begun : Begun) (account : AccountState) (ends : List StoreEnd) (old new : Told L) (net folder spent memory : Bool) : Type 0 where
  pub net_failed : net ≡ true → HasRisen old.net.faults new.net.faults
  pub net_well : net ≡ false → NetWell old.net new.net
  pub folder_failed : folder ≡ true → HasRisen old.folder.faults new.folder.faults
  pub folder_well : folder ≡ false → FolderWell old.folder new.folder
  pub trace_failed : folder ≡ false → account.outcome.trace.end ≢ Some end.Failed
  pub filter_failed : folder ≡ false → some_end has_failed ends ≡ false
  pub are_spent : spent ≡ true → IsOutOfNames account ends
  pub has_names : spent ≡ false → HasNames account ends
  pub trace_wanted : memory ≡ false → account.outcome.trace.end ≢ Some end.NoMemory
  pub filter_wanted : memory ≡ false → some_end has_no_memory ends ≡ false
  pub served : memory ≡ false → (unserved account.events ≡ false) × (unheard account.events ≡ false)
  pub launched : net ≡ false → IfSome old.net.launched (λ before. new.net.launched ≡ Some (before ++ scripts_of begun.scenario))
  pub all_came : net ≡ false → memory ≡ false → IfSome old.net.waiting (λ before. clients begun.scenario ≤ came account)

-- what went wrong in it, beside its account and its filters
abbrev pub failed_so : Bool → Bool → Bool → Failures
failed_so net folder memory = record { net = net; folder = folder; names_spent = false; journal_full = false; output = false; memory = memory }
