-- What must be there before a run: its words, its configurations, its scenario and its trace; and why it does not begin.
use Rattle.std.specs.Prelude.{◌≡◌, ℕ, List, Option, Some, None, IfSome, IsOk, Result, Ok, Err, map}
use Rattle.dl_bytes.specs.declared.conf.Conf.{Conf}
use Rattle.dl_outside.specs.Folder.{Files}
use Rattle.dl_outside.specs.Outside.{HasRisen}
use Rattle.dl_outside.specs.Told.{FolderTold}
use Rattle.dl_script.specs.declared.error.ScriptError.TheVariants as bad
use Rattle.dl_script_model.specs.declared.scenario.ScenarioLine.{ScenarioLine}
use Rattle.dl_startup.specs.Configuration.{AreSetUp, SayConfs, Unset}
use Rattle.dl_live.specs.Scenario.{scenario_in}
use Rattle.dl_startup.specs.Setup.{IsBegun}
use Rattle.dl_startup.specs.Unchanged.{IsQuiet, IsUnchanged}
use Rattle.dl_startup.specs.declared.status.Status.{Status}
use Rattle.dl_startup.specs.declared.status.Status.TheVariants.{WordsRefused, ScriptRefused, StorageRefused, FolderFault, OutOfMemory}
use Rattle.dl_storage.specs.FilterWhole.{wanted_of}
use Rattle.dl_storage.specs.declared.filter.Filter.{Filter}
use Rattle.dl_trace.specs.State.{Trace}
use Rattle.dl_words.specs.Run.{Run, run_of, run_said}
use Rattle.dl_words.specs.declared.run.RunWords.{RunWords}
use Rattle.dl_live.specs.declared.beginning.Begun.{Begun}
use Rattle.dl_live.specs.Filters.{filters_in}

-- ---- a run that begins

-- the files say what a run begins with, under the names that are asked for
pub record AreSaid (asked : Run) (files : Files) (begun : Begun) : Type 0 where
  pub confs : SayConfs asked.conf files (record { conf = begun.conf; stored = begun.stored })
  pub filters : filters_in files ≡ Ok (map wanted_of begun.filters)
  pub scenario : scenario_in asked.scenario files ≡ Ok begun.scenario

-- What a run begins with is what was asked for and what the files say, and its trace is over the trace files that stand. No file
-- was to change, and the folder did not fail.
pub record IsStart (asked : Run) (old new : FolderTold) (begun : Begun) : Type 0 where
  pub port : begun.port ≡ asked.port
  pub said : IfSome old.files (λ files. AreSaid asked files begun)
  pub trace : IsBegun begun.conf old.files begun.trace
  pub quiet : IsQuiet old new

-- ---- one that does not

-- Why what is asked for is not begun: one line a status. The filters are refused, where both configurations are of the form; or the scenario is
-- refused, or it is not there, where these and the filters are of the form; else it is as with the configurations. No file is to change.
abbrev pub Unbegun : Run → FolderTold → FolderTold → Status → Type 0
Unbegun asked old new (StorageRefused line kind) =
    IfSome old.files (λ files. AreSetUp asked.conf files × (filters_in files ≡ Err (line, kind))) × IsQuiet old new
Unbegun asked old new (ScriptRefused line kind) =
    IfSome old.files (λ files. AreSetUp asked.conf files × IsOk (filters_in files) × (scenario_in asked.scenario files ≡ Err (bad.Fault line kind)))
    × IsQuiet old new
Unbegun asked old new status = Unset asked.conf old new status

-- Why words begin no run: one line a status. They are refused, and the folder is not asked; or memory ran out; or they ask for a run
-- that does not begin.
abbrev pub Refuses : List (List ℕ) → FolderTold → FolderTold → Status → Type 0
Refuses words old new WordsRefused = (run_of words ≡ None) × (new ≡ old)
Refuses words old new OutOfMemory = IsQuiet old new
Refuses words old new status = (asked : Run) × (run_of words ≡ Some asked) × Unbegun asked old new status

-- what words begin, or why they begin nothing
abbrev pub Begins : List (List ℕ) → FolderTold → FolderTold → Result Begun Status → Type 0
Begins words old new (Ok begun) = (asked : Run) × (run_of words ≡ Some asked) × IsStart asked old new begun
Begins words old new (Err status) = Refuses words old new status

-- ---- for inner functions

-- what the words ask for
abbrev pub Asks : List (List ℕ) → Result RunWords Status → Type 0
Asks words (Ok asked) = run_of words ≡ Some (run_said asked)
Asks words (Err WordsRefused) = run_of words ≡ None
Asks words (Err OutOfMemory) = Unit {0}
Asks words (Err _) = ⊥

-- the filters of a folder, or why there are none
abbrev pub ReadsFilters : FolderTold → FolderTold → Result (List Filter) Status → Type 0
ReadsFilters old new (Ok filters) = IfSome old.files (λ files. filters_in files ≡ Ok (map wanted_of filters)) × IsQuiet old new
ReadsFilters old new (Err (StorageRefused line kind)) = IfSome old.files (λ files. filters_in files ≡ Err (line, kind)) × IsQuiet old new
ReadsFilters old new (Err FolderFault) = HasRisen old.faults new.faults × IsUnchanged old new
ReadsFilters old new (Err OutOfMemory) = IsQuiet old new
ReadsFilters old new (Err _) = ⊥

-- the scenario of a folder, or why it is not there
abbrev pub ReadsScenario : List ℕ → FolderTold → FolderTold → Result (List ScenarioLine) Status → Type 0
ReadsScenario name old new (Ok scenario) = IfSome old.files (λ files. scenario_in name files ≡ Ok scenario) × IsQuiet old new
ReadsScenario name old new (Err (ScriptRefused line kind)) = IfSome old.files (λ files. scenario_in name files ≡ Err (bad.Fault line kind)) × IsQuiet old new
ReadsScenario name old new (Err FolderFault) = HasRisen old.faults new.faults × IsUnchanged old new
ReadsScenario name old new (Err OutOfMemory) = IsQuiet old new
ReadsScenario name old new (Err _) = ⊥

-- the trace of a configuration, or why there is none
abbrev pub MakesTrace : Conf → FolderTold → FolderTold → Result (Option Trace) Status → Type 0
MakesTrace conf old new (Ok trace) = IsBegun conf old.files trace × IsQuiet old new
MakesTrace conf old new (Err FolderFault) = HasRisen old.faults new.faults × IsUnchanged old new
MakesTrace conf old new (Err OutOfMemory) = IsQuiet old new
MakesTrace conf old new (Err _) = ⊥

-- what is asked for is begun, or not
abbrev pub BeginsAs : Run → FolderTold → FolderTold → Result Begun Status → Type 0
BeginsAs asked old new (Ok begun) = IsStart asked old new begun
BeginsAs asked old new (Err status) = Unbegun asked old new status
