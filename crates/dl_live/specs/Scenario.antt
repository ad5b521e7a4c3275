-- The scenario of a folder.
use Rattle.std.specs.Prelude.{◌≡◌, ℕ, List, Option, IfSome, Result, Ok, Err}
use Rattle.std.specs.FinMap as map
use Rattle.std.specs.Option.{option_map_or}
use Rattle.dl_outside.specs.Folder.{Files}
use Rattle.dl_script.specs.Script.{scenario_of}
use Rattle.dl_script.specs.declared.error.ScriptError.{ScriptError}
use Rattle.dl_script.specs.declared.error.ScriptError.TheVariants as bad
use Rattle.dl_script_fields.specs.declared.kind.ScriptKind.{ScriptKind}
use Rattle.dl_script_fields.specs.declared.kind.ScriptKind.TheVariants.{Missing}
use Rattle.dl_script_model.specs.declared.scenario.ScenarioLine.{ScenarioLine}
use Rattle.dl_startup.specs.declared.setup.SetupError.{SetupError}
use Rattle.dl_startup.specs.declared.setup.SetupError.TheVariants.{Fault, Folder, OutOfMemory}

-- what the scenario of this name says, or its first fault; where there is none, it is missing
abbrev pub scenario_in : List ℕ → Files → Result (List ScenarioLine) ScriptError
scenario_in name files = option_map_or scenario_of (map.get files name) (Err (bad.Fault 0 Missing))

-- What was read is what the files say, and a fault is theirs, where the folder tells them.
abbrev pub SaysScenario : List ℕ → Option Files → Result (List ScenarioLine) (SetupError ScriptKind) → Type 0
SaysScenario name told (Ok lines) = IfSome told (λ files. scenario_in name files ≡ Ok lines)
SaysScenario name told (Err (Fault line kind)) = IfSome told (λ files. scenario_in name files ≡ Err (bad.Fault line kind))
SaysScenario name told (Err Folder) = Unit {0}
SaysScenario name told (Err OutOfMemory) = Unit {0}
