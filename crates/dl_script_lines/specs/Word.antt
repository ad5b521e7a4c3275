-- The first word of a line.
use Rattle.std.specs.Prelude.{ℕ, List, codes, Option, Some, None, if◌then◌else◌}
use Rattle.dl_script_fields.specs.Value.{is_word}
use Rattle.dl_script_lines.specs.declared.word.StepWord.{StepWord}
use Rattle.dl_script_lines.specs.declared.word.StepWord.TheVariants as word
use Rattle.dl_script_lines.specs.declared.word.ScenarioWord.{ScenarioWord}
use Rattle.dl_script_lines.specs.declared.word.ScenarioWord.TheVariants as scene

-- what a line of a step script is
abbrev pub step_word : List ℕ → Option StepWord
step_word field =
    if is_word field (codes "app") then Some word.App
    else if is_word field (codes "context") then Some word.Context
    else if is_word field (codes "writer") then Some word.Writer
    else if is_word field (codes "clock") then Some word.Clock
    else if is_word field (codes "load") then Some word.Load
    else if is_word field (codes "push") then Some word.Push
    else if is_word field (codes "count") then Some word.Count
    else if is_word field (codes "call") then Some word.Call
    else if is_word field (codes "log") then Some word.Log
    else if is_word field (codes "claim") then Some word.Claim
    else if is_word field (codes "announce") then Some word.Announce
    else if is_word field (codes "register") then Some word.Register
    else if is_word field (codes "take") then Some word.Take
    else if is_word field (codes "losses") then Some word.Losses
    else if is_word field (codes "levels") then Some word.Levels
    else if is_word field (codes "level") then Some word.Level
    else if is_word field (codes "connect") then Some word.Connect
    else if is_word field (codes "bytes") then Some word.Bytes
    else if is_word field (codes "close") then Some word.Close
    else if is_word field (codes "user") then Some word.User
    else if is_word field (codes "inject") then Some word.Inject
    else None

-- what a line of a scenario is
abbrev pub scenario_word : List ℕ → Option ScenarioWord
scenario_word field =
    if is_word field (codes "app") then Some scene.App
    else if is_word field (codes "context") then Some scene.Context
    else if is_word field (codes "writer") then Some scene.Writer
    else if is_word field (codes "register") then Some scene.Register
    else if is_word field (codes "calls") then Some scene.Calls
    else if is_word field (codes "client") then Some scene.Client
    else if is_word field (codes "send") then Some scene.Send
    else if is_word field (codes "leave") then Some scene.Leave
    else None
