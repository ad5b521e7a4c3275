-- Which lists of steps can be played, and which lists of lines can be run: those that a step script, or a scenario, can say.
use Rattle.std.specs.Prelude.{◌≢◌, ◌≤◌, List, length}
use Rattle.std.specs.List.{AllByRecursion}
use Rattle.dl_bytes.specs.Id.{zero_id}
use Rattle.dl_script_model.specs.declared.line.ClaimLine.{ClaimLine}
use Rattle.dl_script_model.specs.declared.scenario.ScenarioLine.{ScenarioLine}
use Rattle.dl_script_model.specs.declared.scenario.ScenarioLine.TheVariants as scenario
use Rattle.dl_script_model.specs.declared.step.Step.{Step}
use Rattle.dl_script_model.specs.declared.step.Step.TheVariants as step
use Rattle.dl_script.specs.Earlier.{nothing}
use Rattle.dl_script.specs.Spelled.{MayFollow, scenario_claim, step_claim}

-- a claim is for a context with a name, and has a description of at most 48 bytes
abbrev pub IsClaimInBounds : ClaimLine → Type 0
IsClaimInBounds asked = (asked.ctid ≢ zero_id) × (length asked.text ≤ 48)

-- Applications and contexts have names, and descriptions of at most 255 bytes. User messages come on channels from 1 on: channel 0 is
-- this process's own.
abbrev pub IsInBounds : Step → Type 0
IsInBounds (step.App app) = (app.apid ≢ zero_id) × (length app.text ≤ 255)
IsInBounds (step.Context context) = (context.apid ≢ zero_id) × (context.ctid ≢ zero_id) × (length context.text ≤ 255)
IsInBounds (step.Claim asked) = IsClaimInBounds asked
IsInBounds (step.Register asked) = IsClaimInBounds asked
IsInBounds (step.User channel bytes) = 1 ≤ channel
IsInBounds _ = Unit {0}

-- each step may follow those before it: what it names was declared, nothing is declared twice, and no limit is passed
pub record IsPlayable (steps : List Step) : Type 0 where
  pub follows : MayFollow step_claim nothing steps
  pub bounds : AllByRecursion IsInBounds steps

-- in a scenario too; applications and contexts have names, a ring holds 1 to 4096 calls, and a line asks for one call at least
abbrev pub IsInRange : ScenarioLine → Type 0
IsInRange (scenario.App app) = (app.apid ≢ zero_id) × (1 ≤ app.capacity) × (app.capacity ≤ 4096) × (length app.text ≤ 255)
IsInRange (scenario.Context context) = (context.apid ≢ zero_id) × (context.ctid ≢ zero_id) × (length context.text ≤ 255)
IsInRange (scenario.Register asked) = IsClaimInBounds asked
IsInRange (scenario.Calls writer ctid severity count payload) = 1 ≤ count
IsInRange _ = Unit {0}

-- Each line may follow those before it: there are at most 16 applications, each with another id, at most 64 contexts and
-- claims of each, at most 32 writers, each with calls under contexts of its application and under those that it claims
-- alone, at most 1,000,000 calls, and at most 32 clients, of which each leaves once at most.
pub record IsRunnable (lines : List ScenarioLine) : Type 0 where
  pub follows : MayFollow scenario_claim nothing lines
  pub ranges : AllByRecursion IsInRange lines
