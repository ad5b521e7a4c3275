-- Which lines spell a step or a line of a scenario, and what a script can say.
use Rattle.std.specs.Prelude.{◌≡◌, ℕ, ◌≤◌, List, [], ◌∷◌, ◌++◌, length, codes, IfSome, Some, None}
use Rattle.std.specs.List.{flat_map, AllByRecursion}
use Rattle.hex.specs.Hex.{IsBytes}
use Rattle.dl_bytes.specs.Payload.{Arguments}
use Rattle.dl_args.specs.declared.arg.Arg.{Arg}
use Rattle.dl_script_model.specs.declared.line.AppLine.{AppLine}
use Rattle.dl_script_model.specs.declared.line.CallLine.{CallLine}
use Rattle.dl_script_model.specs.declared.line.ClaimLine.{ClaimLine}
use Rattle.dl_script_model.specs.declared.line.ContextLine.{ContextLine}
use Rattle.dl_script_model.specs.declared.scenario.ScenarioLine.{ScenarioLine}
use Rattle.dl_script_model.specs.declared.scenario.ScenarioLine.TheVariants as scenario
use Rattle.dl_script_model.specs.declared.step.Step.{Step}
use Rattle.dl_script_model.specs.declared.step.Step.TheVariants as step
use Rattle.dl_script_fields.specs.Argument.{payload_of}
use Rattle.dl_script_fields.specs.Joined.{parted_by_blanks}
use Rattle.dl_script_fields.specs.Spells.{SpellsId, IsShortText, IsSaid}
use Rattle.dl_script_lines.specs.Spells.{SpellsNothing, SpellsApp, SpellsContext, SpellsClaim, SpellsApid, SpellsCall, SpellsClock, SpellsWriter, SpellsLevels, SpellsClient, SpellsSent, SpellsUser, SpellsLeave}
use Rattle.dl_script.specs.Earlier.{Declared, refusal, noted}
use Rattle.dl_script.specs.declared.claim.Claim.{Claim}
use Rattle.dl_script.specs.declared.claim.Claim.TheVariants as claim

-- ---- the line of a step

-- its word
abbrev pub step_word_for : Step → List ℕ
step_word_for (step.App app) = codes "app"
step_word_for (step.Context context) = codes "context"
step_word_for (step.Writer apid) = codes "writer"
step_word_for (step.Clock secs micros) = codes "clock"
step_word_for (step.Load call) = codes "load"
step_word_for (step.Push writer) = codes "push"
step_word_for (step.Count writer) = codes "count"
step_word_for (step.Call call) = codes "call"
step_word_for (step.Log call) = codes "log"
step_word_for (step.Claim asked) = codes "claim"
step_word_for (step.Announce writer) = codes "announce"
step_word_for (step.Register asked) = codes "register"
step_word_for (step.Take apid) = codes "take"
step_word_for (step.Losses apid) = codes "losses"
step_word_for (step.Levels levels) = codes "levels"
step_word_for step.Level = codes "level"
step_word_for step.Connect = codes "connect"
step_word_for (step.Bytes client bytes) = codes "bytes"
step_word_for (step.Close client) = codes "close"
step_word_for (step.User channel bytes) = codes "user"
step_word_for (step.Inject apid) = codes "inject"

-- a log call, whose number is its timestamp
abbrev pub SpellsLog : List (List ℕ) → CallLine → Type 0
SpellsLog fields call = SpellsCall 0 4294967295 fields call.writer call.ctid call.severity call.at call.payload

-- its fields
abbrev pub SpellsFields : List (List ℕ) → Step → Type 0
SpellsFields fields (step.App app) = SpellsApp fields app
SpellsFields fields (step.Context context) = SpellsContext fields context
SpellsFields fields (step.Writer apid) = SpellsApid fields apid
SpellsFields fields (step.Clock secs micros) = SpellsClock fields secs micros
SpellsFields fields (step.Load call) = SpellsLog fields call
SpellsFields fields (step.Push writer) = SpellsWriter fields writer
SpellsFields fields (step.Count writer) = SpellsWriter fields writer
SpellsFields fields (step.Call call) = SpellsLog fields call
SpellsFields fields (step.Log call) = SpellsLog fields call
SpellsFields fields (step.Claim asked) = SpellsClaim fields asked
SpellsFields fields (step.Announce writer) = SpellsWriter fields writer
SpellsFields fields (step.Register asked) = SpellsClaim fields asked
SpellsFields fields (step.Take apid) = SpellsApid fields apid
SpellsFields fields (step.Losses apid) = SpellsApid fields apid
SpellsFields fields (step.Levels levels) = SpellsLevels fields levels
SpellsFields fields step.Level = SpellsNothing fields
SpellsFields fields step.Connect = SpellsNothing fields
SpellsFields fields (step.Bytes client bytes) = SpellsSent fields client bytes
SpellsFields fields (step.Close client) = SpellsClient fields client
SpellsFields fields (step.User channel bytes) = SpellsUser fields channel bytes
SpellsFields fields (step.Inject apid) = SpellsApid fields apid

-- the line: its word, and its fields, each behind a blank
abbrev pub SpellsStep : List ℕ → Step → Type 0
SpellsStep line s = (fields : List (List ℕ)) × SpellsFields fields s × (line ≡ step_word_for s ++ parted_by_blanks fields)

-- what a step declares, and what it asks of the steps before it
abbrev pub step_claim : Step → Claim
step_claim (step.App app) = claim.App app.apid
step_claim (step.Context context) = claim.Context context.apid context.ctid
step_claim (step.Writer apid) = claim.Writer apid
step_claim (step.Clock secs micros) = claim.Nothing
step_claim (step.Load call) = claim.Calls call.writer call.ctid 1
step_claim (step.Push writer) = claim.OfWriter writer
step_claim (step.Count writer) = claim.OfWriter writer
step_claim (step.Call call) = claim.Calls call.writer call.ctid 1
step_claim (step.Log call) = claim.Calls call.writer call.ctid 1
step_claim (step.Claim asked) = claim.Place asked.writer asked.ctid
step_claim (step.Announce writer) = claim.OfWriter writer
step_claim (step.Register asked) = claim.Place asked.writer asked.ctid
step_claim (step.Take apid) = claim.OfApp apid
step_claim (step.Losses apid) = claim.OfApp apid
step_claim (step.Levels levels) = claim.Nothing
step_claim step.Level = claim.Nothing
step_claim step.Connect = claim.Connect
step_claim (step.Bytes client bytes) = claim.OfClient client
step_claim (step.Close client) = claim.OfClient client
step_claim (step.User channel bytes) = claim.User
step_claim (step.Inject apid) = claim.OfApp apid

-- ---- a line of a scenario

-- its word
abbrev pub scenario_word_for : ScenarioLine → List ℕ
scenario_word_for (scenario.App app) = codes "app"
scenario_word_for (scenario.Context context) = codes "context"
scenario_word_for (scenario.Writer apid) = codes "writer"
scenario_word_for (scenario.Register asked) = codes "register"
scenario_word_for (scenario.Calls writer ctid severity count payload) = codes "calls"
scenario_word_for scenario.Client = codes "client"
scenario_word_for (scenario.Send client bytes) = codes "send"
scenario_word_for (scenario.Leave client count) = codes "leave"

-- its fields
abbrev pub SpellsScenarioFields : List (List ℕ) → ScenarioLine → Type 0
SpellsScenarioFields fields (scenario.App app) = SpellsApp fields app
SpellsScenarioFields fields (scenario.Context context) = SpellsContext fields context
SpellsScenarioFields fields (scenario.Writer apid) = SpellsApid fields apid
SpellsScenarioFields fields (scenario.Register asked) = SpellsClaim fields asked
SpellsScenarioFields fields (scenario.Calls writer ctid severity count payload) = SpellsCall 1 1000000 fields writer ctid severity count payload
SpellsScenarioFields fields scenario.Client = SpellsNothing fields
SpellsScenarioFields fields (scenario.Send client bytes) = SpellsSent fields client bytes
SpellsScenarioFields fields (scenario.Leave client count) = SpellsLeave fields client count

-- the line: its word, and its fields, each behind a blank
abbrev pub SpellsScenarioLine : List ℕ → ScenarioLine → Type 0
SpellsScenarioLine line entry = (fields : List (List ℕ)) × SpellsScenarioFields fields entry × (line ≡ scenario_word_for entry ++ parted_by_blanks fields)

-- what it declares, and what it asks of the lines before it
abbrev pub scenario_claim : ScenarioLine → Claim
scenario_claim (scenario.App app) = claim.App app.apid
scenario_claim (scenario.Context context) = claim.Context context.apid context.ctid
scenario_claim (scenario.Writer apid) = claim.Writer apid
scenario_claim (scenario.Register asked) = claim.Place asked.writer asked.ctid
scenario_claim (scenario.Calls writer ctid severity count payload) = claim.Calls writer ctid count
scenario_claim scenario.Client = claim.Client
scenario_claim (scenario.Send client bytes) = claim.Send client (length bytes)
scenario_claim (scenario.Leave client count) = claim.Leave client

-- ---- the text of lines

-- lines that spell these entries, one each
abbrev pub AreSpelled : {A : Type 0} → (List ℕ → A → Type 0) → List (List ℕ) → List A → Type 0
AreSpelled Spells [] [] = Unit {0}
AreSpelled Spells (line ∷ lines) (entry ∷ entries) = Spells line entry × AreSpelled Spells lines entries
AreSpelled Spells _ _ = ⊥

-- each entry may follow those before it
abbrev pub MayFollow : {A : Type 0} → (A → Claim) → Declared → List A → Type 0
MayFollow claim_of known [] = Unit {0}
MayFollow claim_of known (entry ∷ entries) = (refusal known (claim_of entry) ≡ None) × MayFollow claim_of (noted known (claim_of entry)) entries

-- lines, each with its line feed
abbrev pub text_of : List (List ℕ) → List ℕ
text_of lines = flat_map (λ line. line ++ (10 ∷ [])) lines

-- ---- what a script can say

-- an id that has a name
abbrev pub HasName : List ℕ → Type 0
HasName id = (name : List ℕ) × SpellsId name id

-- bytes, one at least
abbrev pub HasBytes : List ℕ → Type 0
HasBytes bytes = (1 ≤ length bytes) × IsBytes bytes

-- the bytes of arguments that a line can say
abbrev pub HasArguments : Arguments → Type 0
HasArguments payload = (args : List Arg) × AllByRecursion IsSaid args × (payload_of args ≡ Some payload)

-- an application and a context
abbrev pub IsSayableApp : AppLine → Type 0
IsSayableApp app = HasName app.apid × (1 ≤ app.capacity) × (app.capacity ≤ 4096) × IsShortText app.text

abbrev pub IsSayableContext : ContextLine → Type 0
IsSayableContext context = HasName context.apid × HasName context.ctid × IfSome context.level (λ level. level ≤ 6) × IsShortText context.text

-- a claim; its writer's number is of 8 bits
abbrev pub IsSayableClaim : ClaimLine → Type 0
IsSayableClaim asked = (asked.writer ≤ 255) × HasName asked.ctid × IfSome asked.level (λ level. level ≤ 6) × IsShortText asked.text × (length asked.text ≤ 48)

-- a log call; its numbers are of 8 and of 32 bits
abbrev pub IsSayableCall : CallLine → Type 0
IsSayableCall call = (call.writer ≤ 255) × HasName call.ctid × (call.at ≤ 4294967295) × HasArguments call.payload

-- a step: its ids have names, its numbers are in their ranges, its bytes are some, its texts and its arguments can be said
abbrev pub IsSayableStep : Step → Type 0
IsSayableStep (step.App app) = IsSayableApp app
IsSayableStep (step.Context context) = IsSayableContext context
IsSayableStep (step.Writer apid) = HasName apid
IsSayableStep (step.Clock secs micros) = (secs ≤ 4294967295) × (micros ≤ 999999)
IsSayableStep (step.Load call) = IsSayableCall call
IsSayableStep (step.Push writer) = writer ≤ 255
IsSayableStep (step.Count writer) = writer ≤ 255
IsSayableStep (step.Call call) = IsSayableCall call
IsSayableStep (step.Log call) = IsSayableCall call
IsSayableStep (step.Claim asked) = IsSayableClaim asked
IsSayableStep (step.Announce writer) = writer ≤ 255
IsSayableStep (step.Register asked) = IsSayableClaim asked
IsSayableStep (step.Take apid) = HasName apid
IsSayableStep (step.Losses apid) = HasName apid
IsSayableStep (step.Levels levels) = Unit {0}
IsSayableStep step.Level = Unit {0}
IsSayableStep step.Connect = Unit {0}
IsSayableStep (step.Bytes client bytes) = (client ≤ 4294967295) × HasBytes bytes
IsSayableStep (step.Close client) = client ≤ 4294967295
IsSayableStep (step.User channel bytes) = (1 ≤ channel) × (channel ≤ 16) × HasBytes bytes
IsSayableStep (step.Inject apid) = HasName apid

-- a line of a scenario
abbrev pub IsSayableScenarioLine : ScenarioLine → Type 0
IsSayableScenarioLine (scenario.App app) = IsSayableApp app
IsSayableScenarioLine (scenario.Context context) = IsSayableContext context
IsSayableScenarioLine (scenario.Writer apid) = HasName apid
IsSayableScenarioLine (scenario.Register asked) = IsSayableClaim asked
IsSayableScenarioLine (scenario.Calls writer ctid severity count payload) = (writer ≤ 255) × HasName ctid × (1 ≤ count) × (count ≤ 1000000) × HasArguments payload
IsSayableScenarioLine scenario.Client = Unit {0}
IsSayableScenarioLine (scenario.Send client bytes) = (client ≤ 4294967295) × HasBytes bytes
IsSayableScenarioLine (scenario.Leave client count) = (client ≤ 4294967295) × (count ≤ 9223372036854775807)
