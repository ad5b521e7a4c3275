-- What a script can say has a line that spells it.
use Rattle.std.proofs.Common.{◌≡◌, ℕ, zero, suc, ◌^◌, ◌<◌, ◌≤◌, List, [], ◌∷◌, ◌++◌, map, Option, Some, None, refl, lit<, arith}
use Rattle.std.specs.Prelude.{codes, IfSome}
use Rattle.std.specs.Fmt.{decimal}
use Rattle.hex.specs.Hex.{encode_upper}
use Rattle.dl_bytes.specs.Level.{severity_number}
use Rattle.dl_bytes.specs.declared.level.Severity.{Severity}
use Rattle.dl_bytes.specs.declared.level.Severity.TheVariants.{Fatal, Error, Warn, Info, Debug, Verbose}
use Rattle.dl_bytes.specs.Payload.{Arguments}
use Rattle.dl_script_model.specs.declared.line.AppLine.{AppLine}
use Rattle.dl_script_model.specs.declared.line.CallLine.{CallLine}
use Rattle.dl_script_model.specs.declared.line.ClaimLine.{ClaimLine}
use Rattle.dl_script_model.specs.declared.line.ContextLine.{ContextLine}
use Rattle.dl_script_model.specs.declared.scenario.ScenarioLine.{ScenarioLine}
use Rattle.dl_script_model.specs.declared.scenario.ScenarioLine.TheVariants as scenario
use Rattle.dl_script_model.specs.declared.step.Step.{Step}
use Rattle.dl_script_model.specs.declared.step.Step.TheVariants as step
use Rattle.dl_script_fields.specs.Joined.{parted_by_blanks}
use Rattle.dl_script_fields.specs.Spelling.{spelling}
use Rattle.dl_script_fields.specs.Spells.{SpellsNumber, SpellsBytes, SpellsLevel, IsShortText, severity_word, quoted}
use Rattle.dl_script_lines.specs.Spells.{SpellsTexts, SpellsApp, SpellsContext, SpellsClaim, SpellsCall, SpellsSent, levels_word}
use Rattle.dl_script_fields.proofs.SpelledFields.{decimal_spells, hex_spells}
use Rattle.dl_script.specs.Spelled.{step_word_for, SpellsLog, SpellsFields, SpellsStep, SpellsScenarioFields, SpellsScenarioLine, scenario_word_for, HasName, HasBytes, HasArguments, IsSayableApp, IsSayableContext, IsSayableClaim, IsSayableCall, IsSayableStep, IsSayableScenarioLine}

number_spells : (low high n : ℕ) → high < 10 ^ 64 → low ≤ n → n ≤ high → SpellsNumber low high (decimal n) n
number_spells low high n small above below = decimal_spells low high n above below (omega arith)

severity_of_number : (n : ℕ) → n < 6 → (s : Severity) × (severity_number s ≡ suc n)
severity_of_number zero h = (Fatal, refl)
severity_of_number (suc zero) h = (Error, refl)
severity_of_number (suc (suc zero)) h = (Warn, refl)
severity_of_number (suc (suc (suc zero))) h = (Info, refl)
severity_of_number (suc (suc (suc (suc zero)))) h = (Debug, refl)
severity_of_number (suc (suc (suc (suc (suc zero))))) h = (Verbose, refl)
severity_of_number (suc (suc (suc (suc (suc (suc n)))))) h = absurd (omega arith)

level_spells : (level : Option ℕ) → IfSome level (λ n. n ≤ 6) → (field : List ℕ) × SpellsLevel field level
level_spells None is = (codes "default", refl)
level_spells (Some zero) is = (codes "off", refl)
level_spells (Some (suc n)) is = let s = severity_of_number n (omega arith) in (severity_word s.0, (s.0, s.1, refl))

bytes_spell : (bytes : List ℕ) → HasBytes bytes → SpellsBytes (encode_upper bytes) bytes
bytes_spell bytes is = hex_spells bytes is.0 is.1

text_spells : (text : List ℕ) → IsShortText text → SpellsTexts (quoted text ∷ []) text
text_spells text is = (is, refl)

app_spells : (app : AppLine) → IsSayableApp app → (fields : List (List ℕ)) × SpellsApp fields app
app_spells app is =
    (is.0.0 ∷ decimal app.capacity ∷ quoted app.text ∷ [], (is.0.1, number_spells 1 4096 app.capacity (lit< tt) is.1 is.2, text_spells app.text is.3))

context_spells : (context : ContextLine) → IsSayableContext context → (fields : List (List ℕ)) × SpellsContext fields context
context_spells context is =
    let level = level_spells context.level is.2 in
    (is.0.0 ∷ is.1.0 ∷ level.0 ∷ quoted context.text ∷ [], (is.0.1, is.1.1, level.1, text_spells context.text is.3))

claim_spells : (asked : ClaimLine) → IsSayableClaim asked → (fields : List (List ℕ)) × SpellsClaim fields asked
claim_spells asked is =
    let level = level_spells asked.level is.2 in
    (decimal asked.writer ∷ is.1.0 ∷ level.0 ∷ quoted asked.text ∷ [], (number_spells 0 255 asked.writer (lit< tt) (omega arith) is.0, is.1.1, level.1, text_spells asked.text is.3, is.4))

call_spells : (low high : ℕ) → high < 10 ^ 64 → (writer : ℕ) (ctid : List ℕ) (severity : Severity) (number : ℕ) (payload : Arguments)
    → writer ≤ 255 → HasName ctid → low ≤ number → number ≤ high → HasArguments payload → (fields : List (List ℕ)) × SpellsCall low high fields writer ctid severity number payload
call_spells low high small writer ctid severity number payload fits name above below has = (
  decimal writer ∷ name.0 ∷ severity_word severity ∷ decimal number ∷ map spelling has.0,
  (number_spells 0 255 writer (lit< tt) (omega arith) fits, name.1, refl, number_spells low high number small above below, (has.0, has.1, has.2, refl)),
)

log_spells : (call : CallLine) → IsSayableCall call → (fields : List (List ℕ)) × SpellsLog fields call
log_spells call is = call_spells 0 4294967295 (lit< tt) call.writer call.ctid call.severity call.at call.payload is.0 is.1 (omega arith) is.2 is.3

sent_spells : (client : ℕ) (bytes : List ℕ) → client ≤ 4294967295 → HasBytes bytes → (fields : List (List ℕ)) × SpellsSent fields client bytes
sent_spells client bytes fits has =
    (decimal client ∷ encode_upper bytes ∷ [], (number_spells 0 4294967295 client (lit< tt) (omega arith) fits, bytes_spell bytes has))

-- ---- steps

fields_for : (s : Step) → IsSayableStep s → (fields : List (List ℕ)) × SpellsFields fields s
fields_for (step.App app) is = app_spells app is
fields_for (step.Context context) is = context_spells context is
fields_for (step.Writer apid) is = (is.0 ∷ [], is.1)
fields_for (step.Clock secs micros) is =
    (decimal secs ∷ decimal micros ∷ [], (number_spells 0 4294967295 secs (lit< tt) (omega arith) is.0, number_spells 0 999999 micros (lit< tt) (omega arith) is.1))
fields_for (step.Load call) is = log_spells call is
fields_for (step.Push writer) is = (decimal writer ∷ [], number_spells 0 255 writer (lit< tt) (omega arith) is)
fields_for (step.Count writer) is = (decimal writer ∷ [], number_spells 0 255 writer (lit< tt) (omega arith) is)
fields_for (step.Call call) is = log_spells call is
fields_for (step.Log call) is = log_spells call is
fields_for (step.Claim asked) is = claim_spells asked is
fields_for (step.Announce writer) is = (decimal writer ∷ [], number_spells 0 255 writer (lit< tt) (omega arith) is)
fields_for (step.Register asked) is = claim_spells asked is
fields_for (step.Take apid) is = (is.0 ∷ [], is.1)
fields_for (step.Losses apid) is = (is.0 ∷ [], is.1)
fields_for (step.Levels levels) is = (levels_word levels ∷ [], refl)
fields_for step.Level is = ([], tt)
fields_for step.Connect is = ([], tt)
fields_for (step.Bytes client bytes) is = sent_spells client bytes is.0 is.1
fields_for (step.Close client) is = (decimal client ∷ [], number_spells 0 4294967295 client (lit< tt) (omega arith) is)
fields_for (step.User channel bytes) is =
    (decimal channel ∷ encode_upper bytes ∷ [], (number_spells 1 16 channel (lit< tt) is.0 is.1, bytes_spell bytes is.2))
fields_for (step.Inject apid) is = (is.0 ∷ [], is.1)

pub step_line : (s : Step) → IsSayableStep s → (line : List ℕ) × SpellsStep line s
step_line s is =
    let fields = fields_for s is in
    (step_word_for s ++ parted_by_blanks fields.0, (fields.0, fields.1, refl))

-- ---- lines of a scenario

scenario_fields_for : (entry : ScenarioLine) → IsSayableScenarioLine entry → (fields : List (List ℕ)) × SpellsScenarioFields fields entry
scenario_fields_for (scenario.App app) is = app_spells app is
scenario_fields_for (scenario.Context context) is = context_spells context is
scenario_fields_for (scenario.Writer apid) is = (is.0 ∷ [], is.1)
scenario_fields_for (scenario.Register asked) is = claim_spells asked is
scenario_fields_for (scenario.Calls writer ctid severity count payload) is = call_spells 1 1000000 (lit< tt) writer ctid severity count payload is.0 is.1 is.2 is.3 is.4
scenario_fields_for scenario.Client is = ([], tt)
scenario_fields_for (scenario.Send client bytes) is = sent_spells client bytes is.0 is.1
scenario_fields_for (scenario.Leave client count) is =
    (decimal client ∷ decimal count ∷ [], (number_spells 0 4294967295 client (lit< tt) (omega arith) is.0, number_spells 0 9223372036854775807 count (lit< tt) (omega arith) is.1))

pub scenario_line_for : (entry : ScenarioLine) → IsSayableScenarioLine entry → (line : List ℕ) × SpellsScenarioLine line entry
scenario_line_for entry is =
    let fields = scenario_fields_for entry is in
    (scenario_word_for entry ++ parted_by_blanks fields.0, (fields.0, fields.1, refl))
