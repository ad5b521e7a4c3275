-- What a line says: its word chooses what its fields are.
use Rattle.std.specs.Prelude.{ℕ, Bool, false, ◌==◌, ◌||◌, List, [], ◌∷◌, length, Option, Some, option_map, Result, Ok, Err, if◌then◌else◌}
use Rattle.std.specs.List.{list_all}
use Rattle.std.specs.Option.{ok_or}
use Rattle.std.specs.Str.{is_utf8}
use Rattle.dl_script_model.specs.declared.line.CallLine.{CallLine}
use Rattle.dl_script_model.specs.declared.step.Step.{Step}
use Rattle.dl_script_model.specs.declared.step.Step.TheVariants as step
use Rattle.dl_script_model.specs.declared.scenario.ScenarioLine.{ScenarioLine}
use Rattle.dl_script_model.specs.declared.scenario.ScenarioLine.TheVariants as scenario
use Rattle.dl_text.specs.Lines.{is_blank}
use Rattle.dl_script_fields.specs.Fields.{worded, fields_of}
use Rattle.dl_script_fields.specs.Kind.{◌>>=◌}
use Rattle.dl_script_lines.specs.Line.{app_line, context_line, claim_line, id_line, call_line, clock_line, writer_line, levels_line, bare_line, client_line, bytes_line, user_line, leave_line, line_in}
use Rattle.dl_script_lines.specs.Word.{step_word, scenario_word}
use Rattle.dl_script_fields.specs.declared.kind.ScriptKind.{ScriptKind}
use Rattle.dl_script_fields.specs.declared.kind.ScriptKind.TheVariants as wrong
use Rattle.dl_script_lines.specs.declared.line.Call.{Call}
use Rattle.dl_script.specs.declared.claim.Claim.{Claim}
use Rattle.dl_script.specs.declared.claim.Claim.TheVariants as claim
use Rattle.dl_script.specs.declared.read.Read.{Read}
use Rattle.dl_script_lines.specs.declared.word.StepWord.{StepWord}
use Rattle.dl_script_lines.specs.declared.word.StepWord.TheVariants as word
use Rattle.dl_script_lines.specs.declared.word.ScenarioWord.{ScenarioWord}
use Rattle.dl_script_lines.specs.declared.word.ScenarioWord.TheVariants as scene

-- ---- a line by its word

-- what a line says, with what it declares or asks
abbrev pub says : {A : Type 0} → Claim → A → Read A
says claim line = record { claim = claim; line = Some line }

abbrev pub called : (CallLine → Step) → Call → Read Step
called make call = record { claim = claim.Calls call.writer call.ctid 1; line = option_map make (line_in call) }

-- calls of a scenario; their number is their count
abbrev pub calls : Call → Read ScenarioLine
calls call = record {
  claim = claim.Calls call.writer call.ctid call.number;
  line = option_map (λ payload. scenario.Calls call.writer call.ctid call.severity call.number payload) call.payload;
}

unfoldable pub step_by_word : StepWord → List (List ℕ) → Result (Read Step) ScriptKind
step_by_word word.App fields = app_line fields >>= λ app. Ok (says (claim.App app.apid) (step.App app))
step_by_word word.Context fields = context_line fields >>= λ context. Ok (says (claim.Context context.apid context.ctid) (step.Context context))
step_by_word word.Writer fields = id_line fields >>= λ apid. Ok (says (claim.Writer apid) (step.Writer apid))
step_by_word word.Clock fields = clock_line fields >>= λ clock. Ok (says claim.Nothing clock)
step_by_word word.Load fields = call_line 0 4294967295 fields >>= λ call. Ok (called step.Load call)
step_by_word word.Push fields = writer_line fields >>= λ writer. Ok (says (claim.OfWriter writer) (step.Push writer))
step_by_word word.Count fields = writer_line fields >>= λ writer. Ok (says (claim.OfWriter writer) (step.Count writer))
step_by_word word.Call fields = call_line 0 4294967295 fields >>= λ call. Ok (called step.Call call)
step_by_word word.Log fields = call_line 0 4294967295 fields >>= λ call. Ok (called step.Log call)
step_by_word word.Claim fields = claim_line fields >>= λ asked. Ok (says (claim.Place asked.writer asked.ctid) (step.Claim asked))
step_by_word word.Announce fields = writer_line fields >>= λ writer. Ok (says (claim.OfWriter writer) (step.Announce writer))
step_by_word word.Register fields = claim_line fields >>= λ asked. Ok (says (claim.Place asked.writer asked.ctid) (step.Register asked))
step_by_word word.Take fields = id_line fields >>= λ apid. Ok (says (claim.OfApp apid) (step.Take apid))
step_by_word word.Losses fields = id_line fields >>= λ apid. Ok (says (claim.OfApp apid) (step.Losses apid))
step_by_word word.Levels fields = levels_line fields >>= λ levels. Ok (says claim.Nothing (step.Levels levels))
step_by_word word.Level fields = bare_line fields >>= λ done. Ok (says claim.Nothing step.Level)
step_by_word word.Connect fields = bare_line fields >>= λ done. Ok (says claim.Connect step.Connect)
step_by_word word.Bytes fields = bytes_line fields >>= λ sent. Ok (says (claim.OfClient sent.0) (step.Bytes sent.0 sent.1))
step_by_word word.Close fields = client_line fields >>= λ client. Ok (says (claim.OfClient client) (step.Close client))
step_by_word word.User fields = user_line fields >>= λ user. Ok (says claim.User user)
step_by_word word.Inject fields = id_line fields >>= λ apid. Ok (says (claim.OfApp apid) (step.Inject apid))

unfoldable pub scenario_by_word : ScenarioWord → List (List ℕ) → Result (Read ScenarioLine) ScriptKind
scenario_by_word scene.App fields = app_line fields >>= λ app. Ok (says (claim.App app.apid) (scenario.App app))
scenario_by_word scene.Context fields = context_line fields >>= λ context. Ok (says (claim.Context context.apid context.ctid) (scenario.Context context))
scenario_by_word scene.Writer fields = id_line fields >>= λ apid. Ok (says (claim.Writer apid) (scenario.Writer apid))
scenario_by_word scene.Register fields = claim_line fields >>= λ asked. Ok (says (claim.Place asked.writer asked.ctid) (scenario.Register asked))
scenario_by_word scene.Calls fields = call_line 1 1000000 fields >>= λ call. Ok (calls call)
scenario_by_word scene.Client fields = bare_line fields >>= λ done. Ok (says claim.Client scenario.Client)
scenario_by_word scene.Send fields = bytes_line fields >>= λ sent. Ok (says (claim.Send sent.0 (length sent.1)) (scenario.Send sent.0 sent.1))
scenario_by_word scene.Leave fields = leave_line fields >>= λ left. Ok (says (claim.Leave left.0) (scenario.Leave left.0 left.1))

-- ---- a line

-- a line that begins with #
abbrev pub is_comment : List ℕ → Bool
is_comment [] = false
is_comment (b ∷ rest) = b == 35

-- a line that says nothing: a comment, or blanks alone
abbrev pub is_ignored : List ℕ → Bool
is_ignored line = is_comment line || list_all is_blank line

abbrev pub line_of_text : {W A : Type 0} → (List ℕ → Option W) → (W → List (List ℕ) → Result (Read A) ScriptKind) → List ℕ → Result (Read A) ScriptKind
line_of_text word_of by_word line = do
  word ← ok_or (word_of (worded line).0) wrong.Word
  fields ← ok_or (fields_of (worded line).1) wrong.Fields
  by_word word fields

-- what a line says, by these words: it is text, its word is known, its fields are whole
abbrev pub line_by : {W A : Type 0} → (List ℕ → Option W) → (W → List (List ℕ) → Result (Read A) ScriptKind) → List ℕ → Result (Read A) ScriptKind
line_by word_of by_word line =
    if is_utf8 line then line_of_text word_of by_word line else Err wrong.NotUtf8

abbrev pub step_of : List ℕ → Result (Read Step) ScriptKind
step_of line = line_by step_word step_by_word line

abbrev pub scenario_line_of : List ℕ → Result (Read ScenarioLine) ScriptKind
scenario_line_of line = line_by scenario_word scenario_by_word line
