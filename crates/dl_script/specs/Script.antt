-- What a script says, line by line, or its first bad line and what is wrong with it.
use Rattle.std.specs.Prelude.{◌≡◌, ℕ, ◌+◌, nat_lt, List, [], ◌∷◌, length, Option, Some, None, Result, Ok, Err, if◌then◌else◌}
use Rattle.std.specs.Option.{ok_or}
use Rattle.dl_script_model.specs.declared.step.Step.{Step}
use Rattle.dl_script_model.specs.declared.scenario.ScenarioLine.{ScenarioLine}
use Rattle.dl_script.specs.Earlier.{Declared, nothing, refusal, noted}
use Rattle.dl_text.specs.Faults.{size_limit}
use Rattle.dl_text.specs.Lines.{lines_of}
use Rattle.dl_script_fields.specs.Kind.{◌>>=◌}
use Rattle.dl_script.specs.Line.{is_ignored, step_of, scenario_line_of}
use Rattle.dl_script.specs.declared.claim.Claim.{Claim}
use Rattle.dl_script_fields.specs.declared.kind.ScriptKind.{ScriptKind}
use Rattle.dl_script_fields.specs.declared.kind.ScriptKind.TheVariants.{Size, Payload}
use Rattle.dl_script_fields.specs.declared.kind.LineError.{LineError}
use Rattle.dl_script_fields.specs.declared.kind.LineError.TheVariants as bad
use Rattle.dl_script.specs.declared.error.ScriptError.{ScriptError}
use Rattle.dl_script.specs.declared.error.ScriptError.TheVariants.{Fault, OutOfMemory}
use Rattle.dl_script.specs.declared.read.Read.{Read}

-- what is declared with one line more, or why the line may not follow
abbrev pub admitted : Declared → Claim → Option ScriptKind → Result Declared ScriptKind
admitted known claim None = Ok (noted known claim)
admitted known claim (Some kind) = Err kind

-- What a line says after the lines before it, and what is declared then: first what is wrong with the line alone, then
-- what the lines before it lack, and last the payload.
unfoldable pub judged : {A : Type 0} → (List ℕ → Result (Read A) ScriptKind) → Declared → List ℕ → Result (A × Declared) ScriptKind
judged line_of known line = do
  said ← line_of line
  next ← admitted known said.claim (refusal known said.claim)
  entry ← ok_or said.line Payload
  Ok (entry, next)

-- what was read goes on, or its fault ends it
abbrev pub either : {X Y : Type 0} → (X → Y) → (ScriptKind → Y) → Result X ScriptKind → Y
either goes ends (Ok x) = goes x
either goes ends (Err kind) = ends kind

-- an entry before others
abbrev pub before : {A : Type 0} → A → Result (List A) ScriptError → Result (List A) ScriptError
before entry (Ok entries) = Ok (entry ∷ entries)
before entry (Err error) = Err error

-- What lines say, one after the other, the first with this number, or the first bad line. Ignored lines are counted.
unfoldable pub entries : {A : Type 0} → (List ℕ → Result (Read A) ScriptKind) → Declared → ℕ → List (List ℕ) → Result (List A) ScriptError
entries line_of known number [] = Ok []
entries line_of known number (line ∷ lines) =
    if is_ignored line then entries line_of known (number + 1) lines
    else either (λ said. before said.0 (entries line_of said.1 (number + 1) lines)) (λ kind. Err (Fault number kind)) (judged line_of known line)

-- what a script says, from its first line on
unfoldable pub script_of : {A : Type 0} → (List ℕ → Result (Read A) ScriptKind) → List ℕ → Result (List A) ScriptError
script_of line_of text = if nat_lt size_limit (length text) then Err (Fault 0 Size) else entries line_of nothing 1 (lines_of text)

-- the step script of a text, or its fault
abbrev pub steps_of : List ℕ → Result (List Step) ScriptError
steps_of text = script_of step_of text

-- the scenario of a text, or its fault
abbrev pub scenario_of : List ℕ → Result (List ScenarioLine) ScriptError
scenario_of text = script_of scenario_line_of text

-- The lines, or the fault, are those of the text. Of want of memory this says nothing.
abbrev pub Reads : {A B : Type 0} → (A → List B) → Result A ScriptError → Result (List B) ScriptError → Type 0
Reads view (Ok lines) said = said ≡ Ok (view lines)
Reads view (Err (Fault line kind)) said = said ≡ Err (Fault line kind)
Reads view (Err OutOfMemory) said = Unit {0}

-- the error of a line, at this number
abbrev pub error_at : ℕ → LineError → ScriptError
error_at number (bad.Fault kind) = Fault number kind
error_at number bad.OutOfMemory = OutOfMemory

-- A line that may follow is noted, with what it says; or it may not, and what is wrong is said.
abbrev pub Judges : {A : Type 0} → (List ℕ → Result (Read A) ScriptKind) → List ℕ → Result A LineError → Declared → Declared → Type 0
Judges line_of line (Ok entry) old new = judged line_of old line ≡ Ok (entry, new)
Judges line_of line (Err (bad.Fault kind)) old new = judged line_of old line ≡ Err kind
Judges line_of line (Err bad.OutOfMemory) old new = Unit {0}
