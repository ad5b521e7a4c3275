-- What the fields of a line say, or what is wrong with them.
use Rattle.std.specs.Prelude.{ℕ, nat_le, List, [], ◌∷◌, length, codes, Option, Some, None, option_map, Result, Ok, Err, if◌then◌else◌}
use Rattle.std.specs.List.{list_all}
use Rattle.std.specs.Option.{ok_or}
use Rattle.dl_bytes.specs.Payload.{Arguments}
use Rattle.dl_script_model.specs.declared.line.AppLine.{AppLine}
use Rattle.dl_script_model.specs.declared.line.ContextLine.{ContextLine}
use Rattle.dl_script_model.specs.declared.line.CallLine.{CallLine}
use Rattle.dl_script_model.specs.declared.line.ClaimLine.{ClaimLine}
use Rattle.dl_script_model.specs.declared.step.LevelEvents.{LevelEvents}
use Rattle.dl_script_model.specs.declared.step.LevelEvents.TheVariants.{Later, Now}
use Rattle.dl_script_model.specs.declared.step.Step.{Step}
use Rattle.dl_script_model.specs.declared.step.Step.TheVariants as step
use Rattle.dl_script_fields.specs.Argument.{hex_field, behind_quote, unescaped, is_argument, arguments_of, payload_of}
use Rattle.dl_script_fields.specs.Kind.{◌>>=◌, is_of_form, formed}
use Rattle.dl_script_fields.specs.Value.{is_word, id_field, number_field, count_field, ordinal_field, severity_field, level_field}
use Rattle.dl_script_fields.specs.declared.kind.ScriptKind.{ScriptKind}
use Rattle.dl_script_fields.specs.declared.kind.ScriptKind.TheVariants as wrong
use Rattle.dl_script_lines.specs.declared.line.Call.{Call}

-- ---- fields of texts and of bytes

-- a text of at most 255 bytes
abbrev pub short : List ℕ → Result (List ℕ) ScriptKind
short text = if nat_le (length text) 255 then Ok text else Err wrong.Text

-- a text in quotes, of at most 255 bytes once its escapes are resolved
abbrev pub text_field : List ℕ → Result (List ℕ) ScriptKind
text_field field = do
  quoted ← ok_or (behind_quote field) wrong.Fields
  text ← ok_or (unescaped quoted) wrong.Fields
  short text

-- a text that may be left out: then it is empty
abbrev pub text_fields : List (List ℕ) → Result (List ℕ) ScriptKind
text_fields [] = Ok []
text_fields (field ∷ []) = text_field field
text_fields _ = Err wrong.Fields

-- a text of at most 48 bytes, as a claim keeps it
abbrev pub brief : List ℕ → Result (List ℕ) ScriptKind
brief text = if nat_le (length text) 48 then Ok text else Err wrong.Text

-- the payload of arguments, or nothing where they don't fit
abbrev pub payload_fields : List (List ℕ) → Result (Option Arguments) ScriptKind
payload_fields fields = arguments_of fields >>= λ args. Ok (payload_of args)

-- ---- lines of both scripts

-- `ID CAPACITY [TEXT]`
unfoldable pub app_line : List (List ℕ) → Result AppLine ScriptKind
app_line (apid ∷ capacity ∷ texts) = do
  well ← formed (is_of_form (text_fields texts))
  apid ← id_field apid
  capacity ← number_field 1 4096 capacity
  text ← text_fields texts
  Ok (record { apid = apid; capacity = capacity; text = text })
app_line _ = Err wrong.Fields

-- `APID CTID LEVEL [TEXT]`
unfoldable pub context_line : List (List ℕ) → Result ContextLine ScriptKind
context_line (apid ∷ ctid ∷ level ∷ texts) = do
  well ← formed (is_of_form (text_fields texts))
  apid ← id_field apid
  ctid ← id_field ctid
  level ← level_field level
  text ← text_fields texts
  Ok (record { apid = apid; ctid = ctid; level = level; text = text })
context_line _ = Err wrong.Fields

-- `W CTID LEVEL [TEXT]`, as `claim` and `register` have it
unfoldable pub claim_line : List (List ℕ) → Result ClaimLine ScriptKind
claim_line (writer ∷ ctid ∷ level ∷ texts) = do
  well ← formed (is_of_form (text_fields texts))
  writer ← ordinal_field 8 writer
  ctid ← id_field ctid
  level ← level_field level
  text ← text_fields texts
  text ← brief text
  Ok (record { writer = writer; ctid = ctid; level = level; text = text })
claim_line _ = Err wrong.Fields

-- `APID`, as `writer`, `take`, `losses` and `inject` have it
unfoldable pub id_line : List (List ℕ) → Result (List ℕ) ScriptKind
id_line (apid ∷ []) = id_field apid
id_line _ = Err wrong.Fields

-- `W CTID SEV NUMBER ARG..`: the number is a timestamp or a count. There is no payload where the arguments don't fit.
unfoldable pub call_line : (low high : ℕ) → List (List ℕ) → Result Call ScriptKind
call_line low high (writer ∷ ctid ∷ severity ∷ number ∷ arguments) = do
  well ← formed (list_all is_argument arguments)
  writer ← ordinal_field 8 writer
  ctid ← id_field ctid
  severity ← severity_field severity
  number ← number_field low high number
  payload ← payload_fields arguments
  Ok (record { writer = writer; ctid = ctid; severity = severity; number = number; payload = payload })
call_line low high _ = Err wrong.Fields

-- ---- lines of a step script

-- `SECS MICROS`
unfoldable pub clock_line : List (List ℕ) → Result Step ScriptKind
clock_line (secs ∷ micros ∷ []) = do
  secs ← number_field 0 4294967295 secs
  micros ← number_field 0 999999 micros
  Ok (step.Clock secs micros)
clock_line _ = Err wrong.Fields

-- `W`, as `push` and `count` have it
unfoldable pub writer_line : List (List ℕ) → Result ℕ ScriptKind
writer_line (writer ∷ []) = ordinal_field 8 writer
writer_line _ = Err wrong.Fields

-- `later` or `now`
abbrev pub levels_of : List ℕ → Option LevelEvents
levels_of field =
    if is_word field (codes "later") then Some Later
    else if is_word field (codes "now") then Some Now
    else None

unfoldable pub levels_line : List (List ℕ) → Result LevelEvents ScriptKind
levels_line (field ∷ []) = ok_or (levels_of field) wrong.Fields
levels_line _ = Err wrong.Fields

-- no field
unfoldable pub bare_line : List (List ℕ) → Result Unit ScriptKind
bare_line [] = Ok tt
bare_line _ = Err wrong.Fields

-- `C`
unfoldable pub client_line : List (List ℕ) → Result ℕ ScriptKind
client_line (client ∷ []) = ordinal_field 32 client
client_line _ = Err wrong.Fields

-- `C HEX`, as `bytes` and `send` have it
unfoldable pub bytes_line : List (List ℕ) → Result (ℕ × List ℕ) ScriptKind
bytes_line (client ∷ hex ∷ []) = do
  client ← ordinal_field 32 client
  bytes ← hex_field hex
  Ok (client, bytes)
bytes_line _ = Err wrong.Fields

-- `CH HEX`
unfoldable pub user_line : List (List ℕ) → Result Step ScriptKind
user_line (channel ∷ hex ∷ []) = do
  channel ← number_field 1 16 channel
  bytes ← hex_field hex
  Ok (step.User channel bytes)
user_line _ = Err wrong.Fields

-- `C BYTES`
unfoldable pub leave_line : List (List ℕ) → Result (ℕ × ℕ) ScriptKind
leave_line (client ∷ count ∷ []) = do
  client ← ordinal_field 32 client
  count ← count_field count
  Ok (client, count)
leave_line _ = Err wrong.Fields

-- a log call of a step script, whose number is its timestamp
abbrev pub line_in : Call → Option CallLine
line_in call = option_map (λ payload. record { writer = call.writer; ctid = call.ctid; severity = call.severity; at = call.number; payload = payload }) call.payload
