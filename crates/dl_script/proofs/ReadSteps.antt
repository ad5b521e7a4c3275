-- What a line says has the claim of its step, and is in its bounds.
use Rattle.std.proofs.Common.{◌≡◌, ℕ, List, [], ◌∷◌, Option, Some, None, refl}
use Rattle.std.specs.Prelude.{IfSome, option_map}
use Rattle.std.specs.Option.{ok_or}
use Rattle.std.specs.Str.{is_utf8}
use Rattle.dl_bytes.specs.Payload.{Arguments}
use Rattle.dl_script_model.specs.declared.line.CallLine.{CallLine}
use Rattle.dl_script_model.specs.declared.step.Step.{Step}
use Rattle.dl_script_model.specs.declared.step.Step.TheVariants as step
use Rattle.dl_script_fields.specs.Fields.{worded, fields_of}
use Rattle.dl_script_fields.specs.Argument.{hex_field}
use Rattle.dl_script_lines.specs.Line.{id_line, call_line, clock_line, writer_line, levels_line, bare_line, client_line, bytes_line, user_line}
use Rattle.dl_script_fields.specs.Value.{number_field}
use Rattle.dl_script_fields.specs.declared.kind.ScriptKind.TheVariants as wrong
use Rattle.dl_script_lines.specs.declared.line.Call.{Call}
use Rattle.dl_script_lines.specs.Word.{step_word}
use Rattle.dl_script.specs.Line.{called, step_by_word, step_of}
use Rattle.dl_script.specs.Spelled.{step_claim}
use Rattle.dl_script.specs.declared.claim.Claim.{Claim}
use Rattle.dl_script.specs.declared.claim.Claim.TheVariants as claim
use Rattle.dl_script.specs.declared.read.Read.{Read}
use Rattle.dl_script_lines.specs.declared.word.StepWord.{StepWord}
use Rattle.dl_script_lines.specs.declared.word.StepWord.TheVariants as word
use Rattle.dl_script.specs.Playable.{IsInBounds}
use Rattle.dl_script.proofs.ReadResults.{Gives, given, refused, then, then_so, either_way}
use Rattle.dl_script.proofs.ReadFields.{app_in_range, context_in_range, claim_in_range, number_within_is}

-- a step with this claim that is in its bounds
abbrev pub Has : Claim → Step → Type 0
Has claim s = (claim ≡ step_claim s) × IsInBounds s

-- what was read is a step with its claim, or its arguments don't fit
abbrev pub IsRead : Read Step → Type 0
IsRead said = IfSome said.line (Has said.claim)

-- ---- lines that are a step of themselves

clock_has : (fields : List (List ℕ)) → Gives (Has claim.Nothing) (clock_line fields)
unfolding clock_line
clock_has [] = refused
clock_has (secs ∷ []) = refused
clock_has (secs ∷ micros ∷ []) = then (number_field 0 4294967295 secs) (λ s. then (number_field 0 999999 micros) (λ m. given (refl, tt)))
clock_has (secs ∷ micros ∷ more ∷ fields) = refused

user_has : (fields : List (List ℕ)) → Gives (Has claim.User) (user_line fields)
unfolding user_line
user_has [] = refused
user_has (channel ∷ []) = refused
user_has (channel ∷ hex ∷ []) = then_so (number_within_is 1 16 channel) (λ c within. then (hex_field hex) (λ bytes. given (refl, within.0)))
user_has (channel ∷ hex ∷ more ∷ fields) = refused

-- ---- log calls

-- each step that is made so has the claim of a call, and no bound
abbrev MakesCalls : (CallLine → Step) → Type 0
MakesCalls make = (call : CallLine) → Has (claim.Calls call.writer call.ctid 1) (make call)

called_read : (make : CallLine → Step) → MakesCalls make → (call : Call) → IsRead (called make call)
called_read make makes call = by_payload call.payload where
  by_payload : (payload : Option Arguments)
      → IfSome (option_map make (option_map (λ p. record { writer = call.writer; ctid = call.ctid; severity = call.severity; at = call.number; payload = p }) payload))
      (Has (claim.Calls call.writer call.ctid 1))
  by_payload None = tt
  by_payload (Some p) = makes (record { writer = call.writer; ctid = call.ctid; severity = call.severity; at = call.number; payload = p })

-- ---- a line by its word

word_read : (w : StepWord) (fields : List (List ℕ)) → Gives IsRead (step_by_word w fields)
unfolding step_by_word
word_read word.App fields = then_so (app_in_range fields) (λ app is. given (refl, (is.0, is.3)))
word_read word.Context fields = then_so (context_in_range fields) (λ context is. given (refl, is))
word_read word.Writer fields = then (id_line fields) (λ apid. given (refl, tt))
word_read word.Clock fields = then_so (clock_has fields) (λ clock is. given is)
word_read word.Load fields = then (call_line 0 4294967295 fields) (λ call. given (called_read step.Load (λ line. (refl, tt)) call))
word_read word.Push fields = then (writer_line fields) (λ writer. given (refl, tt))
word_read word.Count fields = then (writer_line fields) (λ writer. given (refl, tt))
word_read word.Call fields = then (call_line 0 4294967295 fields) (λ call. given (called_read step.Call (λ line. (refl, tt)) call))
word_read word.Log fields = then (call_line 0 4294967295 fields) (λ call. given (called_read step.Log (λ line. (refl, tt)) call))
word_read word.Claim fields = then_so (claim_in_range fields) (λ asked is. given (refl, is))
word_read word.Announce fields = then (writer_line fields) (λ writer. given (refl, tt))
word_read word.Register fields = then_so (claim_in_range fields) (λ asked is. given (refl, is))
word_read word.Take fields = then (id_line fields) (λ apid. given (refl, tt))
word_read word.Losses fields = then (id_line fields) (λ apid. given (refl, tt))
word_read word.Levels fields = then (levels_line fields) (λ levels. given (refl, tt))
word_read word.Level fields = then (bare_line fields) (λ done. given (refl, tt))
word_read word.Connect fields = then (bare_line fields) (λ done. given (refl, tt))
word_read word.Bytes fields = then (bytes_line fields) (λ sent. given (refl, tt))
word_read word.Close fields = then (client_line fields) (λ client. given (refl, tt))
word_read word.User fields = then_so (user_has fields) (λ user is. given is)
word_read word.Inject fields = then (id_line fields) (λ apid. given (refl, tt))

pub line_read : (line : List ℕ) → Gives IsRead (step_of line)
line_read line = either_way (is_utf8 line) (then (ok_or (step_word (worded line).0) wrong.Word) (λ w. then (ok_or (fields_of (worded line).1) wrong.Fields) (word_read w))) refused
