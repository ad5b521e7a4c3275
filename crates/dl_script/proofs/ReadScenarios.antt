-- What a line of a scenario says has the claim of its entry, and is in range.
use Rattle.std.proofs.Common.{◌≡◌, ℕ, ◌≤◌, List, Option, Some, None, refl}
use Rattle.std.specs.Prelude.{IfSome, option_map}
use Rattle.std.specs.Option.{ok_or}
use Rattle.std.specs.Str.{is_utf8}
use Rattle.dl_bytes.specs.Payload.{Arguments}
use Rattle.dl_script_model.specs.declared.scenario.ScenarioLine.{ScenarioLine}
use Rattle.dl_script_model.specs.declared.scenario.ScenarioLine.TheVariants as line
use Rattle.dl_script_fields.specs.Fields.{worded, fields_of}
use Rattle.dl_script_lines.specs.Line.{bare_line, bytes_line, id_line, leave_line}
use Rattle.dl_script_fields.specs.declared.kind.ScriptKind.TheVariants as wrong
use Rattle.dl_script_lines.specs.declared.line.Call.{Call}
use Rattle.dl_script_lines.specs.Word.{scenario_word}
use Rattle.dl_script.specs.Line.{calls, scenario_by_word, scenario_line_of}
use Rattle.dl_script.specs.Playable.{IsInRange}
use Rattle.dl_script.specs.Spelled.{scenario_claim}
use Rattle.dl_script.specs.declared.read.Read.{Read}
use Rattle.dl_script_lines.specs.declared.word.ScenarioWord.{ScenarioWord}
use Rattle.dl_script_lines.specs.declared.word.ScenarioWord.TheVariants as word
use Rattle.dl_script.proofs.ReadResults.{Gives, given, refused, then, then_so, either_way}
use Rattle.dl_script.proofs.ReadFields.{app_in_range, call_in_range, claim_in_range, context_in_range}

-- what was read is an entry with its claim, in range, or its arguments don't fit
abbrev pub IsRead : Read ScenarioLine → Type 0
IsRead said = IfSome said.line (λ entry. (said.claim ≡ scenario_claim entry) × IsInRange entry)

calls_read : (call : Call) → 1 ≤ call.number → IsRead (calls call)
calls_read call some = by_payload call.payload where
  by_payload : (payload : Option Arguments)
      → IfSome (option_map (λ p. line.Calls call.writer call.ctid call.severity call.number p) payload)
      (λ entry. ((calls call).claim ≡ scenario_claim entry) × IsInRange entry)
  by_payload None = tt
  by_payload (Some p) = (refl, some)

word_read : (w : ScenarioWord) (fields : List (List ℕ)) → Gives IsRead (scenario_by_word w fields)
unfolding scenario_by_word
word_read word.App fields = then_so (app_in_range fields) (λ app is. given (refl, is))
word_read word.Context fields = then_so (context_in_range fields) (λ context is. given (refl, is))
word_read word.Writer fields = then (id_line fields) (λ apid. given (refl, tt))
word_read word.Register fields = then_so (claim_in_range fields) (λ asked is. given (refl, is))
word_read word.Calls fields = then_so (call_in_range 1 1000000 fields) (λ call is. given (calls_read call is.0))
word_read word.Client fields = then (bare_line fields) (λ done. given (refl, tt))
word_read word.Send fields = then (bytes_line fields) (λ sent. given (refl, tt))
word_read word.Leave fields = then (leave_line fields) (λ left. given (refl, tt))

pub scenario_line_read : (line : List ℕ) → Gives IsRead (scenario_line_of line)
scenario_line_read line = either_way (is_utf8 line) (then (ok_or (scenario_word (worded line).0) wrong.Word) (λ w. then (ok_or (fields_of (worded line).1) wrong.Fields) (word_read w))) refused
