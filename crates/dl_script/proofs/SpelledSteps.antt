-- A line that spells a step says it.
use Rattle.std.proofs.Common.{◌≡◌, ℕ, List, Some, Ok, refl, lit<}
use Rattle.dl_script_model.specs.declared.line.CallLine.{CallLine}
use Rattle.dl_script_model.specs.declared.step.Step.{Step}
use Rattle.dl_script_model.specs.declared.step.Step.TheVariants as step
use Rattle.dl_script_lines.specs.Line.{call_line}
use Rattle.dl_script_lines.specs.declared.line.Call.{Call}
use Rattle.dl_script_lines.proofs.SpelledLines.{AreGood, nothing_says, nothing_good, app_says, app_good, context_says, context_good, claim_says, claim_good, apid_says, apid_good, call_says, call_good, clock_says, clock_good, writer_says, writer_good, levels_say, levels_good, client_says, client_good, sent_says, sent_good, user_says, user_good}
use Rattle.dl_script_lines.specs.Word.{step_word}
use Rattle.dl_script.specs.Line.{says, step_by_word, step_of}
use Rattle.dl_script.specs.Spelled.{step_word_for, SpellsLog, SpellsFields, SpellsStep, step_claim}
use Rattle.dl_script_lines.specs.declared.word.StepWord.{StepWord}
use Rattle.dl_script_lines.specs.declared.word.StepWord.TheVariants as word
use Rattle.dl_script.proofs.WordLines.{IsWord, IsReadAs, read_as_said, then}

-- ---- the word

abbrev kind_for : Step → StepWord
kind_for (step.App app) = word.App
kind_for (step.Context context) = word.Context
kind_for (step.Writer apid) = word.Writer
kind_for (step.Clock secs micros) = word.Clock
kind_for (step.Load call) = word.Load
kind_for (step.Push writer) = word.Push
kind_for (step.Count writer) = word.Count
kind_for (step.Call call) = word.Call
kind_for (step.Log call) = word.Log
kind_for (step.Claim asked) = word.Claim
kind_for (step.Announce writer) = word.Announce
kind_for (step.Register asked) = word.Register
kind_for (step.Take apid) = word.Take
kind_for (step.Losses apid) = word.Losses
kind_for (step.Levels levels) = word.Levels
kind_for step.Level = word.Level
kind_for step.Connect = word.Connect
kind_for (step.Bytes client bytes) = word.Bytes
kind_for (step.Close client) = word.Close
kind_for (step.User channel bytes) = word.User
kind_for (step.Inject apid) = word.Inject

word_is : (s : Step) → IsWord step_word (step_word_for s) (kind_for s)
word_is (step.App app) = record { letters = refl; plain = refl; known = refl; noted = λ more. refl }
word_is (step.Context context) = record { letters = refl; plain = refl; known = refl; noted = λ more. refl }
word_is (step.Writer apid) = record { letters = refl; plain = refl; known = refl; noted = λ more. refl }
word_is (step.Clock secs micros) = record { letters = refl; plain = refl; known = refl; noted = λ more. refl }
word_is (step.Load call) = record { letters = refl; plain = refl; known = refl; noted = λ more. refl }
word_is (step.Push writer) = record { letters = refl; plain = refl; known = refl; noted = λ more. refl }
word_is (step.Count writer) = record { letters = refl; plain = refl; known = refl; noted = λ more. refl }
word_is (step.Call call) = record { letters = refl; plain = refl; known = refl; noted = λ more. refl }
word_is (step.Log call) = record { letters = refl; plain = refl; known = refl; noted = λ more. refl }
word_is (step.Claim asked) = record { letters = refl; plain = refl; known = refl; noted = λ more. refl }
word_is (step.Announce writer) = record { letters = refl; plain = refl; known = refl; noted = λ more. refl }
word_is (step.Register asked) = record { letters = refl; plain = refl; known = refl; noted = λ more. refl }
word_is (step.Take apid) = record { letters = refl; plain = refl; known = refl; noted = λ more. refl }
word_is (step.Losses apid) = record { letters = refl; plain = refl; known = refl; noted = λ more. refl }
word_is (step.Levels levels) = record { letters = refl; plain = refl; known = refl; noted = λ more. refl }
word_is step.Level = record { letters = refl; plain = refl; known = refl; noted = λ more. refl }
word_is step.Connect = record { letters = refl; plain = refl; known = refl; noted = λ more. refl }
word_is (step.Bytes client bytes) = record { letters = refl; plain = refl; known = refl; noted = λ more. refl }
word_is (step.Close client) = record { letters = refl; plain = refl; known = refl; noted = λ more. refl }
word_is (step.User channel bytes) = record { letters = refl; plain = refl; known = refl; noted = λ more. refl }
word_is (step.Inject apid) = record { letters = refl; plain = refl; known = refl; noted = λ more. refl }

-- ---- the fields

log_good : (fields : List (List ℕ)) (call : CallLine) → SpellsLog fields call → AreGood fields
log_good fields call are = call_good 0 4294967295 (lit< tt) call.writer call.ctid call.severity call.at call.payload fields are

fields_good : (s : Step) (fields : List (List ℕ)) → SpellsFields fields s → AreGood fields
fields_good (step.App app) fields are = app_good fields app are
fields_good (step.Context context) fields are = context_good fields context are
fields_good (step.Writer apid) fields are = apid_good fields apid are
fields_good (step.Clock secs micros) fields are = clock_good fields secs micros are
fields_good (step.Load call) fields are = log_good fields call are
fields_good (step.Push writer) fields are = writer_good fields writer are
fields_good (step.Count writer) fields are = writer_good fields writer are
fields_good (step.Call call) fields are = log_good fields call are
fields_good (step.Log call) fields are = log_good fields call are
fields_good (step.Claim asked) fields are = claim_good fields asked are
fields_good (step.Announce writer) fields are = writer_good fields writer are
fields_good (step.Register asked) fields are = claim_good fields asked are
fields_good (step.Take apid) fields are = apid_good fields apid are
fields_good (step.Losses apid) fields are = apid_good fields apid are
fields_good (step.Levels levels) fields are = levels_good fields levels are
fields_good step.Level fields are = nothing_good fields are
fields_good step.Connect fields are = nothing_good fields are
fields_good (step.Bytes client bytes) fields are = sent_good fields client bytes are
fields_good (step.Close client) fields are = client_good fields client are
fields_good (step.User channel bytes) fields are = user_good fields channel bytes are
fields_good (step.Inject apid) fields are = apid_good fields apid are

abbrev read_as : CallLine → Call
read_as call = record { writer = call.writer; ctid = call.ctid; severity = call.severity; number = call.at; payload = Some call.payload }

log_says : (fields : List (List ℕ)) (call : CallLine) → SpellsLog fields call → call_line 0 4294967295 fields ≡ Ok (read_as call)
log_says fields call are = call_says 0 4294967295 (lit< tt) call.writer call.ctid call.severity call.at call.payload fields are

fields_say : (s : Step) (fields : List (List ℕ)) → SpellsFields fields s → step_by_word (kind_for s) fields ≡ Ok (says (step_claim s) s)
unfolding step_by_word
fields_say (step.App app) fields are = then _ _ _ (app_says fields app are)
fields_say (step.Context context) fields are = then _ _ _ (context_says fields context are)
fields_say (step.Writer apid) fields are = then _ _ _ (apid_says fields apid are)
fields_say (step.Clock secs micros) fields are = then _ _ _ (clock_says fields secs micros are)
fields_say (step.Load call) fields are = then _ _ _ (log_says fields call are)
fields_say (step.Push writer) fields are = then _ _ _ (writer_says fields writer are)
fields_say (step.Count writer) fields are = then _ _ _ (writer_says fields writer are)
fields_say (step.Call call) fields are = then _ _ _ (log_says fields call are)
fields_say (step.Log call) fields are = then _ _ _ (log_says fields call are)
fields_say (step.Claim asked) fields are = then _ _ _ (claim_says fields asked are)
fields_say (step.Announce writer) fields are = then _ _ _ (writer_says fields writer are)
fields_say (step.Register asked) fields are = then _ _ _ (claim_says fields asked are)
fields_say (step.Take apid) fields are = then _ _ _ (apid_says fields apid are)
fields_say (step.Losses apid) fields are = then _ _ _ (apid_says fields apid are)
fields_say (step.Levels levels) fields are = then _ _ _ (levels_say fields levels are)
fields_say step.Level fields are = then _ _ _ (nothing_says fields are)
fields_say step.Connect fields are = then _ _ _ (nothing_says fields are)
fields_say (step.Bytes client bytes) fields are = then _ _ _ (sent_says fields client bytes are)
fields_say (step.Close client) fields are = then _ _ _ (client_says fields client are)
fields_say (step.User channel bytes) fields are = then _ _ _ (user_says fields channel bytes are)
fields_say (step.Inject apid) fields are = then _ _ _ (apid_says fields apid are)

-- ---- the line

pub step_read : (line : List ℕ) (s : Step) → SpellsStep line s → IsReadAs step_of line (says (step_claim s) s)
step_read line s is = read_as_said step_word step_by_word (step_word_for s) (kind_for s) (word_is s) is.0 (fields_good s is.0 is.1) line (says (step_claim s) s) is.2 (fields_say s is.0 is.1)
