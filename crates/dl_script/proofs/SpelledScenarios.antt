-- A line that spells a line of a scenario says it.
use Rattle.std.proofs.Common.{◌≡◌, ℕ, List, Ok, refl, lit<}
use Rattle.dl_script_model.specs.declared.scenario.ScenarioLine.{ScenarioLine}
use Rattle.dl_script_model.specs.declared.scenario.ScenarioLine.TheVariants as scenario
use Rattle.dl_script_lines.proofs.SpelledLines.{AreGood, nothing_says, nothing_good, app_says, app_good, context_says, context_good, claim_says, claim_good, apid_says, apid_good, call_says, call_good, sent_says, sent_good, leave_says, leave_good}
use Rattle.dl_script_lines.specs.Word.{scenario_word}
use Rattle.dl_script.specs.Line.{says, scenario_by_word, scenario_line_of}
use Rattle.dl_script.specs.Spelled.{scenario_word_for, SpellsScenarioFields, SpellsScenarioLine, scenario_claim}
use Rattle.dl_script_lines.specs.declared.word.ScenarioWord.{ScenarioWord}
use Rattle.dl_script_lines.specs.declared.word.ScenarioWord.TheVariants as scene
use Rattle.dl_script.proofs.WordLines.{IsWord, IsReadAs, read_as_said, then}

abbrev kind_for : ScenarioLine → ScenarioWord
kind_for (scenario.App app) = scene.App
kind_for (scenario.Context context) = scene.Context
kind_for (scenario.Writer apid) = scene.Writer
kind_for (scenario.Register asked) = scene.Register
kind_for (scenario.Calls writer ctid severity count payload) = scene.Calls
kind_for scenario.Client = scene.Client
kind_for (scenario.Send client bytes) = scene.Send
kind_for (scenario.Leave client count) = scene.Leave

word_is : (entry : ScenarioLine) → IsWord scenario_word (scenario_word_for entry) (kind_for entry)
word_is (scenario.App app) = record { letters = refl; plain = refl; known = refl; noted = λ more. refl }
word_is (scenario.Context context) = record { letters = refl; plain = refl; known = refl; noted = λ more. refl }
word_is (scenario.Writer apid) = record { letters = refl; plain = refl; known = refl; noted = λ more. refl }
word_is (scenario.Register asked) = record { letters = refl; plain = refl; known = refl; noted = λ more. refl }
word_is (scenario.Calls writer ctid severity count payload) = record { letters = refl; plain = refl; known = refl; noted = λ more. refl }
word_is scenario.Client = record { letters = refl; plain = refl; known = refl; noted = λ more. refl }
word_is (scenario.Send client bytes) = record { letters = refl; plain = refl; known = refl; noted = λ more. refl }
word_is (scenario.Leave client count) = record { letters = refl; plain = refl; known = refl; noted = λ more. refl }

fields_good : (entry : ScenarioLine) (fields : List (List ℕ)) → SpellsScenarioFields fields entry → AreGood fields
fields_good (scenario.App app) fields are = app_good fields app are
fields_good (scenario.Context context) fields are = context_good fields context are
fields_good (scenario.Writer apid) fields are = apid_good fields apid are
fields_good (scenario.Register asked) fields are = claim_good fields asked are
fields_good (scenario.Calls writer ctid severity count payload) fields are = call_good 1 1000000 (lit< tt) writer ctid severity count payload fields are
fields_good scenario.Client fields are = nothing_good fields are
fields_good (scenario.Send client bytes) fields are = sent_good fields client bytes are
fields_good (scenario.Leave client count) fields are = leave_good fields client count are

fields_say : (entry : ScenarioLine) (fields : List (List ℕ)) → SpellsScenarioFields fields entry → scenario_by_word (kind_for entry) fields ≡ Ok (says (scenario_claim entry) entry)
unfolding scenario_by_word
fields_say (scenario.App app) fields are = then _ _ _ (app_says fields app are)
fields_say (scenario.Context context) fields are = then _ _ _ (context_says fields context are)
fields_say (scenario.Writer apid) fields are = then _ _ _ (apid_says fields apid are)
fields_say (scenario.Register asked) fields are = then _ _ _ (claim_says fields asked are)
fields_say (scenario.Calls writer ctid severity count payload) fields are = then _ _ _ (call_says 1 1000000 (lit< tt) writer ctid severity count payload fields are)
fields_say scenario.Client fields are = then _ _ _ (nothing_says fields are)
fields_say (scenario.Send client bytes) fields are = then _ _ _ (sent_says fields client bytes are)
fields_say (scenario.Leave client count) fields are = then _ _ _ (leave_says fields client count are)

pub scenario_read : (line : List ℕ) (entry : ScenarioLine) → SpellsScenarioLine line entry → IsReadAs scenario_line_of line (says (scenario_claim entry) entry)
scenario_read line entry is = read_as_said scenario_word scenario_by_word (scenario_word_for entry) (kind_for entry) (word_is entry) is.0 (fields_good entry is.0 is.1) line (says (scenario_claim entry) entry) is.2 (fields_say entry is.0 is.1)
