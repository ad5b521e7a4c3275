-- What the applications of an opened scenario tell of themselves.
use Rattle.std.proofs.Common.{◌≡◌, ℕ, ◌+◌, List, [], ◌∷◌, ◌++◌, map, refl, ap}
use Rattle.std.specs.List.{AllByRecursion, flat_map}
use Rattle.dl_bytes.specs.declared.user.UserMsg.{UserMsg}
use Rattle.dl_opening.specs.Scenario.{contexts_of, hello_of, opened_from, registered}
use Rattle.dl_rounds.specs.Greetings.{IsContext, IsIntroduced}
use Rattle.dl_rounds.specs.Greetings as greetings
use Rattle.dl_script_model.specs.declared.line.AppLine.{AppLine}
use Rattle.dl_script_model.specs.declared.line.ContextLine.{ContextLine}
use Rattle.dl_script_model.specs.declared.scenario.ScenarioLine.{ScenarioLine}

contexts_are : (apid : List ℕ) (contexts : List ContextLine) → AllByRecursion IsContext (map (registered apid) contexts)
contexts_are apid [] = tt
contexts_are apid (context ∷ contexts) = (tt, contexts_are apid contexts)

-- each tells its own registration, and then those of its contexts
pub all_introduced : (lines : List ScenarioLine) (made : List (List ℕ)) (number : ℕ) (apps : List AppLine) → AllByRecursion IsIntroduced (opened_from lines made number apps)
all_introduced lines made number [] = tt
all_introduced lines made number (app ∷ apps) = (
  record {
    apid = app.apid;
    pid = 0;
    text = app.text;
    contexts = map (registered app.apid) (contexts_of app.apid lines);
    hello = refl;
    are_contexts = contexts_are app.apid (contexts_of app.apid lines);
  },
  all_introduced lines made (number + 1) apps,
)

-- together they tell what the lines say
pub all_told : (lines : List ScenarioLine) (made : List (List ℕ)) (number : ℕ) (apps : List AppLine) → greetings.hello_of (opened_from lines made number apps) ≡ flat_map (hello_of lines) apps
all_told lines made number [] = refl
all_told lines made number (app ∷ apps) = ap (λ (msgs : List UserMsg). hello_of lines app ++ msgs) (all_told lines made (number + 1) apps)
