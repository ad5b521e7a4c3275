-- Which line of a step script says which step.
use Rattle.std.specs.Prelude.{ℕ, ◌+◌, List, [], ◌∷◌, ◌++◌, if◌then◌else◌}
use Rattle.dl_script_model.specs.declared.step.Step.{Step}
use Rattle.dl_script.specs.Line.{is_ignored}
use Rattle.dl_text.specs.Lines.{lines_of}

-- a step, and the number of its line, from 1
pub record StepAt : Type 0 where
  pub line : ℕ
  pub step : Step

-- the number of a line that says something
abbrev pub number_of : ℕ → List ℕ → List ℕ
number_of number line = if is_ignored line then [] else number ∷ []

-- the numbers of the lines that say something, where the first line has this number
abbrev pub numbers_from : ℕ → List (List ℕ) → List ℕ
numbers_from number [] = []
numbers_from number (line ∷ lines) = number_of number line ++ numbers_from (number + 1) lines

-- each line that says something says the next step
abbrev pub placed : List ℕ → List Step → List StepAt
placed [] steps = []
placed (line ∷ lines) [] = []
placed (line ∷ lines) (step ∷ steps) = record { line = line; step = step } ∷ placed lines steps

-- the steps of a script, each with its line
abbrev pub steps_at : List ℕ → List Step → List StepAt
steps_at text steps = placed (numbers_from 1 (lines_of text)) steps
