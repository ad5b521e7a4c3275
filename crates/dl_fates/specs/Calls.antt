-- Where the log calls of a step script stand: the line and the writer of each, and the line that tells of it where it is lost.
use Rattle.std.specs.Prelude.{ℕ, List, [], ◌∷◌, ◌++◌}
use Rattle.dl_script_model.specs.declared.step.Step.{Step}
use Rattle.dl_script_model.specs.declared.step.Step.TheVariants as step
use Rattle.dl_fates.specs.Lines.{StepAt, steps_at}
use Rattle.dl_fates.specs.Told.{owner_of, owners_in, told_counted, told_loaded}
use Rattle.dl_fates.specs.declared.call.CallAt.{CallAt}

-- A call in a line, where it begins one, with these lines behind it. A `call` or a `log` is whole in its line; a `load` is pushed and counted later.
abbrev pub call_at : List (List ℕ) → ℕ → Step → List StepAt → List CallAt
call_at owners line (step.Load call) behind = record { line = line; writer = call.writer; told = told_loaded (owner_of owners call.writer) call.writer behind } ∷ []
call_at owners line (step.Call call) behind = record { line = line; writer = call.writer; told = told_counted (owner_of owners call.writer) behind } ∷ []
call_at owners line (step.Log call) behind = record { line = line; writer = call.writer; told = told_counted (owner_of owners call.writer) behind } ∷ []
call_at owners line _ behind = []

-- the calls of lines
abbrev pub calls_from : List (List ℕ) → List StepAt → List CallAt
calls_from owners [] = []
calls_from owners (at ∷ steps) = call_at owners at.line at.step steps ++ calls_from owners steps

-- the calls of a script with these steps
abbrev pub calls_in : List ℕ → List Step → List CallAt
calls_in text steps = calls_from (owners_in steps) (steps_at text steps)
