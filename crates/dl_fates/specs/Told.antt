-- In which line of a step script the daemon is told of a lost call: the first `losses` line of its application behind the line that counts it.
use Rattle.std.specs.Prelude.{ℕ, ◌-◌, ◌==◌, ◌||◌, Bool, false, List, [], ◌∷◌, slice_get, Option, Some, None, if◌then◌else◌}
use Rattle.std.specs.List.{filter_map}
use Rattle.std.specs.Option.{option_and_then}
use Rattle.std.specs.Str.{bytes_eq}
use Rattle.dl_script_model.specs.declared.step.Step.{Step}
use Rattle.dl_script_model.specs.declared.step.Step.TheVariants as step
use Rattle.dl_fates.specs.Lines.{StepAt}

-- ---- what a step is for a writer, and for an application

-- it finishes the writer's open call first: it begins the writer's next one, or claims or announces for it
abbrev pub finishes : ℕ → Step → Bool
finishes writer (step.Load call) = call.writer == writer
finishes writer (step.Call call) = call.writer == writer
finishes writer (step.Log call) = call.writer == writer
finishes writer (step.Claim asked) = asked.writer == writer
finishes writer (step.Announce other) = other == writer
finishes writer (step.Register asked) = asked.writer == writer
finishes writer _ = false

-- it pushes the writer's open call
abbrev pub pushes : ℕ → Step → Bool
pushes writer (step.Push other) = other == writer
pushes writer _ = false

-- it counts the writer's open call, where the ring refused it
abbrev pub counts : ℕ → Step → Bool
counts writer (step.Count other) = other == writer
counts writer _ = false

-- the daemon takes the count of the application's lost calls
abbrev pub takes_losses : List ℕ → Step → Bool
takes_losses apid (step.Losses other) = bytes_eq other apid
takes_losses apid _ = false

-- ---- applications of writers

abbrev pub owner_in : Step → Option (List ℕ)
owner_in (step.Writer apid) = Some apid
owner_in _ = None

-- the applications of the writers, which are numbered from 1
abbrev pub owners_in : List Step → List (List ℕ)
owners_in steps = filter_map owner_in steps

abbrev pub owner_of : List (List ℕ) → ℕ → Option (List ℕ)
owner_of owners writer = if writer == 0 then None else slice_get owners (writer - 1)

-- ---- where a lost call is told

-- a call that is counted: the first of these lines that takes the losses of its application
abbrev pub told_in : List ℕ → List StepAt → Option ℕ
told_in apid [] = None
told_in apid (at ∷ steps) = if takes_losses apid at.step then Some at.line else told_in apid steps

abbrev pub told_counted : Option (List ℕ) → List StepAt → Option ℕ
told_counted owner steps = option_and_then (λ apid. told_in apid steps) owner

-- a call that was refused: the writer's `count` counts it, or its next line that finishes it
abbrev pub told_refused : Option (List ℕ) → ℕ → List StepAt → Option ℕ
told_refused owner writer [] = None
told_refused owner writer (at ∷ steps) = if finishes writer at.step || counts writer at.step then told_counted owner steps else told_refused owner writer steps

-- a call that was loaded: the writer's `push` pushes it, or its next line that finishes it, which also counts it
abbrev pub told_loaded : Option (List ℕ) → ℕ → List StepAt → Option ℕ
told_loaded owner writer [] = None
told_loaded owner writer (at ∷ steps) =
    if finishes writer at.step then told_counted owner steps
    else if pushes writer at.step then told_refused owner writer steps
    else told_loaded owner writer steps
