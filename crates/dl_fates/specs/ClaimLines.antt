-- Which lines of a step script claim places: the number and the writer of each, and the id of the context.
use Rattle.std.specs.Prelude.{ℕ, List, [], ◌∷◌, ◌++◌}
use Rattle.dl_script_model.specs.declared.step.Step.{Step}
use Rattle.dl_script_model.specs.declared.step.Step.TheVariants as step
use Rattle.dl_fates.specs.Lines.{StepAt, steps_at}
use Rattle.dl_fates.specs.declared.claim_lines.ClaimAt.{ClaimAt}

-- the claim of a line, where it makes one: a `register` announces it besides
abbrev pub claim_at : ℕ → Step → List ClaimAt
claim_at line (step.Claim asked) = record { line = line; writer = asked.writer; ctid = asked.ctid } ∷ []
claim_at line (step.Register asked) = record { line = line; writer = asked.writer; ctid = asked.ctid } ∷ []
claim_at line _ = []

-- the claims of lines
abbrev pub claims_from : List StepAt → List ClaimAt
claims_from [] = []
claims_from (at ∷ steps) = claim_at at.line at.step ++ claims_from steps

-- the claims of a script with these steps
abbrev pub claims_in : List ℕ → List Step → List ClaimAt
claims_in text steps = claims_from (steps_at text steps)
