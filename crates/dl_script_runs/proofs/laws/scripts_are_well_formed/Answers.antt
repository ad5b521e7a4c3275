use Rattle.dl_script_runs.proofs.laws.scripts_are_well_formed.Goals as goal

pub returns-clause-lines : goal.returns-clause-lines
returns-clause-lines c = λ setting source answers steps playable.
    c.runs_are_well_formed.ensures.lines setting source answers steps (c.claims_of_a_script_are_present.ensures.lines setting answers steps playable)

pub returns-clause-whole : goal.returns-clause-whole
returns-clause-whole c = λ setting source answers steps playable.
    c.runs_are_well_formed.ensures.whole setting source answers steps (c.claims_of_a_script_are_present.ensures.whole setting answers steps playable)
