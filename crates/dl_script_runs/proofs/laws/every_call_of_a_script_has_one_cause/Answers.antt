use Rattle.dl_script_runs.proofs.laws.every_call_of_a_script_has_one_cause.Goals as goal

pub returns-clause-lines : goal.returns-clause-lines
returns-clause-lines c = λ setting answers steps writer client playable.
    c.every_call_of_a_run_has_one_cause.ensures.lines setting answers steps writer client (c.claims_of_a_script_are_present.ensures.lines setting answers steps playable)

pub returns-clause-whole : goal.returns-clause-whole
returns-clause-whole c = λ setting answers steps writer client playable.
    c.every_call_of_a_run_has_one_cause.ensures.whole setting answers steps writer client (c.claims_of_a_script_are_present.ensures.whole setting answers steps playable)
