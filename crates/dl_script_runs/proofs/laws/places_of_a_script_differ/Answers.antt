use Rattle.dl_script_runs.proofs.ContextsFirst.{contexts_first}
use Rattle.dl_script_runs.proofs.laws.places_of_a_script_differ.Goals as goal

pub returns-clause-taken : goal.returns-clause-taken
returns-clause-taken c = c.no_place_is_claimed_twice.ensures.taken

pub returns-clause-behind : goal.returns-clause-behind
returns-clause-behind c = λ setting answers steps app apid playable number.
    c.no_place_is_claimed_twice.ensures.behind setting answers steps app apid (contexts_first setting answers steps playable) number
