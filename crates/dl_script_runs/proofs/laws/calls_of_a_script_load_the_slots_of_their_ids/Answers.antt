use Rattle.dl_script_runs.proofs.CallSlots.{event_parts, rest, taken_in_slot}
use Rattle.dl_script_runs.proofs.DeclaredSlots.{declared_in_slot}
use Rattle.dl_script_runs.proofs.laws.calls_of_a_script_load_the_slots_of_their_ids.Goals as goal

pub returns-clause-declared : goal.returns-clause-declared
returns-clause-declared c = λ setting answers steps call playable first loaded by. declared_in_slot setting answers first steps call playable loaded by

pub returns-clause-claimed : goal.returns-clause-claimed
returns-clause-claimed c = λ setting answers steps call playable first loaded claim by.
    let behind = rest setting answers steps playable call loaded claim by.named by.taken in
    taken_in_slot setting answers steps playable call loaded claim by.named by.taken
    (c.claims_of_a_script_are_registered.ensures setting answers steps (record { before = by.taken.before; claim = claim; moment = by.taken.moment; after = behind }) playable
    (event_parts setting answers steps playable call loaded claim by.named by.taken) first)
