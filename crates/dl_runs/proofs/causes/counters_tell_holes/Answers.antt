use Rattle.dl_runs.proofs.HoleLaws.{tells}
use Rattle.dl_runs.proofs.causes.counters_tell_holes.Goals as goal

pub returns : goal.returns
returns c = λ setting source buffer client events one two between n.
    tells setting source buffer client n.first n.writer n.refusals n.pushed events one two n.earlier between n.later n.formed n.account n.heard_one n.heard_two n.none_between
