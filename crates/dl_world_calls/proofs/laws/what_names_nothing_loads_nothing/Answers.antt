use Rattle.dl_world_calls.proofs.Loading.{nothing_named}
use Rattle.dl_world_calls.proofs.laws.what_names_nothing_loads_nothing.Goals as goal

pub returns : goal.returns
returns c = nothing_named
