-- Calls of one trace over one folder, one after the other.
use Rattle.std.specs.Prelude.{◌≡◌, ℕ, List, [], ◌∷◌, Option}
use Rattle.dl_outside.specs.Folder.{Files}
use Rattle.dl_trace.specs.State.{Trace}
use Rattle.dl_trace.specs.Storing.{IsStored}

-- calls that stored all their frames, each over what the one before it left
abbrev pub Ran : List (List (List ℕ)) → Trace → Option Files → Trace → Option Files → Type 0
Ran [] trace told last now = (last ≡ trace) × (now ≡ told)
Ran (frames ∷ calls) trace told last now = (next : Trace) × (between : Option Files) × IsStored frames trace next told between × Ran calls next between last now
