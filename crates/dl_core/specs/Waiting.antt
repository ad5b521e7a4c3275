-- How many Level events wait.
use Rattle.std.specs.Prelude.{ℕ, ◌==◌, length, if◌then◌else◌, Option, Some, None}
use Rattle.std.specs.List.{filter_map}
use Rattle.std.specs.Option.{option_and_then}
use Rattle.dl_bytes.specs.declared.user.UserMsg.{UserMsg}
use Rattle.dl_bytes.specs.declared.user.UserMsg.TheVariants.{RegisterContext}
use Rattle.dl_model.specs.Registry.{Registry, change_at, all_slots, level_at}
use Rattle.dl_registry.specs.Kept.{Kept, slots}

-- how many slots hold another level than their context has: each of them is owed a Level event
unfoldable pub waiting : Kept → ℕ
waiting kept = length (filter_map (change_at (slots kept) kept.registry) all_slots)

-- how many slots a user message may give another level: that of a context that comes
abbrev pub changes_by : UserMsg → ℕ
changes_by (RegisterContext apid ctid position level trace pid text) = 1
changes_by other = 0

-- the level of a slot's context, where that is another one than this
abbrev pub other_at : ℕ → Registry → ℕ → Option ℕ
other_at level registry slot = option_and_then (λ found. if found == level then None else Some found) (level_at registry slot)

-- how many slots' contexts have another level than this
unfoldable pub others : ℕ → Kept → ℕ
others level kept = length (filter_map (other_at level kept.registry) all_slots)
