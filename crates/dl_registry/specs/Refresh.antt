-- The effective levels of contexts, slot by slot, as they are written into the table: of several for one slot the last.
use Rattle.std.specs.Prelude.{ℕ, ◌==◌, Bool, List, [], ◌∷◌, reverse, Option, None}
use Rattle.std.specs.List.{find, list_any}
use Rattle.std.specs.Map.{lookup, values_of}
use Rattle.std.specs.Option.{option_and_then, option_map, option_or}
use Rattle.std.specs.Str.{bytes_eq}
use Rattle.dl_model.specs.declared.context.Context.{Context}
use Rattle.dl_model.specs.Registry.{App, effective, places_of, slot_of}

-- a context has the slot, by the number of its application
abbrev pub has_slot : ℕ → ℕ → Context → Bool
has_slot number slot context = list_any (λ place. slot == slot_of number place) (places_of context)

-- of these contexts of an application
abbrev pub level_among : ℕ → ℕ → List Context → ℕ → Option ℕ
level_among level number contexts slot = option_map (effective level) (find (has_slot number slot) contexts)

-- of an application, its last context first
abbrev pub level_in_app : ℕ → App → ℕ → Option ℕ
level_in_app level app slot = level_among level app.number (reverse (values_of app.contexts)) slot

-- of applications, the first of which that has one decides
abbrev pub level_in_apps : ℕ → List App → ℕ → Option ℕ
level_in_apps level [] slot = None
level_in_apps level (app ∷ apps) slot = option_or (level_in_app level app slot) (level_in_apps level apps slot)

-- of the application that an id names
abbrev pub level_named : ℕ → List (List ℕ × App) → List ℕ → ℕ → Option ℕ
level_named level apps apid slot = option_and_then (λ app. level_in_app level app slot) (lookup (bytes_eq apid) apps)
