-- What a change leaves of an application and its contexts.
use Rattle.std.specs.Prelude.{ℕ, zero, suc, List, [], ◌∷◌, ◌++◌, Option, slice_set, slice_get}
use Rattle.std.specs.Option.{option_map_or}
use Rattle.dl_model.specs.declared.context.Context.{Context}
use Rattle.std.specs.Map.{lookup, set_value}
use Rattle.std.specs.Str.{bytes_eq}
use Rattle.dl_model.specs.Registry.{App, Relevel, context_of, with_context, without, keep_own, releveled_app, set_matching}
use Rattle.dl_apps.specs.declared.relevel.Relevel.{Relevel as Levels}
use Rattle.dl_apps.specs.declared.relevel.Relevel.TheVariants.{Keep, Set}

-- told anew: the process id and the description, or the position and the description
abbrev pub told_again : ℕ → List ℕ → App → App
told_again pid text app = record app { pid = pid; text = text }

abbrev pub context_told_again : ℕ → List ℕ → Context → Context
context_told_again position text context = record context { position = position; text = text }

-- with one place more
abbrev pub placed_again : ℕ → Context → Context
placed_again place context = record context { further = context.further ++ place ∷ [] }

-- with this own level
abbrev pub leveled : Option ℕ → Context → Context
leveled own context = record context { own = own }

-- without its context of this id
abbrev pub without_context : List ℕ → App → App
without_context ctid app = record app { contexts = without ctid app.contexts }

-- the own levels that a context gets
abbrev pub relevel_of : Levels → Relevel
relevel_of Keep = keep_own
relevel_of (Set apid ctid own) = set_matching apid ctid own

-- an application of this id with the own levels that its contexts get
abbrev pub releveled_in : Relevel → List ℕ → App → App
releveled_in relevel apid app = (releveled_app relevel (apid, app)).1

-- the entry at one place of the order changed
abbrev pub changed_entry : {X : Type 0} → (X → X) → List X → ℕ → List X
changed_entry change entries place = option_map_or (λ entry. slice_set entries place (change entry)) (slice_get entries place) entries

-- with the application that has an id changed, where it is there
abbrev pub changed_app : List ℕ → (App → App) → List (List ℕ × App) → List (List ℕ × App)
changed_app apid change apps = option_map_or (λ app. set_value (bytes_eq apid) apps (change app)) (lookup (bytes_eq apid) apps) apps

-- with the context of an application changed, where it is there
abbrev pub changed_context : List ℕ → (Context → Context) → App → App
changed_context ctid change app = option_map_or (λ context. with_context app ctid (change context)) (context_of app ctid) app

-- the first so many entries changed
abbrev pub changed_first : {X : Type 0} → (X → X) → ℕ → List X → List X
changed_first change zero entries = entries
changed_first change (suc n) [] = []
changed_first change (suc n) (entry ∷ entries) = change entry ∷ changed_first change n entries
