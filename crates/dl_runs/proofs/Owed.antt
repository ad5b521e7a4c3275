-- The Level event that a journal owes next is the first of those that it owes.
use Rattle.std.proofs.Common.{◌≡◌, ℕ, List, [], ◌∷◌, Option, Some, None, refl}
use Rattle.std.specs.Prelude.{slice_get}
use Rattle.std.specs.List.{filter_map, cons_option}
use Rattle.std.specs.Option.{option_or}
use Rattle.dl_events.specs.declared.event.Event.{Event}
use Rattle.dl_model.specs.declared.registry.Slot.{Slot}
use Rattle.dl_model.specs.Registry.{Registry, change_at, first_change, all_slots}
use Rattle.dl_model.specs.Journal.{registry_of, slots_of, owed}
use Rattle.dl_model.specs.Setting.{Setting}
use Rattle.dl_script_model.specs.Steps.{changes}

-- the first of a list that is made with one more at its front, or not
front_of : {A : Type 0} (o rest : Option A) (xs : List A) → rest ≡ slice_get xs 0 → option_or o rest ≡ slice_get (cons_option o xs) 0
front_of None rest xs e = e
front_of (Some x) rest xs e = refl

first_of : (slots : ℕ → Slot) (registry : Registry) (ns : List ℕ) → first_change slots registry ns ≡ slice_get (filter_map (change_at slots registry) ns) 0
first_of slots registry [] = refl
first_of slots registry (n ∷ ns) =
    front_of (change_at slots registry n) (first_change slots registry ns) (filter_map (change_at slots registry) ns) (first_of slots registry ns)

pub owed_first : (setting : Setting) (events : List Event) → owed setting events ≡ slice_get (changes setting events) 0
unfolding changes
owed_first setting events = first_of (slots_of setting events) (registry_of setting events) all_slots
