-- What the table of slots owes is what the registry owes, and the table at the beginning fits a registry without applications.
use Rattle.std.proofs.Common.{◌≡◌, ℕ, List, [], ◌∷◌, None, ap, refl, ◌∙◌}
use Rattle.std.specs.List.{IsDistinct}
use Rattle.std.specs.Option.{option_or}
use Rattle.dl_bytes.specs.declared.conf.StoredLevel.{StoredLevel}
use Rattle.dl_model.specs.Registry.{Registry, all_slots, first_change, level_at}
use Rattle.dl_registry.specs.Table.{Table, held_at, wanted_at, differing, first_waiting, next_waiting}
use Rattle.dl_registry.proofs.OwedSlots.{same_everywhere, made_table, none_waits}
use Rattle.dl_registry.specs.Kept.{Fits, kept_of, owed_change}

first_waiting-change : (r : Registry) (t : Table) → ((slot : ℕ) → wanted_at t slot ≡ level_at r slot) → (slots : List ℕ) → first_waiting t slots ≡ first_change (held_at t.first t.held) r slots
first_waiting-change r t levels [] = refl
first_waiting-change r t levels (slot ∷ more) =
    ap (λ w. option_or (differing (held_at t.first t.held slot) slot w) (first_waiting t more)) (levels slot)
    ∙ ap (option_or (differing (held_at t.first t.held slot) slot (level_at r slot))) (first_waiting-change r t levels more)

pub next_waiting-owed : (r : Registry) (t : Table) → ((slot : ℕ) → wanted_at t slot ≡ level_at r slot) → next_waiting t ≡ owed_change (kept_of r t)
unfolding next_waiting owed_change
next_waiting-owed r t levels = first_waiting-change r t levels all_slots

pub made_fits : (first level : ℕ) (stored : List StoredLevel) → Fits (record { level = level; stored = stored; apps = [] }) (made_table first)
unfolding IsDistinct
made_fits first level stored = record {
  order = record { numbered = record { apart = tt; below = tt }; placed = tt };
  levels = λ slot. same_everywhere 1024 slot None;
  fresh = λ slot last. none_waits first slot;
}
