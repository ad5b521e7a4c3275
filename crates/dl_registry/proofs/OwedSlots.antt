-- The first slot that waits.
use Rattle.std.proofs.Common.{◌≡◌, ℕ, zero, suc, ◌+◌, ◌<◌, ◌≤◌, inl, inr, Bool, true, false, cond, length, replicate, List, [], ◌∷◌, Option, Some, None, refl, sym, ap, subst, ◌∙◌, arith}
use Rattle.std.specs.List.{range_with_len}
use Rattle.std.specs.Prelude.{◌==◌, slice_index_or}
use Rattle.std.specs.Option.{option_map, option_or}
use Rattle.std.proofs.lemmas.List.{get_or-set_same, get_or-set_other, length-replicate}
use Rattle.dl_model.specs.declared.registry.Slot.{Slot}
use Rattle.dl_bytes.specs.Limits.{last_version}
use Rattle.dl_model.specs.Registry.{all_slots}
use Rattle.std.proofs.lemmas.Bool.Decides.{eqb_tells}
use Rattle.dl_model.specs.declared.registry.LevelChange.{LevelChange}
use Rattle.dl_registry.specs.Table.{Table, held_at, held_after, wanted_at, waiting_at, differing, raised, unset, first_waiting, next_waiting, IsFirstWaiting, IsFresh, Holds}

first_waiting-none : (t : Table) (a n : ℕ) → ((k : ℕ) → waiting_at t k ≡ None) → first_waiting t (range_with_len a n) ≡ None
first_waiting-none t a zero none = refl
first_waiting-none t a (suc n) none = ap (λ o. option_or o (first_waiting t (range_with_len (a + 1) n))) (none a) ∙ first_waiting-none t (a + 1) n none

first_waiting-found : (t : Table) (a n slot : ℕ) (change : LevelChange) → a ≤ slot → slot < a + n → ((k : ℕ) → k < slot → waiting_at t k ≡ None) → waiting_at t slot ≡ Some change
    → first_waiting t (range_with_len a n) ≡ Some change
first_waiting-found t a zero slot change from to before here = absurd (omega arith)
first_waiting-found t a (suc n) slot change from to before here = elim (eqb_tells a slot) [
  | inl same ↦ ap (λ o. option_or o (first_waiting t (range_with_len (a + 1) n))) (ap (waiting_at t) same.1 ∙ here)
  | inr other ↦
      ap (λ o. option_or o (first_waiting t (range_with_len (a + 1) n))) (before a (omega (arith, other.1)))
      ∙ first_waiting-found t (a + 1) n slot change (omega (arith, other.1)) (omega arith) before here
]

pub next_waiting-none : (t : Table) → ((k : ℕ) → waiting_at t k ≡ None) → next_waiting t ≡ None
unfolding next_waiting
next_waiting-none t none = first_waiting-none t 0 1024 none

pub next_waiting-found : (t : Table) (slot : ℕ) (change : LevelChange) → slot < 1024 → ((k : ℕ) → k < slot → waiting_at t k ≡ None) → waiting_at t slot ≡ Some change → next_waiting t ≡ Some change
unfolding next_waiting
next_waiting-found t slot change within before here = first_waiting-found t 0 1024 slot change (omega arith) (omega arith) before here

-- what was found by a search is the first of all that wait
pub next_waiting-is : (t : Table) (found : Option LevelChange) → IsFirstWaiting t found → found ≡ next_waiting t
next_waiting-is t None none = sym (next_waiting-none t none)
next_waiting-is t (Some change) first = sym (next_waiting-found t change.slot change first.0 first.2 first.1)

-- ---- the beginning

pub same_everywhere : {A : Type 0} (n i : ℕ) (a : A) → slice_index_or (replicate n a) i a ≡ a
same_everywhere zero i a = refl
same_everywhere (suc n) zero a = refl
same_everywhere (suc n) (suc i) a = same_everywhere n i a

-- the table at the beginning
abbrev pub made_table : ℕ → Table
made_table first = record { first = first; held = replicate 1024 (unset first); wanted = replicate 1024 None }

pub none_waits : (first slot : ℕ) → waiting_at (made_table first) slot ≡ None
none_waits first slot = ap (differing (held_at first (replicate 1024 (unset first)) slot) slot) (same_everywhere 1024 slot None)

pub made_holds : (first : ℕ) → first ≤ last_version → Holds (made_table first) 0 0
made_holds first below = record {
  slots = length-replicate 1024 (unset first);
  levels = length-replicate {A = Option ℕ} 1024 None;
  versions = λ slot. subst (λ (s : Slot). s.version ≤ last_version) (sym (same_everywhere 1024 slot (unset first))) below;
  bounds = omega arith;
  settled = λ slot out. none_waits first slot;
}
