-- There is a desk of each registry, so that what is so for every desk of it is so.
use Rattle.std.proofs.Common.{◌≡◌, ◌<◌, ℕ, zero, suc, List, [], inl, inr, sym, subst, ◌∙◌, arith}
use Rattle.std.proofs.lemmas.Bool.{cases_lt}
use Rattle.dl_desk.specs.Told.{ControlTold}
use Rattle.dl_cells.specs.LevelHistory.{current_version}
use Rattle.dl_cells.specs.declared.level_history.Change.{Change}
use Rattle.dl_model.specs.Registry.{IsInOrder}
use Rattle.dl_registry.specs.Kept.{Kept, slots}
use Rattle.dl_socket.specs.History.{with_version}
use Rattle.dl_socket.specs.Messenger.{told_by}
use Rattle.dl_socket.proofs.Versions.{others_stand, resumed}
use Rattle.dl_turns.specs.Events.{IsDeskOf}

-- levels that were set in the first so many slots, in each as often as its version says
unfoldable pub set_upto : (ℕ → ℕ) → ℕ → List Change
set_upto version zero = []
set_upto version (suc slot) = with_version slot (version slot) (set_upto version slot)

set_one : (version : ℕ → ℕ) (last slot : ℕ) (sets : List Change) → slot < suc last → (slot < last → current_version 0 slot sets ≡ version slot)
    → current_version 0 slot (with_version last (version last) sets) ≡ version slot
set_one version last slot sets below before = elim (cases_lt slot last) [
  | inl lower ↦ others_stand last slot (version last) sets (λ same. omega (arith, lower, same)) ∙ before lower
  | inr above ↦
      let same : last ≡ slot = omega (arith, below, above) in
      subst (λ (n : ℕ). current_version 0 n (with_version last (version last) sets) ≡ version n) same (resumed last (version last) sets)
]

set_all : (version : ℕ → ℕ) (many slot : ℕ) → slot < many → current_version 0 slot (set_upto version many) ≡ version slot
unfolding set_upto
set_all version zero slot below = absurd (omega (arith, below))
set_all version (suc last) slot below = set_one version last slot (set_upto version last) below (λ lower. set_all version last slot lower)

-- what sets levels for this registry
unfoldable pub some_desk : Kept → ControlTold
some_desk kept = told_by (record { outboxes = []; ways = []; sets = set_upto (λ slot. (slots kept slot).version) 1024; refused = [] })

pub is_desk : (kept : Kept) → IsInOrder kept.registry → IsDeskOf kept (some_desk kept)
unfolding some_desk
is_desk kept order = record {
  numbered = order.numbered.below;
  versions = λ slot within. sym (set_all (λ s. (slots kept s).version) 1024 slot within);
}
