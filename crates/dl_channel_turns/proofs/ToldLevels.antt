-- Levels that are told, one after the other.
use Rattle.std.proofs.Common.{◌≡◌, ℕ, List, [], ◌∷◌, Option, Some, None, Result, Ok, Err, refl, sym, ap, subst, ◌∙◌}
use Rattle.std.specs.Result.{result_err}
use Rattle.dl_channel.specs.State.{Outbox}
use Rattle.dl_events.specs.declared.event.Event.{Event}
use Rattle.dl_model.specs.Registry.{Registry}
use Rattle.dl_model.specs.declared.registry.LevelChange.{LevelChange}
use Rattle.dl_model.specs.declared.registry.RegistryFault.{RegistryFault}
use Rattle.dl_outside.specs.Told.{FolderTold}
use Rattle.dl_registry.specs.Kept.{Applies, Kept, owed_change}
use Rattle.dl_core.specs.State.{Core}
use Rattle.dl_channel_turns.specs.Levels.{HaveToldLevels, TellsLevel, answer_to, answered, unless_refused}
use Rattle.dl_channel_turns.specs.State.{Side, side}
use Rattle.dl_channel_turns.specs.declared.registration.Registration.{Registration}

pub levels_next : (next : LevelChange) (old between new : Side) → TellsLevel next old between → HaveToldLevels between new → HaveToldLevels old new
levels_next next old between new one others = (next ∷ others.0, (between, one, others.1))

pub levels_none : (old new : Side) → new ≡ old → owed_change new.core.registry ≡ None → HaveToldLevels old new
levels_none old new same none = ([], (same, ap (λ (s : Side). owed_change s.core.registry) (sym same) ∙ none))

-- only the registry of a core changed
abbrev pub OnlyRegistry : Core → Core → Type 0
OnlyRegistry old new = new ≡ record old { registry = new.registry }

-- ---- answers

-- where a Level event is owed, that is the answer
no_answer : (asked : Option Registration) (registry : Registry) (owed : LevelChange) → answer_to asked (Ok registry) (Some owed) ≡ None
no_answer None registry owed = refl
no_answer (Some r) registry owed = refl

module _ (channel : ℕ) (registered : Option Registration) (outboxes : List (ℕ × Outbox)) (events : Option (List Event)) (folder : FolderTold) (core : Core) where
  -- the side that is answered
  abbrev pub with_answer : Side
  with_answer = side core (answered channel (answer_to registered (Ok core.registry.registry) (owed_change core.registry)) outboxes) events folder

  -- with the Level event that is owed
  pub answers_owed : (next : LevelChange) (between new : Side) → TellsLevel next (side core outboxes events folder) between → HaveToldLevels between new → HaveToldLevels with_answer new
  answers_owed next between new one others =
      let none : answered channel (answer_to registered (Ok core.registry.registry) (owed_change core.registry)) outboxes ≡ outboxes =
      ap (λ (o : Option LevelChange). answered channel (answer_to registered (Ok core.registry.registry) o) outboxes) one.owed
      ∙ ap (λ (m : Option (List ℕ)). answered channel m outboxes) (no_answer registered core.registry.registry next) in
      subst (λ (o : List (ℕ × Outbox)). HaveToldLevels (side core o events folder) new) (sym none) (levels_next next (side core outboxes events folder) between new one others)

  -- where none is owed
  pub answers_none : (core_now : Core) (outboxes_now between : List (ℕ × Outbox)) (events_now : Option (List Event)) → owed_change core_now.registry ≡ None → core_now ≡ core → between ≡ outboxes → events_now ≡ events
      → outboxes_now ≡ answered channel (answer_to registered (Ok core_now.registry.registry) None) between → HaveToldLevels with_answer (side core_now outboxes_now events_now folder)
  answers_none core_now outboxes_now between events_now none core_so outboxes_so events_so is =
      let owed : owed_change core.registry ≡ None = ap (λ (c : Core). owed_change c.registry) (sym core_so) ∙ none in
      let put : outboxes_now ≡ answered channel (answer_to registered (Ok core.registry.registry) (owed_change core.registry)) outboxes =
      is ∙ (λ i. answered channel (answer_to registered (Ok (core_so i).registry.registry) None) (outboxes_so i))
      ∙ ap (λ (o : Option LevelChange). answered channel (answer_to registered (Ok core.registry.registry) o) outboxes) (sym owed) in
      levels_none with_answer (side core_now outboxes_now events_now folder) (λ i. side (core_so i) (put i) (events_so i) folder) none

-- what was accepted is answered as its outcome says
pub answer_so : (asked : Option Registration) (outcome : Result Registry RegistryFault) (old new : Kept) (refusal : Option RegistryFault) (owed : Option LevelChange) → refusal ≡ result_err outcome → Applies outcome old outcome new
    → answer_to (unless_refused refusal asked) (Ok new.registry) owed ≡ answer_to asked outcome owed
answer_so asked (Ok registry) old new refusal owed is applies =
    ap (λ (r : Option RegistryFault). answer_to (unless_refused r asked) (Ok new.registry) owed) is ∙ ap (λ (o : Result Registry RegistryFault). answer_to asked o owed) (sym applies.0)
answer_so asked (Err e) old new refusal owed is applies =
    ap (λ (r : Option RegistryFault). answer_to (unless_refused r asked) (Ok new.registry) owed) is ∙ none asked
  where
    none : (asked : Option Registration) → None ≡ answer_to asked (Err e) owed
    none None = refl
    none (Some r) = refl
