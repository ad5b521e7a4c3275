-- Levels that went their ways are told the programs that have their contexts.
use Rattle.std.proofs.Common.{◌≡◌, ◌<◌, ◌/◌, ℕ, List, [], ◌∷◌, Option, Some, None, refl, ap, ◌∙◌}
use Rattle.dl_bytes.specs.Limits.{context_limit}
use Rattle.dl_channel.specs.State.{Outbox}
use Rattle.dl_channel_turns.specs.Levels.{put_for, told}
use Rattle.dl_cells.specs.declared.level_history.Change.{Change}
use Rattle.dl_model.specs.Registry.{Registry, IsInOrder}
use Rattle.dl_cells.specs.LevelHistory.{current_version}
use Rattle.dl_registry.specs.Kept.{Kept, channel_at, position_at, slots}
use Rattle.dl_turns.specs.Events.{IsDeskOf}
use Rattle.dl_socket.specs.Messenger.{HasSent, Messenger, told_by}
use Rattle.dl_socket.specs.declared.ways.Way.{Way}
use Rattle.dl_socket.specs.Turns.{told_each}
use Rattle.dl_socket.specs.Ways.{AreInSlots, AreWaysOf, sent_along, sent_by, sent_each, way_to}

one_told : (channel position : Option ℕ) (level : ℕ) (outboxes : List (ℕ × Outbox)) → sent_by (way_to channel position) level outboxes ≡ put_for channel position level outboxes
one_told (Some channel) (Some position) level outboxes = refl
one_told (Some channel) None level outboxes = refl
one_told None position level outboxes = refl

pub all_told : (registry : Registry) (ways : List (Option Way)) (changes : List Change) (outboxes : List (ℕ × Outbox)) → AreWaysOf registry ways → AreInSlots changes
    → sent_each ways changes outboxes ≡ told_each registry changes outboxes
all_told registry ways [] outboxes are within = refl
all_told registry ways (c ∷ changes) outboxes are within =
    ap (λ (o : Option (Option Way)). sent_each ways changes (sent_along o c.level outboxes)) (are c.slot within.0)
    ∙ ap (λ (o : List (ℕ × Outbox)). sent_each ways changes o) (one_told (channel_at registry (c.slot / context_limit)) (position_at registry c.slot) c.level outboxes)
    ∙ all_told registry ways changes (told registry (record { slot = c.slot; level = c.level }) outboxes) are within.1

-- those that a client's turn set
pub asked_told : (registry : Registry) (learnt now : Messenger) (sent : HasSent learnt now) → AreWaysOf registry learnt.ways → now.outboxes ≡ told_each registry sent.changes learnt.outboxes
asked_told registry learnt now sent are = sent.outboxes ∙ all_told registry learnt.ways sent.changes learnt.outboxes are sent.slots

-- what has learnt the slots of a registry is a desk of it
pub learnt_desk : (kept : Kept) (learnt : Messenger) → IsInOrder kept.registry → ((slot : ℕ) → slot < 1024 → (slots kept slot).version ≡ current_version 0 slot learnt.sets)
    → IsDeskOf kept (told_by learnt)
learnt_desk kept learnt order versions = record { numbered = order.numbered.below; versions = versions }
