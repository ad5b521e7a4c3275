-- Levels that go their ways, one list behind another.
use Rattle.std.proofs.Common.{◌≡◌, ℕ, List, [], ◌∷◌, ◌++◌, Option, slice_get, sym, refl, ap, ◌∙◌, append-nil, append_assoc}
use Rattle.dl_channel.specs.State.{Outbox}
use Rattle.dl_cells.specs.declared.level_history.Change.{Change}
use Rattle.dl_socket.specs.declared.ways.Way.{Way}
use Rattle.dl_socket.specs.Messenger.{Messenger, HasSent}
use Rattle.dl_socket.specs.Ways.{AreInSlots, sent_along, sent_each}

pub sent_each-append : (ways : List (Option Way)) (first second : List Change) (outboxes : List (ℕ × Outbox))
    → sent_each ways (first ++ second) outboxes ≡ sent_each ways second (sent_each ways first outboxes)
sent_each-append ways [] second outboxes = refl
sent_each-append ways (c ∷ first) second outboxes = sent_each-append ways first second (sent_along (slice_get ways c.slot) c.level outboxes)

pub in_slots-append : (first second : List Change) → AreInSlots first → AreInSlots second → AreInSlots (first ++ second)
in_slots-append [] second are both = both
in_slots-append (c ∷ first) second are both = (are.0, in_slots-append first second are.1 both)

-- at first nothing was set
pub none_sent : (m : Messenger) → HasSent m m
none_sent m = record { changes = []; sets = sym (append-nil m.sets); slots = tt; ways = refl; outboxes = refl }

-- what was set later comes behind
pub more_sent : (p q r : Messenger) → HasSent p q → HasSent q r → HasSent p r
more_sent p q r first second = record {
  changes = first.changes ++ second.changes;
  sets = second.sets ∙ ap (λ (s : List Change). s ++ second.changes) first.sets ∙ append_assoc p.sets first.changes second.changes;
  slots = in_slots-append first.changes second.changes first.slots second.slots;
  ways = second.ways ∙ first.ways;
  outboxes = second.outboxes ∙ ap (λ (w : List (Option Way)). sent_each w second.changes q.outboxes) first.ways
      ∙ ap (λ (o : List (ℕ × Outbox)). sent_each p.ways second.changes o) first.outboxes
      ∙ sym (sent_each-append p.ways first.changes second.changes p.outboxes);
}
