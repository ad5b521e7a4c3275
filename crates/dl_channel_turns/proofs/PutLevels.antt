-- Levels that are put for a channel.
use Rattle.std.proofs.Common.{◌≡◌, ◌<◌, ◌+◌, ◌⊎◌, ℕ, Bool, true, false, cond, List, [], ◌∷◌, ◌++◌, length, map, Option, Some, None, inl, inr, refl, sym, ap, subst, ◌∙◌, append_assoc, arith}
use Rattle.std.specs.Prelude.{nat_eq}
use Rattle.std.specs.List.{concat}
use Rattle.std.specs.Map.{lookup, set_value}
use Rattle.std.specs.Option.{option_map_or}
use Rattle.std.proofs.lemmas.Bool.Decides.{eqb_tells, leb_tells}
use Rattle.std.proofs.lemmas.List.{append-nil}
use Rattle.dl_model.specs.Registry.{Registry}
use Rattle.dl_model.specs.declared.registry.LevelChange.{LevelChange}
use Rattle.dl_channel.specs.Levels.{level_message, with_level, with_message}
use Rattle.dl_channel.specs.State.{Outbox, waiting_limit}
use Rattle.dl_core.specs.Admission.{AddsEach}
use Rattle.dl_core.specs.State.{Core}
use Rattle.dl_turns.proofs.AddedEvents.{each_both, each_none}
use Rattle.dl_channel_turns.specs.Levels.{TellsLevels, put_for}
use Rattle.dl_channel_turns.specs.Put.{ArePut, IsPut, level_event, message_for, messages_for, to_channel}
use Rattle.dl_channel_turns.specs.State.{Side, changed, outbox_of}

-- ---- one channel's outbox

found_same : (channel : ℕ) (es : List (ℕ × Outbox)) (o w : Outbox) → lookup (nat_eq channel) es ≡ Some o → lookup (nat_eq channel) (set_value (nat_eq channel) es w) ≡ Some w
found_same channel [] o w found = absurd (cc found)
found_same channel (e ∷ es) o w found = by (nat_eq channel e.0) refl found (λ is. found_same channel es o w is) where
  by : (b : Bool) → nat_eq channel e.0 ≡ b → cond b (Some e.1) (lookup (nat_eq channel) es) ≡ Some o
      → (lookup (nat_eq channel) es ≡ Some o → lookup (nat_eq channel) (set_value (nat_eq channel) es w) ≡ Some w)
      → lookup (nat_eq channel) (cond b ((e.0, w) ∷ es) (e ∷ set_value (nat_eq channel) es w)) ≡ Some w
  by true is there rest = ap (λ (b : Bool). cond b (Some w) (lookup (nat_eq channel) es)) is
  by false is there rest = ap (λ (b : Bool). cond b (Some e.1) (lookup (nat_eq channel) (set_value (nat_eq channel) es w))) is ∙ rest there

found_other : (other channel : ℕ) (es : List (ℕ × Outbox)) (w : Outbox) → nat_eq channel other ≡ false → lookup (nat_eq channel) (set_value (nat_eq other) es w) ≡ lookup (nat_eq channel) es
found_other other channel [] w apart = refl
found_other other channel (e ∷ es) w apart = elim (eqb_tells other e.0) [
  | inl here ↦
      let not_here : nat_eq channel e.0 ≡ false = ap (nat_eq channel) (sym here.1) ∙ apart in
      ap (λ (b : Bool). lookup (nat_eq channel) (cond b ((e.0, w) ∷ es) (e ∷ set_value (nat_eq other) es w))) here.0
      ∙ ap (λ (b : Bool). cond b (Some w) (lookup (nat_eq channel) es)) not_here ∙ sym (ap (λ (b : Bool). cond b (Some e.1) (lookup (nat_eq channel) es)) not_here)
  | inr there ↦
      ap (λ (b : Bool). lookup (nat_eq channel) (cond b ((e.0, w) ∷ es) (e ∷ set_value (nat_eq other) es w))) there.0
      ∙ ap (λ (l : Option Outbox). cond (nat_eq channel e.0) (Some e.1) l) (found_other other channel es w apart)
]

outbox_here : (channel : ℕ) (change : Outbox → Outbox) (outboxes : List (ℕ × Outbox)) (o : Outbox) → outbox_of outboxes channel ≡ Some o → outbox_of (changed channel change outboxes) channel ≡ Some (change o)
outbox_here channel change outboxes o at =
    ap (λ (p : Option Outbox). outbox_of (option_map_or (λ outbox. set_value (nat_eq channel) outboxes (change outbox)) p outboxes) channel) at ∙ found_same channel outboxes o (change o) at

outbox_elsewhere : (other channel : ℕ) (change : Outbox → Outbox) (outboxes : List (ℕ × Outbox)) → nat_eq channel other ≡ false → outbox_of (changed other change outboxes) channel ≡ outbox_of outboxes channel
outbox_elsewhere other channel change outboxes apart = by (outbox_of outboxes other) where
  by : (p : Option Outbox) → outbox_of (option_map_or (λ outbox. set_value (nat_eq other) outboxes (change outbox)) p outboxes) channel ≡ outbox_of outboxes channel
  by None = refl
  by (Some x) = found_other other channel outboxes (change x) apart

-- ---- messages, one behind the other

abbrev put_each : List (List ℕ) → Outbox → Outbox
put_each [] outbox = outbox
put_each (message ∷ messages) outbox = put_each messages (with_message message outbox)

put_both : (first more : List (List ℕ)) (outbox : Outbox) → put_each (first ++ more) outbox ≡ put_each more (put_each first outbox)
put_both [] more outbox = refl
put_both (message ∷ first) more outbox = put_both first more (with_message message outbox)

full_stays : (messages : List (List ℕ)) (waiting : List ℕ) → put_each messages (record { waiting = waiting; full = true }) ≡ record { waiting = waiting; full = true }
full_stays [] waiting = refl
full_stays (message ∷ messages) waiting = full_stays messages waiting

not_one : (messages : List (List ℕ)) (old : Outbox) (waiting : List ℕ) → old.waiting ≡ waiting
    → ((next : List ℕ) (behind : List (List ℕ)) → messages ≡ next ∷ behind → (old.full ≡ true) ⊎ (waiting_limit < length waiting + length next))
    → ArePut messages old (record { waiting = waiting; full = true })
not_one messages old waiting same out = record {
  fitting = [];
  others = messages;
  all = refl;
  waiting = sym same ∙ sym (append-nil old.waiting);
  every = λ is. absurd cc;
  first_out = out;
}

are_put : (messages : List (List ℕ)) (waiting : List ℕ) (full : Bool) → ArePut messages (record { waiting = waiting; full = full }) (put_each messages (record { waiting = waiting; full = full }))
are_put messages waiting true =
    subst (ArePut messages (record { waiting = waiting; full = true })) (sym (full_stays messages waiting))
    (not_one messages (record { waiting = waiting; full = true }) waiting refl (λ next behind is. inl refl))
are_put [] waiting false = record { fitting = []; others = []; all = refl; waiting = sym (append-nil waiting); every = λ is. refl; first_out = λ next behind is. absurd cc }
are_put (message ∷ messages) waiting false = elim (leb_tells (length waiting + length message) waiting_limit) [
  | inl fits ↦
      let rest = are_put messages (waiting ++ message) false in
      let more : ArePut (message ∷ messages) old (put_each messages (record { waiting = waiting ++ message; full = false })) = record {
        fitting = message ∷ rest.fitting;
        others = rest.others;
        all = ap (λ (ms : List (List ℕ)). message ∷ ms) rest.all;
        waiting = rest.waiting ∙ append_assoc waiting message (concat rest.fitting);
        every = rest.every;
        first_out = λ next behind is. elim (rest.first_out next behind is) [ inl full ↦ absurd cc | inr above ↦ inr above ];
      } in
      subst (ArePut (message ∷ messages) old) (sym (ap after fits.0)) more
  | inr above ↦
      let none : ArePut (message ∷ messages) old (record { waiting = waiting; full = true }) = not_one (message ∷ messages) old waiting refl
      (λ next behind is. let same : message ≡ next = cc is in inr (omega (arith, above.1, ap length same))) in
      subst (ArePut (message ∷ messages) old) (sym (ap after above.0 ∙ full_stays messages waiting)) none
] where
  old : Outbox
  old = record { waiting = waiting; full = false }

  after : Bool → Outbox
  after b = put_each messages (cond b (record { waiting = waiting ++ message; full = false }) (record { waiting = waiting; full = true }))

-- ---- a level that is told

module _ (channel : ℕ) where
  put_one : (app place : Option ℕ) (level : ℕ) (outboxes : List (ℕ × Outbox)) (o : Outbox) → outbox_of outboxes channel ≡ Some o
      → outbox_of (put_for app place level outboxes) channel ≡ Some (put_each (to_channel channel app place level) o)
  put_one None place level outboxes o at = at
  put_one (Some other) None level outboxes o at = at
  put_one (Some other) (Some position) level outboxes o at = elim (eqb_tells other channel) [
    | inl here ↦
        ap (λ (n : ℕ). outbox_of (changed n (with_level level position) outboxes) channel) here.1 ∙ outbox_here channel (with_level level position) outboxes o at
        ∙ sym (ap (λ (b : Bool). Some (put_each (cond b (level_message level position ∷ []) []) o)) here.0)
    | inr there ↦
        outbox_elsewhere other channel (with_level level position) outboxes (not_same channel other (λ is. there.1 (sym is))) ∙ at
        ∙ sym (ap (λ (b : Bool). Some (put_each (cond b (level_message level position ∷ []) []) o)) there.0)
  ] where
    not_same : (a b : ℕ) → (a ≡ b → ⊥) → nat_eq a b ≡ false
    not_same a b apart = elim (eqb_tells a b) [ inl same ↦ absurd (apart same.1) | inr other ↦ other.0 ]

  put_levels : (changes : List LevelChange) (old new : Side) (o : Outbox) → TellsLevels changes old new → outbox_of old.outboxes channel ≡ Some o
      → outbox_of new.outboxes channel ≡ Some (put_each (messages_for old.core.registry.registry channel changes) o)
  put_levels [] old new o levels at = ap (λ (s : Side). outbox_of s.outboxes channel) levels.0 ∙ at
  put_levels (next ∷ others) old new o levels at =
      let between = levels.0 in
      let registry : Registry = old.core.registry.registry in
      let first : List (List ℕ) = message_for registry channel next in
      let same : between.core.registry.registry ≡ registry = ap (λ (c : Core). c.registry.registry) levels.1.core in
      let now = ap (λ (outs : List (ℕ × Outbox)). outbox_of outs channel) levels.1.outboxes ∙ put_one _ _ next.level old.outboxes o at in
      put_levels others between new (put_each first o) levels.2 now
      ∙ ap (λ (r : Registry). Some (put_each (messages_for r channel others) (put_each first o))) same
      ∙ ap Some (sym (put_both first (messages_for registry channel others) o))

  levels_noted : (changes : List LevelChange) (old new : Side) → TellsLevels changes old new → AddsEach old.events new.events (map level_event changes)
  levels_noted [] old new levels = subst (λ (s : Side). AddsEach old.events s.events []) (sym levels.0) (each_none old.events)
  levels_noted (next ∷ others) old new levels =
      each_both old.events levels.0.events new.events (level_event next ∷ []) (map level_event others) levels.1.events (levels_noted others levels.0 new levels.2)

  pub levels_put : (changes : List LevelChange) (old new : Side) (o : Outbox) → TellsLevels changes old new → outbox_of old.outboxes channel ≡ Some o → IsPut channel changes o old new
  levels_put changes old new o levels at =
      let messages = messages_for old.core.registry.registry channel changes in
      record {
        events = levels_noted changes old new levels;
        outbox_now = put_each messages o;
        is_now = put_levels changes old new o levels at;
        put = are_put messages o.waiting o.full;
      }
