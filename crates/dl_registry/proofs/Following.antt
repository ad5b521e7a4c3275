-- What is kept after the calls, against a journal with one event more.
use Rattle.std.proofs.Common.{◌≡◌, ◌≢◌, inl, inr, ℕ, zero, suc, ◌+◌, ◌<◌, Bool, true, false, cond, List, [], ◌∷◌, ◌++◌, length, Option, Some, None, unwrap_or, Result, Ok, Err, refl, sym, ap, ◌∙◌, arith}
use Rattle.std.specs.Prelude.{◌==◌, if◌then◌else◌}
use Rattle.std.specs.List.{range_with_len}
use Rattle.std.specs.Option.{option_and_then, option_map, option_or}
use Rattle.std.specs.Result.{result_ok, result_unwrap_or}
use Rattle.std.proofs.lemmas.Bool.Decides.{eqb_tells}
use Rattle.std.proofs.lemmas.List.{get_or-set_same, get_or-set_other, length-set, length-replicate}
use Rattle.dl_bytes.specs.Claim.{Claimed}
use Rattle.dl_bytes.specs.declared.moment.Moment.{Moment}
use Rattle.dl_bytes.specs.declared.outcome.Done.{Done}
use Rattle.dl_bytes.specs.declared.user.UserMsg.{UserMsg}
use Rattle.dl_events.specs.declared.event.Event.{Event}
use Rattle.dl_events.specs.declared.event.Event.TheVariants.{User, Claim, Level, Request}
use Rattle.dl_model.specs.declared.registry.LevelChange.{LevelChange}
use Rattle.dl_model.specs.declared.registry.RegistryFault.{RegistryFault}
use Rattle.dl_model.specs.declared.registry.RegistryFault.TheVariants as fault
use Rattle.dl_model.specs.declared.registry.SetFault.{SetFault}
use Rattle.dl_model.specs.declared.registry.Slot.{Slot}
use Rattle.dl_model.specs.History.{level_for, slot_after}
use Rattle.dl_model.specs.Journal.{step, slots_of, owed}
use Rattle.dl_model.specs.Registry.{Registry, applied, change_at, first_change, level_at, next_change}
use Rattle.dl_model.specs.Reply.{asked, served}
use Rattle.dl_model.specs.Setting.{Setting}
use Rattle.dl_model.proofs.OneMore.{registry-one, slot-one, slot-other, level_for-own}
use Rattle.dl_registry.specs.Kept.{Kept, Applies, Claims, Sets, IsAfter, made, slots, owed_change, with_change}
use Rattle.dl_registry.proofs.OwedSlots.{same_everywhere}
use Rattle.dl_registry.specs.Table.{held_at, held_after, raised, unset}

held_alike : (m n : ℕ) (xs ys : List Slot) → m ≡ n → xs ≡ ys → held_at m xs ≡ held_at n ys
held_alike m n xs ys first held = λ i. held_at (first i) (held i)

-- an event that gives no level, which leaves this registry
pub after_event : (setting : Setting) (events : List Event) (event : Event) (old new : Kept) → IsAfter setting events old → ((slot : ℕ) → level_for slot event ≡ None)
    → new.first ≡ old.first → new.held ≡ old.held → new.registry ≡ step setting (slots old) old.registry event → IsAfter setting (events ++ event ∷ []) new
after_event setting events event old new is none first held registry = record {
  registry = registry ∙ (ap (λ (s : ℕ → Slot). step setting s old.registry event) is.slots ∙ (ap (λ (r : Registry). step setting (slots_of setting events) r event) is.registry ∙ sym (registry-one setting events event)));
  slots = held_alike new.first old.first new.held old.held first held ∙ (is.slots ∙ same);
  all = ap length held ∙ is.all;
}
  where
    same : slots_of setting events ≡ slots_of setting (events ++ event ∷ [])
    same = λ i slot. sym (slot-other setting.first events slot event (none slot)) i

-- ---- messages

applied_registry : (outcome : Result Registry RegistryFault) (old new : Kept) (result : Result (Unit {0}) RegistryFault) → Applies outcome old result new → result ≢ Err fault.OutOfMemory
    → (new.first ≡ old.first) × (new.held ≡ old.held) × (new.registry ≡ result_unwrap_or outcome old.registry)
applied_registry outcome old new (Ok x) is memory = (ap (λ (k : Kept). k.first) is.1, ap (λ (k : Kept). k.held) is.1, ap (λ (o : Result Registry RegistryFault). result_unwrap_or o old.registry) (sym is.0))
applied_registry outcome old new (Err fault.OutOfMemory) is memory = absurd (memory refl)
applied_registry outcome old new (Err other) is memory = (ap (λ (k : Kept). k.first) is.1, ap (λ (k : Kept). k.held) is.1, ap (λ (k : Kept). k.registry) is.1 ∙ ap (λ (o : Result Registry RegistryFault). result_unwrap_or o old.registry) (sym is.0))

pub message_follows : (setting : Setting) (events : List Event) (channel : ℕ) (msg : UserMsg) (moment : Moment) (result : Result (Unit {0}) RegistryFault) (old new : Kept)
    → IsAfter setting events old → Applies (applied (slots old) old.registry channel msg) old result new → result ≢ Err fault.OutOfMemory → IsAfter setting (events ++ User channel msg moment ∷ []) new
message_follows setting events channel msg moment result old new is call memory =
    let left = applied_registry (applied (slots old) old.registry channel msg) old new result call memory in
    after_event setting events (User channel msg moment) old new is (λ slot. refl) left.0 left.1 left.2

pub claim_follows : (setting : Setting) (events : List Event) (claim : Claimed) (moment : Moment) (old new : Kept) → IsAfter setting events old → Claims claim old new → IsAfter setting (events ++ Claim claim moment ∷ []) new
claim_follows setting events claim moment old new is call =
    after_event setting events (Claim claim moment) old new is (λ slot. refl) (ap (λ (k : Kept). k.first) call) (ap (λ (k : Kept). k.held) call) (ap (λ (k : Kept). k.registry) call)

-- ---- changes

pub change_is_owed : (setting : Setting) (events : List Event) (kept : Kept) → IsAfter setting events kept → owed_change kept ≡ owed setting events
unfolding owed_change
change_is_owed setting events kept is = ap (λ (s : ℕ → Slot). next_change s kept.registry) is.slots ∙ ap (next_change (slots_of setting events)) is.registry

-- a change that is owed is of one of the slots
change_at-slot : (s : ℕ → Slot) (r : Registry) (slot : ℕ) (change : LevelChange) → change_at s r slot ≡ Some change → slot ≡ change.slot
change_at-slot s r slot change is = by (level_at r slot) is where
  differs : (b : Bool) (level : ℕ) → cond b None (Some (let c : LevelChange = record { slot = slot; level = level } in c)) ≡ Some change → slot ≡ change.slot
  differs true level is = absurd (cc is)
  differs false level is = let same : Some slot ≡ Some change.slot = ap (option_map (λ (c : LevelChange). c.slot)) is in cc same

  by : (o : Option ℕ) → option_and_then (λ level. if (s slot).level == level then None else Some (let c : LevelChange = record { slot = slot; level = level } in c)) o ≡ Some change → slot ≡ change.slot
  by None is = absurd (cc is)
  by (Some level) is = differs ((s slot).level == level) level is

first_change-within : (s : ℕ → Slot) (r : Registry) (a n : ℕ) (change : LevelChange) → first_change s r (range_with_len a n) ≡ Some change → change.slot < a + n
first_change-within s r a zero change is = absurd (cc is)
first_change-within s r a (suc n) change is = by (change_at s r a) refl is (λ rest. let below : change.slot < a + 1 + n = first_change-within s r (a + 1) n change rest in omega arith) where
  by : (o : Option LevelChange) → change_at s r a ≡ o → option_or o (first_change s r (range_with_len (a + 1) n)) ≡ Some change
      → (first_change s r (range_with_len (a + 1) n) ≡ Some change → change.slot < a + suc n) → change.slot < a + suc n
  by None at is rest = rest is
  by (Some x) at is rest = let here : a ≡ change.slot = change_at-slot s r a change (at ∙ is) in omega arith

-- and it is the level of the context that has the slot
change_at-level : (s : ℕ → Slot) (r : Registry) (slot : ℕ) (change : LevelChange) → change_at s r slot ≡ Some change → level_at r slot ≡ Some change.level
change_at-level s r slot change is = by (level_at r slot) is where
  differs : (b : Bool) (level : ℕ) → cond b None (Some (let c : LevelChange = record { slot = slot; level = level } in c)) ≡ Some change → Some level ≡ Some change.level
  differs true level is = absurd (cc is)
  differs false level is = ap (option_map (λ (c : LevelChange). c.level)) is

  by : (o : Option ℕ) → option_and_then (λ level. if (s slot).level == level then None else Some (let c : LevelChange = record { slot = slot; level = level } in c)) o ≡ Some change → o ≡ Some change.level
  by None is = absurd (cc is)
  by (Some level) is = differs ((s slot).level == level) level is

first_change-level : (s : ℕ → Slot) (r : Registry) (a n : ℕ) (change : LevelChange) → first_change s r (range_with_len a n) ≡ Some change → level_at r change.slot ≡ Some change.level
first_change-level s r a zero change is = absurd (cc is)
first_change-level s r a (suc n) change is = by (change_at s r a) refl is (first_change-level s r (a + 1) n change) where
  by : (o : Option LevelChange) → change_at s r a ≡ o → option_or o (first_change s r (range_with_len (a + 1) n)) ≡ Some change
      → (first_change s r (range_with_len (a + 1) n) ≡ Some change → level_at r change.slot ≡ Some change.level) → level_at r change.slot ≡ Some change.level
  by None at is rest = rest is
  by (Some x) at is rest = ap (level_at r) (sym (change_at-slot s r a change (at ∙ is))) ∙ change_at-level s r a change (at ∙ is)

pub change_is_level : (kept : Kept) (change : LevelChange) → owed_change kept ≡ Some change → (change.slot < 1024) × (level_at kept.registry change.slot ≡ Some change.level)
unfolding owed_change
change_is_level kept change is = (first_change-within (slots kept) kept.registry 0 1024 change is, first_change-level (slots kept) kept.registry 0 1024 change is)

owed_within : (kept : Kept) (change : LevelChange) → owed_change kept ≡ Some change → change.slot < 1024
unfolding owed_change
owed_within kept change is = first_change-within (slots kept) kept.registry 0 1024 change is

pub change_follows : (setting : Setting) (events : List Event) (kept : Kept) (change : LevelChange) → IsAfter setting events kept → owed_change kept ≡ Some change
    → IsAfter setting (events ++ Level change.slot change.level ∷ []) (with_change kept (Some change))
change_follows setting events kept change is owes = record {
  registry = is.registry ∙ sym (registry-one setting events (Level change.slot change.level));
  slots = λ i slot. same slot i;
  all = length-set kept.held change.slot (raised (slots kept change.slot) change.level) ∙ is.all;
}
  where
    at_slot : (slot : ℕ) → slots kept slot ≡ slot_after setting.first events slot
    at_slot slot = ap (λ (s : ℕ → Slot). s slot) is.slots

    same : (slot : ℕ) → slots (with_change kept (Some change)) slot ≡ slot_after setting.first (events ++ Level change.slot change.level ∷ []) slot
    same slot = elim (eqb_tells change.slot slot) [
      | inl here ↦
          ap (held_at kept.first (held_after kept.first kept.held change)) (sym here.1)
          ∙ (get_or-set_same kept.held change.slot (raised (slots kept change.slot) change.level) (unset kept.first) (omega (arith, owed_within kept change owes, is.all))
          ∙ (ap (λ (s : Slot). raised s change.level) (at_slot change.slot)
          ∙ (sym (slot-one setting.first events change.slot (Level change.slot change.level) change.level (level_for-own change.slot change.level))
          ∙ ap (slot_after setting.first (events ++ Level change.slot change.level ∷ [])) here.1)))
      | inr other ↦
          get_or-set_other kept.held change.slot slot (raised (slots kept change.slot) change.level) (unset kept.first) (λ (e : slot ≡ change.slot). other.1 (sym e))
          ∙ (at_slot slot
          ∙ sym (slot-other setting.first events slot (Level change.slot change.level) (ap (λ b. cond b (Some change.level) None) other.0)))
    ]

-- ---- requests

set_registry : {A : Type 0} (outcome : Result Registry SetFault) (old new : Kept) (result : Result A SetFault) → Sets outcome old result new
    → (new.first ≡ old.first) × (new.held ≡ old.held) × (new.registry ≡ unwrap_or (result_ok outcome) old.registry)
set_registry outcome old new (Ok x) is = (ap (λ (k : Kept). k.first) is.1, ap (λ (k : Kept). k.held) is.1, ap (λ (o : Result Registry SetFault). unwrap_or (result_ok o) old.registry) (sym is.0))
set_registry outcome old new (Err e) is = (ap (λ (k : Kept). k.first) is.1, ap (λ (k : Kept). k.held) is.1, ap (λ (k : Kept). k.registry) is.1 ∙ ap (λ (o : Result Registry SetFault). unwrap_or (result_ok o) old.registry) (sym is.0))

-- a request that leaves this registry
pub request_follows : {A : Type 0} (setting : Setting) (events : List Event) (client : ℕ) (frame : List ℕ) (answer : Done) (outcome : Result Registry SetFault) (result : Result A SetFault) (old new : Kept)
    → IsAfter setting events old → Sets outcome old result new → unwrap_or (result_ok outcome) old.registry ≡ served setting (slots old) old.registry (asked frame) answer
    → IsAfter setting (events ++ Request client frame answer ∷ []) new
request_follows setting events client frame answer outcome result old new is call serves =
    let left = set_registry outcome old new result call in
    after_event setting events (Request client frame answer) old new is (λ slot. refl) left.0 left.1 (left.2 ∙ serves)

-- ---- the beginning

pub made_follows : (setting : Setting) → IsAfter setting [] (made setting.level setting.stored setting.first)
made_follows setting = record {
  registry = refl;
  slots = λ i slot. begins slot i;
  all = length-replicate 1024 (unset setting.first);
}
  where
    begins : (slot : ℕ) → slots (made setting.level setting.stored setting.first) slot ≡ slot_after setting.first [] slot
    begins slot =
        let none : setting.first ≡ setting.first + 0 = omega arith in
        same_everywhere 1024 slot (unset setting.first) ∙ ap (λ (v : ℕ). let s : Slot = record { version = v; level = 0 } in s) none
