-- A pump moved something just where less waits behind it.
use Rattle.std.proofs.Common.{◌≡◌, ℕ, ◌-◌, ◌≤◌, Bool, true, false, [], length, Option, Some, None, refl, sym, ap, subst, ◌∙◌, arith, length-drop, ltb-true, ltb-false}
use Rattle.std.specs.Prelude.{nat_lt, take, IsSomeAnd, option_map}
use Rattle.std.specs.Option.{option_and_then}
use Rattle.dl_outside.specs.Outside.{Grows}
use Rattle.dl_outside.specs.Told.{FolderTold, LinkTold}
use Rattle.dl_desk.specs.Told.{ControlTold}
use Rattle.dl_hub.specs.State.{Client, Hub, Waiting, client_of, consumed, outbox_of, without}
use Rattle.dl_hub.specs.Pumping.{Pumps}
use Rattle.dl_turns.proofs.ClientChanges.{client_changed}

less : (total count left : ℕ) → count ≤ total → left ≡ total - count → nat_lt left total ≡ nat_lt 0 count
less total count left within is = by (nat_lt left total) refl (nat_lt 0 count) refl where
  by : (a : Bool) → nat_lt left total ≡ a → (b : Bool) → nat_lt 0 count ≡ b → nat_lt left total ≡ nat_lt 0 count
  by true x true y = x ∙ sym y
  by true x false y = absurd (omega (arith, ltb-true left total x, ltb-false 0 count y, is, within))
  by false x true y = absurd (omega (arith, ltb-false left total x, ltb-true 0 count y, is, within))
  by false x false y = x ∙ sym y

pub pump_moves : (client before after : ℕ) (old new : Hub) (link link_now : LinkTold) (pumps : Pumps client old new link link_now)
    → IsSomeAnd (outbox_of old client) (λ outbox. before ≡ length outbox.bytes) → IsSomeAnd (outbox_of new client) (λ outbox. after ≡ length outbox.bytes)
    → nat_lt after before ≡ nat_lt 0 pumps.count
pump_moves client before after old new link link_now pumps was is = by (client_of old client) pumps.sent was later where
  outbox : Option Client → Option Waiting
  outbox o = option_and_then (λ (c : Client). c.outbox) o

  now : outbox_of new client ≡ outbox (option_map (without pumps.count) (client_of old client))
  now = ap (λ (h : Hub). outbox_of h client) pumps.left ∙ ap outbox (client_changed old client (without pumps.count))

  later : IsSomeAnd (outbox (option_map (without pumps.count) (client_of old client))) (λ b. after ≡ length b.bytes)
  later = subst (λ (o : Option Waiting). IsSomeAnd o (λ b. after ≡ length b.bytes)) now is

  by : (o : Option Client) → IsSomeAnd (outbox o) (λ b. (pumps.count ≤ length b.bytes) × Grows link.taken link_now.taken (take pumps.count b.bytes))
      → IsSomeAnd (outbox o) (λ b. before ≡ length b.bytes) → IsSomeAnd (outbox (option_map (without pumps.count) o)) (λ b. after ≡ length b.bytes) → nat_lt after before ≡ nat_lt 0 pumps.count
  by None sent first last = absurd first
  by (Some c) sent first last = at c.outbox sent first last where
    at : (o : Option Waiting) → IsSomeAnd o (λ b. (pumps.count ≤ length b.bytes) × Grows link.taken link_now.taken (take pumps.count b.bytes))
        → IsSomeAnd o (λ b. before ≡ length b.bytes) → IsSomeAnd (option_map (consumed pumps.count) o) (λ b. after ≡ length b.bytes) → nat_lt after before ≡ nat_lt 0 pumps.count
    at None sent first last = absurd first
    at (Some b) sent first last = less before pumps.count after (omega (arith, sent.0, first)) (last ∙ length-drop pumps.count b.bytes ∙ ap (λ (n : ℕ). n - pumps.count) (sym first))

-- a desk and a folder, which a pump does not see
pub some_desk : ControlTold
some_desk = record { apps = 0; first = 0; sets = []; pushed = λ app. []; refusals = λ app. 0 }

pub some_folder : FolderTold
some_folder = record { files = None; faults = 0; changes = 0; appends = 0 }
