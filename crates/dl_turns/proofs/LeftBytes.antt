-- What is left of a client's stream at its Close.
use Rattle.std.proofs.Common.{◌≡◌, ℕ, ◌+◌, length, Option, Some, None, refl, sym, ap, subst, arith}
use Rattle.std.specs.Prelude.{IsSomeAnd}
use Rattle.std.specs.Option.{option_and_then, option_map, option_map_or}
use Rattle.dl_events.specs.declared.event.Why.{Why}
use Rattle.dl_events.specs.declared.event.Why.TheVariants.{Slow, Stuck, Stopped}
use Rattle.dl_model.specs.Backlog.{outbox_limit}
use Rattle.dl_hub.specs.State.{Client, Hub, Waiting, changed, client_of, outbox_of, shut}
use Rattle.dl_core.specs.State.{Core}
use Rattle.dl_turns.specs.Events.{Closes}
use Rattle.dl_turns.specs.Later.{HasLeft, LeavesSo}
use Rattle.dl_turns.specs.State.{Side}
use Rattle.dl_turns.proofs.ClientChanges.{client_changed}

-- what holds of the bytes in its outbox, holds of what is left
left_in : (P : ℕ → Type 0) (left : ℕ) (o : Option Waiting) → IsSomeAnd o (λ w. P (length w.bytes)) → P (option_map_or (λ (w : Waiting). length w.bytes) o left)
left_in P left None holds = absurd holds
left_in P left (Some w) holds = holds

left_of : (P : ℕ → Type 0) (o : Option Client) → IsSomeAnd (option_and_then (λ (c : Client). c.outbox) o) (λ w. P (length w.bytes)) → IsSomeAnd (option_map shut o) (λ c. (c.outbox ≡ None) × P c.left)
left_of P None holds = absurd holds
left_of P (Some c) holds = (refl, left_in P c.left c.outbox holds)

in_hub : (P : ℕ → Type 0) (client : ℕ) (hub : Hub) → IsSomeAnd (outbox_of hub client) (λ w. P (length w.bytes)) → IsSomeAnd (client_of (changed client shut hub) client) (λ c. (c.outbox ≡ None) × P c.left)
in_hub P client hub holds = subst (λ (o : Option Client). IsSomeAnd o (λ c. (c.outbox ≡ None) × P c.left)) (sym (client_changed hub client shut)) (left_of P (client_of hub client) holds)

-- ---- by the cause

module _ {P Q : Waiting → Type 0} where
  both_of : (R : Waiting → Type 0) (o : Option Waiting) → ((w : Waiting) → P w → Q w → R w) → IsSomeAnd o P → IsSomeAnd o Q → IsSomeAnd o R
  both_of R None from first second = absurd first
  both_of R (Some w) from first second = from w first second

  one_of_it : (o : Option Waiting) → ((w : Waiting) → P w → Q w) → IsSomeAnd o P → IsSomeAnd o Q
  one_of_it None from first = absurd first
  one_of_it (Some w) from first = from w first

in_outbox : (client : ℕ) (why : Why) (old new : Side) → Closes client why old new → IsSomeAnd (outbox_of old.core.hub client) (λ w. LeavesSo (outbox_limit old.core.hub.buffer) why (length w.bytes))
in_outbox client (Slow room need) old new closes =
    both_of (λ w. room + length w.bytes ≡ outbox_limit old.core.hub.buffer) (outbox_of old.core.hub client) (λ w fills limit. omega (arith, fills, limit)) closes.may.0 closes.limit
in_outbox client (Stuck bytes) old new closes = one_of_it (outbox_of old.core.hub client) (λ w long. (sym long, omega (arith, long, closes.may.1))) closes.may.0
in_outbox client Stopped old new closes = one_of_it (outbox_of old.core.hub client) (λ w none. ap length none) closes.may
in_outbox client _ old new closes = one_of_it (outbox_of old.core.hub client) (λ w limit. tt) closes.limit

pub has_left : (client : ℕ) (why : Why) (old new : Side) → Closes client why old new → HasLeft client why new.core.hub
has_left client why old new closes =
    subst (λ (core : Core). HasLeft client why core.hub) (sym closes.core)
    (in_hub (LeavesSo (outbox_limit old.core.hub.buffer) why) client old.core.hub (in_outbox client why old new closes))
