-- A client behind a turn: whether it is open, and how many are.
use Rattle.std.proofs.Common.{◌≡◌, ◌≢◌, ℕ, ◌+◌, ◌-◌, ◌≤◌, ◌<◌, zero, suc, List, [], ◌∷◌, Bool, true, false, length, Option, Some, None, inl, inr, ◌⊎◌, refl, sym, ap, subst, ◌∙◌, arith}
use Rattle.std.specs.Prelude.{count_by, eqb, is_some, option_map, slice_get, IsSome}
use Rattle.std.specs.Option.{option_and_then}
use Rattle.std.proofs.lemmas.Bool.Decides.{eqb_tells}
use Rattle.std.proofs.lemmas.List.Sums.{sum_by-cons}
use Rattle.std.proofs.lemmas.Option.{slice_get-get_or, slice_get_within}
use Rattle.dl_events.specs.declared.event.Why.{Why}
use Rattle.dl_hub.specs.State.{Client, Hub, Waiting, client_of, is_open, outbox_of, shut}
use Rattle.dl_core.specs.State.{Core}
use Rattle.dl_turns.specs.Events.{Closes}
use Rattle.dl_turns.specs.State.{Side, Stage}
use Rattle.dl_turns.specs.Stopping.{HasClosingTurns}
use Rattle.dl_turns.proofs.ClientChanges.{client_changed}
use Rattle.dl_rounds.specs.Ready.{KeepsRoom, open_clients}
use Rattle.dl_rounds.proofs.ByPlace.{count_but, one_if}
use Rattle.dl_rounds.proofs.OneClient.{IsBut}

-- the client of a number stands at its place
pub placed : (hub : Hub) (number : ℕ) → IsSome (client_of hub number) → (c : Client) × (client_of hub number ≡ Some c) × (slice_get hub.clients (number - 1) ≡ Some c) × (0 < number)
placed hub number some = by (eqb_tells number 0) (slice_get hub.clients (number - 1)) refl some where
  by : ((eqb number 0 ≡ true) × (number ≡ 0)) ⊎ ((eqb number 0 ≡ false) × (number ≢ 0)) → (o : Option Client) → slice_get hub.clients (number - 1) ≡ o → IsSome (client_of hub number)
      → (c : Client) × (client_of hub number ≡ Some c) × (slice_get hub.clients (number - 1) ≡ Some c) × (0 < number)
  by (inl nobody) o at there = absurd (cc (there, nobody.0))
  by (inr somebody) None at there = absurd (cc (there, somebody.0, at))
  by (inr somebody) (Some c) at there = (c, rw somebody.0 at, at, omega (arith, somebody.1))

at_suc : (hub : Hub) (place : ℕ) → client_of hub (suc place) ≡ slice_get hub.clients place
at_suc hub place =
    let back : suc place - 1 ≡ place = omega arith in elim (eqb_tells (suc place) 0) [
      | inl none ↦ absurd (omega (arith, none.1))
      | inr some ↦ rw some.0 (ap (λ (n : ℕ). slice_get hub.clients n) back)
    ]

-- the lists of clients differ at one place at most
elsewhere : (client : ℕ) (old new : Hub) → IsBut client old new → 0 < client → (place : ℕ) → place ≢ client - 1 → slice_get new.clients place ≡ slice_get old.clients place
elsewhere client old new but some place apart = sym (at_suc new place) ∙ but.others (suc place) (λ e. apart (omega (arith, e))) ∙ at_suc old place

opened : (hub : Hub) (client : ℕ) (c : Client) → client_of hub client ≡ Some c → IsSome (outbox_of hub client) → is_open c ≡ true
opened hub client c is there = subst (λ (o : Option Client). IsSome (option_and_then (λ (x : Client). x.outbox) o)) is there

shut_so : (hub : Hub) (client : ℕ) (c : Client) → client_of hub client ≡ Some c → outbox_of hub client ≡ None → is_open c ≡ false
shut_so hub client c is gone = ap is_some (sym (ap (λ (o : Option Client). option_and_then (λ (x : Client). x.outbox) o) is) ∙ gone)

pub there_of : (hub : Hub) (client : ℕ) → IsSome (outbox_of hub client) → IsSome (client_of hub client)
there_of hub client some = by (client_of hub client) some where
  by : (o : Option Client) → IsSome (option_and_then (λ (x : Client). x.outbox) o) → IsSome o
  by None h = absurd cc
  by (Some c) h = refl

-- a client that came stays one that came
pub there_still : (client : ℕ) (old new : Hub) → IsBut client old new → IsSome (client_of old client) → IsSome (client_of new client)
there_still client old new but some =
    let x = placed old client some in
    let within : client - 1 < length new.clients = omega (arith, slice_get_within old.clients (client - 1) x.0 x.2, but.many) in elim (eqb_tells client 0) [
      | inl none ↦ absurd (omega (arith, none.1, x.3))
      | inr one ↦ rw (one.0, slice_get-get_or new.clients (client - 1) x.0 within) refl
    ]

-- a client that is open stays so: as many are open
pub stays_open : (client : ℕ) (old new : Hub) → IsBut client old new → IsSome (outbox_of old client) → IsSome (outbox_of new client) → open_clients new ≡ open_clients old
stays_open client old new but before after =
    let x = placed old client (there_of old client before) in
    let y = placed new client (there_of new client after) in
    let both = count_but is_open old.clients new.clients (client - 1) x.0 y.0 but.many (elsewhere client old new but x.3) x.2 y.2 in
    let was : one_if (is_open x.0) ≡ 1 = ap one_if (opened old client x.0 x.1 before) in
    let is : one_if (is_open y.0) ≡ 1 = ap one_if (opened new client y.0 y.1 after) in
    omega (arith, both, was, is)

-- and one that goes is open no longer: one less is
pub goes_shut : (client : ℕ) (old new : Hub) → IsBut client old new → IsSome (outbox_of old client) → outbox_of new client ≡ None → open_clients new + 1 ≡ open_clients old
goes_shut client old new but before after =
    let x = placed old client (there_of old client before) in
    let y = placed new client (there_still client old new but (there_of old client before)) in
    let both = count_but is_open old.clients new.clients (client - 1) x.0 y.0 but.many (elsewhere client old new but x.3) x.2 y.2 in
    let was : one_if (is_open x.0) ≡ 1 = ap one_if (opened old client x.0 x.1 before) in
    let is : one_if (is_open y.0) ≡ 0 = ap one_if (shut_so new client y.0 y.1 after) in
    omega (arith, both, was, is)

-- a Close leaves no outbox
pub closed_so : (client : ℕ) (why : Why) (old new : Side) → Closes client why old new → outbox_of new.core.hub client ≡ None
closed_so client why old new closes =
    ap (λ (c : Core). outbox_of c.hub client) closes.core
    ∙ ap (λ (o : Option Client). option_and_then (λ (x : Client). x.outbox) o) (client_changed old.core.hub client shut) ∙ by (client_of old.core.hub client) where
      by : (o : Option Client) → option_and_then (λ (x : Client). x.outbox) (option_map shut o) ≡ None
      by None = refl
      by (Some c) = refl

pub stop_closed : (client : ℕ) (why : Why) (old new : Stage) → HasClosingTurns client why old new → outbox_of new.side.core.hub client ≡ None
stop_closed client why old new wound = elim wound.ends [
  | inl closed ↦ elim closed.1 [
    | inl turn ↦ closed_so client why turn.between new.side turn.closes
    | inr sent ↦ closed_so client why sent.2.between new.side sent.2.closes
  ]
  | inr stopped ↦ closed_so client why stopped.0.side new.side stopped.3
]

-- ---- the room of the journal

pub room_stays : (client spare spare_now : ℕ) (old new : Core) → IsBut client old.hub new.hub → IsSome (outbox_of old.hub client) → IsSome (outbox_of new.hub client) → spare ≤ spare_now
    → KeepsRoom old new spare spare_now
room_stays client spare spare_now old new but before after fewer = omega (arith, fewer, stays_open client old.hub new.hub but before after)

pub room_goes : (client spare spare_now : ℕ) (old new : Core) → IsBut client old.hub new.hub → IsSome (outbox_of old.hub client) → outbox_of new.hub client ≡ None
    → spare ≤ spare_now + 1 → KeepsRoom old new spare spare_now
room_goes client spare spare_now old new but before after fewer = omega (arith, fewer, goes_shut client old.hub new.hub but before after)

-- ---- before a visit

-- a client that is open came
pub open_within : (hub : Hub) (client : ℕ) → IsSome (outbox_of hub client) → (1 ≤ client) × (client ≤ length hub.clients)
open_within hub client some =
    let x = placed hub client (there_of hub client some) in (omega (arith, x.3), omega (arith, x.3, slice_get_within hub.clients (client - 1) x.0 x.2))

count_some : (p : Client → Bool) (xs : List Client) (i : ℕ) (x : Client) → slice_get xs i ≡ Some x → p x ≡ true → 1 ≤ count_by p xs
count_some p [] i x is yes_so = absurd cc
count_some p (y ∷ ys) zero x is yes_so =
    let same : y ≡ x = cc is in
    let one : one_if (p y) ≡ 1 = ap (λ (c : Client). one_if (p c)) same ∙ ap one_if yes_so in
    omega (arith, one, sum_by-cons (λ c. one_if (p c)) y ys)
count_some p (y ∷ ys) (suc i) x is yes_so = omega (arith, count_some p ys i x is yes_so, sum_by-cons (λ c. one_if (p c)) y ys)

-- and counts among them
pub open_counts : (hub : Hub) (client : ℕ) → IsSome (outbox_of hub client) → 1 ≤ open_clients hub
open_counts hub client some =
    let x = placed hub client (there_of hub client some) in count_some is_open hub.clients (client - 1) x.0 x.2 (opened hub client x.0 x.1 some)

-- a client isn't open and gone
pub open_and_gone : {A : Type 0} (hub : Hub) (client : ℕ) → IsSome (outbox_of hub client) → outbox_of hub client ≡ None → A
open_and_gone hub client some gone = absurd (by (outbox_of hub client) some gone) where
  by : (o : Option Waiting) → IsSome o → o ≡ None → ⊥
  by None none_so same = absurd cc
  by (Some w) some_so same = cc same
