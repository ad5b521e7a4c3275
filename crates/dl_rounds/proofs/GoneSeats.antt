-- Where an open client has no seat, one of the clients that have seats is gone: no more are open than there are seats.
use Rattle.std.proofs.Common.{◌≡◌, ◌≢◌, ℕ, zero, suc, ◌+◌, ◌≤◌, ◌<◌, List, [], ◌∷◌, length, Option, Some, None, inl, inr, refl, sym, ap, subst, ◌∙◌, arith}
use Rattle.std.specs.Prelude.{count_by, option_map, slice_get, IsSome}
use Rattle.std.specs.Option.{option_and_then}
use Rattle.std.proofs.lemmas.Bool.{cases_lt}
use Rattle.dl_bytes.specs.Limits.{open_client_limit}
use Rattle.dl_hub.specs.State.{Client, Hub, changed, client_of, is_open, outbox_of, shut}
use Rattle.dl_turns.proofs.ClientChanges.{client_changed}
use Rattle.dl_rounds.specs.Ready.{open_clients}
use Rattle.dl_rounds.specs.ListenerPool.{AreApart}
use Rattle.dl_rounds.proofs.OneClient.{IsBut, but_changed}
use Rattle.dl_rounds.proofs.SeatedListeners.{apart_behind}
use Rattle.dl_rounds.proofs.Turned.{goes_shut}
use Rattle.dl_lemmas.proofs.Lists.{within_of}

shut_now : (hub : Hub) (client : ℕ) → outbox_of (changed client shut hub) client ≡ None
shut_now hub client = ap (λ (o : Option Client). option_and_then (λ (c : Client). c.outbox) o) (client_changed hub client shut) ∙ by (client_of hub client) where
  by : (o : Option Client) → option_and_then (λ (c : Client). c.outbox) (option_map shut o) ≡ None
  by None = refl
  by (Some c) = refl

-- different clients that are open are no more than are open
pub open_many : (hub : Hub) (clients : List ℕ) → AreApart clients → ((seat client : ℕ) → slice_get clients seat ≡ Some client → IsSome (outbox_of hub client))
    → length clients ≤ open_clients hub
open_many hub [] apart all = omega arith
open_many hub (client ∷ clients) apart all =
    let without : Hub = changed client shut hub in
    let but : IsBut client hub without = but_changed client shut hub without refl in
    let less : open_clients without + 1 ≡ open_clients hub = goes_shut client hub without but (all 0 client refl) (shut_now hub client) in
    let rest : length clients ≤ open_clients without =
    open_many without clients (apart_behind client clients apart) (λ seat other is.
    let differs : other ≢ client = λ e. (let at : 0 ≡ suc seat = apart 0 (suc seat) other (ap (λ (n : ℕ). Some n) (sym e)) is in absurd (omega (arith, at))) in
    subst (λ (o : Option Client). IsSome (option_and_then (λ (c : Client). c.outbox) o)) (sym (but.others other differs)) (all (suc seat) other is)) in
    omega (arith, less, rest)

apart_more : (client : ℕ) (clients : List ℕ) → AreApart clients → ((seat : ℕ) → slice_get clients seat ≡ Some client → ⊥) → AreApart (client ∷ clients)
apart_more client clients apart none zero zero number one two = refl
apart_more client clients apart none zero (suc other) number one two = let same : client ≡ number = cc one in absurd (none other (two ∙ ap (λ (n : ℕ). Some n) (sym same)))
apart_more client clients apart none (suc seat) zero number one two = let same : client ≡ number = cc two in absurd (none seat (one ∙ ap (λ (n : ℕ). Some n) (sym same)))
apart_more client clients apart none (suc seat) (suc other) number one two = ap suc (apart seat other number one two)

-- so not all that have seats are open
pub not_all_open : (hub : Hub) (clients : List ℕ) (client : ℕ) → length clients ≡ open_client_limit → AreApart clients → IsSome (outbox_of hub client)
    → ((seat : ℕ) → slice_get clients seat ≡ Some client → ⊥) → count_by is_open hub.clients ≤ open_client_limit
    → ((seat number : ℕ) → slice_get clients seat ≡ Some number → IsSome (outbox_of hub number)) → ⊥
not_all_open hub clients client many apart open_so none few all =
    let more = open_many hub (client ∷ clients) (apart_more client clients apart none) each in absurd (omega (arith, more, many, few)) where
      each : (seat number : ℕ) → slice_get (client ∷ clients) seat ≡ Some number → IsSome (outbox_of hub number)
      each zero number is = let same : client ≡ number = cc is in subst (λ (n : ℕ). IsSome (outbox_of hub n)) same open_so
      each (suc seat) number is = all seat number is

-- where the clients of all seats before this one are open, it is a seat
pub seat_below : (hub : Hub) (clients : List ℕ) (client seat : ℕ) → length clients ≡ open_client_limit → AreApart clients → IsSome (outbox_of hub client)
    → ((other : ℕ) → slice_get clients other ≡ Some client → ⊥) → count_by is_open hub.clients ≤ open_client_limit
    → ((other number : ℕ) → other < seat → slice_get clients other ≡ Some number → IsSome (outbox_of hub number)) → seat < length clients
seat_below hub clients client seat many apart open_so none few all = elim (cases_lt seat (length clients)) [
  | inl below ↦ below
  | inr above ↦
      absurd (not_all_open hub clients client many apart open_so none few (λ other number is. all other number (omega (arith, above, within_of clients other number is)) is))
]
