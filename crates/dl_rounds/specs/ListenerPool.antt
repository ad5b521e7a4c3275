-- The listeners of all clients that may come, in the memory of those that can be open at once.
use Rattle.std.specs.Prelude.{◌≡◌, ℕ, ◌-◌, ◌<◌, ◌≤◌, List, [], ◌∷◌, length, slice_get, slice_set, Some}
use Rattle.dl_bytes.specs.Limits.{message_limit, open_client_limit}
use Rattle.dl_rounds.specs.declared.listener.Listener.{Listener}

-- The listeners of all clients that may come, by the clients' numbers from 1, and the clients that have seats.
pub record Seated : Type 0 where
  pub listeners : List Listener
  pub clients : List ℕ

-- a client has a seat
abbrev pub HasSeat : ℕ → Seated → Type 0
HasSeat client seated = (seat : ℕ) × (slice_get seated.clients seat ≡ Some client)

-- ---- how they are kept

-- these listeners by number, where those in seats stand at the numbers of the seats' clients
abbrev pub laid : List ℕ → List Listener → List Listener → List Listener
laid [] listeners past = past
laid (client ∷ clients) [] past = past
laid (client ∷ clients) (listener ∷ listeners) past = slice_set (laid clients listeners past) (client - 1) listener

-- no number stands at two of these places
abbrev pub AreApart : List ℕ → Type 0
AreApart clients = (seat other client : ℕ) → slice_get clients seat ≡ Some client → slice_get clients other ≡ Some client → seat ≡ other

-- There is a seat for each client that can be open at once, and no client has two. The cutter in the seat of a number that no client can have is
-- one for clients, too.
pub record Fits (clients : List ℕ) (listeners past : List Listener) : Type 0 where
  pub seats : length clients ≡ open_client_limit
  pub many : length listeners ≡ open_client_limit
  pub from_one : (seat client : ℕ) → slice_get clients seat ≡ Some client → 1 ≤ client
  pub apart : AreApart clients
  pub beyond : (seat client : ℕ) (listener : Listener) → slice_get clients seat ≡ Some client → length past < client → slice_get listeners seat ≡ Some listener
      → listener.cutter.limit ≡ message_limit
