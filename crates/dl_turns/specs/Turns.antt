-- What a turn of a client comes to.
use Rattle.std.specs.Prelude.{◌≡◌, ℕ, ◌+◌, ◌<◌, ◌≤◌, ◌⊎◌, Bool, List, [], ◌∷◌, ◌++◌, length, take, Option, Some, None, IsSomeAnd, if◌then◌else◌}
use Rattle.dl_bytes.specs.Limits.{request_limit}
use Rattle.dl_bytes.specs.declared.outcome.Done.{Done}
use Rattle.dl_events.specs.declared.event.Why.{Why}
use Rattle.dl_events.specs.declared.event.Why.TheVariants.{Left, Broken, Slow, Malformed, TooMany, NoMemory}
use Rattle.dl_message.specs.Requests.{requests}
use Rattle.dl_outside.specs.Link.{EndsRightly, Gives, HasReceiveCause, Receives, StaysOver}
use Rattle.dl_outside.specs.Outside.{Grows, HasRisen, Stays}
use Rattle.dl_outside.specs.Told.{LinkTold}
use Rattle.dl_outside.specs.declared.link.Gave.{Gave}
use Rattle.dl_outside.specs.declared.link.Gave.TheVariants as gave
use Rattle.dl_hub.specs.Pumping.{IsOnlySent, Pumps}
use Rattle.dl_hub.specs.State.{client_of, outbox_of, MayAsk}
use Rattle.dl_core.specs.Serving.{reply_now}
use Rattle.dl_core.specs.State.{Core}
use Rattle.dl_turns.specs.State.{Side, Stage}
use Rattle.dl_turns.specs.Events.{Closes, ServesOne}
use Rattle.dl_turns.specs.Sent.{HasCut, is_bad}

-- ---- one recv

-- a link was asked once for what its client sent, and answered this
pub record Hears (old new : LinkTold) (answer : Gave) (into : List ℕ) : Type 0 where
  pub bytes : Receives old.left new.left answer into
  pub given : Gives old.given new.given answer into
  pub end : EndsRightly old answer
  pub cause : HasReceiveCause old new answer
  pub over : StaysOver old new
  pub untaken : Stays old.taken new.taken
  pub waits : new.waits ≡ old.waits
  pub shut : new.is_shut ≡ old.is_shut

-- the bytes that it gave
abbrev pub heard : Gave → List ℕ → List ℕ
heard (gave.Bytes count) into = take count into
heard other into = []

-- a link gave at least one byte
abbrev pub HasGiven : Option (List ℕ) → Option (List ℕ) → Type 0
HasGiven old new = (bytes : List ℕ) × Grows old new bytes × (1 ≤ length bytes)

-- ---- what was asked is served

-- Why a request isn't served, and its client is closed: it has had as many as it may, memory was wanting, or its reply needs more than the room in
-- the client's outbox. No reply has more than 65,535 bytes.
abbrev pub Refuses : ℕ → List ℕ → Why → Core → Type 0
Refuses client frame TooMany core = IsSomeAnd (client_of core.hub client) (λ c. c.replies ≡ request_limit)
Refuses client frame NoMemory core = MayAsk core.hub client
Refuses client frame (Slow room need) core =
    MayAsk core.hub client × (room < need) × IsSomeAnd (outbox_of core.hub client) (λ outbox. length outbox.bytes + room ≡ outbox.capacity)
    × ((answer : Done) → need ≡ length (reply_now core frame answer)) × (need ≤ 65535)
Refuses client frame other core = ⊥

-- Requests are served in order, up to the first one that is refused. Where none is, a bad header behind them is the cause to close the
-- client, and without one there is none.
abbrev pub ServesEach : ℕ → List (List ℕ) → Bool → Option Why → Side → Side → Type 0
ServesEach client [] bad why old new = (why ≡ (if bad then Some Malformed else None)) × (new ≡ old)
ServesEach client (frame ∷ frames) bad why old new =
    (IsSomeAnd why (λ cause. Refuses client frame cause old.core) × (new ≡ old))
    ⊎ ((next : Side) × ServesOne client frame old next × ServesEach client frames bad why next new)

-- the requests that these bytes make whole are served so, and a bad header stands behind them or does not
abbrev pub ServesAll : ℕ → List ℕ → Option Why → Side → Side → Type 0
ServesAll client bytes why old new = ServesEach client (requests bytes) (is_bad bytes) why old new

-- What came of an answer of the link, where its client had sent these bytes that are not cut: all that they make whole is served. The
-- end closes a client that left, a fault one whose link is broken.
abbrev pub Heeds : ℕ → List ℕ → Gave → List ℕ → Option Why → Side → Side → Type 0
Heeds client unread (gave.Bytes count) into why old new = ServesAll client (unread ++ take count into) why old new
Heeds client unread gave.NotYet into why old new = (why ≡ None) × (new ≡ old)
Heeds client unread gave.End into why old new = (why ≡ Some Left) × (new ≡ old)
Heeds client unread gave.Failed into why old new = (why ≡ Some Broken) × (new ≡ old)

-- One recv of at most 4096 bytes, and what was asked is served; why the client is to be closed, where it is.
pub record Listens (client : ℕ) (why : Option Why) (old new : Stage) : Type 0 where
  pub answer : Gave
  pub into : List ℕ
  pub size : length into ≡ 4096
  pub hears : Hears old.link new.link answer into
  pub heeds : Heeds client old.cutter.unread answer into why old.side new.side
  pub cut : (stream : List ℕ) → why ≡ None → HasCut stream old.cutter → HasCut (stream ++ heard answer into) new.cutter

-- a client is closed, where there is a cause
abbrev pub ClosesFor : ℕ → Option Why → Side → Side → Type 0
ClosesFor client None old new = new ≡ old
ClosesFor client (Some why) old new = Closes client why old new

-- A client's turn: it is listened to, and closed where there is a cause.
pub record IsTurn (client : ℕ) (why : Option Why) (old new : Stage) : Type 0 where
  pub between : Side
  pub listens : Listens client why old (record new { side = between })
  pub closes : ClosesFor client why between new.side

-- ---- one pump

-- nothing is left to send; or something is, the link took nothing more, and its count of busy turns rose
abbrev pub HasSent : ℕ → Core → LinkTold → LinkTold → Type 0
HasSent client core old new =
    (IsSomeAnd (outbox_of core.hub client) (λ outbox. outbox.bytes ≡ []) × (new.waits ≡ old.waits))
    ⊎ (IsSomeAnd (outbox_of core.hub client) (λ outbox. 0 < length outbox.bytes) × HasRisen old.waits new.waits)

-- why a client is closed after a pump: only where its link failed with something left to send, and was not busy; else all was sent that the
-- link took
abbrev pub SendsRightly : ℕ → Option Why → Core → LinkTold → LinkTold → Type 0
SendsRightly client None core old new = HasSent client core old new × (new.faults ≡ old.faults)
SendsRightly client (Some Broken) core old new =
    HasRisen old.faults new.faults × (new.waits ≡ old.waits) × IsSomeAnd (outbox_of core.hub client) (λ outbox. 0 < length outbox.bytes)
SendsRightly client (Some other) core old new = ⊥

-- What waits for a client went through its link, as much as the link took, and the client was closed where there is a cause.
pub record IsPump (client : ℕ) (why : Option Why) (link link_now : LinkTold) (old new : Side) : Type 0 where
  pub between : Side
  pub pumps : Pumps client old.core.hub between.core.hub link link_now
  pub rest : between ≡ record old { core = record old.core { hub = between.core.hub } }
  pub sends : SendsRightly client why between.core link link_now
  pub only_sent : IsOnlySent link link_now
  pub closes : ClosesFor client why between new
