-- Listeners of clients that stay, whatever sets levels.
use Rattle.std.proofs.Common.{◌≡◌, ℕ, ◌+◌, ◌-◌, ◌<◌, ◌≤◌, List, length, Some, arith}
use Rattle.std.specs.Prelude.{IsSome, slice_get}
use Rattle.dl_bytes.specs.Limits.{message_limit}
use Rattle.dl_admission.specs.Admission.{KeepsClients}
use Rattle.dl_core.specs.State.{Core}
use Rattle.dl_desk.specs.Told.{ControlTold}
use Rattle.dl_events.specs.declared.event.Event.{Event}
use Rattle.dl_hub.specs.State.{Hub, client_of, outbox_of}
use Rattle.dl_model.specs.Registry.{IsInOrder}
use Rattle.dl_rounds.specs.Ready.{AreHeard, fresh_listener}
use Rattle.dl_rounds.specs.ListenerPool.{HasSeat, Seated}
use Rattle.dl_rounds.specs.declared.listener.Listener.{Listener}
use Rattle.dl_admission.proofs.StandingClients.{as_many, replies, same_replies, was_open, served_by}
use Rattle.dl_socket.specs.Listening.{HaveListeners}
use Rattle.dl_turns.specs.Events.{HasServed}
use Rattle.dl_server.proofs.SomeDesk.{is_desk, some_desk}

-- the clients of a hub stay, but some that were closed
abbrev pub Keeps : Hub → Hub → Type 0
Keeps old new = (noted : List Event) × KeepsClients noted old new

-- Each client that may come has a listener, as it is said beside a desk.
pub record AreReady (seated : Seated) (core : Core) : Type 0 where
  pub enough : core.hub.limit ≤ length seated.listeners
  pub limits : (place : ℕ) (listener : Listener) → slice_get seated.listeners place ≡ Some listener → listener.cutter.limit ≡ message_limit
  pub counts : (place : ℕ) (listener : Listener) → slice_get seated.listeners place ≡ Some listener → place < length core.hub.clients → HasServed (place + 1) listener.served core
  pub unused : (place : ℕ) (listener : Listener) → slice_get seated.listeners place ≡ Some listener → length core.hub.clients ≤ place → listener ≡ fresh_listener
  pub waiting : (number : ℕ) → IsSome (outbox_of core.hub number) → (HasSeat number seated → ⊥) → slice_get seated.listeners (number - 1) ≡ Some fresh_listener

ready_of : (seated : Seated) (core : Core) → HaveListeners seated core → IsInOrder core.registry.registry → AreReady seated core
ready_of seated core have order =
    let heard = have (some_desk core.registry) (is_desk core.registry order) in
    record { enough = heard.enough; limits = heard.limits; counts = heard.counts; unused = heard.unused; waiting = heard.waiting }

listeners_of : (seated : Seated) (core : Core) → AreReady seated core → HaveListeners seated core
listeners_of seated core ready = λ desk desk_so.
    record { enough = ready.enough; limits = ready.limits; counts = ready.counts; unused = ready.unused; waiting = ready.waiting; desk_so = desk_so }

ready_still : (seated : Seated) (old new : Core) → Keeps old.hub new.hub → AreReady seated old → AreReady seated new
ready_still seated old new keeps ready =
    let noted = keeps.0 in
    let its = keeps.1 in
    let many = as_many noted old.hub new.hub its in
    record {
      enough = omega (arith, ready.enough, its.same.limit);
      limits = ready.limits;
      counts = λ place listener is below.
          served_by listener.served (client_of old.hub (place + 1)) (client_of new.hub (place + 1)) (same_replies old.hub new.hub (place + 1) its.replies)
          (ready.counts place listener is (omega (arith, below, many)));
      unused = λ place listener is above. ready.unused place listener is (omega (arith, above, many));
      waiting = λ number open_so none. ready.waiting number (was_open noted old.hub new.hub number its open_so) none;
    }

-- where the clients stay, they have their listeners
pub listen_still : (seated : Seated) (old new : Core) → IsInOrder old.registry.registry → Keeps old.hub new.hub → HaveListeners seated old → HaveListeners seated new
listen_still seated old new order keeps have = listeners_of seated new (ready_still seated old new keeps (ready_of seated old have order))

-- where listeners are those of one core beside a desk, as they were of another, they are so beside each
pub heard_listen : (seated : Seated) (old new : Core) → IsInOrder old.registry.registry → ((desk : ControlTold) → AreHeard seated old desk → AreHeard seated new desk)
    → HaveListeners seated old → HaveListeners seated new
heard_listen seated old new order still have =
    let desk = some_desk old.registry in
    let heard = still desk (have desk (is_desk old.registry order)) in
    listeners_of seated new (record { enough = heard.enough; limits = heard.limits; counts = heard.counts; unused = heard.unused; waiting = heard.waiting })
