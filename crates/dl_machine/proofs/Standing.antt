-- What steps leave of the counts of a daemon: of the clients in its hub, and of clients, channels and programs.
use Rattle.std.proofs.Common.{◌≡◌, ◌≤◌, ◌-◌, ℕ, inl, inr, List, length, map, Option, Some, None, refl, sym, ap, subst, ◌∙◌, arith}
use Rattle.std.specs.Prelude.{nat_eq, not, slice_set}
use Rattle.std.specs.Option.{option_map_or}
use Rattle.std.proofs.lemmas.List.{length-map}
use Rattle.std.proofs.lemmas.List.Sums.{count_by-le-length, length-filter}
use Rattle.std.proofs.lemmas.Map.{length-set_value}
use Rattle.dl_admission.specs.Part.{Part}
use Rattle.dl_core.specs.Serving.{reply_now}
use Rattle.dl_core.specs.State.{Core}
use Rattle.dl_hub.specs.State.{Client as HubClient, Hub, IsSameHub, changed, client_of, replies_of, shut, with_reply, without}
use Rattle.dl_rounds.proofs.ByPlace.{set_length}
use Rattle.dl_socket.specs.Channels.{Channels}
use Rattle.dl_user.specs.Channel as cutter
use Rattle.dl_machine.specs.State.{Changes, Client, Program, State}
use Rattle.dl_machine.specs.Steps.{Asked, BeginsOrStays, ClientKind, Closed, Ended, Forwarded, Gave, Greeted, IsClientStep, IsProgramStep, IsRingStep, Noted, Parted, ProgramKind, RingKind, Said, Sent, ShutOff, TookCalls, TookClaim, TookLevels, TookLosses, Unregistered}

-- so many clients may come to a hub, and so many came
pub record Sizes : Type 0 where
  pub limit : ℕ
  pub came : ℕ

abbrev pub sizes : Hub → Sizes
sizes hub = record { limit = hub.limit; came = length hub.clients }

-- one client has changed
pub changed_sizes : (number : ℕ) (change : HubClient → HubClient) (hub : Hub) → sizes (changed number change hub) ≡ sizes hub
changed_sizes number change hub = by (client_of hub number) where
  by : (o : Option HubClient) → sizes (record hub { clients = option_map_or (λ client. slice_set hub.clients (number - 1) (change client)) o hub.clients }) ≡ sizes hub
  by None = refl
  by (Some client) = ap (λ (n : ℕ). record { limit = hub.limit; came = n }) (set_length hub.clients (number - 1) (change client))

-- nobody came, and nobody was put a reply
same_sizes : (old new : Hub) → IsSameHub old new → replies_of new ≡ replies_of old → sizes new ≡ sizes old
same_sizes old new same replies =
    let many : length new.clients ≡ length old.clients =
    sym (length-map new.clients (λ (c : HubClient). c.replies)) ∙ ap (λ (ns : List ℕ). length ns) replies ∙ length-map old.clients (λ (c : HubClient). c.replies) in
    λ i. record { limit = same.limit i; came = many i }

-- one of many has changed
pub changed_length : {A : Type 0} (number : ℕ) (was now : A) (old new : List A) → Changes number was now old new → length new ≡ length old
changed_length number was now old new c = ap (λ (xs : List _). length xs) c.is ∙ set_length old (number - 1) now

-- ---- clients

-- something was done with one: as many came, each with its link
pub clients_stand : (number : ℕ) (kind : ClientKind) (old new : State) → IsClientStep number kind old new → (sizes new.core.hub ≡ sizes old.core.hub) × (length new.clients ≡ length old.clients)
clients_stand number (Gave due link cut) old new step = (ap (λ (p : Part). sizes p.core.hub) step.9, changed_length number _ _ old.clients new.clients step.2)
clients_stand number (Asked frame) old new step =
    let serves = step.2.serves in
    (ap sizes serves.reply ∙ changed_sizes step.2.ready.client (with_reply (reply_now old.core step.2.ready.frame serves.answer)) old.core.hub, changed_length number _ _ old.clients new.clients step.6)
clients_stand number (Sent due link) old new step =
    (ap sizes step.3.left ∙ changed_sizes number (without step.3.count) old.core.hub, changed_length number _ _ old.clients new.clients step.2)
clients_stand number (Closed cause) old new step =
    (ap (λ (c : Core). sizes c.hub) step.4.core ∙ changed_sizes number shut old.core.hub, changed_length number _ _ old.clients new.clients step.2)
clients_stand number (Parted link) old new step = (ap (λ (p : Part). sizes p.core.hub) step.3, changed_length number _ _ old.clients new.clients step.1)

-- the links of all that are gone were shut
pub parted_length : (old new : List Client) → map (λ (c : Client). c.due) new ≡ map (λ (c : Client). c.due) old → length new ≡ length old
parted_length old new same = sym (length-map new (λ (c : Client). c.due)) ∙ ap (λ (ds : List _). length ds) same ∙ length-map old (λ (c : Client). c.due)

-- ---- channels

-- as many may be open and were opened, and no more are
pub record StaysRoom (old new : Channels) : Type 0 where
  pub at_once : new.at_once ≡ old.at_once
  pub in_all : new.in_all ≡ old.in_all
  pub opened : new.opened ≡ old.opened
  pub fewer : length new.inboxes ≤ length old.inboxes

room_by : (old new mid : Channels) → new ≡ mid → StaysRoom old mid → StaysRoom old new
room_by old new mid is room = subst (StaysRoom old) (sym is) room

room_same : (old new : Channels) → new ≡ old → StaysRoom old new
room_same old new is = room_by old new old is (record { at_once = refl; in_all = refl; opened = refl; fewer = omega arith })

-- something was done with one: as many clients came, as many channels may be open and no more are, and each that came has its link
pub programs_stand : (number : ℕ) (kind : ProgramKind) (old new : State) → IsProgramStep number kind old new
    → (sizes new.core.hub ≡ sizes old.core.hub) × StaysRoom old.channels new.channels × (length new.programs ≡ length old.programs)
programs_stand number (Said ends link inbox msgs) old new step = (
  ap (λ (p : Part). sizes p.core.hub) step.11,
  room_by old.channels new.channels _ step.10 (record { at_once = refl; in_all = refl; opened = refl; fewer = omega (arith, length-set_value (nat_eq number) old.channels.inboxes inbox) }),
  changed_length number _ _ old.programs new.programs step.2,
)
programs_stand number (Forwarded moment msgs) old new step =
    (same_sizes old.core.hub new.core.hub step.1.clients.same step.1.clients.replies, room_same old.channels new.channels step.2, changed_length number _ _ old.programs new.programs step.0.3)
programs_stand number (Noted moment msg) old new step =
    (same_sizes old.core.hub new.core.hub step.1.notes.same step.1.notes.replies, room_by old.channels new.channels _ step.2 (record { at_once = refl; in_all = refl; opened = refl; fewer = omega arith }), changed_length number _ _ old.programs new.programs step.0.3)
programs_stand number (Unregistered moment apid) old new step =
    (same_sizes old.core.hub new.core.hub step.1.notes.same step.1.notes.replies, room_same old.channels new.channels step.2, ap (λ (ps : List Program). length ps) step.3)
programs_stand number (TookLevels ends link) old new step = (
  ap (λ (p : Part). sizes p.core.hub) step.5,
  room_by old.channels new.channels _ step.4 (record { at_once = refl; in_all = refl; opened = refl; fewer = omega arith }),
  changed_length number _ _ old.programs new.programs step.2,
)
programs_stand number (ShutOff link) old new step =
    (ap (λ (p : Part). sizes p.core.hub) step.4, room_same old.channels new.channels step.3, changed_length number _ _ old.programs new.programs step.1)
programs_stand number Ended old new step =
    let test = λ (e : ℕ × cutter.Channel). not (nat_eq number e.0) in (
      ap (λ (p : Part). sizes p.core.hub) step.3,
      room_by old.channels new.channels _ step.1
          (record { at_once = refl; in_all = refl; opened = refl; fewer = omega (arith, length-filter test old.channels.inboxes, count_by-le-length test old.channels.inboxes) }),
      ap (λ (ps : List Program). length ps) step.2,
    )

-- ---- what is taken of this process, and its trace: as many clients came

pub rings_stand : (kind : RingKind) (old new : State) → IsRingStep kind old new → sizes new.core.hub ≡ sizes old.core.hub
rings_stand (TookCalls app moment items) old new step = same_sizes old.core.hub new.core.hub step.0.clients.same step.0.clients.replies
rings_stand (TookClaim app moment claim) old new step = ap (λ (c : Core). sizes c.hub) step.2
rings_stand (TookLosses app moment apid count) old new step = same_sizes old.core.hub new.core.hub step.0.clients.same step.0.clients.replies
rings_stand (Greeted moment msg) old new step = same_sizes old.core.hub new.core.hub step.0.same step.0.replies

pub renewed_stands : (old new : State) → BeginsOrStays old new → sizes new.core.hub ≡ sizes old.core.hub
renewed_stands old new (inl same) = ap (λ (c : Core). sizes c.hub) same
renewed_stands old new (inr anew) = ap (λ (c : Core). sizes c.hub) anew.2
