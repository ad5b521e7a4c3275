-- Between two visits: what the next one asks for holds again.
use Rattle.std.proofs.Common.{◌≡◌, ◌≢◌, ℕ, ◌+◌, ◌-◌, ◌≤◌, ◌<◌, List, length, Option, Some, None, inl, inr, sym, ap, subst, ◌∙◌, arith}
use Rattle.std.specs.Prelude.{slice_get, IsSome, IsSomeAnd}
use Rattle.std.specs.Option.{option_and_then}
use Rattle.std.proofs.lemmas.Bool.{cases_lt}
use Rattle.std.proofs.lemmas.Bool.Decides.{eqb_tells}
use Rattle.dl_bytes.specs.Limits.{message_limit, request_limit}
use Rattle.dl_outside.specs.Links.{Links}
use Rattle.dl_desk.specs.Told.{ControlTold}
use Rattle.dl_registry.specs.Kept.{Kept, owed_change}
use Rattle.dl_hub.specs.State.{Client, Hub, IsNextOpen, client_of, outbox_of}
use Rattle.dl_core.specs.State.{Core}
use Rattle.dl_turns.specs.Events.{HasServed, IsDeskOf, IsServing}
use Rattle.dl_rounds.specs.declared.listener.Listener.{Listener}
use Rattle.dl_rounds.specs.ListenerPool.{HasSeat, Seated}
use Rattle.dl_rounds.specs.Lends.{with_listener}
use Rattle.dl_rounds.specs.Ready.{AreHeard, AreLinked, KeepsRoom, fresh_listener}
use Rattle.dl_rounds.proofs.ByPlace.{set_cases, set_length}
use Rattle.dl_rounds.proofs.OneClient.{IsBut}
use Rattle.dl_rounds.proofs.Turned.{open_counts, open_within}
use Rattle.dl_lemmas.proofs.Lists.{set_other}

pub linked_again : {L : Type 0} (client : ℕ) (links links_now : Links L) (old new : Core) (spare spare_now : ℕ) → AreLinked links old spare → IsBut client old.hub new.hub
    → length links_now.links ≡ length links.links → links_now.room ≡ links.room → owed_change new.registry ≡ None → KeepsRoom old new spare spare_now → AreLinked links_now new spare_now
linked_again client links links_now old new spare spare_now linked but long room settled keeps = record {
  many = but.many ∙ linked.many ∙ sym long;
  few = omega (arith, linked.few, but.many, but.same.limit);
  place = omega (arith, linked.place, room, but.same.limit);
  settled = settled;
  room = omega (arith, linked.room, keeps);
}

served_still : (client served : ℕ) (old new : Core) → client_of new.hub client ≡ client_of old.hub client → HasServed client served old → HasServed client served new
served_still client served old new same has = subst (λ (o : Option Client). IsSomeAnd o (λ c. (c.replies ≡ served) × (served ≤ request_limit))) (sym same) has

-- another client that is open now was so before
was_open : (old new : Hub) (client other : ℕ) → IsBut client old new → other ≢ client → IsSome (outbox_of new other) → IsSome (outbox_of old other)
was_open old new client other but apart some = subst (λ (o : Option Client). IsSome (option_and_then (λ (c : Client). c.outbox) o)) (but.others other apart) some

pub heard_again : (client : ℕ) (seated : Seated) (was now : Listener) (old new : Core) (desk desk_now : ControlTold) → AreHeard seated old desk
    → slice_get seated.listeners (client - 1) ≡ Some was → HasSeat client seated → 0 < client → client ≤ length old.hub.clients → IsBut client old.hub new.hub
    → now.cutter.limit ≡ message_limit → HasServed client now.served new → IsDeskOf new.registry desk_now → AreHeard (with_listener seated client now) new desk_now
heard_again client seated was now old new desk desk_now heard at has some came but limit served kept = record {
  enough = omega (arith, heard.enough, but.same.limit, set_length seated.listeners (client - 1) now);
  limits = λ place listener is.
      set_cases (λ (l : Listener). l.cutter.limit ≡ message_limit) seated.listeners (client - 1) place was now listener at (λ e. limit) (λ apart there. heard.limits place listener there) is;
  counts = λ place listener is below.
      set_cases (λ (l : Listener). HasServed (place + 1) l.served new) seated.listeners (client - 1) place was now listener at
      (λ e. subst (λ (n : ℕ). HasServed n now.served new) (omega (arith, e, some)) served)
      (λ apart there. served_still (place + 1) listener.served old new (but.others (place + 1) (λ e. apart (omega (arith, e)))) (heard.counts place listener there (omega (arith, below, but.many)))) is;
  unused = λ place listener is above.
      set_cases (λ (l : Listener). l ≡ fresh_listener) seated.listeners (client - 1) place was now listener at (λ e. absurd (omega (arith, e, above, came, but.many, some)))
      (λ apart there. heard.unused place listener there (omega (arith, above, but.many))) is;
  waiting = λ number open_so none. elim (eqb_tells number client) [
    | inl this ↦ absurd (none (subst (λ (n : ℕ). HasSeat n seated) (sym this.1) has))
    | inr other ↦
        let before = was_open old.hub new.hub client number but other.1 open_so in
        let within = open_within old.hub number before in
        set_other seated.listeners (client - 1) (number - 1) now (λ e. other.1 (omega (arith, e, within.0, some))) ∙ heard.waiting number before none
  ];
  desk_so = kept;
}

-- seats changed hands
pub heard_seated : (seated seated_now : Seated) (core : Core) (desk : ControlTold) → AreHeard seated core desk → seated_now.listeners ≡ seated.listeners
    → ((number : ℕ) → IsSome (outbox_of core.hub number) → HasSeat number seated → HasSeat number seated_now) → AreHeard seated_now core desk
heard_seated seated seated_now core desk heard same stay = record {
  enough = omega (arith, heard.enough, ap length same);
  limits = λ place listener is. heard.limits place listener (at place ∙ is);
  counts = λ place listener is below. heard.counts place listener (at place ∙ is) below;
  unused = λ place listener is above. heard.unused place listener (at place ∙ is) above;
  waiting = λ number open_so none. sym (at (number - 1)) ∙ heard.waiting number open_so (λ has. none (stay number open_so has));
  desk_so = heard.desk_so;
} where
  at : (place : ℕ) → slice_get seated.listeners place ≡ slice_get seated_now.listeners place
  at place = sym (ap (λ (ls : List Listener). slice_get ls place) same)

pub heard_still : (client : ℕ) (seated : Seated) (old new : Core) (desk : ControlTold) → AreHeard seated old desk → IsBut client old.hub new.hub → IsSome (outbox_of old.hub client)
    → new.registry ≡ old.registry → ((served : ℕ) → HasServed client served old → HasServed client served new) → AreHeard seated new desk
heard_still client seated old new desk heard but was_so same served = record {
  enough = omega (arith, heard.enough, but.same.limit);
  limits = heard.limits;
  counts = λ place listener is below.
      let had = heard.counts place listener is (omega (arith, below, but.many)) in
      elim (eqb_tells (place + 1) client) [
        | inl this ↦ subst (λ (n : ℕ). HasServed n listener.served new) (sym this.1) (served listener.served (subst (λ (n : ℕ). HasServed n listener.served old) this.1 had))
        | inr other ↦ served_still (place + 1) listener.served old new (but.others (place + 1) other.1) had
      ];
  unused = λ place listener is above. heard.unused place listener is (omega (arith, above, but.many));
  waiting = λ number open_so. heard.waiting number (elim (eqb_tells number client) [
    | inl this ↦ subst (λ (n : ℕ). IsSome (outbox_of old.hub n)) (sym this.1) was_so
    | inr other ↦ was_open old.hub new.hub client number but other.1 open_so
  ]);
  desk_so = subst (λ (k : Kept). IsDeskOf k desk) (sym same) heard.desk_so;
}

-- ---- before a visit

-- an open client is served from here on
pub serves_on : {L : Type 0} (client : ℕ) (links : Links L) (seated : Seated) (listener : Listener) (core : Core) (desk : ControlTold) (spare : ℕ)
    → AreLinked links core spare → AreHeard seated core desk → IsSome (outbox_of core.hub client) → slice_get seated.listeners (client - 1) ≡ Some listener → IsServing client listener.served core desk
serves_on client links seated listener core desk spare linked heard some at =
    let within = open_within core.hub client some in
    let back : client - 1 + 1 ≡ client = omega (arith, within.0) in record {
      open_so = some;
      served_so = subst (λ (n : ℕ). HasServed n listener.served core) back (heard.counts (client - 1) listener at (omega (arith, within.0, within.1)));
      settled_so = linked.settled;
      desk_so = heard.desk_so;
    }

-- and the journal has room for a Close
pub room_for : {L : Type 0} (client : ℕ) (links : Links L) (core : Core) (spare : ℕ) → AreLinked links core spare → IsSome (outbox_of core.hub client) → 1 ≤ spare
room_for client links core spare linked some = omega (arith, linked.room, open_counts core.hub client some)

-- ---- at the stop

outbox_still : (old new : Hub) (client other : ℕ) → IsBut client old new → other ≢ client → outbox_of old other ≡ None → outbox_of new other ≡ None
outbox_still old new client other but apart gone = ap (λ (o : Option Client). option_and_then (λ (c : Client). c.outbox) o) (but.others other apart) ∙ gone

-- none up to this one is open, where none up to the one before was, and none between them
pub gone_more : (old new : Hub) (last client : ℕ) → IsBut client old new → ((number : ℕ) → number ≤ last → outbox_of old number ≡ None) → IsNextOpen old last (Some client)
    → outbox_of new client ≡ None → (number : ℕ) → number ≤ client → outbox_of new number ≡ None
gone_more old new last client but before next after number within = elim (eqb_tells number client) [
  | inl this ↦ subst (λ (n : ℕ). outbox_of new n ≡ None) (sym this.1) after
  | inr other ↦ outbox_still old new client number but other.1 (elim (cases_lt last number) [
    | inl above ↦ next.2 number above (omega (arith, within, other.1))
    | inr below ↦ before number below
  ])
]
