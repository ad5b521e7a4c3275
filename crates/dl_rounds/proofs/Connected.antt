-- A client that connects.
use Rattle.std.proofs.Common.{◌≡◌, ℕ, ◌+◌, ◌-◌, ◌<◌, ◌≤◌, ◌∷◌, [], ◌++◌, List, length, Option, Some, Result, Ok, Err, inl, inr, sym, ap, subst, ◌∙◌, arith, length-append}
use Rattle.std.specs.Prelude.{slice_get, IfOk, IfSome, IsSome, IsSomeAnd, OnOk}
use Rattle.std.specs.Option.{option_and_then}
use Rattle.std.specs.Result.{result_ok}
use Rattle.std.proofs.lemmas.Bool.{cases_lt}
use Rattle.std.proofs.lemmas.Bool.Decides.{eqb_tells}
use Rattle.dl_bytes.specs.Limits.{request_limit}
use Rattle.dl_events.specs.Journal as notes
use Rattle.dl_events.specs.declared.event.Event.{Event}
use Rattle.dl_events.specs.declared.event.Event.TheVariants as event
use Rattle.dl_desk.specs.Told.{ControlTold}
use Rattle.dl_registry.specs.Kept.{Kept}
use Rattle.dl_hub.specs.State.{Client, Comes, HasPlace, Hub, IsSameHub, client_of, outbox_of}
use Rattle.dl_hub.specs.declared.hub.HubFault.{HubFault}
use Rattle.dl_core.specs.Follows.{AddsAlone}
use Rattle.dl_core.specs.State.{Core}
use Rattle.dl_turns.specs.Events.{HasServed, IsDeskOf}
use Rattle.dl_rounds.specs.declared.listener.Listener.{Listener}
use Rattle.dl_rounds.specs.Arrivals.{Connects}
use Rattle.dl_rounds.specs.Ready.{AreHeard}
use Rattle.dl_rounds.specs.ListenerPool.{Seated}
use Rattle.dl_rounds.proofs.ByPlace.{get_before}
use Rattle.dl_rounds.proofs.Turned.{open_within}
use Rattle.dl_lemmas.proofs.Lists.{get_end, there}

pub connected : (r : Result ℕ HubFault) (o : Option ℕ) (old new : Core) (events events_now : Option (List Event)) → o ≡ result_ok r → HasPlace old.hub
    → IfOk r (λ number. number ≡ length old.hub.clients + 1) → IfOk r (λ number. AddsAlone (event.Connect number ∷ []) old new)
    → IfOk r (λ number. notes.Adds events events_now (event.Connect number)) → OnOk r (Comes old.hub new.hub) → IsSameHub old.hub new.hub → new.hub.admitted ≡ old.hub.admitted
    → new ≡ record old { hub = new.hub } → IfSome o (λ number. Connects number old new events events_now)
connected (Err fault) o old new events events_now is place next after noted comes same admitted rest = subst (λ (x : Option ℕ). IfSome x (λ number. Connects number old new events events_now)) (sym is) tt
connected (Ok number) o old new events events_now is place next after noted comes same admitted rest =
    subst (λ (x : Option ℕ). IfSome x (λ n. Connects n old new events events_now)) (sym is)
    (record { place = place; next = next; comes = comes; same = same; admitted = admitted; after = after; event = noted; rest = rest })

-- ---- its listener

pub at_next : (hub : Hub) (place : ℕ) → client_of hub (place + 1) ≡ slice_get hub.clients place
at_next hub place =
    let back : place + 1 - 1 ≡ place = omega arith in elim (eqb_tells (place + 1) 0) [
      | inl none ↦ absurd (omega (arith, none.1))
      | inr some ↦ rw some.0 (ap (λ (n : ℕ). slice_get hub.clients n) back)
    ]

-- a client that came before is as it was
same_before : (old new : Hub) (comes : Comes old new) (place : ℕ) → place < length old.clients → client_of new (place + 1) ≡ client_of old (place + 1)
same_before old new comes place within =
    at_next new place ∙ ap (λ (cs : List Client). slice_get cs place) comes.1 ∙ get_before old.clients (comes.0 ∷ []) place within ∙ sym (at_next old place)

-- and this one is the last
last_one : (old new : Hub) (comes : Comes old new) (place : ℕ) → place ≡ length old.clients → client_of new (place + 1) ≡ Some comes.0
last_one old new comes place is =
    at_next new place ∙ ap (λ (cs : List Client). slice_get cs place) comes.1 ∙ ap (λ (n : ℕ). slice_get (old.clients ++ comes.0 ∷ []) n) is ∙ get_end old.clients comes.0

one_longer : (old new : Hub) → Comes old new → length new.clients ≡ length old.clients + 1
one_longer old new comes = ap length comes.1 ∙ length-append old.clients (comes.0 ∷ [])

is_served : (o : Option Client) (c : Client) → o ≡ Some c → c.replies ≡ 0 → IsSomeAnd o (λ x. (x.replies ≡ 0) × (0 ≤ request_limit))
is_served o c is none = subst (λ (x : Option Client). IsSomeAnd x (λ y. (y.replies ≡ 0) × (0 ≤ request_limit))) (sym is) (none, omega arith)

pub heard_comes : (number : ℕ) (old new : Core) (events events_now : Option (List Event)) → Connects number old new events events_now → (seated : Seated) (desk : ControlTold)
    → AreHeard seated old desk → AreHeard seated new desk
heard_comes number old new events events_now connects seated desk heard =
    let comes = connects.comes in
    let longer = one_longer old.hub new.hub comes in record {
      enough = omega (arith, heard.enough, connects.same.limit);
      limits = heard.limits;
      counts = λ place listener is below. elim (cases_lt place (length old.hub.clients)) [
        | inl before ↦
            subst (λ (o : Option Client). IsSomeAnd o (λ c. (c.replies ≡ listener.served) × (listener.served ≤ request_limit))) (sym (same_before old.hub new.hub comes place before))
            (heard.counts place listener is before)
        | inr after ↦
            let last = last_one old.hub new.hub comes place (omega (arith, after, below, longer)) in
            let none : listener.served ≡ 0 = ap (λ (l : Listener). l.served) (heard.unused place listener is after) in
            subst (λ (n : ℕ). HasServed (place + 1) n new) (sym none) (is_served (client_of new.hub (place + 1)) comes.0 last comes.3)
      ];
      unused = λ place listener is above. heard.unused place listener is (omega (arith, above, longer));
      waiting = λ client open_so none.
          let within = open_within new.hub client open_so in
          let back : client ≡ client - 1 + 1 = omega (arith, within.0) in elim (cases_lt (client - 1) (length old.hub.clients)) [
            | inl before ↦
                let here = subst (λ (n : ℕ). IsSome (outbox_of new.hub n)) back open_so in
                let was = subst (λ (o : Option Client). IsSome (option_and_then (λ (c : Client). c.outbox) o)) (same_before old.hub new.hub comes (client - 1) before) here in
                heard.waiting client (subst (λ (n : ℕ). IsSome (outbox_of old.hub n)) (sym back) was) none
            | inr after ↦
                let at = there seated.listeners (client - 1) (omega (arith, within.0, within.1, longer, heard.enough, connects.place.0)) in
                at.1 ∙ ap (λ (l : Listener). Some l) (heard.unused (client - 1) at.0 at.1 after)
          ];
      desk_so = subst (λ (k : Kept). IsDeskOf k desk) (sym (ap (λ (c : Core). c.registry) connects.rest)) heard.desk_so;
    }
