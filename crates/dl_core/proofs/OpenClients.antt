-- Who is open, by the core and by its journal.
use Rattle.std.proofs.Common.{◌≡◌, ◌≢◌, ℕ, ◌+◌, ◌-◌, ◌<◌, ◌≤◌, Bool, true, false, cond, eqb, get_or, List, [], ◌∷◌, ◌++◌, length, Option, Some, None, is_some, refl, sym, ap, subst, ◌∙◌, arith, inl, inr}
use Rattle.std.specs.Prelude.{◌⊎◌, slice_get, IsSome}
use Rattle.std.specs.List.{list_any, cons_option}
use Rattle.std.specs.Option.{option_and_then}
use Rattle.std.proofs.lemmas.Bool.{or_parts}
use Rattle.std.proofs.lemmas.Bool.Decides.{eqb_tells}
use Rattle.std.proofs.lemmas.List.Elements.{filter_map-append}
use Rattle.std.proofs.lemmas.List.Folds.{list_any-append}
use Rattle.std.proofs.lemmas.Option.{slice_get_cases}
use Rattle.dl_lemmas.proofs.Options.{some_is}
use Rattle.dl_events.specs.declared.event.Event.{Event}
use Rattle.dl_model.specs.Traffic.{Traffic, Connected, Admitted, Reply, Closed, is_coming, comes_or_goes, comer_of, clients, is_open}
use Rattle.dl_model.specs.ClientStream.{traffic}
use Rattle.dl_model.specs.Journal.{IsOpen}
use Rattle.dl_model.proofs.ClientStreams.{is_open-one}
use Rattle.dl_laws.proofs.ClientStays.{is_open_in, opened_is}
use Rattle.dl_laws.proofs.JournalStreams.{open_same}
use Rattle.dl_hub.specs.State.{Client, Hub, client_of, outbox_of}
use Rattle.dl_hub.specs.Follows.{IsStream}
use Rattle.dl_core.specs.State.{Core}
use Rattle.dl_core.specs.Follows.{IsAfter, Run, source_of}
use Rattle.dl_lemmas.proofs.Bools.{choice_same}
use Rattle.dl_lemmas.proofs.Lists.{by_end, not_in_range}

-- ---- who never came

came_one : (client : ℕ) (ts : List Traffic) (t : Traffic) → list_any (λ d. eqb d client) (clients (ts ++ t ∷ [])) ≡ false
    → (list_any (λ d. eqb d client) (clients ts) ≡ false) × (list_any (λ d. eqb d client) (cons_option (comer_of t) []) ≡ false)
came_one client ts t none =
    or_parts (list_any (λ d. eqb d client) (clients ts)) (list_any (λ d. eqb d client) (cons_option (comer_of t) []))
    (sym (list_any-append (λ d. eqb d client) (clients ts) (cons_option (comer_of t) [])) ∙ ap (list_any (λ d. eqb d client)) (sym (filter_map-append comer_of ts (t ∷ []))) ∙ none)

-- one entry by which it does not come
shut_one : (client : ℕ) (ts : List Traffic) (t : Traffic) → list_any (λ d. eqb d client) (cons_option (comer_of t) []) ≡ false → is_open client ts ≡ false
    → cond (comes_or_goes client t) (is_coming t) (is_open client ts) ≡ false
shut_one client ts (Connected other) none shut =
    ap (λ (b : Bool). cond b true (is_open client ts)) (or_parts (eqb other client) false none).0 ∙ shut
shut_one client ts (Closed other) none shut = ap (λ (b : Bool). cond (eqb other client) false b) shut ∙ choice_same (eqb other client)
shut_one client ts (Admitted frame) none shut = shut
shut_one client ts (Reply other frame) none shut = shut

never_came : (client : ℕ) (ts : List Traffic) → list_any (λ d. eqb d client) (clients ts) ≡ false → is_open client ts ≡ false
never_came client = by_end (λ (ts : List Traffic). list_any (λ d. eqb d client) (clients ts) ≡ false → is_open client ts ≡ false) (λ none. refl) (λ ts t before none.
    let parts = came_one client ts t none in
    is_open-one client ts t ∙ shut_one client ts t parts.1 (before parts.0))

-- ---- a client of the hub

-- the client of a number, at its place
record Stands (h : Hub) (number : ℕ) : Type 0 where
  client : Client
  place : ℕ
  number_is : place + 1 ≡ number
  at_place : slice_get h.clients place ≡ Some client
  is_client : client_of h number ≡ Some client

-- a number of none is 0, or above them all
record IsNobody (h : Hub) (number : ℕ) : Type 0 where
  outside : (number < 1) ⊎ (1 + length h.clients ≤ number)
  none : client_of h number ≡ None

client_cases : (h : Hub) (number : ℕ) → Stands h number ⊎ IsNobody h number
client_cases h number = by_zero (eqb_tells number 0) where
  by_place : number ≢ 0 → client_of h number ≡ slice_get h.clients (number - 1)
      → ((x : Client) × (number - 1 < length h.clients) × (slice_get h.clients (number - 1) ≡ Some x) × (get_or h.clients (number - 1) x ≡ x))
      ⊎ ((length h.clients ≤ number - 1) × (slice_get h.clients (number - 1) ≡ None))
      → Stands h number ⊎ IsNobody h number
  by_place some of (inl there) = inl (record { client = there.0; place = number - 1; number_is = omega (arith, some); at_place = there.2; is_client = of ∙ there.2 })
  by_place some of (inr past) = inr (record { outside = inr (omega (arith, past.0, some)); none = of ∙ past.1 })

  by_zero : ((eqb number 0 ≡ true) × (number ≡ 0)) ⊎ ((eqb number 0 ≡ false) × (number ≢ 0)) → Stands h number ⊎ IsNobody h number
  by_zero (inl none) = inr (record { outside = inl (omega (arith, none.1)); none = ap (λ (b : Bool). cond b None (slice_get h.clients (number - 1))) none.0 })
  by_zero (inr some) = by_place some.1 (ap (λ (b : Bool). cond b None (slice_get h.clients (number - 1))) some.0) (slice_get_cases h.clients (number - 1)).1

-- ---- with its journal

module _ (run : Run) (events : List Event) (taken : ℕ → List ℕ) (core : Core) (is : IsAfter run events taken core) where
  abbrev talk : List Traffic
  talk = traffic (source_of run) events

  -- what stands of a client in the hub
  pub its_stream : (number : ℕ) (client : Client) → client_of core.hub number ≡ Some client → IsStream core.hub.ecu core.hub.buffer talk (taken number) number client
  its_stream number client there = elim (client_cases core.hub number) [
    | inl stands ↦
        let same : stands.client ≡ client = some_is (sym stands.is_client ∙ there) in
        let here = is.hub.streams stands.place stands.client stands.at_place in
        let moved = subst (λ (n : ℕ). IsStream core.hub.ecu core.hub.buffer talk (taken n) n stands.client) stands.number_is here in
        subst (IsStream core.hub.ecu core.hub.buffer talk (taken number) number) same moved
    | inr nobody ↦ absurd (let bad : None ≡ Some client = sym nobody.none ∙ there in cc)
  ]

  -- it has an outbox where the traffic has it open
  open_by_cases : (number : ℕ) (o : Option Client) → client_of core.hub number ≡ o → (o ≡ None → is_open number talk ≡ false)
      → is_open number talk ≡ is_some (option_and_then (λ (c : Client). c.outbox) o)
  open_by_cases number (Some client) there none = (its_stream number client there).is_there
  open_by_cases number None there none = none refl

  pub open_as : (number : ℕ) → is_open number talk ≡ is_some (outbox_of core.hub number)
  open_as number = elim (client_cases core.hub number) [
    | inl stands ↦ open_by_cases number (client_of core.hub number) refl (λ none. absurd (let bad : None ≡ Some stands.client = sym none ∙ stands.is_client in cc))
    | inr nobody ↦ open_by_cases number (client_of core.hub number) refl
        (λ none. never_came number talk (ap (list_any (λ d. eqb d number)) is.hub.came ∙ not_in_range 1 (length core.hub.clients) number nobody.outside))
  ]

  pub open_by_journal : (number : ℕ) → IsSome (outbox_of core.hub number) → IsOpen number events
  open_by_journal number there = is_open_in number events (sym (open_same (source_of run) number events) ∙ open_as number ∙ there)

  pub open_by_core : (number : ℕ) → IsOpen number events → IsSome (outbox_of core.hub number)
  open_by_core number there = sym (open_as number) ∙ open_same (source_of run) number events ∙ opened_is number events there
