-- Clients that stay, and clients that are closed.
use Rattle.std.proofs.Common.{◌≡◌, ◌<◌, ◌+◌, ◌-◌, ℕ, zero, suc, Bool, true, false, cond, List, [], ◌∷◌, ◌++◌, length, map, Option, Some, None, refl, sym, ap, ◌∙◌, inl, inr, eqb, arith}
use Rattle.std.specs.Prelude.{nat_le, slice_get, IsSome, is_some, option_map}
use Rattle.std.specs.List.{filter_map}
use Rattle.std.specs.Option.{option_and_then, option_map_or}
use Rattle.std.proofs.lemmas.Bool.Decides.{eqb_tells, nat_tests}
use Rattle.std.proofs.lemmas.List.Elements.{filter_map-append}
use Rattle.std.proofs.lemmas.Option.{slice_get-map}
use Rattle.dl_events.specs.declared.event.Event.{Event}
use Rattle.dl_events.specs.declared.event.Why.{Why}
use Rattle.dl_events.specs.declared.event.Why.TheVariants as why
use Rattle.dl_model.specs.Report.{closed_of, why_of}
use Rattle.dl_hub.specs.State.{Client, Hub, Waiting, IsSameHub, client_of, is_open, outbox_of, replies_of, shut, takes}
use Rattle.dl_admission.specs.Admission.{KeepsClients}
use Rattle.dl_admission.specs.Slow.{room_in, shut_if_slow, slow_among, slow_clients, slow_close, without_slow}
use Rattle.dl_lemmas.proofs.Options.{none_of}

-- ---- nothing

pub clients_none : (hub : Hub) → KeepsClients [] hub hub
clients_none hub = record {
  same = record { ecu = refl; buffer = refl; limit = refl };
  replies = refl;
  stay = λ client none. refl;
  go = λ client some. absurd (cc some);
}

-- ---- one after the other

pub clients_both : (xs ys : List Event) (old between new : Hub) → KeepsClients xs old between → KeepsClients ys between new → KeepsClients (xs ++ ys) old new
clients_both xs ys old between new first second = record {
  same = record { ecu = second.same.ecu ∙ first.same.ecu; buffer = second.same.buffer ∙ first.same.buffer; limit = second.same.limit ∙ first.same.limit };
  replies = second.replies ∙ first.replies;
  stay = λ client none.
      let parts = stays client (filter_map (closed_of client) xs) (ap (λ (ws : List Why). slice_get ws 0) (sym (filter_map-append (closed_of client) xs ys)) ∙ none) in
      second.stay client parts.1 ∙ first.stay client parts.0;
  go = λ client some.
      goes client (filter_map (closed_of client) xs) refl (ap (λ (ws : List Why). is_some (slice_get ws 0)) (sym (filter_map-append (closed_of client) xs ys)) ∙ some);
} where
  stays : (client : ℕ) (ws : List Why) → slice_get (ws ++ filter_map (closed_of client) ys) 0 ≡ None → (slice_get ws 0 ≡ None) × (why_of client ys ≡ None)
  stays client [] none = (refl, none)
  stays client (w ∷ ws) none = absurd (cc none)

  still_gone : (client : ℕ) → outbox_of between client ≡ None → (o : Option Why) → why_of client ys ≡ o → outbox_of new client ≡ None
  still_gone client gone None is = none_of (outbox_of new client) (second.stay client is ∙ ap is_some gone)
  still_gone client gone (Some w) is = (second.go client (ap is_some is)).1

  goes : (client : ℕ) (ws : List Why) → filter_map (closed_of client) xs ≡ ws → is_some (slice_get (ws ++ filter_map (closed_of client) ys) 0) ≡ true
      → IsSome (outbox_of old client) × (outbox_of new client ≡ None)
  goes client [] is some =
      let its = second.go client some in
      (sym (first.stay client (ap (λ (vs : List Why). slice_get vs 0) is)) ∙ its.0, its.1)
  goes client (w ∷ ws) is some =
      let its = first.go client (ap (λ (vs : List Why). is_some (slice_get vs 0)) is) in
      (its.0, still_gone client its.1 (why_of client ys) refl)

-- ---- events that close nobody

opened : (o : Option Client) → is_some (option_and_then (λ (c : Client). c.outbox) o) ≡ option_map_or (λ (b : Bool). b) (option_map is_open o) false
opened None = refl
opened (Some c) = refl

open_same : (old new : Hub) → map is_open new.clients ≡ map is_open old.clients → (client : ℕ) → is_some (outbox_of new client) ≡ is_some (outbox_of old client)
open_same old new same client = by (eqb client 0) where
  at : slice_get (map is_open new.clients) (client - 1) ≡ slice_get (map is_open old.clients) (client - 1)
  at = ap (λ (bs : List Bool). slice_get bs (client - 1)) same

  by : (b : Bool) → is_some (option_and_then (λ (c : Client). c.outbox) (cond b None (slice_get new.clients (client - 1))))
      ≡ is_some (option_and_then (λ (c : Client). c.outbox) (cond b None (slice_get old.clients (client - 1))))
  by true = refl
  by false =
      opened (slice_get new.clients (client - 1))
      ∙ ap (λ (o : Option Bool). option_map_or (λ (b : Bool). b) o false) (sym (slice_get-map is_open new.clients (client - 1)) ∙ at ∙ slice_get-map is_open old.clients (client - 1))
      ∙ sym (opened (slice_get old.clients (client - 1)))

pub clients_stay : (xs : List Event) (old new : Hub) → ((client : ℕ) → why_of client xs ≡ None) → IsSameHub old new → replies_of new ≡ replies_of old
    → map is_open new.clients ≡ map is_open old.clients → KeepsClients xs old new
clients_stay xs old new nobody same replies still = record {
  same = same;
  replies = replies;
  stay = λ client none. open_same old new still client;
  go = λ client some. absurd (not_both (why_of client xs) (nobody client) some);
} where
  not_both : (o : Option Why) → o ≡ None → IsSome o → ⊥
  not_both None is some = absurd (cc some)
  not_both (Some w) is some = absurd (cc is)

pub clients_noted : (e : Event) (old new : Hub) → ((client : ℕ) → closed_of client e ≡ None) → IsSameHub old new → replies_of new ≡ replies_of old
    → map is_open new.clients ≡ map is_open old.clients → KeepsClients (e ∷ []) old new
clients_noted e old new cause = clients_stay (e ∷ []) old new (λ client. rw (cause client) refl)

-- ---- slow clients that are closed

shut_replies : (need : ℕ) (clients : List Client) → map (λ (c : Client). c.replies) (map (shut_if_slow need) clients) ≡ map (λ (c : Client). c.replies) clients
shut_replies need [] = refl
shut_replies need (c ∷ cs) = rw (shut_replies need cs) (ap (λ (n : ℕ). n ∷ map (λ (d : Client). d.replies) cs) (by (takes need c))) where
  by : (b : Bool) → (cond b c (shut c)).replies ≡ c.replies
  by true = refl
  by false = refl

-- the causes that the Closes of slow clients tell of a client
abbrev pub closings_of : ℕ → ℕ → ℕ → List Client → List Why
closings_of number need first clients = filter_map (closed_of number) (map (slow_close need) (slow_among need first clients))

-- of one numbered before all of these there is none
none_below : (number need first : ℕ) (clients : List Client) → number < first → closings_of number need first clients ≡ []
none_below number need first [] low = refl
none_below number need first (c ∷ cs) low = by (takes need c) (none_below number need (first + 1) cs (omega (arith, low))) where
  apart : eqb first number ≡ false
  apart = elim (eqb_tells first number) [
    | inl same ↦ absurd (omega (arith, same.1, low))
    | inr other ↦ other.0
  ]

  by : (b : Bool) → closings_of number need (first + 1) cs ≡ []
      → filter_map (closed_of number) (map (slow_close need) (cond b (slow_among need (first + 1) cs) (record { client = first; room = room_in c } ∷ slow_among need (first + 1) cs))) ≡ []
  by true rest = rest
  by false rest = rw apart rest

-- what is told of the client at a place
abbrev pub cause_of : ℕ → Client → List Why
cause_of need c = cond (takes need c) [] (why.Slow (room_in c) need ∷ [])

told_at : (need first place : ℕ) (clients : List Client) → closings_of (first + place) need first clients ≡ option_map_or (cause_of need) (slice_get clients place) []
told_at need first place [] = refl
told_at need first zero (c ∷ cs) =
    let number : first + 0 ≡ first = omega arith in rw number (by (takes need c)) where
      rest : closings_of first need (first + 1) cs ≡ []
      rest = none_below first need (first + 1) cs (omega arith)

      same : eqb first first ≡ true
      same = elim (eqb_tells first first) [
        | inl is ↦ is.0
        | inr apart ↦ absurd (apart.1 refl)
      ]

      by : (b : Bool) → filter_map (closed_of first) (map (slow_close need) (cond b (slow_among need (first + 1) cs) (record { client = first; room = room_in c } ∷ slow_among need (first + 1) cs)))
          ≡ cond b [] (why.Slow (room_in c) need ∷ [])
      by true = rest
      by false = rw same (ap (λ (ws : List Why). why.Slow (room_in c) need ∷ ws) rest)
told_at need first (suc place) (c ∷ cs) =
    let number : first + suc place ≡ first + 1 + place = omega arith in rw number (by (takes need c) (told_at need (first + 1) place cs)) where
      apart : eqb first (first + 1 + place) ≡ false
      apart = elim (eqb_tells first (first + 1 + place)) [
        | inl same ↦ absurd (omega (arith, same.1))
        | inr other ↦ other.0
      ]

      by : (b : Bool) → closings_of (first + 1 + place) need (first + 1) cs ≡ option_map_or (cause_of need) (slice_get cs place) []
          → filter_map (closed_of (first + 1 + place)) (map (slow_close need) (cond b (slow_among need (first + 1) cs) (record { client = first; room = room_in c } ∷ slow_among need (first + 1) cs)))
          ≡ option_map_or (cause_of need) (slice_get cs place) []
      by true rest = rest
      by false rest = rw apart rest

-- the cause that they tell of a number
cause_at : (need number : ℕ) (hub : Hub) → closings_of number need 1 hub.clients ≡ option_map_or (cause_of need) (client_of hub number) []
cause_at need zero hub = none_below 0 need 1 hub.clients (omega arith)
cause_at need (suc place) hub =
    let number : suc place ≡ 1 + place = omega arith in
    let before : suc place - 1 ≡ place = omega arith in
    let somebody : eqb (suc place) 0 ≡ false = grind (arith, nat_tests) in
    rw somebody (ap (λ (n : ℕ). closings_of n need 1 hub.clients) number ∙ told_at need 1 place hub.clients
    ∙ ap (λ (p : ℕ). option_map_or (cause_of need) (slice_get hub.clients p) []) (sym before))

shut_client : (need number : ℕ) (hub : Hub) → client_of (without_slow need hub) number ≡ option_map (shut_if_slow need) (client_of hub number)
shut_client need number hub = by (eqb number 0) where
  by : (b : Bool) → cond b None (slice_get (map (shut_if_slow need) hub.clients) (number - 1)) ≡ option_map (shut_if_slow need) (cond b None (slice_get hub.clients (number - 1)))
  by true = refl
  by false = slice_get-map (shut_if_slow need) hub.clients (number - 1)

module _ (need : ℕ) where
  stays_open : (o : Option Client) → slice_get (option_map_or (cause_of need) o []) 0 ≡ None
      → is_some (option_and_then (λ (c : Client). c.outbox) (option_map (shut_if_slow need) o)) ≡ is_some (option_and_then (λ (c : Client). c.outbox) o)
  stays_open None none = refl
  stays_open (Some c) none = by (takes need c) none where
    by : (b : Bool) → slice_get (cond b [] (why.Slow (room_in c) need ∷ [])) 0 ≡ None → is_some (cond b c (shut c)).outbox ≡ is_some c.outbox
    by true none = refl
    by false none = absurd (cc none)

  is_gone : (o : Option Client) → is_some (slice_get (option_map_or (cause_of need) o []) 0) ≡ true
      → IsSome (option_and_then (λ (c : Client). c.outbox) o) × (option_and_then (λ (c : Client). c.outbox) (option_map (shut_if_slow need) o) ≡ None)
  is_gone None some = absurd (cc some)
  is_gone (Some c) some = by (takes need c) refl some where
    has : (o : Option Waiting) → option_map_or (λ w. nat_le (length w.bytes + need) w.capacity) o true ≡ false → IsSome o
    has None e = absurd (cc e)
    has (Some w) e = refl

    by : (b : Bool) → takes need c ≡ b → is_some (slice_get (cond b [] (why.Slow (room_in c) need ∷ [])) 0) ≡ true → IsSome c.outbox × ((cond b c (shut c)).outbox ≡ None)
    by true is some = absurd (cc some)
    by false is some = (has c.outbox is, refl)

pub clients_closed : (need : ℕ) (hub : Hub) → KeepsClients (map (slow_close need) (slow_clients need hub)) hub (without_slow need hub)
clients_closed need hub = record {
  same = record { ecu = refl; buffer = refl; limit = refl };
  replies = shut_replies need hub.clients;
  stay = λ client none.
      ap (λ (o : Option Client). is_some (option_and_then (λ (c : Client). c.outbox) o)) (shut_client need client hub)
      ∙ stays_open need (client_of hub client) (ap (λ (ws : List Why). slice_get ws 0) (sym (cause_at need client hub)) ∙ none);
  go = λ client some.
      let its = is_gone need (client_of hub client) (ap (λ (ws : List Why). is_some (slice_get ws 0)) (sym (cause_at need client hub)) ∙ some) in
      (its.0, ap (λ (o : Option Client). option_and_then (λ (c : Client). c.outbox) o) (shut_client need client hub) ∙ its.1);
}
