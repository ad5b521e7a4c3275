-- The links of clients that are gone are shut: they stay so where a client comes and where none was closed, and then there is nothing to shut.
use Rattle.std.proofs.Common.{◌≡◌, ℕ, zero, suc, ◌+◌, ◌-◌, ◌<◌, ◌≤◌, Bool, true, false, cond, List, [], ◌∷◌, ◌++◌, length, map, Option, Some, None, refl, sym, ap, subst, ◌∙◌, arith, ltb-false}
use Rattle.std.specs.Prelude.{count_by, is_some, nat_lt, replicate, slice_get, IsSome, ◌||◌}
use Rattle.std.specs.Option.{option_and_then}
use Rattle.std.proofs.lemmas.List.{length-map, length-replicate, map-append}
use Rattle.dl_lemmas.proofs.Bools.{neither}
use Rattle.dl_outside.proofs.Staying.{stays_same}
use Rattle.dl_core.specs.State.{Core}
use Rattle.dl_events.specs.declared.event.Event.{Event}
use Rattle.dl_hub.specs.State.{Client, Hub, is_open, outbox_of}
use Rattle.dl_lemmas.proofs.Lists.{get_end, last_or_before, within_of}
use Rattle.dl_loop.proofs.Accepted.{folder_none}
use Rattle.dl_outside.specs.Links.{Links}
use Rattle.dl_outside.specs.Told.{LinkTold, NetTold}
use Rattle.dl_rounds.specs.Arrivals.{Arrives, ConnectsAs}
use Rattle.dl_rounds.specs.Clients.{Clients, VisitsAll}
use Rattle.dl_rounds.specs.Partings.{AreShut, ShutsGone}
use Rattle.dl_rounds.specs.Ready.{fresh_listener}
use Rattle.dl_rounds.specs.Visits.{IsShut, Pumped, PumpsAll}
use Rattle.dl_rounds.specs.declared.accepting.Arrival.{Arrival}
use Rattle.dl_rounds.specs.declared.accepting.Arrival.TheVariants as arrival
use Rattle.dl_rounds.proofs.ByPlace.{get_before}
use Rattle.dl_rounds.proofs.Connected.{at_next}
use Rattle.dl_admission.proofs.StandingClients.{as_many, was_open}
use Rattle.dl_channel_turns.proofs.OpenClients.{one}
use Rattle.dl_server.proofs.HeldRounds.{no_desk}
use Rattle.dl_server.proofs.ReadyListeners.{Keeps}
use Rattle.dl_lemmas.proofs.Options.{none_of, same_thing}

-- ---- where no client was closed

-- the client at a place is open
abbrev open_at : List Client → ℕ → Bool
open_at clients place = is_some (option_and_then (λ (c : Client). c.outbox) (slice_get clients place))

-- each that is open was so before
abbrev WereOpen : List Client → List Client → Type 0
WereOpen old new = (place : ℕ) → open_at new place ≡ true → open_at old place ≡ true

fewer : (b c : Bool) → (c ≡ true → b ≡ true) → ◌≤◌ (cond c 1 0) (cond b 1 0)
fewer true true was = omega arith
fewer true false was = omega arith
fewer false true was = absurd (cc (was refl))
fewer false false was = omega arith

same_first : (b c : Bool) → (c ≡ true → b ≡ true) → ◌≤◌ (cond b 1 0) (cond c 1 0) → c ≡ b
same_first true true was all = refl
same_first true false was all = absurd (omega (arith, all))
same_first false true was all = absurd (cc (was refl))
same_first false false was all = refl

no_more : (old new : List Client) → length new ≡ length old → WereOpen old new → count_by is_open new ≤ count_by is_open old
no_more [] [] many was = omega arith
no_more [] (d ∷ ds) many was = absurd (omega (arith, many))
no_more (c ∷ cs) [] many was = absurd (omega (arith, many))
no_more (c ∷ cs) (d ∷ ds) many was =
    omega (arith, one c cs, one d ds, fewer (is_open c) (is_open d) (was 0), no_more cs ds (omega (arith, many)) (λ place. was (suc place)))

-- as many are open, so these are the same
all_open : (old new : List Client) → length new ≡ length old → WereOpen old new → count_by is_open old ≤ count_by is_open new → (place : ℕ) → open_at new place ≡ open_at old place
all_open [] [] many was all place = refl
all_open [] (d ∷ ds) many was all place = absurd (omega (arith, many))
all_open (c ∷ cs) [] many was all place = absurd (omega (arith, many))
all_open (c ∷ cs) (d ∷ ds) many was all zero =
    same_first (is_open c) (is_open d) (was 0) (omega (arith, one c cs, one d ds, all, no_more cs ds (omega (arith, many)) (λ place. was (suc place))))
all_open (c ∷ cs) (d ∷ ds) many was all (suc place) =
    all_open cs ds (omega (arith, many)) (λ p. was (suc p)) (omega (arith, one c cs, one d ds, all, fewer (is_open c) (is_open d) (was 0))) place

open_place : (hub : Hub) (place : ℕ) → is_some (outbox_of hub (place + 1)) ≡ open_at hub.clients place
open_place hub place = ap (λ (o : Option Client). is_some (option_and_then (λ (c : Client). c.outbox) o)) (at_next hub place)

still_gone : (old new : Hub) (place : ℕ) → Keeps old new → count_by is_open old.clients ≤ count_by is_open new.clients → outbox_of new (place + 1) ≡ None → outbox_of old (place + 1) ≡ None
still_gone old new place keeps all none =
    let same = all_open old.clients new.clients (as_many keeps.0 old new keeps.1)
    (λ p open_so. sym (open_place old p) ∙ was_open keeps.0 old new (p + 1) keeps.1 (open_place new p ∙ open_so)) all place in
    none_of (outbox_of old (place + 1)) (open_place old place ∙ sym same ∙ sym (open_place new place) ∙ ap is_some none)

still_shut : (old new : Hub) (links : List LinkTold) → Keeps old new → count_by is_open old.clients ≤ count_by is_open new.clients → AreShut old links → AreShut new links
still_shut old new links keeps all shut = λ number link some none there.
    let back : number - 1 + 1 ≡ number = omega (arith, some) in
    shut number link some
    (subst (λ (n : ℕ). outbox_of old n ≡ None) back (still_gone old new (number - 1) keeps all (subst (λ (n : ℕ). outbox_of new n ≡ None) (sym back) none)))
    there

-- Where it is noted whether fewer are open than before, the links of those that are gone are shut unless it is noted that one may not be.
pub shut_noted : (old new : Hub) (links : List LinkTold) (unshut unshut_now : Bool) (before after : ℕ) → Keeps old new → before ≡ count_by is_open old.clients → after ≡ count_by is_open new.clients
    → unshut_now ≡ (unshut || nat_lt after before) → (unshut ≡ false → AreShut old links) → unshut_now ≡ false → AreShut new links
shut_noted old new links unshut unshut_now before after keeps were are noted shut so =
    let both = neither unshut (nat_lt after before) (sym noted ∙ so) in
    still_shut old new links keeps (omega (arith, ltb-false after before both.1, were, are)) (shut both.0)

-- ---- where one comes

comes_shut : (old new : Hub) (client : Client) (links : List LinkTold) (link : LinkTold) → new.clients ≡ old.clients ++ client ∷ [] → IsSome client.outbox → length old.clients ≡ length links
    → AreShut old links → AreShut new (links ++ link ∷ [])
comes_shut old new client links link comes open_so many shut = λ number other some none there.
    let back : number - 1 + 1 ≡ number = omega (arith, some) in
    let gone : open_at new.clients (number - 1) ≡ false =
    sym (open_place new (number - 1)) ∙ ap is_some (subst (λ (n : ℕ). outbox_of new n ≡ None) (sym back) none) in
    last_or_before links link other (number - 1) there (other.is_shut ≡ true)
    (λ before.
    let within : number - 1 < length old.clients = omega (arith, many, within_of links (number - 1) other before) in
    let same : open_at new.clients (number - 1) ≡ open_at old.clients (number - 1) =
    ap (λ (o : Option Client). is_some (option_and_then (λ (c : Client). c.outbox) o))
    (ap (λ (cs : List Client). slice_get cs (number - 1)) comes ∙ get_before old.clients (client ∷ []) (number - 1) within) in
    shut number other some
    (subst (λ (n : ℕ). outbox_of old n ≡ None) back (none_of (outbox_of old (number - 1 + 1)) (open_place old (number - 1) ∙ sym same ∙ gone)))
    before)
    (λ last same.
    let at : slice_get new.clients (number - 1) ≡ Some client =
    ap (λ (cs : List Client). slice_get cs (number - 1)) comes ∙ ap (λ (n : ℕ). slice_get (old.clients ++ client ∷ []) n) (last ∙ sym many) ∙ get_end old.clients client in
    absurd (cc (sym open_so ∙ sym (ap (λ (o : Option Client). is_some (option_and_then (λ (c : Client). c.outbox) o)) at) ∙ gone)))

module _ {L : Type 0} (told : L → LinkTold) where
  -- nobody came
  none_comes : (old new : Hub) (links links_now : List L) → new ≡ old → links_now ≡ links → AreShut old (map told links) → AreShut new (map told links_now)
  none_comes old new links links_now hub same shut =
      subst (λ (h : Hub). AreShut h (map told links_now)) (sym hub) (subst (λ (ls : List L). AreShut old (map told ls)) (sym same) shut)

  pub accepted_shut : (came : Arrival) (net net_now : NetTold L) (links links_now : Links L) (dropped dropped_now : ℕ) (old new : Core) (events events_now : Option (List Event))
      → Arrives told came net net_now links links_now dropped dropped_now → ConnectsAs came old new events events_now → length old.hub.clients ≡ length links.links
      → AreShut old.hub (map told links.links) → AreShut new.hub (map told links_now.links)
  accepted_shut (arrival.Client number) net net_now links links_now dropped dropped_now old new events events_now arrives connects many shut =
      let are : map told links_now.links ≡ map told links.links ++ told arrives.0 ∷ [] =
      ap (λ (ls : Links L). map told ls.links) arrives.2 ∙ map-append told links.links (arrives.0 ∷ []) in
      subst (λ (ls : List LinkTold). AreShut new.hub ls) (sym are)
      (comes_shut old.hub new.hub connects.comes.0 (map told links.links) (told arrives.0) connects.comes.1 connects.comes.2 (many ∙ sym (length-map links.links told)) shut)
  accepted_shut arrival.Dropped net net_now links links_now dropped dropped_now old new events events_now arrives connects many shut =
      none_comes old.hub new.hub links.links links_now.links (ap (λ (c : Core). c.hub) connects.1) (ap (λ (ls : Links L). ls.links) arrives.2) shut
  accepted_shut arrival.Nobody net net_now links links_now dropped dropped_now old new events events_now arrives connects many shut =
      none_comes old.hub new.hub links.links links_now.links (ap (λ (c : Core). c.hub) connects.0) (ap (λ (ls : Links L). ls.links) arrives.3) shut
  accepted_shut arrival.Failed net net_now links links_now dropped dropped_now old new events events_now arrives connects many shut =
      none_comes old.hub new.hub links.links links_now.links (ap (λ (c : Core). c.hub) connects.0) (ap (λ (ls : Links L). ls.links) arrives.2) shut
  accepted_shut arrival.OutOfMemory net net_now links links_now dropped dropped_now old new events events_now arrives connects many shut =
      none_comes old.hub new.hub links.links links_now.links (ap (λ (c : Core). c.hub) connects.0) (ap (λ (ls : Links L). ls.links) arrives.2) shut

-- ---- where clients are sent what waits for them

pub pumped_shut : (pumped : (moved : Bool) (old new : Clients) → VisitsAll Pumped moved old new → AreShut old.side.core.hub old.links → AreShut new.side.core.hub new.links)
    → (moved : Bool) (links links_now : List LinkTold) (old new : Core) (events events_now : Option (List Event)) → PumpsAll moved links links_now old new events events_now
    → AreShut old.hub links → AreShut new.hub links_now
pumped_shut pumped moved links links_now old new events events_now pumps shut =
    pumped moved _ _ (pumps no_desk folder_none (replicate (length links) fresh_listener) (omega (arith, length-replicate (length links) fresh_listener))) shut

-- ---- where all are shut

shut_so : (link : LinkTold) → link.is_shut ≡ true → IsShut link link
shut_so link so = record {
  shut = so;
  left = stays_same link.left;
  over = λ over. over;
  given = stays_same link.given;
  taken = stays_same link.taken;
  faults = refl;
  idles = refl;
  waits = refl;
}

-- there is nothing to shut
pub all_are_shut : (hub : Hub) (links : List LinkTold) → AreShut hub links → ShutsGone hub links links
all_are_shut hub links shut = record {
  many = refl;
  others = λ number some which. refl;
  gone = λ number link link_now some within none was is.
      subst (λ (l : LinkTold). IsShut link l) (same_thing link link_now (sym was ∙ is)) (shut_so link (shut number link some none was));
}
