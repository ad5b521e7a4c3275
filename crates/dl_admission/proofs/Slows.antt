-- Slow clients that are closed one after the other.
use Rattle.std.proofs.Common.{◌≡◌, ◌≢◌, ◌≤◌, ◌<◌, ◌+◌, ◌-◌, ℕ, zero, suc, Bool, true, false, cond, List, [], ◌∷◌, ◌++◌, length, length-append, append_assoc, append-nil, map, Option, Some, None, refl, sym, ap, subst, ◌∙◌, inl, inr, eqb, arith}
use Rattle.std.specs.Prelude.{nat_le, slice_get, slice_set, count_by, IsSome, IsSomeAnd, is_some, option_map}
use Rattle.std.specs.List.{list_all, AllByRecursion}
use Rattle.std.specs.Option.{option_and_then, option_map_or}
use Rattle.std.proofs.lemmas.Bool.Decides.{leb_tells, eqb_tells, nat_tests}
use Rattle.std.proofs.lemmas.List.{length-map, map-append}
use Rattle.dl_events.specs.Journal as notes
use Rattle.dl_events.specs.Journal.{one_more}
use Rattle.dl_events.specs.declared.event.Event.{Event}
use Rattle.dl_events.specs.declared.event.Event.TheVariants as event
use Rattle.dl_events.specs.declared.event.Why.TheVariants as why
use Rattle.dl_model.specs.Backlog.{outbox_limit, size_of}
use Rattle.dl_model.specs.Frames.{frames_of}
use Rattle.dl_model.specs.Journal.{next_put, AreInTurn, IsFramesNeed}
use Rattle.dl_outside.specs.Told.{FolderTold}
use Rattle.dl_registry.specs.Kept.{owed_change}
use Rattle.dl_hub.specs.State.{Client, Hub, Waiting, IsNextOpen, changed, client_of, is_open, outbox_of, shut, takes}
use Rattle.dl_hub.proofs.Keeping.{changed_at, count-set, found}
use Rattle.dl_hub.proofs.Places.{map-same}
use Rattle.dl_hub.proofs.Calls.{client_some}
use Rattle.dl_core.specs.State.{Core}
use Rattle.dl_core.specs.Admission.{AddsEach, more_noted}
use Rattle.dl_core.specs.Closing.{MayEnd}
use Rattle.dl_core.specs.Follows.{AddsAlone, source_of}
use Rattle.dl_core.proofs.Noted.{added_one}
use Rattle.dl_admission.specs.Part.{Part, part}
use Rattle.dl_core.proofs.InTurn.{close_before_frames}
use Rattle.dl_admission.specs.Slow.{Slow, StandBefore, TellRooms, Closes, ClosesIfSlow, ClosesSlow, IsAsTold, room_in, shut_if_slow, slow_among, slow_at, slow_clients, slow_close, without_slow}
use Rattle.dl_admission.proofs.Rooms.{room_told, rooms_both}
use Rattle.dl_admission.proofs.SlowLists.{AreTaking, first_slow, none_shut, none_slow, shut_again, shut_takes}
use Rattle.dl_admission.proofs.Added.{adds_both, adds_each_both, adds_each_none, adds_none, more_both}
use Rattle.dl_lemmas.proofs.Lists.{set_again, set_other, all_both}

nobody : FolderTold
nobody = record { files = None; faults = 0; changes = 0; appends = 0 }

-- ---- one client

takes_with : (need : ℕ) (c : Client) (w : Waiting) → c.outbox ≡ Some w → takes need c ≡ nat_le (length w.bytes + need) w.capacity
takes_with need c w is = ap (λ (o : Option Waiting). option_map_or (λ b. nat_le (length b.bytes + need) b.capacity) o true) is

room_with : (c : Client) (w : Waiting) (room : ℕ) → c.outbox ≡ Some w → room + length w.bytes ≡ w.capacity → option_map_or (λ o. o.capacity - length o.bytes) c.outbox 0 ≡ room
room_with c w room is all = ap (λ (o : Option Waiting). option_map_or (λ b. b.capacity - length b.bytes) o 0) is ∙ omega (arith, all)

-- what a client's room tells of it
abbrev pub HasJust : ℕ → Option Waiting → Type 0
HasJust room outbox = IsSomeAnd outbox (λ o. room + length o.bytes ≡ o.capacity)

just_at : (room : ℕ) (o : Option Waiting) (w : Waiting) → o ≡ Some w → HasJust room o → room + length w.bytes ≡ w.capacity
just_at room o w is has = subst (HasJust room) is has

pub slow_one : (need room client : ℕ) (hub : Hub) → IsSome (outbox_of hub client) → HasJust room (outbox_of hub client) → room < need
    → (slow_at need hub client ≡ record { client = client; room = room } ∷ []) × (changed client (shut_if_slow need) hub ≡ changed client shut hub)
slow_one need room client hub there has short =
    let at = found hub client there in
    let all = just_at room (outbox_of hub client) at.1 at.5 has in
    let slow : takes need at.0 ≡ false = takes_with need at.0 at.1 at.3 ∙ grind (arith, nat_tests, leb_tells, all, short) in
    let is = client_some hub client at.0 at.4 at.2 in (
      rw (is, slow, room_with at.0 at.1 room at.3 all) refl,
      changed_at hub client (shut_if_slow need) at.0 at.4 at.2
          ∙ ap (λ (d : Client). record hub { clients = slice_set hub.clients (client - 1) d }) (rw slow refl)
          ∙ sym (changed_at hub client shut at.0 at.4 at.2),
    )

pub fast_one : (need room client : ℕ) (hub : Hub) → IsSome (outbox_of hub client) → HasJust room (outbox_of hub client) → need ≤ room
    → (slow_at need hub client ≡ []) × (changed client (shut_if_slow need) hub ≡ hub)
fast_one need room client hub there has enough =
    let at = found hub client there in
    let all = just_at room (outbox_of hub client) at.1 at.5 has in
    let fast : takes need at.0 ≡ true = takes_with need at.0 at.1 at.3 ∙ grind (arith, nat_tests, leb_tells, all, enough) in
    let is = client_some hub client at.0 at.4 at.2 in (
      rw (is, fast) refl,
      changed_at hub client (shut_if_slow need) at.0 at.4 at.2
          ∙ ap (λ (d : Client). record hub { clients = slice_set hub.clients (client - 1) d }) (rw fast refl)
          ∙ ap (λ (ds : List Client). record hub { clients = ds }) (set_again hub.clients (client - 1) at.0 at.2),
    )

-- ---- closings

pub closes_none : (need : ℕ) (p : Part) → Closes need [] p.core.hub p p
closes_none need p = record {
  core = refl;
  events = adds_each_none p.events;
  after = λ folder. adds_none p.core folder;
  as_told = tt;
  in_turn = λ run past taken later is needs turn. subst (λ (before : List Event). AreInTurn run.setting (source_of run) before later) (append-nil past) turn;
  rooms = λ run past taken is. tt;
  folder = refl;
}

pub closes_one : (need room client : ℕ) (old new : Core) (events events_now : Option (List Event)) (folder : FolderTold)
    → owed_change old.registry ≡ None → IsSome (outbox_of old.hub client) → HasJust room (outbox_of old.hub client)
    → IsSomeAnd (outbox_of old.hub client) (λ outbox. outbox.capacity ≡ outbox_limit old.hub.buffer) → room < need
    → new ≡ record old { hub = changed client shut old.hub }
    → AddsAlone (event.Close client (why.Slow room need) ∷ []) old new
    → notes.Adds events events_now (event.Close client (why.Slow room need))
    → ClosesIfSlow client need (part old events folder) (part new events_now folder)
closes_one need room client old new events events_now folder settled there has limit short value after noted =
    let so = slow_one need room client old.hub there has short in
    let may : MayEnd old.hub client (why.Slow room need) = (may_be (outbox_of old.hub client) has, short) in
    let one : Closes need (record { client = client; room = room } ∷ []) (changed client shut old.hub) (part old events folder) (part new events_now folder) = record {
      core = value;
      events = added_one events events_now (event.Close client (why.Slow room need)) (event.Close client (why.Slow room need)) refl noted;
      after = after;
      as_told = (record { may = may; limit = limit }, tt);
      in_turn = λ run past taken later is needs turn.
          (close_before_frames old client room need later (record { settled = settled; may = may; limit = limit }) run past taken is needs, turn);
      rooms = λ run past taken is. (room_told run past taken old client room need is may limit, tt);
      folder = refl;
    } in
    subst (λ (slows : List Slow). Closes need slows (changed client (shut_if_slow need) old.hub) (part old events folder) (part new events_now folder)) (sym so.0)
    (subst (λ (hub : Hub). Closes need (record { client = client; room = room } ∷ []) hub (part old events folder) (part new events_now folder)) (sym so.1) one) where
      may_be : (o : Option Waiting) → HasJust room o → IsSomeAnd o (λ outbox. length outbox.bytes + room ≡ outbox.capacity)
      may_be None h = absurd h
      may_be (Some w) h = omega (arith, h)

pub stays_one : (need room client : ℕ) (p : Part) → IsSome (outbox_of p.core.hub client) → HasJust room (outbox_of p.core.hub client) → need ≤ room → ClosesIfSlow client need p p
stays_one need room client p there has enough =
    let so = fast_one need room client p.core.hub there has enough in
    subst (λ (slows : List Slow). Closes need slows (changed client (shut_if_slow need) p.core.hub) p p) (sym so.0)
    (subst (λ (hub : Hub). Closes need [] hub p p) (sym so.1) (closes_none need p))

-- the Closes of slow clients are passed over
next_behind : (need : ℕ) (slows : List Slow) (later : List Event) → next_put (map (slow_close need) slows ++ later) ≡ next_put later
next_behind need [] later = refl
next_behind need (slow ∷ slows) later = next_behind need slows later

before_both : (need : ℕ) (xs ys : List Slow) (old next : Core) → StandBefore need (map (slow_close need) xs) old → StandBefore need (map (slow_close need) ys) next
    → AddsAlone (map (slow_close need) xs) old next → StandBefore need (map (slow_close need) xs ++ map (slow_close need) ys) old
before_both need xs ys old next first second adds = λ run past taken later is needs turn.
    let source = source_of run in
    let here = (adds nobody run past taken tt is).0 in
    let behind = subst (λ (before : List Event). AreInTurn run.setting source before later) (sym (append_assoc past (map (slow_close need) xs) (map (slow_close need) ys))) turn in
    let needed : IsFramesNeed source (map (slow_close need) ys ++ later) need = ap (option_map (λ e. size_of (frames_of source e))) (next_behind need ys later) ∙ needs in
    subst (λ (es : List Event). AreInTurn run.setting source past es) (sym (append_assoc (map (slow_close need) xs) (map (slow_close need) ys) later))
    (first run past taken (map (slow_close need) ys ++ later) is needed (second run (past ++ map (slow_close need) xs) taken later here needs behind))

-- closings behind others, of clients that these left as they were
pub closes_both : (need : ℕ) (xs ys : List Slow) (hub hub_now : Hub) (old next new : Part) → Closes need xs hub old next → Closes need ys hub_now next new
    → AllByRecursion (IsAsTold need old.core.hub) ys → Closes need (xs ++ ys) hub_now old new
closes_both need xs ys hub hub_now old next new first second told = record {
  core = second.core ∙ ap (λ (k : Core). record k { hub = hub_now }) first.core;
  events = subst (AddsEach old.events new.events) (sym (map-append (slow_close need) xs ys)) (adds_each_both old.events next.events new.events (map (slow_close need) xs) (map (slow_close need) ys) first.events second.events);
  after = λ folder. subst (λ (es : List Event). (AddsAlone es old.core new.core)) (sym (map-append (slow_close need) xs ys)) (both first.after second.after) folder;
  as_told = all_both (IsAsTold need old.core.hub) xs ys first.as_told told;
  in_turn = subst (λ (es : List Event). StandBefore need es old.core) (sym (map-append (slow_close need) xs ys)) (before_both need xs ys old.core next.core first.in_turn second.in_turn first.after);
  rooms = λ run past taken is.
      subst (TellRooms run taken past) (sym (map-append (slow_close need) xs ys))
      (rooms_both run taken past (map (slow_close need) xs) (map (slow_close need) ys) (first.rooms run past taken is)
      (second.rooms run (past ++ map (slow_close need) xs) taken (first.after nobody run past taken tt is).0));
  folder = second.folder ∙ first.folder;
} where
  both : AddsAlone (map (slow_close need) xs) old.core next.core → AddsAlone (map (slow_close need) ys) next.core new.core
      → AddsAlone (map (slow_close need) xs ++ map (slow_close need) ys) old.core new.core
  both a b = λ folder run events taken gives is.
      adds_both (map (slow_close need) xs) (map (slow_close need) ys) (λ run. Unit {0}) (λ run. Unit {0}) old.core next.core new.core folder folder folder (a folder) (b folder) run events taken (tt, tt) is

-- ---- one after the other

-- the clients up to this number were looked at, and those of them that were slow are closed
pub record SoFar (need after : ℕ) (old now : Core) (events events_now : Option (List Event)) (noted noted_now spare spare_now : ℕ) : Type 0 where
  pub closed : List Slow
  pub closes : (folder : FolderTold) → Closes need closed now.hub (part old events folder) (part now events_now folder)
  pub left : closed ++ slow_clients need now.hub ≡ slow_clients need old.hub
  pub shut_so : map (shut_if_slow need) now.hub.clients ≡ map (shut_if_slow need) old.hub.clients
  pub taking : AreTaking need after now.hub.clients
  pub above : (place : ℕ) → after ≤ place → slice_get now.hub.clients place ≡ slice_get old.hub.clients place
  pub same_hub : now.hub ≡ record old.hub { clients = now.hub.clients }
  pub open_so : count_by is_open now.hub.clients + length closed ≡ count_by is_open old.hub.clients
  pub noted_so : noted_now ≡ more_noted (length closed) noted
  pub spare_so : spare_now + length closed ≡ spare

pub sets_out : (need : ℕ) (core : Core) (events : Option (List Event)) (noted spare : ℕ) → SoFar need 0 core core events events noted noted spare spare
sets_out need core events noted spare = record {
  closed = [];
  closes = λ folder. closes_none need (part core events folder);
  left = refl;
  shut_so = refl;
  taking = λ before c below is. absurd (omega (arith, below));
  above = λ place at. refl;
  same_hub = refl;
  open_so = omega arith;
  noted_so = refl;
  spare_so = omega arith;
}

-- ---- lists that change at a place

get_same : {A : Type 0} (xs : List A) (i : ℕ) (x y z : A) → slice_get xs i ≡ Some x → slice_get (slice_set xs i y) i ≡ Some z → z ≡ y
get_same [] i x y z is now = absurd cc
get_same (v ∷ vs) zero x y z is now = cc
get_same (v ∷ vs) (suc i) x y z is now = get_same vs i x y z is now

-- a client that isn't open takes any number of bytes
gone_at : (need : ℕ) (hub : Hub) (place : ℕ) (c : Client) → slice_get hub.clients place ≡ Some c → outbox_of hub (place + 1) ≡ None → takes need c ≡ true
gone_at need hub place c is none =
    let before : place + 1 - 1 ≡ place = omega arith in
    let its : client_of hub (place + 1) ≡ Some c = client_some hub (place + 1) c (omega arith) (ap (slice_get hub.clients) before ∙ is) in
    let gone : c.outbox ≡ None = ap (λ (o : Option Client). option_and_then (λ (d : Client). d.outbox) o) (sym its) ∙ none in
    ap (λ (o : Option Waiting). option_map_or (λ b. nat_le (length b.bytes + need) b.capacity) o true) gone

-- up to the next client that is open all take so much
up_to_next : (need after next : ℕ) (hub : Hub) → AreTaking need after hub.clients → ((client : ℕ) → after < client → client < next → outbox_of hub client ≡ None)
    → AreTaking need (next - 1) hub.clients
up_to_next need after next hub taking none = λ before c below is.
    elim (leb_tells (suc before) after) [
      | inl near ↦ taking before c near.1 is
      | inr far ↦ gone_at need hub before c is (none (before + 1) (omega (arith, far.1)) (omega (arith, below)))
    ]

-- how many closings a client makes, and whether it is open then
one_less : (need number : ℕ) (c : Client) → is_open c ≡ true → cond (is_open (shut_if_slow need c)) 1 0 + length (slow_among need number (c ∷ [])) ≡ 1
one_less need number c there = by (takes need c) where
  by : (b : Bool) → cond (is_open (cond b c (shut c))) 1 0 + length {A = Slow} (cond b [] (record { client = number; room = room_in c } ∷ [])) ≡ 1
  by true = rw there refl
  by false = refl

-- what a Close of a client tells is the same in two hubs that have the client's outbox
told_before : (need number : ℕ) (hub hub_now : Hub) → outbox_of hub_now number ≡ outbox_of hub number → hub_now.buffer ≡ hub.buffer → (slow : Slow) → slow.client ≡ number
    → IsAsTold need hub_now slow → IsAsTold need hub slow
told_before need number hub hub_now same buffer slow its told =
    let same_box : outbox_of hub_now slow.client ≡ outbox_of hub slow.client = ap (outbox_of hub_now) its ∙ same ∙ ap (outbox_of hub) (sym its) in record {
      may = (subst (λ (o : Option Waiting). IsSomeAnd o (λ outbox. length outbox.bytes + slow.room ≡ outbox.capacity)) same_box told.may.0, told.may.1);
      limit = subst (λ (n : ℕ). IsSomeAnd (outbox_of hub slow.client) (λ outbox. outbox.capacity ≡ outbox_limit n)) buffer
          (subst (λ (o : Option Waiting). IsSomeAnd o (λ outbox. outbox.capacity ≡ outbox_limit hub_now.buffer)) same_box told.limit);
    }

all_told : (need number : ℕ) (hub hub_now : Hub) (o : Option Client) → outbox_of hub_now number ≡ outbox_of hub number → hub_now.buffer ≡ hub.buffer
    → AllByRecursion (IsAsTold need hub_now) (option_map_or (λ c. slow_among need number (c ∷ [])) o []) → AllByRecursion (IsAsTold need hub) (option_map_or (λ c. slow_among need number (c ∷ [])) o [])
all_told need number hub hub_now None same buffer told = tt
all_told need number hub hub_now (Some c) same buffer told = by (takes need c) told where
  by : (b : Bool) → AllByRecursion (IsAsTold need hub_now) (cond b [] (record { client = number; room = room_in c } ∷ []))
      → AllByRecursion (IsAsTold need hub) (cond b [] (record { client = number; room = room_in c } ∷ []))
  by true all = tt
  by false all = (told_before need number hub hub_now same buffer _ refl all.0, tt)

-- the hub where a client is shut if it is slow, and what is slow then
pub shut_at : (need next : ℕ) (hub : Hub) (c : Client) → 0 < next → slice_get hub.clients (next - 1) ≡ Some c → AreTaking need (next - 1) hub.clients
    → slow_clients need hub ≡ slow_at need hub next ++ slow_among need 1 (slice_set hub.clients (next - 1) (shut_if_slow need c))
shut_at need next hub c some is taking =
    let number : 1 + (next - 1) ≡ next = omega (arith, some) in
    first_slow need 1 (next - 1) hub.clients c is taking
    ∙ ap (λ (n : ℕ). slow_among need n (c ∷ []) ++ slow_among need 1 (slice_set hub.clients (next - 1) (shut_if_slow need c))) number
    ∙ ap (λ (o : Option Client). option_map_or (λ d. slow_among need next (d ∷ [])) o [] ++ slow_among need 1 (slice_set hub.clients (next - 1) (shut_if_slow need c)))
    (sym (client_some hub next c some is))

taking_on : (need next : ℕ) (clients : List Client) (c : Client) → slice_get clients (next - 1) ≡ Some c → AreTaking need (next - 1) clients
    → AreTaking need next (slice_set clients (next - 1) (shut_if_slow need c))
taking_on need next clients c is taking = λ before d below at.
    elim (eqb_tells before (next - 1)) [
      | inl here ↦ ap (takes need) (get_same clients (next - 1) c (shut_if_slow need c) d is (ap (slice_get (slice_set clients (next - 1) (shut_if_slow need c))) (sym here.1) ∙ at)) ∙ shut_takes need c
      | inr apart ↦ taking before d (omega (arith, below, apart.1)) (sym (set_other clients (next - 1) before (shut_if_slow need c) apart.1) ∙ at)
    ]

-- the next client that is open was looked at
pub goes_on : (need after next : ℕ) (old now new : Core) (events events_now events_new : Option (List Event)) (noted noted_now noted_new spare spare_now spare_new : ℕ)
    → SoFar need after old now events events_now noted noted_now spare spare_now → IsNextOpen now.hub after (Some next)
    → ((folder : FolderTold) → ClosesIfSlow next need (part now events_now folder) (part new events_new folder))
    → noted_new ≡ more_noted (length (slow_at need now.hub next)) noted_now → spare_new + length (slow_at need now.hub next) ≡ spare_now
    → SoFar need next old new events events_new noted noted_new spare spare_new
goes_on need after next old now new events events_now events_new noted noted_now noted_new spare spare_now spare_new so is one noted_is spare_is =
    let at = found now.hub next is.1 in
    let c : Client = at.0 in
    let slows : List Slow = slow_at need now.hub next in
    let shut_one : List Client = slice_set now.hub.clients (next - 1) (shut_if_slow need c) in
    let its : client_of now.hub next ≡ Some c = client_some now.hub next c at.4 at.2 in
    let hub_is : new.hub ≡ record now.hub { clients = shut_one } =
    ap (λ (k : Core). k.hub) (one nobody).core ∙ changed_at now.hub next (shut_if_slow need) c at.4 at.2 in
    let clients_are : new.hub.clients ≡ shut_one = ap (λ (h : Hub). h.clients) hub_is in
    let taking = up_to_next need after next now.hub so.taking is.2 in
    let same_box : outbox_of now.hub next ≡ outbox_of old.hub next =
    ap (λ (o : Option Client). option_and_then (λ (d : Client). d.outbox) (cond (eqb next 0) None o)) (so.above (next - 1) (omega (arith, is.0))) in
    let buffers : now.hub.buffer ≡ old.hub.buffer = ap (λ (h : Hub). h.buffer) so.same_hub in
    let count : length (so.closed ++ slows) ≡ length so.closed + length slows = length-append so.closed slows in
    let number : length slows ≡ length (slow_among need next (c ∷ [])) = ap (λ (o : Option Client). length (option_map_or (λ d. slow_among need next (d ∷ [])) o [])) its in
    let its_open : is_open c ≡ true = ap (λ (o : Option Waiting). is_some o) at.3 in
    let opened : count_by is_open shut_one + cond (is_open c) 1 0 ≡ count_by is_open now.hub.clients + cond (is_open (shut_if_slow need c)) 1 0 =
    count-set is_open now.hub.clients (next - 1) c (shut_if_slow need c) at.2 in
    let was_open : ◌≡◌ {A = ℕ} (cond (is_open c) 1 0) 1 = ap (λ (b : Bool). cond b 1 0) its_open in
    record {
      closed = so.closed ++ slows;
      closes = λ folder.
          closes_both need so.closed slows now.hub new.hub (part old events folder) (part now events_now folder) (part new events_new folder) (so.closes folder)
          (subst (λ (h : Hub). Closes need slows h (part now events_now folder) (part new events_new folder)) (sym (ap (λ (k : Core). k.hub) (one folder).core)) (one folder))
          (all_told need next old.hub now.hub (client_of now.hub next) same_box buffers (one folder).as_told);
      left = append_assoc so.closed slows (slow_clients need new.hub)
          ∙ ap (λ (cs : List Client). so.closed ++ (slows ++ slow_among need 1 cs)) clients_are
          ∙ ap (λ (ss : List Slow). so.closed ++ ss) (sym (shut_at need next now.hub c at.4 at.2 taking))
          ∙ so.left;
      shut_so = ap (map (shut_if_slow need)) clients_are ∙ map-same (shut_if_slow need) now.hub.clients (next - 1) c (shut_if_slow need c) at.2 (shut_again need c) ∙ so.shut_so;
      taking = subst (AreTaking need next) (sym clients_are) (taking_on need next now.hub.clients c at.2 taking);
      above = λ place above.
          let apart : place ≢ next - 1 = λ (e : place ≡ next - 1). absurd (omega (arith, e, above, at.4)) in
          ap (λ (cs : List Client). slice_get cs place) clients_are ∙ set_other now.hub.clients (next - 1) place (shut_if_slow need c) apart ∙ so.above place (omega (arith, is.0, above));
      same_hub = hub_is ∙ ap (λ (h : Hub). record h { clients = shut_one }) so.same_hub ∙ ap (λ (cs : List Client). record old.hub { clients = cs }) (sym clients_are);
      open_so =
          let now_open : count_by is_open new.hub.clients ≡ count_by is_open shut_one = ap (count_by is_open) clients_are in
          omega (arith, now_open, opened, was_open, one_less need next c its_open, number, count, so.open_so);
      noted_so = noted_is ∙ ap (more_noted (length slows)) so.noted_so ∙ more_both (length so.closed) (length slows) noted
          ∙ (let sum : length slows + length so.closed ≡ length (so.closed ++ slows) = omega (arith, count) in ap (λ (n : ℕ). more_noted n noted) sum);
      spare_so = omega (arith, spare_is, so.spare_so, count);
    }

-- ---- when no open client is left

-- each client takes so much then
pub all_taking : (need after : ℕ) (hub : Hub) → AreTaking need after hub.clients → IsNextOpen hub after None → list_all (takes need) hub.clients ≡ true
all_taking need after hub taking none = each hub.clients (λ place c is. elim (leb_tells (suc place) after) [
  | inl near ↦ taking place c near.1 is
  | inr far ↦ gone_at need hub place c is (none (place + 1) (omega (arith, far.1)))
]) where
  each : (cs : List Client) → ((place : ℕ) (c : Client) → slice_get cs place ≡ Some c → takes need c ≡ true) → list_all (takes need) cs ≡ true
  each [] all = refl
  each (c ∷ cs) all = rw (all 0 c refl, each cs (λ place d is. all (suc place) d is)) refl

-- what was closed is all that was slow
pub all_closed : {need after : ℕ} {old now : Core} {events events_now : Option (List Event)} {noted noted_now spare spare_now : ℕ}
    (so : SoFar need after old now events events_now noted noted_now spare spare_now) → list_all (takes need) now.hub.clients ≡ true → so.closed ≡ slow_clients need old.hub
all_closed {need} {after} {old} {now} so all = sym (append-nil so.closed) ∙ ap (λ (ss : List Slow). so.closed ++ ss) (sym (none_slow need 1 now.hub.clients all)) ∙ so.left

pub all_shut : {need after : ℕ} {old now : Core} {events events_now : Option (List Event)} {noted noted_now spare spare_now : ℕ}
    (so : SoFar need after old now events events_now noted noted_now spare spare_now) → list_all (takes need) now.hub.clients ≡ true → now.hub ≡ without_slow need old.hub
all_shut {need} {after} {old} {now} so all =
    so.same_hub ∙ ap (λ (cs : List Client). record old.hub { clients = cs }) (sym (none_shut need now.hub.clients all) ∙ so.shut_so)

-- where no open client is left, the slow ones are closed
pub arrives : {need after : ℕ} {old now : Core} {events events_now : Option (List Event)} {noted noted_now spare spare_now : ℕ}
    (so : SoFar need after old now events events_now noted noted_now spare spare_now) → IsNextOpen now.hub after None
    → (folder : FolderTold) → ClosesSlow need (part old events folder) (part now events_now folder)
arrives {need} {after} {old} {now} {events} {events_now} so none folder =
    let all = all_taking need after now.hub so.taking none in
    subst (λ (ss : List Slow). Closes need ss (without_slow need old.hub) (part old events folder) (part now events_now folder)) (all_closed so all)
    (subst (λ (h : Hub). Closes need so.closed h (part old events folder) (part now events_now folder)) (all_shut so all) (so.closes folder))

-- ---- what the loop owes

below : {A : Type 0} (xs : List A) (i : ℕ) (x : A) → slice_get xs i ≡ Some x → i < length xs
below [] i x is = absurd cc
below (y ∷ ys) zero x is = omega arith
below (y ∷ ys) (suc i) x is = omega (arith, below ys i x is)

some_open : (hub : Hub) (client : ℕ) → IsSome (outbox_of hub client) → 1 ≤ count_by is_open hub.clients
some_open hub client there =
    let at = found hub client there in
    let its : ◌≡◌ {A = ℕ} (cond (is_open at.0) 1 0) 1 = ap (λ (o : Option Waiting). cond (is_some o) 1 0) at.3 in
    omega (arith, its, count-set is_open hub.clients (client - 1) at.0 (shut at.0) at.2)

pub spare_left : {need after : ℕ} {old now : Core} {events events_now : Option (List Event)} {noted noted_now spare spare_now : ℕ}
    (so : SoFar need after old now events events_now noted noted_now spare spare_now) (client : ℕ) → IsSome (outbox_of now.hub client) → count_by is_open old.hub.clients ≤ spare → 1 ≤ spare_now
spare_left {need} {after} {old} {now} so client there enough = omega (arith, some_open now.hub client there, so.open_so, so.spare_so, enough)

pub settled_now : {need after : ℕ} {old now : Core} {events events_now : Option (List Event)} {noted noted_now spare spare_now : ℕ}
    (so : SoFar need after old now events events_now noted noted_now spare spare_now) → owed_change old.registry ≡ None → owed_change now.registry ≡ None
settled_now so settled = ap (λ (k : Core). owed_change k.registry) (so.closes nobody).core ∙ settled

pub as_many : (need : ℕ) (cs ds : List Client) → map (shut_if_slow need) cs ≡ map (shut_if_slow need) ds → length cs ≡ length ds
as_many need cs ds same = sym (length-map cs (shut_if_slow need)) ∙ ap length same ∙ length-map ds (shut_if_slow need)

pub nearer : {need after next : ℕ} {old now new : Core} {events events_now events_new : Option (List Event)} {noted noted_now noted_new spare spare_now spare_new : ℕ}
    (so : SoFar need after old now events events_now noted noted_now spare spare_now) (so_now : SoFar need next old new events events_new noted noted_new spare spare_new)
    → IsNextOpen now.hub after (Some next) → length new.hub.clients - next < length now.hub.clients - after
nearer {need} {after} {next} {old} {now} {new} so so_now is =
    let at = found now.hub next is.1 in
    omega (arith, below now.hub.clients (next - 1) at.0 at.2, is.0, at.4, as_many need now.hub.clients old.hub.clients so.shut_so, as_many need new.hub.clients old.hub.clients so_now.shut_so)
