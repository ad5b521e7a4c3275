-- Turns, pumps and stops of clients, and visits to them, as steps. The levels that a turn sets are put for the programs one by one.
use Rattle.std.proofs.Common.{◌≡◌, ◌/◌, ◌+◌, ◌-◌, ◌<◌, ◌≤◌, ◌⊎◌, ℕ, zero, suc, Bool, true, false, cond, inl, inr, List, [], ◌∷◌, ◌++◌, length, drop, take, slice_get, Option, Some, None, refl, sym, ap, subst, ◌∙◌, append_assoc, arith}
use Rattle.std.specs.Prelude.{IfSome, IsSome, IsSomeAnd, slice_set}
use Rattle.std.proofs.Math.Seq.{drop-append_seam}
use Rattle.dl_admission.specs.Part.{part}
use Rattle.dl_bytes.specs.Limits.{context_limit}
use Rattle.dl_cells.specs.LevelHistory.{change}
use Rattle.dl_cells.specs.declared.level_history.Change.{Change}
use Rattle.dl_channel.specs.State.{Outbox}
use Rattle.dl_channel_turns.specs.Levels.{put_for, told}
use Rattle.dl_core.specs.State.{Core}
use Rattle.dl_desk.specs.Told.{ControlTold}
use Rattle.dl_events.specs.declared.event.Why.{Why}
use Rattle.dl_events.specs.declared.event.Why.TheVariants as why
use Rattle.dl_hub.specs.State.{Waiting, outbox_of}
use Rattle.dl_lemmas.proofs.Lists.{set_again, set_other}
use Rattle.dl_lemmas.proofs.Options.{some_is}
use Rattle.dl_message.specs.Cutting.{Cutting}
use Rattle.dl_message.specs.Requests.{requests}
use Rattle.dl_model.specs.Registry.{Registry}
use Rattle.dl_model.specs.Reply.{asked}
use Rattle.dl_model.specs.declared.registry.LevelChange.{LevelChange}
use Rattle.dl_outside.specs.Outside.{HasRisen}
use Rattle.dl_outside.specs.Told.{LinkTold}
use Rattle.dl_outside.specs.declared.link.Gave.{Gave as Answer}
use Rattle.dl_outside.specs.declared.link.Gave.TheVariants as answer
use Rattle.dl_core.specs.Settings.{seen}
use Rattle.dl_registry.specs.Kept.{slots}
use Rattle.dl_rounds.specs.Clients as rounds
use Rattle.dl_rounds.specs.Clients.{Clients, IsClient, Visits, stage_of, with_client}
use Rattle.dl_rounds.specs.Ready.{fresh_listener}
use Rattle.dl_rounds.specs.Visits as visits
use Rattle.dl_rounds.specs.Visits.{IsShut, ShutsFor}
use Rattle.dl_rounds.specs.declared.listener.Listener.{Listener}
use Rattle.dl_rounds.proofs.ByPlace.{set_length}
use Rattle.dl_socket.specs.Turns.{told_each}
use Rattle.dl_turns.specs.Events.{Asks, Closes, SetsLevel, SetsLevels}
use Rattle.dl_turns.specs.State.{Side, Stage}
use Rattle.dl_turns.specs.Sent.{is_bad}
use Rattle.dl_turns.specs.Stopping.{GoesOn, HasStopCause, IsClosedIn, IsStop, HasClosingTurns, TurnsOn}
use Rattle.dl_turns.specs.Turns.{ClosesFor, HasGiven, Heeds, IsPump, IsTurn, Listens, Refuses, SendsRightly, ServesEach}
use Rattle.dl_turns.proofs.PostedSides.{posts_keep}
use Rattle.dl_turns.proofs.ShownCauses.{left_listens}
use Rattle.dl_turns.proofs.StopCauses.{stop_cause_of}
use Rattle.dl_machine.specs.State.{AreIdle, Changes, Client, IsIdle, IsOne, State, Turn, no_turn}
use Rattle.dl_machine.specs.Steps.{Asked, Closed, Counts, Gave, IsAsked, IsDue, Levelled, MayClose, OfClient, Parted, Sent, ShowsOver}
use Rattle.dl_machine.proofs.Composed.{Leads, goes_one, leads_both, leads_same}
use Rattle.dl_machine.proofs.Joined.{Beyond, beyond_set, changes_on, joined, joined_get, joined_set}
use Rattle.dl_machine.proofs.NamedSlots.{NamesSame, names_both, names_served}

-- ---- levels that are put for programs

-- where channels and positions are the same, so is what a level puts
told_names : (r now : Registry) → NamesSame r now → (next : LevelChange) (outboxes : List (ℕ × Outbox)) → told now next outboxes ≡ told r next outboxes
told_names r now names next outboxes = λ i. put_for (names.channels (next.slot / context_limit) i) (names.positions next.slot i) next.level outboxes

told_more : (r : Registry) (changes : List Change) (c : Change) (outboxes : List (ℕ × Outbox))
    → told_each r (changes ++ c ∷ []) outboxes ≡ told r (record { slot = c.slot; level = c.level }) (told_each r changes outboxes)
told_more r [] c outboxes = refl
told_more r (d ∷ changes) c outboxes = told_more r changes c (told r (record { slot = d.slot; level = d.level }) outboxes)

-- ---- why a client is to be closed

refuses_asked : (number : ℕ) (frame bytes : List ℕ) (cause : Why) (core : Core) → Refuses number frame cause core → IsAsked bytes cause
refuses_asked number frame bytes why.TooMany core refuses = tt
refuses_asked number frame bytes why.NoMemory core refuses = tt
refuses_asked number frame bytes (why.Slow room need) core refuses = tt
refuses_asked number frame bytes _ core refuses = absurd refuses

serves_asked : (number : ℕ) (bytes : List ℕ) (frames : List (List ℕ)) (bad : Bool) (due : Option Why) (old new : Side) → (bad ≡ true → is_bad bytes ≡ true) → ServesEach number frames bad due old new
    → IfSome due (IsAsked bytes)
serves_asked number bytes frames bad None old new is serves = tt
serves_asked number bytes [] true (Some cause) old new is serves = subst (λ (o : Option Why). IfSome o (IsAsked bytes)) (sym serves.0) (is refl)
serves_asked number bytes [] false (Some cause) old new is serves = absurd (cc serves.0)
serves_asked number bytes (frame ∷ frames) bad (Some cause) old new is (inl refused) = refuses_asked number frame bytes cause old.core refused.0
serves_asked number bytes (frame ∷ frames) bad (Some cause) old new is (inr served) = serves_asked number bytes frames bad (Some cause) served.0 new is served.2

-- the requests that an answer of the link makes whole
abbrev asks_of : Answer → List ℕ → List ℕ → List (List ℕ)
asks_of (answer.Bytes count) into unread = requests (unread ++ take count into)
asks_of other into unread = []

heeds_due : (number : ℕ) (unread : List ℕ) (gave : Answer) (into : List ℕ) (due : Option Why) (old new : Side) → Heeds number unread gave into due old new → IsDue gave into unread due (asks_of gave into unread)
heeds_due number unread (answer.Bytes count) into due old new heeds = (serves_asked number (unread ++ take count into) _ _ due old new (λ is. is) heeds, refl)
heeds_due number unread answer.NotYet into due old new heeds = (heeds.0, refl)
heeds_due number unread answer.End into due old new heeds = (heeds.0, refl)
heeds_due number unread answer.Failed into due old new heeds = (heeds.0, refl)

-- what is left of the requests, by why the client is to be closed: none, or the one that is refused stands first
abbrev Ends : ℕ → Option Why → List (List ℕ) → Core → Type 0
Ends number None left core = left ≡ []
Ends number (Some why.Left) left core = left ≡ []
Ends number (Some why.Broken) left core = left ≡ []
Ends number (Some why.Malformed) left core = left ≡ []
Ends number (Some cause) left core = (frame : List ℕ) × (others : List (List ℕ)) × (left ≡ frame ∷ others) × Refuses number frame cause core

bad_ends : (number : ℕ) (bad : Bool) (due : Option Why) (core : Core) → due ≡ cond bad (Some why.Malformed) None → Ends number due [] core
bad_ends number true due core is = subst (λ (o : Option Why). Ends number o [] core) (sym is) refl
bad_ends number false due core is = subst (λ (o : Option Why). Ends number o [] core) (sym is) refl

refused_ends : (number : ℕ) (frame : List ℕ) (others : List (List ℕ)) (due : Option Why) (core : Core) → IsSomeAnd due (λ cause. Refuses number frame cause core) → Ends number due (frame ∷ others) core
refused_ends number frame others None core refused = absurd refused
refused_ends number frame others (Some why.TooMany) core refused = (frame, others, refl, refused)
refused_ends number frame others (Some why.NoMemory) core refused = (frame, others, refl, refused)
refused_ends number frame others (Some (why.Slow room need)) core refused = (frame, others, refl, refused)
refused_ends number frame others (Some _) core refused = absurd refused

sends_end : (number : ℕ) (due : Option Why) (core sent : Core) (link link_now : LinkTold) → SendsRightly number due core link link_now → Ends number due [] sent
sends_end number None core sent link link_now sends = refl
sends_end number (Some why.Broken) core sent link link_now sends = refl
sends_end number (Some _) core sent link link_now sends = absurd sends

ends_may : (number : ℕ) (cause : Why) (client : Client) (old : State) → client.due ≡ Some cause → Ends number (Some cause) client.turn.asks old.core → MayClose number cause client old
ends_may number why.Left client old due ends = (due, ends)
ends_may number why.Broken client old due ends = (due, ends)
ends_may number why.Malformed client old due ends = (due, ends)
ends_may number why.Stopped client old due ends = absurd ends.3
ends_may number (why.Stuck left) client old due ends = absurd ends.3
ends_may number _ client old due ends = ends

-- some bytes wait, and none
waits_and_not : (o : Option Waiting) (left : ℕ) → IsSomeAnd o (λ w. length w.bytes ≡ left) → 0 < left → IsSomeAnd o (λ w. w.bytes ≡ []) → ⊥
waits_and_not None left long some none = long
waits_and_not (Some w) left long some none = absurd (omega (arith, long, some, ap (λ (xs : List ℕ). length xs) none))

-- a client is open after a pump that does not close it
pub some_and : {A : Type 0} (P : A → Type 0) (o : Option A) → IsSomeAnd o P → IsSome o
some_and P None holds = absurd holds
some_and P (Some x) holds = refl

still_open : {quiet : Bool} (number : ℕ) (old new : Stage) → GoesOn number quiet old new → IsSome (outbox_of new.side.core.hub number)
still_open number old new goes =
    let pump = goes.pumps in
    subst (λ (s : Side). IsSome (outbox_of s.core.hub number)) (sym pump.closes)
    (elim pump.sends.0 [
      | inl all ↦ some_and _ (outbox_of pump.between.core.hub number) all.0
      | inr some ↦ some_and _ (outbox_of pump.between.core.hub number) some.0
    ])

turns_open : (number count : ℕ) (old new : Stage) → IsSome (outbox_of old.side.core.hub number) → TurnsOn number count old new → IsSome (outbox_of new.side.core.hub number)
turns_open number zero old new there turns = subst (λ (s : Stage). IsSome (outbox_of s.side.core.hub number)) (sym turns) there
turns_open number (suc count) old new there turns = turns_open number count turns.0 new (still_open number old turns.0 turns.1) turns.2

module _ (IsTold : LinkTold → Type 0) where
  -- all links that are told like this tell whether they are over
  abbrev pub TellOvers : Type 0
  TellOvers = (other : LinkTold) → IsTold other → IsSome other.over

  over_if : (cause : Why) (link : LinkTold) (cut : Cutting) → (cause ≡ why.Left → TellOvers → link.over ≡ Some true) → ShowsOver IsTold (Gave (Some cause) link cut)
  over_if why.Left link cut left = left refl
  over_if _ link cut left = tt

  over_heard : (number : ℕ) (due : Option Why) (old new : Stage) → Listens number due old new → (TellOvers → IsSome old.link.over) → ShowsOver IsTold (Gave due new.link new.cutter)
  over_heard number None old new listens tells = tt
  over_heard number (Some cause) old new listens tells = over_if cause new.link new.cutter (λ is all. left_listens number cause old new listens is (tells all))

-- ---- a turn's side and the clients, as the state of a daemon

pub record Spot : Type 0 where
  pub side : Side
  pub clients : List Client

-- a client between two turns
abbrev resting : LinkTold → Cutting → Client
resting link cutter = record { link = link; cutter = cutter; due = None; turn = no_turn }

-- the client of a link and a listener
abbrev pub client_with : LinkTold → Listener → Client
client_with link listener = resting link listener.cutter

abbrev pub clients_with : List LinkTold → List Listener → List Client
clients_with links listeners = joined client_with fresh_listener links listeners

-- all of them are between two turns
one_idle : (client : Client) (clients : List Client) → IsIdle client → AreIdle clients → AreIdle (client ∷ clients)
one_idle client clients one all = by where
  by : (place : ℕ) (other : Client) → slice_get (client ∷ clients) place ≡ Some other → IsIdle other
  by zero other there = subst IsIdle (some_is there) one
  by (suc place) other there = all place other there

pub idle_with : (links : List LinkTold) (listeners : List Listener) → AreIdle (clients_with links listeners)
idle_with [] listeners = λ place client there. absurd (cc there)
idle_with (link ∷ links) [] = one_idle (client_with link fresh_listener) (clients_with links []) (refl, refl) (idle_with links [])
idle_with (link ∷ links) (listener ∷ listeners) = one_idle (client_with link listener) (clients_with links listeners) (refl, refl) (idle_with links listeners)

abbrev pub spot_of : Clients → Spot
spot_of clients = record { side = clients.side; clients = clients_with clients.links clients.listeners }

-- as many links as before, and behind them listeners that heard nothing
module _ (Visit : ℕ → Bool → rounds.Client → rounds.Client → Type 0) where
  pub visits_long : (last : ℕ) (numbers : List ℕ) (moved : Bool) (old new : Clients) → Visits Visit last numbers moved old new → length new.links ≡ length old.links
  visits_long last [] moved old new visits = ap (λ (c : Clients). length c.links) visits.2
  visits_long last (number ∷ numbers) moved old new visits =
      visits_long number numbers visits.6 (with_client number visits.3 old) new visits.8 ∙ set_length old.links (number - 1) visits.3.link

  pub visits_beyond : (last : ℕ) (numbers : List ℕ) (moved : Bool) (old new : Clients) → Visits Visit last numbers moved old new → Beyond fresh_listener old.links old.listeners
      → Beyond fresh_listener new.links new.listeners
  visits_beyond last [] moved old new visits beyond = subst (λ (c : Clients). Beyond fresh_listener c.links c.listeners) (sym visits.2) beyond
  visits_beyond last (number ∷ numbers) moved old new visits beyond =
      let next : Clients = with_client number visits.3 old in
      visits_beyond number numbers visits.6 next new visits.8
      (beyond_set fresh_listener old.links next.links old.listeners next.listeners (number - 1) visits.1.link visits.3.link visits.3.listener visits.2.link refl refl beyond)

module _ (IsTold : LinkTold → Type 0) (base : State) (registry : Registry) (sets : List Change) where
  -- what waits for the channels: the levels that were set since are put, each by this registry
  abbrev pub boxes : ControlTold → List (ℕ × Outbox)
  boxes desk = told_each registry (drop (length sets) desk.sets) base.channels.outboxes

  abbrev pub lift : Spot → State
  lift spot = record base {
    core = spot.side.core;
    events = spot.side.events;
    folder = spot.side.folder;
    clients = spot.clients;
    channels = record base.channels { outboxes = boxes spot.side.desk };
  }

  -- levels were set since, and applications and contexts stand at their channels and positions
  pub record Follows (side : Side) : Type 0 where
    pub more : List Change
    pub sets_so : side.desk.sets ≡ sets ++ more
    pub names : NamesSame registry side.core.registry.registry

  abbrev pub Leading : Spot → Spot → Type 0
  Leading old new = Leads IsTold lift (λ spot. Follows spot.side) old new

  both : (old between new : Spot) → Leading old between → Leading between new → Leading old new
  both = leads_both IsTold lift (λ spot. Follows spot.side)

  same : (old new : Spot) → new ≡ old → Leading old new
  same = leads_same IsTold lift (λ spot. Follows spot.side)

  pub boxes_now : (desk : ControlTold) (more : List Change) → desk.sets ≡ sets ++ more → boxes desk ≡ told_each registry more base.channels.outboxes
  boxes_now desk more so = ap (λ (cs : List Change). told_each registry cs base.channels.outboxes) (ap (λ (cs : List Change). drop (length sets) cs) so ∙ drop-append_seam sets more)

  -- ---- requests and levels

  level_leads : (next : LevelChange) (old new : Side) (clients : List Client) → SetsLevel next old new → Leading (record { side = old; clients = clients }) (record { side = new; clients = clients })
  level_leads next old new clients one = λ f.
      let c : Change = change next.slot next.level in
      let sets_now : new.desk.sets ≡ sets ++ (f.more ++ c ∷ []) =
      ap (λ (d : ControlTold). d.sets) one.desk ∙ ap (λ (cs : List Change). cs ++ c ∷ []) f.sets_so ∙ append_assoc sets f.more (c ∷ []) in
      let put : boxes new.desk ≡ told old.core.registry.registry next (boxes old.desk) =
      boxes_now new.desk (f.more ++ c ∷ []) sets_now ∙ told_more registry f.more c base.channels.outboxes
      ∙ ap (λ (o : List (ℕ × Outbox)). told registry next o) (sym (boxes_now old.desk f.more f.sets_so)) ∙ sym (told_names registry old.core.registry.registry f.names next (boxes old.desk)) in
      let named : new.core.registry.registry ≡ old.core.registry.registry = ap (λ (k : Core). k.registry.registry) one.core in (
        goes_one IsTold (Levelled next) (lift (record { side = old; clients = clients })) (lift (record { side = new; clients = clients }))
            (record { owed = one.owed; core = one.core; after = one.after; events = one.events; outboxes = put; folder = one.folder }, refl),
        record { more = f.more ++ c ∷ []; sets_so = sets_now; names = subst (NamesSame registry) (sym named) f.names },
      )

  pub levels_lead : (changes : List LevelChange) (old new : Side) (clients : List Client) → SetsLevels changes old new → Leading (record { side = old; clients = clients }) (record { side = new; clients = clients })
  levels_lead [] old new clients sets = same _ _ (ap (λ (s : Side). record { side = s; clients = clients }) sets.0)
  levels_lead (next ∷ changes) old new clients sets = both _ (record { side = sets.0; clients = clients }) _ (level_leads next old sets.0 clients sets.1) (levels_lead changes sets.0 new clients sets.2)

  -- ---- one client: what its link and its cutter are, beside the others

  module _ (number : ℕ) (low : 1 ≤ number) (all : List Client) (first : Client) (there : IsOne number all first) where
    abbrev at : Side → Client → Spot
    at side client = record { side = side; clients = slice_set all (number - 1) client }

    changes : (was now : Client) → Changes number was now (slice_set all (number - 1) was) (slice_set all (number - 1) now)
    changes was now = changes_on number all first was now there

    -- its turn was not quiet so often
    abbrev tried_for : ℕ → Turn
    tried_for tried = record { asks = []; tried = tried }

    abbrev of_stage : Stage → Option Why → Turn → Client
    of_stage stage due turn = record { link = stage.link; cutter = stage.cutter; due = due; turn = turn }

    abbrev idle : Stage → Client
    idle stage = resting stage.link stage.cutter

    abbrev asking : Client → List (List ℕ) → Client
    asking client asks = record client { turn = record client.turn { asks = asks } }

    abbrev client_at : rounds.Client → Client
    client_at c = client_with c.link c.listener

    -- ---- requests

    asks_lead : (frame : List ℕ) (others : List (List ℕ)) (old new : Side) (client : Client) → Asks number frame old new → Leading (at old (asking client (frame ∷ others))) (at new (asking client others))
    asks_lead frame others old new client asks = λ f.
        let was : Client = asking client (frame ∷ others) in
        let now : Client = asking client others in
        let sets_same : new.desk.sets ≡ old.desk.sets = (posts_keep asks.ready.want asks.pushed old.desk new.desk asks.posts).0 in
        let put : boxes new.desk ≡ boxes old.desk = ap (λ (cs : List Change). told_each registry (drop (length sets) cs) base.channels.outboxes) sets_same in
        let served = names_served (seen old.core) (slots old.core.registry) old.core.registry.registry (asked asks.ready.frame) asks.serves.answer in
        let named : NamesSame old.core.registry.registry new.core.registry.registry = subst (λ (k : _). NamesSame old.core.registry.registry k.registry) (sym asks.serves.registry) served in (
          goes_one IsTold (OfClient number (Asked frame)) (lift (at old was)) (lift (at new now)) (
            low,
            (old.desk, new.desk, asks, was, others, refl, changes was now),
            λ i. record (lift (at new now)) { channels = record base.channels { outboxes = put i } },
            tt,
          ),
          record { more = f.more; sets_so = sets_same ∙ f.sets_so; names = names_both registry old.core.registry.registry new.core.registry.registry f.names named },
        )

    -- it comes to a side and to what is left of its requests
    abbrev Comes : Option Why → Spot → Side → Client → Type 0
    Comes due old new client = (left : List (List ℕ)) × Ends number due left new.core × Leading old (at new (asking client left))

    serves_lead : (frames : List (List ℕ)) (bad : Bool) (due : Option Why) (old new : Side) (client : Client) → ServesEach number frames bad due old new → Comes due (at old (asking client frames)) new client
    serves_lead [] bad due old new client serves = ([], bad_ends number bad due new.core serves.0, same _ _ (ap (λ (s : Side). at s (asking client [])) serves.1))
    serves_lead (frame ∷ frames) bad due old new client (inl refused) = (
      frame ∷ frames,
      subst (λ (s : Side). Ends number due (frame ∷ frames) s.core) (sym refused.1) (refused_ends number frame frames due old.core refused.0),
      same _ _ (ap (λ (s : Side). at s (asking client (frame ∷ frames))) refused.1),
    )
    serves_lead (frame ∷ frames) bad due old new client (inr served) =
        let one = served.1 in
        let rest = serves_lead frames bad due served.0 new client served.2 in (
          rest.0,
          rest.1,
          both _ (at served.0 (asking client frames)) _
              (both _ (at one.0 (asking client frames)) _ (asks_lead frame frames old one.0 client one.1) (levels_lead one.2.0 one.0 served.0 _ one.2.1)) rest.2,
        )

    heeds_lead : (unread : List ℕ) (gave : Answer) (into : List ℕ) (due : Option Why) (old new : Side) (client : Client) → Heeds number unread gave into due old new
        → Comes due (at old (asking client (asks_of gave into unread))) new client
    heeds_lead unread (answer.Bytes count) into due old new client heeds = serves_lead _ _ due old new client heeds
    heeds_lead unread answer.NotYet into due old new client heeds =
        ([], subst (λ (o : Option Why). Ends number o [] new.core) (sym heeds.0) refl, same _ _ (ap (λ (s : Side). at s (asking client [])) heeds.1))
    heeds_lead unread answer.End into due old new client heeds =
        ([], subst (λ (o : Option Why). Ends number o [] new.core) (sym heeds.0) refl, same _ _ (ap (λ (s : Side). at s (asking client [])) heeds.1))
    heeds_lead unread answer.Failed into due old new client heeds =
        ([], subst (λ (o : Option Why). Ends number o [] new.core) (sym heeds.0) refl, same _ _ (ap (λ (s : Side). at s (asking client [])) heeds.1))

    listens_lead : (tried tried_now : ℕ) (due : Option Why) (old new : Stage) → Counts (HasGiven old.link.given new.link.given) tried tried_now → ShowsOver IsTold (Gave due new.link new.cutter)
        → IsSome (outbox_of old.side.core.hub number) → Listens number due old new → Comes due (at old.side (of_stage old None (tried_for tried))) new.side (of_stage new due (tried_for tried_now))
    listens_lead tried tried_now due old new counts over there listens =
        let was : Client = of_stage old None (tried_for tried) in
        let asks : List (List ℕ) = asks_of listens.answer listens.into old.cutter.unread in
        let heard : Client = of_stage new due (record { asks = asks; tried = tried_now }) in
        let rest = heeds_lead old.cutter.unread listens.answer listens.into due old.side new.side (of_stage new due (tried_for tried_now)) listens.heeds in (
          rest.0,
          rest.1,
          both _ (at old.side heard) _
              (λ f. (
                goes_one IsTold (OfClient number (Gave due new.link new.cutter)) (lift (at old.side was)) (lift (at old.side heard)) (
                  low,
                  (
                    was,
                    heard.turn,
                    changes was heard,
                    listens.answer,
                    listens.into,
                    listens.size,
                    listens.hears,
                    heeds_due number old.cutter.unread listens.answer listens.into due old.side new.side listens.heeds,
                    listens.cut,
                    refl,
                    (refl, refl),
                    counts,
                    there,
                  ),
                  refl,
                  over,
                ),
                f,
              )) rest.2,
        )

    -- ---- Closes

    close_leads : (cause : Why) (was : Client) (old new : Side) → MayClose number cause was (lift (at old was)) → Closes number cause old new
        → Leading (at old was) (at new (record was { due = None; turn = no_turn }))
    close_leads cause was old new may closes = λ f.
        let named : new.core.registry.registry ≡ old.core.registry.registry = ap (λ (k : Core). k.registry.registry) closes.core in
        let sets_same : new.desk.sets ≡ old.desk.sets = ap (λ (d : ControlTold). d.sets) closes.desk in
        let now : Client = record was { due = None; turn = no_turn } in (
          goes_one IsTold (OfClient number (Closed cause)) (lift (at old was)) (lift (at new now)) (
            low,
            (
              was,
              may,
              changes was now,
              old.desk,
              record { may = closes.may; limit = closes.limit; settled = closes.settled; core = closes.core; after = closes.after; events = closes.events; desk = refl; folder = closes.folder },
            ),
            λ i. record (lift (at new now)) { channels = record base.channels { outboxes = boxes (closes.desk i) } },
            tt,
          ),
          record { more = f.more; sets_so = sets_same ∙ f.sets_so; names = subst (NamesSame registry) (sym named) f.names },
        )

    -- for what its link showed, or for what it asked
    ends_lead : (cause : Why) (left : List (List ℕ)) (tried : ℕ) (link : LinkTold) (cutter : Cutting) (old new : Side) → Ends number (Some cause) left old.core → Closes number cause old new
        → Leading (at old (record { link = link; cutter = cutter; due = Some cause; turn = record { asks = left; tried = tried } }))
        (at new (resting link cutter))
    ends_lead cause left tried link cutter old new ends closes =
        let was : Client = record { link = link; cutter = cutter; due = Some cause; turn = record { asks = left; tried = tried } } in
        close_leads cause was old new (ends_may number cause was (lift (at old was)) refl ends) closes

    closes_for_lead : (due : Option Why) (left : List (List ℕ)) (link : LinkTold) (cutter : Cutting) (old new : Side) → Ends number due left old.core → ClosesFor number due old new
        → Leading (at old (record { link = link; cutter = cutter; due = due; turn = record { asks = left; tried = 0 } })) (at new (resting link cutter))
    closes_for_lead None left link cutter old new ends closes =
        same _ _ (λ i. at (closes i) (record { link = link; cutter = cutter; due = None; turn = record { asks = sym ends i; tried = 0 } }))
    closes_for_lead (Some cause) left link cutter old new ends closes = ends_lead cause left 0 link cutter old new ends closes

    turn_leads : (due : Option Why) (old new : Stage) → (TellOvers IsTold → IsSome old.link.over) → IsSome (outbox_of old.side.core.hub number) → IsTurn number due old new → Leading (at old.side (idle old)) (at new.side (idle new))
    turn_leads due old new tells there turn =
        let mid : Stage = record new { side = turn.between } in
        let heard = listens_lead 0 0 due old mid (inl refl) (over_heard IsTold number due old mid turn.listens tells) there turn.listens in
        both _ (at turn.between (of_stage new due (record { asks = heard.0; tried = 0 }))) _ heard.2 (closes_for_lead due heard.0 new.link new.cutter turn.between new.side heard.1 turn.closes)

    -- ---- pumps

    sent_lead : (tried tried_now : ℕ) (due : Option Why) (link link_now : LinkTold) (cutter : Cutting) (old new : Side) → Counts (HasRisen link.waits link_now.waits) tried tried_now
        → (pump : IsPump number due link link_now old new)
        → Leading (at old (record { link = link; cutter = cutter; due = None; turn = tried_for tried })) (at pump.between (record { link = link_now; cutter = cutter; due = due; turn = tried_for tried_now }))
    sent_lead tried tried_now due link link_now cutter old new counts pump = λ f.
        let was : Client = record { link = link; cutter = cutter; due = None; turn = tried_for tried } in
        let sent : Client = record { link = link_now; cutter = cutter; due = due; turn = tried_for tried_now } in (
          goes_one IsTold (OfClient number (Sent due link_now)) (lift (at old was)) (lift (at pump.between sent)) (
            low,
            (
              was,
              tried_for tried_now,
              changes was sent,
              pump.pumps,
              pump.sends,
              pump.only_sent,
              λ i. part (pump.rest i).core (pump.rest i).events (pump.rest i).folder,
              (refl, refl),
              refl,
              counts,
            ),
            λ i. record (lift (at pump.between sent)) { channels = record base.channels { outboxes = boxes (pump.rest i).desk } },
            tt,
          ),
          subst Follows (sym pump.rest) (record { more = f.more; sets_so = f.sets_so; names = f.names }),
        )

    pump_leads : (due : Option Why) (link link_now : LinkTold) (cutter : Cutting) (old new : Side) → IsPump number due link link_now old new
        → Leading (at old (resting link cutter)) (at new (resting link_now cutter))
    pump_leads due link link_now cutter old new pump =
        both _ (at pump.between (record { link = link_now; cutter = cutter; due = due; turn = no_turn })) _ (sent_lead 0 0 due link link_now cutter old new (inl refl) pump)
        (closes_for_lead due [] link_now cutter pump.between new (sends_end number due pump.between.core pump.between.core link link_now pump.sends) pump.closes)

    -- ---- stops

    -- a turn after which it is open, which counts where it was not quiet
    went_on_lead : (tried mid now : ℕ) (quiet : Bool) (old new : Stage) (goes : GoesOn number quiet old new) → IsSome (outbox_of old.side.core.hub number) → Counts (HasGiven old.link.given goes.heard.link.given) tried mid
        → Counts (HasRisen goes.heard.link.waits new.link.waits) mid now → Leading (at old.side (of_stage old None (tried_for tried))) (at new.side (of_stage new None (tried_for now)))
    went_on_lead tried mid now quiet old new goes there gave sent =
        let heard = listens_lead tried mid None old goes.heard gave tt there goes.listens in
        let pump = goes.pumps in
        both _ (at goes.heard.side (of_stage goes.heard None (tried_for mid))) _
        (both _ _ _ heard.2 (same _ _ (λ i. at goes.heard.side (of_stage goes.heard None (record { asks = sym heard.1 i; tried = mid })))))
        (both _ (at pump.between (record { link = new.link; cutter = goes.heard.cutter; due = None; turn = tried_for now })) _
        (sent_lead mid now None goes.heard.link new.link goes.heard.cutter goes.heard.side new.side sent pump)
        (same _ _ (λ i. at (pump.closes i) (record { link = new.link; cutter = goes.cutter i; due = None; turn = tried_for now }))))

    goes_on_lead : (tried : ℕ) (old new : Stage) → IsSome (outbox_of old.side.core.hub number) → GoesOn number false old new → Leading (at old.side (of_stage old None (tried_for tried))) (at new.side (of_stage new None (tried_for (tried + 1))))
    goes_on_lead tried old new there goes = elim goes.is_quiet [
      | inl given ↦ went_on_lead tried (tried + 1) (tried + 1) false old new goes there (inr (given, refl)) (inl refl)
      | inr risen ↦ went_on_lead tried tried (tried + 1) false old new goes there (inl refl) (inr (risen, refl))
    ]

    closed_in_leads : (tried : ℕ) (cause : Why) (old new : Stage) → (cause ≡ why.Left → TellOvers IsTold → new.link.over ≡ Some true) → IsSome (outbox_of old.side.core.hub number) → IsClosedIn number cause old new
        → Leading (at old.side (of_stage old None (tried_for tried))) (at new.side (idle new))
    closed_in_leads tried cause old new left there (inl turn) =
        let mid : Stage = record new { side = turn.between } in
        let heard = listens_lead tried tried (Some cause) old mid (inl refl) (over_if IsTold cause new.link new.cutter left) there turn.listens in
        both _ (at turn.between (of_stage new (Some cause) (record { asks = heard.0; tried = tried }))) _ heard.2 (ends_lead cause heard.0 tried new.link new.cutter turn.between new.side heard.1 turn.closes)
    closed_in_leads tried cause old new left there (inr pumped) =
        let heard : Stage = pumped.0 in
        let pump = pumped.2 in
        let listened = listens_lead tried tried None old heard (inl refl) tt there pumped.1 in
        both _ (at heard.side (of_stage heard None (tried_for tried))) _
        (both _ _ _ listened.2 (same _ _ (λ i. at heard.side (of_stage heard None (record { asks = sym listened.1 i; tried = tried })))))
        (both _ (at pump.between (record { link = new.link; cutter = heard.cutter; due = Some cause; turn = tried_for tried })) _
        (sent_lead tried tried (Some cause) heard.link new.link heard.cutter heard.side new.side (inl refl) pump)
        (both _ (at new.side (resting new.link heard.cutter)) _
        (ends_lead cause [] tried new.link heard.cutter pump.between new.side (sends_end number (Some cause) pump.between.core pump.between.core heard.link new.link pump.sends) pump.closes)
        (same _ _ (λ i. at new.side (resting new.link (pumped.3 i))))))

    turns_lead : (tried count now : ℕ) (old new : Stage) → now ≡ tried + count → IsSome (outbox_of old.side.core.hub number) → TurnsOn number count old new → Leading (at old.side (of_stage old None (tried_for tried))) (at new.side (of_stage new None (tried_for now)))
    turns_lead tried zero now old new is there turns =
        let all : now ≡ tried = omega (arith, is) in same _ _ (λ i. at (turns i).side (of_stage (turns i) None (tried_for (all i))))
    turns_lead tried (suc count) now old new is there turns =
        both _ (at turns.0.side (of_stage turns.0 None (tried_for (tried + 1)))) _ (goes_on_lead tried old turns.0 there turns.1)
        (turns_lead (tried + 1) count now turns.0 new (omega (arith, is)) (still_open number old turns.0 turns.1) turns.2)

    -- how a client is found at the end of its closing turns
    stopped_may : base.stops ≡ true → (cause : Why) (last end new : Stage) (tried : ℕ) (old : LinkTold) → IsStop cause → Closes number cause end.side new.side → HasStopCause cause old end.link
        → GoesOn number true last end ⊎ (tried ≡ 1000) → MayClose number cause (of_stage end None (tried_for tried)) (lift (at end.side (of_stage end None (tried_for tried))))
    stopped_may stops why.Stopped last end new tried old stop closes cause (inl goes) =
        let risen = goes.is_quiet.0.1 in (stops, (refl, refl), inl (omega (arith, risen, goes.pumps.only_sent.idles)))
    stopped_may stops why.Stopped last end new tried old stop closes cause (inr all) = (stops, (refl, refl), inr (omega (arith, all)))
    stopped_may stops (why.Stuck left) last end new tried old stop closes cause (inl goes) =
        absurd (waits_and_not (outbox_of end.side.core.hub number) left closes.may.0 closes.may.1 goes.is_quiet.1)
    stopped_may stops (why.Stuck left) last end new tried old stop closes cause (inr all) = (let risen = cause.0.1 in (stops, (refl, refl), omega (arith, risen), omega (arith, all)))
    stopped_may stops _ last end new tried old stop closes cause ends = absurd stop

    wound_up_leads : base.stops ≡ true → (cause : Why) (old new : Stage) → (cause ≡ why.Left → TellOvers IsTold → new.link.over ≡ Some true) → IsSome (outbox_of old.side.core.hub number) → HasClosingTurns number cause old new
        → Leading (at old.side (idle old)) (at new.side (idle new))
    wound_up_leads stops cause old new left there stop =
        let last : Stage = stop.last in
        let tried : ℕ = stop.count in
        let there_last : IsSome (outbox_of last.side.core.hub number) = turns_open number tried old last there stop.turns in
        both _ (at last.side (of_stage last None (tried_for tried))) _ (turns_lead 0 tried tried old last (omega arith) there stop.turns) (elim stop.ends [
          | inl closed ↦ closed_in_leads tried cause last new left there_last closed.1
          | inr stopped ↦
              let at_end : Stage = stopped.0 in
              let shown : HasStopCause cause old.link at_end.link = subst (λ (l : LinkTold). HasStopCause cause old.link l) stopped.4 (stop_cause_of number cause old new stop) in
              let quiet : GoesOn number true last at_end ⊎ (tried ≡ 1000) = elim stopped.1 [ inl goes ↦ inl goes.1 | inr still ↦ inr still.0 ] in
              both _ (at at_end.side (of_stage at_end None (tried_for tried))) _
              (elim stopped.1 [
                | inl goes ↦ went_on_lead tried tried tried true last at_end goes.1 there_last (inl refl) (inl refl)
                | inr still ↦ same _ _ (ap (λ (s : Stage). at s.side (of_stage s None (tried_for tried))) still.1)
              ])
              (both _ (at new.side (idle at_end)) _ (close_leads cause (of_stage at_end None (tried_for tried)) at_end.side new.side (stopped_may stops cause last at_end new tried old.link stopped.2 stopped.3 shown quiet) stopped.3)
              (same _ _ (λ i. at new.side (resting (stopped.4 i) (stopped.5 i)))))
        ])

    -- ---- visits

    shuts_lead : (side : Side) (cutter : Cutting) (link link_now : LinkTold) → IsShut link link_now
        → Leading (at side (resting link cutter)) (at side (resting link_now cutter))
    shuts_lead side cutter link link_now shut = λ f.
        let was : Client = resting link cutter in
        let now : Client = record was { link = link_now } in
        (goes_one IsTold (OfClient number (Parted link_now)) (lift (at side was)) (lift (at side now)) (low, (was, changes was now, shut, refl), refl, tt), f)

    shuts_for_lead : (due : Option Why) (side : Side) (cutter : Cutting) (link link_now : LinkTold) → ShutsFor due link link_now
        → Leading (at side (resting link cutter)) (at side (resting link_now cutter))
    shuts_for_lead None side cutter link link_now stands = same _ _ (ap (λ (l : LinkTold). at side (resting l cutter)) stands)
    shuts_for_lead (Some cause) side cutter link link_now shut = shuts_lead side cutter link link_now shut

    pub heard_leads : (moved : Bool) (was now : rounds.Client) → (TellOvers IsTold → IsSome was.link.over) → IsSome (outbox_of was.side.core.hub number) → visits.Heard number moved was now → Leading (at was.side (client_at was)) (at now.side (client_at now))
    heard_leads moved was now tells there heard =
        both _ (at now.side (resting heard.link now.listener.cutter)) _
        (turn_leads heard.why (stage_of was) (record (stage_of now) { link = heard.link }) tells there heard.turn)
        (shuts_for_lead heard.why now.side now.listener.cutter heard.link now.link heard.shut)

    pub pumped_leads : (moved : Bool) (was now : rounds.Client) → visits.Pumped number moved was now → Leading (at was.side (client_at was)) (at now.side (client_at now))
    pumped_leads moved was now pumped =
        both _ (at now.side (resting pumped.link was.listener.cutter)) _
        (pump_leads pumped.why was.link pumped.link was.listener.cutter was.side now.side pumped.pump)
        (both _ (at now.side (client_with now.link was.listener)) _ (shuts_for_lead pumped.why now.side was.listener.cutter pumped.link now.link pumped.shut)
        (same _ _ (ap (λ (l : Listener). at now.side (client_with now.link l)) pumped.listener)))

    pub closed_leads : base.stops ≡ true → (Tells : Type 0) → (TellOvers IsTold → Tells) → (moved : Bool) (was now : rounds.Client) → IsSome (outbox_of was.side.core.hub number) → visits.Closed Tells number moved was now → Leading (at was.side (client_at was)) (at now.side (client_at now))
    closed_leads stops Tells tells moved was now there closed =
        both _ (at now.side (resting closed.link now.listener.cutter)) _
        (wound_up_leads stops closed.why (stage_of was) (record (stage_of now) { link = closed.link }) (λ is all. closed.left is (tells all)) there closed.wound_up)
        (shuts_lead now.side now.listener.cutter closed.link now.link closed.shut)

  -- ---- all of them

  -- where this holds of the link of each before its visit
  module _ (Fits : LinkTold → Type 0) (Visit : ℕ → Bool → rounds.Client → rounds.Client → Type 0)
      (one : (number : ℕ) (low : 1 ≤ number) (all : List Client) (first : Client) (there : IsOne number all first) (moved : Bool) (was now : rounds.Client) → Fits was.link → IsSome (outbox_of was.side.core.hub number) → Visit number moved was now
      → Leading (record { side = was.side; clients = slice_set all (number - 1) (client_with was.link was.listener) })
      (record { side = now.side; clients = slice_set all (number - 1) (client_with now.link now.listener) })) where
    -- it does so of all above the last one that was visited
    abbrev FitAbove : ℕ → List LinkTold → Type 0
    FitAbove last links = (place : ℕ) (link : LinkTold) → last ≤ place → slice_get links place ≡ Some link → Fits link

    pub visits_lead : (last : ℕ) (numbers : List ℕ) (moved : Bool) (old new : Clients) → FitAbove last old.links → Visits Visit last numbers moved old new → Leading (spot_of old) (spot_of new)
    visits_lead last [] moved old new fit visits = same _ _ (ap spot_of visits.2)
    visits_lead last (number ∷ numbers) moved old new fit visits =
        let was : rounds.Client = visits.1 in
        let is : IsClient number old was = visits.2 in
        let now : rounds.Client = visits.3 in
        let all : List Client = clients_with old.links old.listeners in
        let client : Client = client_with was.link was.listener in
        let above : last < number = visits.0.0 in
        let low : 1 ≤ number = omega (arith, above) in
        let fit_now : FitAbove number (with_client number now old).links =
        (λ place link first at. fit place link (omega (arith, first, above)) (sym (set_other old.links (number - 1) place now.link (λ same. absurd (omega (arith, same, first, above)))) ∙ at)) in
        let there : IsOne number all client = joined_get client_with fresh_listener old.links old.listeners (number - 1) was.link was.listener is.link is.listener in
        let before : Spot = record { side = was.side; clients = slice_set all (number - 1) client } in
        let after : Spot = record { side = now.side; clients = slice_set all (number - 1) (client_with now.link now.listener) } in
        both _ before _ (same (spot_of old) before (λ i. record { side = is.side i; clients = set_again all (number - 1) client there i }))
        (both _ after _ (one number low all client there visits.4 was now (fit (number - 1) was.link (omega (arith, above)) is.link)
        (subst (λ (s : Side). IsSome (outbox_of s.core.hub number)) (sym is.side) visits.0.1) visits.5)
        (both _ (spot_of (with_client number now old)) _
        (same after (spot_of (with_client number now old)) (λ i. record {
          side = now.side;
          clients = joined_set client_with fresh_listener old.links old.listeners (number - 1) was.link now.link was.listener now.listener is.link is.listener i;
        }))
        (visits_lead number numbers visits.6 (with_client number now old) new fit_now visits.8)))
