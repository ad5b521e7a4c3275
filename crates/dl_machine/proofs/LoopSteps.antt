-- Accepts, rounds, greetings and the stop of the daemon with applications of its own, as steps. No program outside is there.
use Rattle.std.proofs.Common.{◌≡◌, ◌≤◌, ◌+◌, ◌/◌, ℕ, zero, suc, Bool, true, false, inl, inr, List, [], ◌∷◌, ◌++◌, drop, length, map, replicate, Option, Some, None, refl, sym, ap, subst, ◌∙◌, arith, append-nil, length-append}
use Rattle.std.specs.Prelude.{IsSome, slice_get}
use Rattle.std.proofs.lemmas.List.{length-replicate, map-append}
use Rattle.dl_account.specs.State.{ClosingState}
use Rattle.dl_account.proofs.Resting.{taken_rest}
use Rattle.dl_bytes.specs.declared.conf.AppSpec.{AppSpec}
use Rattle.dl_bytes.specs.declared.moment.Moment.{Moment}
use Rattle.dl_bytes.specs.declared.user.UserMsg.{UserMsg}
use Rattle.dl_cells.specs.declared.level_history.Change.{Change}
use Rattle.dl_channel_turns.specs.Levels.{put_for, told}
use Rattle.dl_desk.specs.Told.{ControlTold}
use Rattle.dl_loop.specs.RoundSteps.{AcceptsIfMay, IsRound}
use Rattle.dl_loop.specs.Scene.{Scene, side_of, taking_of}
use Rattle.dl_loop.specs.State.{DaemonState, SameDesk, clients_of, desk_told}
use Rattle.dl_loop.specs.Steps.{Accepts, Hears, Parts, Pumps, is_want}
use Rattle.dl_loop.specs.Takes.{TakesLossesIfMay, TakesOn, TakesTurns, most_of}
use Rattle.dl_loop.specs.Greeting as greeting
use Rattle.dl_loop.specs.declared.round.Round.{Round}
use Rattle.dl_loop.proofs.DeskRest.{same_reported, same_taken}
use Rattle.dl_loop.proofs.ShownDaemons.{tell_overs}
use Rattle.dl_model.specs.Registry.{Registry}
use Rattle.dl_model.specs.declared.registry.LevelChange.{LevelChange}
use Rattle.dl_outside.specs.Links.{Links}
use Rattle.dl_outside.specs.Told.{FolderTold, LinkTold, NetTold}
use Rattle.dl_registry.specs.Kept.{channel_at, position_at}
use Rattle.dl_bytes.specs.Limits.{context_limit}
use Rattle.dl_rounds.specs.Arrivals.{Arrives, ConnectsAs}
use Rattle.dl_rounds.specs.Clients as rounds
use Rattle.dl_rounds.specs.Clients.{Clients}
use Rattle.dl_rounds.specs.Greetings.{GreetsEach}
use Rattle.dl_rounds.specs.Partings.{ShutsGone}
use Rattle.dl_rounds.specs.Ready.{fresh_listener}
use Rattle.dl_rounds.specs.Visits as visits
use Rattle.dl_rounds.specs.declared.accepting.Arrival.{Arrival}
use Rattle.dl_rounds.specs.declared.accepting.Arrival.TheVariants as arrival
use Rattle.dl_rounds.specs.declared.listener.Listener.{Listener}
use Rattle.dl_settling.specs.Settling as settling
use Rattle.dl_settling.specs.State as settling_state
use Rattle.dl_settling.specs.State.{Stopping}
use Rattle.dl_socket.specs.Channels.{Channels, none_opened}
use Rattle.dl_socket.specs.Turns.{told_each}
use Rattle.dl_taking.specs.Draining.{DrainsFirst, TakesOn as TakesBatches, closing_took}
use Rattle.dl_taking.specs.Side as taking
use Rattle.dl_taking.specs.Side.{turned}
use Rattle.dl_taking.specs.Takes.{Reports, TakesClaimIf, TakesSome, found_none, gave}
use Rattle.dl_taking.specs.Took.{took_by}
use Rattle.dl_taking.specs.declared.taking.Got.{Got}
use Rattle.dl_turns.specs.Events.{HaveSetLevels}
use Rattle.dl_turns.specs.Gone.{TellTheEnd}
use Rattle.dl_turns.specs.State.{Side, side}
use Rattle.dl_machine.specs.State.{AreIdle, Client, State, new_client, no_turn}
use Rattle.dl_machine.specs.Steps.{Came, Goes, Greeted, IsToldBy, LetGo, OfRings, PartedAll, TookCalls, TookClaim, TookLosses, Wanted}
use Rattle.dl_machine.proofs.ClientSteps as clients
use Rattle.dl_machine.proofs.ClientSteps.{Follows, Spot, TellOvers, boxes, client_with, clients_with, closed_leads, heard_leads, idle_with, levels_lead, lift, pumped_leads, spot_of, visits_lead}
use Rattle.dl_machine.proofs.Composed.{goes_both, goes_one, goes_same}
use Rattle.dl_machine.proofs.Joined.{Beyond, joined_left, joined_more, joined_padded, joined_right}
use Rattle.dl_machine.proofs.NamedSlots.{names_none}

-- ---- where nobody waits for levels none is put

told_none : (r : Registry) (next : LevelChange) → told r next [] ≡ []
told_none r next = by (channel_at r (next.slot / context_limit)) (position_at r next.slot) where
  by : (channel position : Option ℕ) → put_for channel position next.level [] ≡ []
  by (Some channel) (Some position) = refl
  by (Some channel) None = refl
  by None (Some position) = refl
  by None None = refl

told_each_none : (r : Registry) (changes : List Change) → told_each r changes [] ≡ []
told_each_none r [] = refl
told_each_none r (c ∷ changes) = ap (told_each r changes) (told_none r (record { slot = c.slot; level = c.level })) ∙ told_each_none r changes

module _ (IsTold : LinkTold → Type 0) (base : State) (none : base.channels ≡ none_opened 0 0) where
  -- a turn's side and the clients
  abbrev plain : Spot → State
  plain spot = record base { core = spot.side.core; events = spot.side.events; folder = spot.side.folder; clients = spot.clients }

  lead_goes : (registry : Registry) (sets : List Change) (old new : Spot) → Follows IsTold base registry sets old.side → clients.Leading IsTold base registry sets old new → Goes IsTold (plain old) (plain new)
  lead_goes registry sets old new follows lead =
      let put : (desk : ControlTold) → boxes IsTold base registry sets desk ≡ base.channels.outboxes =
      (λ desk. ap (λ (c : Channels). told_each registry (drop (length sets) desk.sets) c.outboxes) none ∙ told_each_none registry (drop (length sets) desk.sets)
      ∙ sym (ap (λ (c : Channels). c.outboxes) none)) in
      let lifted : (spot : Spot) → lift IsTold base registry sets spot ≡ plain spot = (λ spot i. record (plain spot) { channels = record base.channels { outboxes = put spot.side.desk i } }) in
      goes_both IsTold (plain old) (lift IsTold base registry sets old) (plain new) (goes_same IsTold _ _ (lifted old))
      (goes_both IsTold _ (lift IsTold base registry sets new) (plain new) (lead follows).0 (goes_same IsTold _ _ (sym (lifted new))))

  first_follows : (s : Side) → Follows IsTold base s.core.registry.registry s.desk.sets s
  first_follows s = record { more = []; sets_so = sym (append-nil s.desk.sets); names = names_none s.core.registry.registry }

  levels_go : (old new : Side) (cs : List Client) → HaveSetLevels old new → Goes IsTold (plain (record { side = old; clients = cs })) (plain (record { side = new; clients = cs }))
  levels_go old new cs levels =
      lead_goes old.core.registry.registry old.desk.sets (record { side = old; clients = cs }) (record { side = new; clients = cs }) (first_follows old)
      (levels_lead IsTold base old.core.registry.registry old.desk.sets levels.0 old new cs levels.1)

  hears_go : (moved : Bool) (old new : Clients) → ((place : ℕ) (link : LinkTold) → slice_get old.links place ≡ Some link → TellOvers IsTold → IsSome link.over) → visits.HearsAll moved old new
      → Goes IsTold (plain (spot_of old)) (plain (spot_of new))
  hears_go moved old new tells heard =
      let registry : Registry = old.side.core.registry.registry in
      let sets : List Change = old.side.desk.sets in
      lead_goes registry sets (spot_of old) (spot_of new) (first_follows old.side)
      (visits_lead IsTold base registry sets (λ link. TellOvers IsTold → IsSome link.over) visits.Heard
      (λ number low all first there here c d tell some visit. heard_leads IsTold base registry sets number low all first there here c d tell some visit) 0 heard.0 moved old new (λ place link above at. tells place link at) heard.1)

  pumps_go : (moved : Bool) (old new : Clients) → rounds.VisitsAll visits.Pumped moved old new → Goes IsTold (plain (spot_of old)) (plain (spot_of new))
  pumps_go moved old new pumped =
      let registry : Registry = old.side.core.registry.registry in
      let sets : List Change = old.side.desk.sets in
      lead_goes registry sets (spot_of old) (spot_of new) (first_follows old.side)
      (visits_lead IsTold base registry sets (λ link. Unit {0}) visits.Pumped
      (λ number low all first there here c d fits some visit. pumped_leads IsTold base registry sets number low all first there here c d visit) 0 pumped.0 moved old new (λ place link above at. tt) pumped.1)

  closes_go : base.stops ≡ true → (Tells : Type 0) → (TellOvers IsTold → Tells) → (old new : Clients) → visits.ClosesAll Tells old new → Goes IsTold (plain (spot_of old)) (plain (spot_of new))
  closes_go stops Tells tells old new closed =
      let registry : Registry = old.side.core.registry.registry in
      let sets : List Change = old.side.desk.sets in
      lead_goes registry sets (spot_of old) (spot_of new) (first_follows old.side)
      (visits_lead IsTold base registry sets (λ link. Unit {0}) (visits.Closed Tells)
      (λ number low all first there here c d fits some visit. closed_leads IsTold base registry sets number low all first there stops Tells tells here c d some visit) 0 closed.1.0 closed.0 old new (λ place link above at. tt) closed.1.1)

  greets_go : (moment : Moment) (msgs : List UserMsg) (old new : Side) (cs : List Client) → GreetsEach moment msgs old new
      → Goes IsTold (plain (record { side = old; clients = cs })) (plain (record { side = new; clients = cs }))
  greets_go moment [] old new cs greets = goes_same IsTold _ _ (ap (λ (s : Side). plain (record { side = s; clients = cs })) greets)
  greets_go moment (msg ∷ msgs) old new cs greets =
      let next : Side = greets.0 in
      let one = greets.1 in
      let noted : State = plain (record { side = one.between; clients = cs }) in
      goes_both IsTold _ (plain (record { side = next; clients = cs })) _
      (goes_both IsTold _ noted _ (goes_one IsTold (OfRings (Greeted moment msg)) (plain (record { side = old; clients = cs })) noted ((one.notes, one.registers, refl), refl, ap (λ (c : Channels). c.in_all) none))
      (levels_go one.between next cs one.levels))
      (greets_go moment msgs next new cs greets.2)

-- ---- what is taken

module _ (IsTold : LinkTold → Type 0) where
  -- with a taking's side
  abbrev with_taking : State → taking.Side → State
  with_taking base s = record base { core = s.part.core; events = s.part.events; folder = s.part.folder; took = s.took }

  module _ (base : State) (none : base.channels ≡ none_opened 0 0) (idle : AreIdle base.clients) where
    both : (old between new : taking.Side) → Goes IsTold (with_taking base old) (with_taking base between) → Goes IsTold (with_taking base between) (with_taking base new)
        → Goes IsTold (with_taking base old) (with_taking base new)
    both old between new first second = goes_both IsTold (with_taking base old) (with_taking base between) (with_taking base new) first second

    same : (old new : taking.Side) → new ≡ old → Goes IsTold (with_taking base old) (with_taking base new)
    same old new is = goes_same IsTold (with_taking base old) (with_taking base new) (ap (with_taking base) is)

    claim_goes : (b : Bool) (app : ℕ) (moment : Moment) (old new : taking.Side) → TakesClaimIf b app moment old new → Goes IsTold (with_taking base old) (with_taking base new)
    claim_goes false app moment old new stands = same old new stands
    claim_goes true app moment old new takes =
        let notes = takes.notes in
        let then : Side = notes.between in
        let claimed : State = record base { core = then.core; events = then.events; folder = then.folder; took = new.took } in
        goes_both IsTold _ claimed _
        (goes_one IsTold (OfRings (TookClaim app moment takes.claim)) (with_taking base old) claimed ((notes.notes, notes.claims, notes.core, notes.folder, takes.took), refl, ap (λ (c : Channels). c.in_all) none))
        (levels_go IsTold claimed none then (turned new) base.clients notes.levels)

    some_goes : (app most : ℕ) (got : Got) (old new : taking.Side) → TakesSome app most got old new → Goes IsTold (with_taking base old) (with_taking base new)
    some_goes app most got old new takes =
        both old takes.between new
        (goes_one IsTold (OfRings (TookCalls app takes.moment takes.items)) (with_taking base old) (with_taking base takes.between) ((takes.logs, takes.took, idle), refl, ap (λ (c : Channels). c.in_all) none))
        (claim_goes got.claimed app takes.moment takes.between new takes.claim)

    reports_go : (specs : List AppSpec) (app count : ℕ) (old new : taking.Side) → Reports specs app count old new → Goes IsTold (with_taking base old) (with_taking base new)
    reports_go specs app count old new reports =
        goes_one IsTold (OfRings (TookLosses app reports.moment reports.apid count)) (with_taking base old) (with_taking base new) ((reports.tells, reports.took, idle), refl, ap (λ (c : Channels). c.in_all) none)

    batches_go : (app count : ℕ) (old new : taking.Side) → TakesBatches app count old new → Goes IsTold (with_taking base old) (with_taking base new)
    batches_go app zero old new stands = same old new stands
    batches_go app (suc count) old new takes = both old takes.0 new (batches_go app count old takes.0 takes.1) (some_goes app 64 takes.2.0 takes.0 new takes.2.1)

    drains_go : (specs : List AppSpec) (many : ℕ) (old new : taking.Side) → DrainsFirst specs many old new → Goes IsTold (with_taking base old) (with_taking base new)
    drains_go specs zero old new stands = same old new stands
    drains_go specs (suc app) old new drains =
        let one = drains.2 in
        both old drains.0 new (drains_go specs app old drains.0 drains.1)
        (both drains.0 one.emptied new (batches_go app one.count drains.0 one.emptied one.takes) (reports_go specs app one.lost one.emptied new one.reports))

-- ---- the daemon

module _ {L : Type 0} (link_told : L → LinkTold) where
  abbrev pub daemon_in : Bool → DaemonState L → FolderTold → State
  daemon_in stops d folder = record {
    core = d.core;
    events = Some d.journal.events;
    folder = folder;
    clients = clients_with (map link_told d.links.links) d.seated.listeners;
    channels = none_opened 0 0;
    programs = [];
    took = took_by d.desk.handles;
    dropped = d.dropped;
    wanted = d.wanted;
    stops = stops;
  }

  abbrev pub scene_state : Scene L → State
  scene_state s = daemon_in false s.daemon s.folder

  abbrev Told : LinkTold → Type 0
  Told link = IsToldBy link_told link

  -- what links tell, told by each of them
  overs : TellOvers Told → TellTheEnd link_told
  overs tells = λ link. tells (link_told link) (link, refl)

  desk_stands : (old new : DaemonState L) → SameDesk old.desk new.desk → took_by new.desk.handles ≡ took_by old.desk.handles
  desk_stands old new is = λ i. record { taken = λ app. same_taken old.desk new.desk is app i; reported = same_reported old.desk new.desk is i }

  -- behind the links of clients no listener heard anything
  abbrev pub IsFresh : DaemonState L → Type 0
  IsFresh d = Beyond fresh_listener (map link_told d.links.links) d.seated.listeners

  -- ---- accepts

  accepts_go : (came : Arrival) (net net_now : NetTold L) (old new : DaemonState L) (folder : FolderTold) → IsFresh old → old.wanted ≡ false → Accepts link_told came net net_now old new
      → Goes Told (daemon_in false old folder) (daemon_in false new folder)
  accepts_go came net net_now old new folder fresh unwanted a = by came a.arrives a.connects a.wanted where
    stands : (d : ℕ) (w : Bool) → new.core ≡ old.core → Some new.journal.events ≡ Some old.journal.events → new.links ≡ old.links → new.dropped ≡ d → new.wanted ≡ w
        → daemon_in false new folder ≡ record (daemon_in false old folder) { dropped = d; wanted = w }
    stands d w core events links dropped wanted =
        ap (λ (x : DaemonState L). daemon_in false x folder) a.rest
        ∙ (λ i. record (daemon_in false old folder) { core = core i; events = events i; clients = clients_with (map link_told (links i).links) old.seated.listeners; dropped = dropped i; wanted = wanted i })

    by : (it : Arrival) → Arrives link_told it net net_now old.links new.links old.dropped new.dropped → ConnectsAs it old.core new.core (Some old.journal.events) (Some new.journal.events)
        → new.wanted ≡ is_want it → Goes Told (daemon_in false old folder) (daemon_in false new folder)
    by (arrival.Client number) arrives connects wanted =
        let link : LinkTold = link_told arrives.0 in
        let links : map link_told new.links.links ≡ map link_told old.links.links ++ link ∷ [] =
        ap (λ (ls : Links L). map link_told ls.links) arrives.2 ∙ map-append link_told old.links.links (arrives.0 ∷ []) in
        let more : clients_with (map link_told new.links.links) old.seated.listeners ≡ clients_with (map link_told old.links.links) old.seated.listeners ++ new_client link ∷ [] =
        ap (λ (ls : List LinkTold). clients_with ls old.seated.listeners) links
        ∙ joined_more client_with fresh_listener (map link_told old.links.links) old.seated.listeners link (λ l there. fresh.none (length (map link_told old.links.links)) l (omega arith) there) in
        goes_one Told (Came number link) (daemon_in false old folder) (daemon_in false new folder) (
          arrives.1.1,
          (arrives.0, refl),
          connects,
          ap (λ (x : DaemonState L). daemon_in false x folder) a.rest
              ∙ (λ i. record (daemon_in false old folder) { core = new.core; events = Some new.journal.events; clients = more i; dropped = arrives.3 i; wanted = (wanted ∙ sym unwanted) i }),
        )
    by arrival.Dropped arrives connects wanted =
        goes_one Told LetGo (daemon_in false old folder) (daemon_in false new folder)
        (inl connects.0, stands _ old.wanted connects.1 connects.2 arrives.2 arrives.3 (wanted ∙ sym unwanted))
    by arrival.Nobody arrives connects wanted = goes_same Told _ _ (stands old.dropped old.wanted connects.0 connects.1 arrives.3 arrives.4 (wanted ∙ sym unwanted))
    by arrival.Failed arrives connects wanted = goes_same Told _ _ (stands old.dropped old.wanted connects.0 connects.1 arrives.2 arrives.3 (wanted ∙ sym unwanted))
    by arrival.OutOfMemory arrives connects wanted =
        goes_one Told Wanted (daemon_in false old folder) (daemon_in false new folder) (stands old.dropped true connects.0 connects.1 arrives.2 arrives.3 wanted)

  accepts_if_go : (came : Arrival) (net net_now : NetTold L) (old new : DaemonState L) (folder : FolderTold) → IsFresh old → AcceptsIfMay link_told came net net_now old new
      → Goes Told (daemon_in false old folder) (daemon_in false new folder)
  accepts_if_go came net net_now old new folder fresh (inl accepts) = accepts_go came net net_now old new folder fresh accepts.1 accepts.2
  accepts_if_go came net net_now old new folder fresh (inr none) = goes_same Told _ _ (ap (λ (x : DaemonState L). daemon_in false x folder) none.2)

  -- ---- clients

  hear_clients : (moved : Bool) (old new : DaemonState L) (folder folder_now : FolderTold) → Hears link_told moved folder folder_now old new → Goes Told (daemon_in false old folder) (daemon_in false new folder_now)
  hear_clients moved old new folder folder_now hears =
      let base : State = daemon_in false old folder in
      goes_both Told base (plain Told base refl (spot_of (clients_of link_told new folder_now))) _ (hears_go Told base refl moved (clients_of link_told old folder) (clients_of link_told new folder_now)
      (λ place link at tells. tell_overs link_told old.links.links (overs tells) place link at) hears.visits)
      (goes_same Told _ _ (ap (λ (x : DaemonState L). daemon_in false x folder_now) hears.rest ∙ (λ i. record (plain Told base refl (spot_of (clients_of link_told new folder_now))) { took = desk_stands old new hears.desk i })))

  pump_clients : (moved : Bool) (old new : DaemonState L) (folder : FolderTold) → Pumps link_told moved old new → Goes Told (daemon_in false old folder) (daemon_in false new folder)
  pump_clients moved old new folder pumps =
      let base : State = daemon_in false old folder in
      let links : List LinkTold = map link_told old.links.links in
      let links_now : List LinkTold = map link_told new.links.links in
      let listeners : List Listener = old.seated.listeners ++ replicate (length links) fresh_listener in
      let enough : length links ≤ length listeners = omega (arith, length-append old.seated.listeners (replicate (length links) fresh_listener), length-replicate (length links) fresh_listener) in
      let desk : ControlTold = desk_told old.desk in
      let was : Clients = record { links = links; listeners = listeners; side = side old.core desk (Some old.journal.events) folder } in
      let now : Clients = record { links = links_now; listeners = listeners; side = side new.core desk (Some new.journal.events) folder } in
      let padded : (ls : List LinkTold) → clients_with ls listeners ≡ clients_with ls old.seated.listeners = (λ ls. joined_padded client_with fresh_listener ls old.seated.listeners (length links)) in
      goes_both Told base (plain Told base refl (spot_of was)) _ (goes_same Told _ _ (λ i. record base { clients = padded links i }))
      (goes_both Told _ (plain Told base refl (spot_of now)) _ (pumps_go Told base refl moved was now (pumps.visits desk folder listeners enough))
      (goes_same Told _ _ (ap (λ (x : DaemonState L). daemon_in false x folder) pumps.rest ∙ (λ i. record base { core = new.core; events = Some new.journal.events; clients = sym (padded links_now) i }))))

  -- links of gone clients were shut: these are the links of clients with these listeners
  parts_go : (base : State) (listeners : List Listener) (links links_now : List LinkTold) → base.clients ≡ clients_with links listeners → ShutsGone base.core.hub links links_now
      → Goes Told base (record base { clients = clients_with links_now listeners })
  parts_go base listeners links links_now were shuts =
      let long : length links_now ≡ length links = shuts.many in
      let seen : (ls : List LinkTold) → map (λ (c : Client). c.link) (clients_with ls listeners) ≡ ls = (λ ls. joined_left client_with fresh_listener (λ (c : Client). c.link) (λ x y. refl) ls listeners) in
      let was : State = record base { clients = clients_with links listeners } in
      goes_both Told base was _ (goes_same Told _ _ (λ i. record base { clients = sym were i }))
      (goes_one Told PartedAll was (record base { clients = clients_with links_now listeners }) (
        subst (λ (ls : List LinkTold). ShutsGone base.core.hub ls (map (λ (c : Client). c.link) (clients_with links_now listeners))) (sym (seen links))
            (subst (λ (ls : List LinkTold). ShutsGone base.core.hub links ls) (sym (seen links_now)) shuts),
        joined_right client_with fresh_listener (λ (c : Client). c.cutter) (λ (l : Listener). l.cutter) (λ x y. refl) links links_now listeners long,
        joined_right client_with fresh_listener (λ (c : Client). c.due) (λ (l : Listener). None) (λ x y. refl) links links_now listeners long,
        refl,
        joined_right client_with fresh_listener (λ (c : Client). c.turn) (λ (l : Listener). no_turn) (λ x y. refl) links links_now listeners long,
      ))

  part_clients : (old new : DaemonState L) (folder : FolderTold) → Parts link_told old new → Goes Told (daemon_in false old folder) (daemon_in false new folder)
  part_clients old new folder parts =
      goes_both Told _ (record (daemon_in false old folder) { clients = clients_with (map link_told new.links.links) old.seated.listeners }) _
      (parts_go (daemon_in false old folder) old.seated.listeners (map link_told old.links.links) (map link_told new.links.links) refl parts.shuts)
      (goes_same Told _ _ (ap (λ (x : DaemonState L). daemon_in false x folder) parts.rest))

  -- ---- takes

  takes_on : (app done : ℕ) (empty : Bool) (gots : List Got) (old new : Scene L) → TakesOn app done empty gots old new → Goes Told (scene_state old) (scene_state new)
  takes_on app done empty [] old new takes = goes_same Told _ _ (ap scene_state takes.1)
  takes_on app done empty (got ∷ gots) old new takes =
      let next : Scene L = takes.1 in
      let one = takes.2 in
      let base : State = scene_state old in
      goes_both Told base (scene_state next) _
      (goes_both Told base (with_taking Told base (taking_of next)) _ (some_goes Told base refl (idle_with (map link_told old.daemon.links.links) old.daemon.seated.listeners) app _ got (taking_of old) (taking_of next) one.takes)
      (goes_same Told _ _ (ap (λ (x : DaemonState L). daemon_in false x next.folder) one.rest)))
      (takes_on app (done + gave got) (found_none (most_of done old.daemon) got) gots next new takes.3)

  losses_go : (app : ℕ) (old new : Scene L) → TakesLossesIfMay app old new → Goes Told (scene_state old) (scene_state new)
  losses_go app old new (inr all) = goes_same Told _ _ (ap scene_state all.1)
  losses_go app old new (inl takes) =
      let one = takes.2 in
      let base : State = scene_state old in
      goes_both Told base (with_taking Told base (taking_of new)) _ (reports_go Told base refl (idle_with (map link_told old.daemon.links.links) old.daemon.seated.listeners) old.daemon.desk.apps app takes.1 (taking_of old) (taking_of new) one.reports)
      (goes_same Told _ _ (ap (λ (x : DaemonState L). daemon_in false x new.folder) one.rest))

  turns_go : (first many : ℕ) (old new : Scene L) → TakesTurns first many old new → Goes Told (scene_state old) (scene_state new)
  turns_go first zero old new takes = goes_same Told _ _ (ap scene_state takes)
  turns_go first (suc many) old new takes =
      let one = takes.1 in
      goes_both Told _ (scene_state takes.0) _
      (goes_both Told _ (scene_state one.between) _ (takes_on first 0 false one.calls.0 old one.between one.calls.1) (losses_go first one.between takes.0 one.losses))
      (turns_go (first + 1) many takes.0 new takes.2)

  -- ---- rounds and greetings

  pub round_goes : (answer : Round) (net net_now : NetTold L) (old new : Scene L) → IsFresh old.daemon → IsRound link_told answer net net_now old new → Goes Told (scene_state old) (scene_state new)
  round_goes answer net net_now old new fresh round =
      let s = round.serves in
      let accepted : State = daemon_in false s.accepted old.folder in
      let sent : State = daemon_in false round.served.daemon s.taken.folder in
      goes_both Told _ accepted _ (accepts_if_go s.came net net_now old.daemon s.accepted old.folder fresh s.accepts)
      (goes_both Told accepted (scene_state s.heard) _ (hear_clients s.hears.0 s.accepted s.heard.daemon old.folder s.heard.folder s.hears.1)
      (goes_both Told _ (scene_state s.taken) _ (turns_go 0 _ s.heard s.taken s.takes)
      (goes_both Told _ sent _ (pump_clients s.pumps.0 s.taken.daemon round.served.daemon s.taken.folder s.pumps.1)
      (goes_both Told _ (daemon_in false new.daemon s.taken.folder) _ (part_clients round.served.daemon new.daemon s.taken.folder round.parts)
      (goes_same Told _ _ (ap (λ (f : FolderTold). daemon_in false new.daemon f) (round.folder ∙ s.folder)))))))

  pub greeting_goes : (moment : Moment) (msgs : List UserMsg) (old new : Scene L) → greeting.Greets moment msgs old new → Goes Told (scene_state old) (scene_state new)
  greeting_goes moment msgs old new greets =
      let base : State = scene_state old in
      goes_both Told base (plain Told base refl (record { side = side_of new; clients = base.clients })) _ (greets_go Told base refl moment msgs (side_of old) (side_of new) base.clients greets.greets)
      (goes_same Told _ _ (ap (λ (x : DaemonState L). daemon_in false x new.folder) greets.rest
      ∙ (λ i. record (plain Told base refl (record { side = side_of new; clients = base.clients })) { took = desk_stands old.daemon new.daemon greets.desk i })))

  -- ---- the stop

  abbrev pub stopping_state : Stopping L → FolderTold → ℕ → Bool → State
  stopping_state s folder dropped wanted = record {
    core = s.core;
    events = Some s.journal.events;
    folder = folder;
    clients = clients_with (map link_told s.links.links) s.seated.listeners;
    channels = none_opened 0 0;
    programs = [];
    took = closing_took s.closing;
    dropped = dropped;
    wanted = wanted;
    stops = true;
  }

  closing_stands : (old new : ClosingState) → settling.SameButSet old new → closing_took new ≡ closing_took old
  closing_stands old new is = λ i. record {
    taken = λ app. (sym (taken_rest new.handles app) ∙ ap (λ (c : ClosingState). (closing_took c).taken app) is ∙ taken_rest old.handles app) i;
    reported = ap (λ (c : ClosingState). c.handles.losses.reported) is i;
  }

  pub stop_drains : (old new : Stopping L) (folder folder_now : FolderTold) (dropped : ℕ) (wanted : Bool) → settling.Drains old new folder folder_now
      → Goes Told (stopping_state old folder dropped wanted) (stopping_state new folder_now dropped wanted)
  stop_drains old new folder folder_now dropped wanted drains =
      let base : State = stopping_state old folder dropped wanted in
      let drained : State = with_taking Told base (settling_state.taking_of new folder_now) in
      goes_both Told base drained _ (drains_go Told base refl (idle_with (map link_told old.links.links) old.seated.listeners) old.closing.apps (length old.closing.apps) (settling_state.taking_of old folder) (settling_state.taking_of new folder_now) drains.drains)
      (goes_same Told _ _ (λ i. record drained { clients = clients_with (map link_told (drains.links i).links) (drains.seated i).listeners }))

  pub stop_closes : (old new : Stopping L) (folder folder_now : FolderTold) (dropped : ℕ) (wanted : Bool) → settling.Closes link_told old new folder folder_now
      → Goes Told (stopping_state old folder dropped wanted) (stopping_state new folder_now dropped wanted)
  stop_closes old new folder folder_now dropped wanted closes =
      let base : State = stopping_state old folder dropped wanted in
      let closed : State = plain Told base refl (spot_of (settling_state.clients_of link_told new folder_now)) in
      goes_both Told base closed _ (closes_go Told base refl refl (TellTheEnd link_told) overs (settling_state.clients_of link_told old folder) (settling_state.clients_of link_told new folder_now) closes.closes)
      (goes_same Told _ _ (λ i. record closed { took = closing_stands old.closing new.closing closes.same i }))
