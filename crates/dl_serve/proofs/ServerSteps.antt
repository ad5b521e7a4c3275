-- Accepts, rounds and the closing of a server, as steps.
use Rattle.std.proofs.Common.{◌≡◌, ◌≤◌, ◌+◌, ℕ, Bool, true, false, inl, inr, List, [], ◌∷◌, ◌++◌, length, map, replicate, Some, None, refl, sym, ap, subst, ◌∙◌, arith, append-nil, length-append}
use Rattle.std.specs.Prelude.{◌||◌, IsSome, slice_get}
use Rattle.std.proofs.lemmas.List.{length-replicate, map-append}
use Rattle.dl_bytes.specs.declared.moment.Moment.{Moment}
use Rattle.dl_cells.specs.declared.level_history.Change.{Change}
use Rattle.dl_core.specs.State.{Core}
use Rattle.dl_desk.specs.Told.{ControlTold}
use Rattle.dl_loop.proofs.ShownDaemons.{tell_overs}
use Rattle.dl_model.specs.Registry.{Registry}
use Rattle.dl_outside.specs.Links.{Links}
use Rattle.dl_outside.specs.Told.{FolderTold, LinkTold, NetTold}
use Rattle.dl_rounds.specs.Arrivals.{Arrives, ConnectsAs}
use Rattle.dl_rounds.specs.Clients.{Clients}
use Rattle.dl_rounds.specs.Partings.{ShutsGone}
use Rattle.dl_rounds.specs.Ready.{fresh_listener}
use Rattle.dl_rounds.specs.Visits.{ClosesAll, HearsAll}
use Rattle.dl_rounds.specs.Visits as visits
use Rattle.dl_rounds.specs.declared.accepting.Arrival.TheVariants as arrival
use Rattle.dl_rounds.specs.declared.accepting.Arrival.{Arrival}
use Rattle.dl_rounds.specs.declared.listener.Listener.{Listener}
use Rattle.dl_server.specs.Accepts.{AcceptsClient, AcceptsClientIfMay, AcceptsProgram, AcceptsProgramIfMay, has_wanted, has_wanted_to_enter}
use Rattle.dl_server.specs.Closing.{ClosesClients, ClosesPrograms, IsClosed, closing_scene}
use Rattle.dl_server.specs.Round.{IsRound}
use Rattle.dl_server.specs.State as server
use Rattle.dl_server.specs.State.{clients_of, scene_of, with_want}
use Rattle.dl_server.specs.Steps.{HearsClientsIfMay, HearsPrograms, PartsClients, PumpsClientsIfMay, PumpsPrograms}
use Rattle.dl_channels.specs.Accepting.{Enters, entry_of}
use Rattle.dl_channels.specs.declared.accepting.Entry.{Entry}
use Rattle.dl_channels.specs.declared.accepting.Entry.TheVariants as entry
use Rattle.dl_socket.specs.Channels.{open_in, Refuses}
use Rattle.dl_socket.specs.Listening.{HaveServed}
use Rattle.dl_socket.specs.declared.fault.ChannelFault.{ChannelFault}
use Rattle.dl_socket.specs.declared.fault.ChannelFault.TheVariants as fault
use Rattle.dl_taking.specs.Took.{Took}
use Rattle.dl_turns.specs.Gone.{TellTheEnd}
use Rattle.dl_turns.specs.State.{side}
use Rattle.dl_machine.specs.State.{Client, State, new_client, new_program, no_turn}
use Rattle.dl_machine.specs.Steps.{BeginsOrStays, Came, Entered, Goes, IsToldBy, LetGo, MayLetGo, PartedAll, Renewed, Stopping, Wanted}
use Rattle.dl_machine.proofs.ClientSteps as clients
use Rattle.dl_machine.proofs.ClientSteps.{TellOvers, boxes, boxes_now, client_with, clients_with, closed_leads, heard_leads, idle_with, lift, pumped_leads, spot_of, visits_beyond, visits_lead, visits_long}
use Rattle.dl_machine.proofs.Composed.{Leads, goes_both, goes_one, goes_same, leads_both, leads_same}
use Rattle.dl_machine.proofs.Joined.{Beyond, beyond_more, joined_left, joined_more, joined_padded, joined_right}
use Rattle.dl_machine.proofs.LowNumbers.{HasLow, low_after, low_keys}
use Rattle.dl_machine.proofs.NamedSlots.{names_none}
use Rattle.dl_machine.proofs.ProgramSteps as programs
use Rattle.dl_machine.proofs.ProgramSteps.{program_with, programs_with, with_scene}

-- what a pump does not see
abbrev untold : ControlTold
untold = record { apps = 0; first = 0; sets = []; pushed = λ app. []; refusals = λ app. 0 }

-- nothing was taken of rings and loss words
abbrev nothing_taken : Took
nothing_taken = record { taken = λ app. []; reported = [] }

-- a server, as the state of a daemon that has no applications of its own
abbrev pub state_in : Bool → server.State → State
state_in stops s = record {
  core = s.core;
  events = s.events;
  folder = s.folder;
  clients = clients_with s.clients s.listeners;
  channels = s.channels;
  programs = programs_with s.programs s.ends;
  took = nothing_taken;
  dropped = s.dropped;
  wanted = s.wanted;
  stops = stops;
}

-- while it runs
abbrev pub state_of : server.State → State
state_of s = state_in false s

-- Behind the links of programs none has ended, and behind those of clients no listener heard anything; and channels are numbered from 1.
pub record IsReady (s : server.State) : Type 0 where
  pub ends : Beyond None s.programs s.ends
  pub listeners : Beyond fresh_listener s.clients s.listeners
  pub low : HasLow (state_of s)

or_false : (b : Bool) → (b || false) ≡ b
or_false true = refl
or_false false = refl

or_true : (b : Bool) → (b || true) ≡ true
or_true true = refl
or_true false = refl

module _ {L : Type 0} (told : L → LinkTold) where
  abbrev pub Goes_on : State → State → Type 0
  Goes_on old new = Goes (IsToldBy told) old new

  pub both : (old between new : State) → Goes_on old between → Goes_on between new → Goes_on old new
  both = goes_both (IsToldBy told)

  same : (old new : State) → new ≡ old → Goes_on old new
  same = goes_same (IsToldBy told)

  -- where one server is ready, the other comes of it by steps, and is
  abbrev pub Leading : server.State → server.State → Type 0
  Leading old new = Leads (IsToldBy told) state_of IsReady old new

  pub lead_same : (old new : server.State) → new ≡ old → Leading old new
  lead_same = leads_same (IsToldBy told) state_of IsReady

  pub lead_both : (old between new : server.State) → Leading old between → Leading between new → Leading old new
  lead_both = leads_both (IsToldBy told) state_of IsReady

  -- a trace was begun anew, or the folder was asked for it, and nets are asked again
  pub renew_leads : (old : server.State) (core : Core) (folder : FolderTold) (no_clients no_programs : Bool)
      → (let now : server.State = record old { core = core; folder = folder; no_clients = no_clients; no_programs = no_programs } in BeginsOrStays (state_of old) (state_of now) → Leading old now)
  renew_leads old core folder no_clients no_programs begins = λ ready. (
    goes_one (IsToldBy told) Renewed (state_of old) (state_of (record old { core = core; folder = folder })) (begins, refl),
    record { ends = ready.ends; listeners = ready.listeners; low = ready.low },
  )

  long_as : (xs ys : List LinkTold) → ys ≡ xs → length xs ≤ length ys
  long_as xs ys is = omega (arith, ap (λ (ls : List LinkTold). length ls) is)

  -- programs and ends stand, and no client has gone
  aside : (old new : server.State) → new.programs ≡ old.programs → new.ends ≡ old.ends → length old.clients ≤ length new.clients → new.listeners ≡ old.listeners
      → Goes_on (state_of old) (state_of new) → Leading old new
  aside old new programs ends clients listeners goes = λ ready. (
    goes,
    record {
      low = low_after (IsToldBy told) (state_of old) (state_of new) goes ready.low;
      ends = beyond_more None old.programs new.programs old.ends new.ends (long_as old.programs new.programs programs) ends ready.ends;
      listeners = beyond_more fresh_listener old.clients new.clients old.listeners new.listeners clients listeners ready.listeners;
    },
  )

  want_leads : (old new : server.State) → new ≡ with_want old → Leading old new
  want_leads old new want =
      aside old new (ap (λ (s : server.State). s.programs) want) (ap (λ (s : server.State). s.ends) want) (long_as old.clients new.clients (ap (λ (s : server.State). s.clients) want))
      (ap (λ (s : server.State). s.listeners) want) (goes_one (IsToldBy told) Wanted (state_of old) (state_of new) (ap state_of want))

  -- the links are these and one more
  more_links : (links links_now : Links L) (link : L) (old new : List LinkTold) → old ≡ map told links.links → new ≡ map told links_now.links
      → links_now ≡ record { links = links.links ++ link ∷ []; room = links.room } → new ≡ old ++ told link ∷ []
  more_links links links_now link old new were are more =
      are ∙ ap (λ (ls : Links L). map told ls.links) more ∙ map-append told links.links (link ∷ []) ∙ ap (λ (ls : List LinkTold). ls ++ told link ∷ []) (sym were)

  same_links : (links links_now : Links L) (old new : List LinkTold) → old ≡ map told links.links → new ≡ map told links_now.links → links_now ≡ links → new ≡ old
  same_links links links_now old new were are stands = are ∙ ap (λ (ls : Links L). map told ls.links) stands ∙ sym were

  -- ---- accepts

  module _ (net net_now : NetTold L) (old new : server.State) where
    client_leads : (came : Arrival) → AcceptsClient told came net net_now old new → Leading old new
    client_leads came a = λ ready. by ready came a.arrives a.connects a.wanted where
      beside : length old.clients ≤ length new.clients → Goes_on (state_of old) (state_of new) → Leading old new
      beside long goes =
          aside old new (ap (λ (s : server.State). s.programs) a.rest) (ap (λ (s : server.State). s.ends) a.rest) long (ap (λ (s : server.State). s.listeners) a.rest) goes

      still : IsReady old → a.links_now ≡ a.links → Goes_on (state_of old) (state_of new) → Goes_on (state_of old) (state_of new) × IsReady new
      still ready links goes = beside (long_as old.clients new.clients (same_links a.links a.links_now old.clients new.clients a.were a.are links)) goes ready

      stands : (d : ℕ) (w : Bool) → new.core ≡ old.core → new.events ≡ old.events → a.links_now ≡ a.links → new.dropped ≡ d → new.wanted ≡ w → state_of new ≡ record (state_of old) { dropped = d; wanted = w }
      stands d w core events links dropped wanted =
          let clients : new.clients ≡ old.clients = same_links a.links a.links_now old.clients new.clients a.were a.are links in
          ap state_of a.rest
          ∙ (λ i. record (state_of old) { core = core i; events = events i; clients = clients_with (clients i) old.listeners; dropped = dropped i; wanted = wanted i })

      by : IsReady old → (it : Arrival) → Arrives told it net net_now a.links a.links_now old.dropped new.dropped → ConnectsAs it old.core new.core old.events new.events
          → new.wanted ≡ (old.wanted || has_wanted it) → Goes_on (state_of old) (state_of new) × IsReady new
      by ready (arrival.Client number) arrives connects wanted =
          let link : LinkTold = told arrives.0 in
          let clients : new.clients ≡ old.clients ++ link ∷ [] = more_links a.links a.links_now arrives.0 old.clients new.clients a.were a.are arrives.2 in
          let long : length new.clients ≡ length old.clients + 1 = ap (λ (ls : List LinkTold). length ls) clients ∙ length-append old.clients (link ∷ []) in
          let more : clients_with new.clients old.listeners ≡ clients_with old.clients old.listeners ++ new_client link ∷ [] =
          ap (λ (ls : List LinkTold). clients_with ls old.listeners) clients ∙ joined_more client_with fresh_listener old.clients old.listeners link (λ l there. ready.listeners.none (length old.clients) l (omega arith) there) in
          beside (omega (arith, long)) (goes_one (IsToldBy told) (Came number link) (state_of old) (state_of new) (
            arrives.1.1,
            (arrives.0, refl),
            connects,
            ap state_of a.rest ∙ (λ i. record (state_of old) { core = new.core; events = new.events; clients = more i; dropped = arrives.3 i; wanted = (wanted ∙ or_false old.wanted) i }),
          )) ready
      by ready arrival.Dropped arrives connects wanted =
          still ready arrives.2 (goes_one (IsToldBy told) LetGo (state_of old) (state_of new)
          (inl connects.0, stands _ old.wanted connects.1 connects.2 arrives.2 arrives.3 (wanted ∙ or_false old.wanted)))
      by ready arrival.Nobody arrives connects wanted =
          still ready arrives.3 (same _ _ (stands old.dropped old.wanted connects.0 connects.1 arrives.3 arrives.4 (wanted ∙ or_false old.wanted)))
      by ready arrival.Failed arrives connects wanted =
          still ready arrives.2 (same _ _ (stands old.dropped old.wanted connects.0 connects.1 arrives.2 arrives.3 (wanted ∙ or_false old.wanted)))
      by ready arrival.OutOfMemory arrives connects wanted =
          still ready arrives.2 (goes_one (IsToldBy told) Wanted (state_of old) (state_of new)
          (stands old.dropped true connects.0 connects.1 arrives.2 arrives.3 (wanted ∙ or_true old.wanted)))

    accept_leads : (moved : Bool) → AcceptsClientIfMay told moved net net_now old new → Leading old new
    accept_leads moved (inl none) = lead_same old new none.3
    accept_leads moved (inr (inl want)) = want_leads old new want.3
    accept_leads moved (inr (inr accepts)) = client_leads accepts.1.0 accepts.1.2

    program_leads : (came : Entry) → AcceptsProgram told came net net_now old new → Leading old new
    program_leads came a = λ ready. by ready came a.enters a.wanted where
      beside : IsReady old → length old.programs ≤ length new.programs → Goes_on (state_of old) (state_of new) → Goes_on (state_of old) (state_of new) × IsReady new
      beside ready long goes = (
        goes,
        record {
          low = low_after (IsToldBy told) (state_of old) (state_of new) goes ready.low;
          ends = beyond_more None old.programs new.programs old.ends new.ends long (ap (λ (s : server.State). s.ends) a.rest) ready.ends;
          listeners = beyond_more fresh_listener old.clients new.clients old.listeners new.listeners (long_as old.clients new.clients (ap (λ (s : server.State). s.clients) a.rest))
              (ap (λ (s : server.State). s.listeners) a.rest) ready.listeners;
        },
      )

      stands : (d : ℕ) (w : Bool) → new.channels ≡ old.channels → a.links_now ≡ a.links → new.dropped ≡ d → new.wanted ≡ w → state_of new ≡ record (state_of old) { dropped = d; wanted = w }
      stands d w channels links dropped wanted =
          let programs : new.programs ≡ old.programs = same_links a.links a.links_now old.programs new.programs a.were a.are links in
          ap state_of a.rest ∙ (λ i. record (state_of old) { channels = channels i; programs = programs_with (programs i) old.ends; dropped = dropped i; wanted = wanted i })

      still : IsReady old → a.links_now ≡ a.links → Goes_on (state_of old) (state_of new) → Goes_on (state_of old) (state_of new) × IsReady new
      still ready links goes = beside ready (long_as old.programs new.programs (same_links a.links a.links_now old.programs new.programs a.were a.are links)) goes

      refused : (why : ChannelFault) → entry.Dropped ≡ entry_of why → Refuses why old.channels → MayLetGo (state_of old)
      refused fault.Spent is refuses = inr (inl refuses)
      refused fault.Full is refuses = inr (inr (inl refuses))
      refused fault.OutOfMemory is refuses = absurd (cc is)

      by : IsReady old → (it : Entry) → Enters told it net net_now a.links a.links_now old.dropped new.dropped old.channels new.channels → new.wanted ≡ (old.wanted || has_wanted_to_enter it)
          → Goes_on (state_of old) (state_of new) × IsReady new
      by ready (entry.Channel number) e wanted =
          let link : LinkTold = told e.0 in
          let programs : new.programs ≡ old.programs ++ link ∷ [] = more_links a.links a.links_now e.0 old.programs new.programs a.were a.are e.2 in
          let long : length new.programs ≡ length old.programs + 1 = ap (λ (ls : List LinkTold). length ls) programs ∙ length-append old.programs (link ∷ []) in
          let more : programs_with new.programs old.ends ≡ programs_with old.programs old.ends ++ new_program link ∷ [] =
          ap (λ (ls : List LinkTold). programs_with ls old.ends) programs
          ∙ joined_more program_with None old.programs old.ends link (λ end there. ready.ends.none (length old.programs) end (omega arith) there) in
          beside ready (omega (arith, long)) (goes_one (IsToldBy told) (Entered number link) (state_of old) (state_of new) (
            e.1.1,
            (e.0, refl),
            e.4,
            ap state_of a.rest ∙ (λ i. record (state_of old) { channels = new.channels; programs = more i; dropped = e.3 i; wanted = (wanted ∙ or_false old.wanted) i }),
          ))
      by ready entry.Dropped e wanted =
          still ready e.2 (goes_one (IsToldBy told) LetGo (state_of old) (state_of new) (refused e.5 e.6 e.7, stands _ old.wanted e.4 e.2 e.3 (wanted ∙ or_false old.wanted)))
      by ready entry.Unopened e wanted =
          let wants : State = record (state_of old) { wanted = true } in
          still ready e.2 (both _ wants _ (goes_one (IsToldBy told) Wanted (state_of old) wants refl)
          (goes_one (IsToldBy told) LetGo wants (state_of new) (inr (inr (inr refl)), stands _ true e.4 e.2 e.3 (wanted ∙ or_true old.wanted))))
      by ready entry.Nobody e wanted = still ready e.3 (same _ _ (stands old.dropped old.wanted e.5 e.3 e.4 (wanted ∙ or_false old.wanted)))
      by ready entry.Failed e wanted = still ready e.2 (same _ _ (stands old.dropped old.wanted e.4 e.2 e.3 (wanted ∙ or_false old.wanted)))
      by ready entry.OutOfMemory e wanted =
          still ready e.2 (goes_one (IsToldBy told) Wanted (state_of old) (state_of new) (stands old.dropped true e.4 e.2 e.3 (wanted ∙ or_true old.wanted)))

    enter_leads : (moved : Bool) → AcceptsProgramIfMay told moved net net_now old new → Leading old new
    enter_leads moved (inl none) = lead_same old new none.3
    enter_leads moved (inr accepts) = program_leads accepts.1 accepts.3

  -- ---- clients

  served_go : (stops : Bool) (Any : Clients → Clients → Type 0) (Links : List LinkTold → Type 0)
      → ((base : State) (registry : Registry) (sets : List Change) → base.stops ≡ stops → (was now : Clients) → Links was.links → Any was now
      → clients.Leading (IsToldBy told) base registry sets (spot_of was) (spot_of now))
      → (old new : server.State) → Links old.clients → HaveServed Any old.core.registry (clients_of old) (clients_of new) old.channels new.channels
      → state_in stops new ≡ record (state_in stops old) { core = new.core; events = new.events; folder = new.folder; clients = clients_with new.clients new.listeners; channels = new.channels }
      → Goes_on (state_in stops old) (state_in stops new)
  served_go stops Any Links leads old new fit serves rest =
      let base : State = state_in stops old in
      let registry : Registry = old.core.registry.registry in
      let sets : List Change = serves.desk.sets in
      let put = boxes_now (IsToldBy told) base registry sets in
      let lifted : Clients → State = λ c. lift (IsToldBy told) base registry sets (spot_of c) in
      let lead = leads base registry sets refl (clients_of old serves.desk) (clients_of new serves.desk_now) fit serves.visits (record { more = []; sets_so = sym (append-nil sets); names = names_none registry }) in
      let first : boxes (IsToldBy told) base registry sets serves.desk ≡ old.channels.outboxes = put serves.desk [] (sym (append-nil sets)) in
      let last : new.channels.outboxes ≡ boxes (IsToldBy told) base registry sets serves.desk_now = serves.told_so ∙ sym (put serves.desk_now serves.changes serves.sets) in
      both _ (lifted (clients_of old serves.desk)) _ (same _ _ (λ i. record base { channels = record old.channels { outboxes = first i } }))
      (both _ (lifted (clients_of new serves.desk_now)) _ lead.0
      (same _ _ (rest ∙ (λ i. record base {
        core = new.core;
        events = new.events;
        folder = new.folder;
        clients = clients_with new.clients new.listeners;
        channels = (serves.is ∙ (λ j. record old.channels { outboxes = last j })) i;
      }))))

  -- all links tell whether they are over, where links of this kind do
  abbrev pub TellsOvers : List LinkTold → Type 0
  TellsOvers links = (place : ℕ) (link : LinkTold) → slice_get links place ≡ Some link → TellOvers (IsToldBy told) → IsSome link.over

  all_tell : TellOvers (IsToldBy told) → TellTheEnd told
  all_tell tells = λ link. tells (told link) (link, refl)

  pub map_tells : (links : List L) → TellsOvers (map told links)
  map_tells links = λ place link at tells. tell_overs told links (all_tell tells) place link at

  hear_clients : (moved : Bool) (old new : server.State) → TellsOvers old.clients → HearsClientsIfMay moved old new → Leading old new
  hear_clients moved old new tells (inl nobody) = lead_same old new nobody.2
  hear_clients moved old new tells (inr (inl want)) = want_leads old new want.1
  hear_clients moved old new tells (inr (inr hears)) = λ ready.
      let visited = hears.serves.visits in
      let goes : Goes_on (state_of old) (state_of new) =
      served_go false (HearsAll moved) TellsOvers (λ base registry sets is was now tells heard. visits_lead (IsToldBy told) base registry sets (λ link. TellOvers (IsToldBy told) → IsSome link.over) visits.Heard
      (λ number low all first there here c d tell some visit. heard_leads (IsToldBy told) base registry sets number low all first there here c d tell some visit) 0 heard.0 moved was now
      (λ place link above at. tells place link at) heard.1) old new tells hears.serves
      (ap state_of hears.rest) in (
        goes,
        record {
          low = low_after (IsToldBy told) (state_of old) (state_of new) goes ready.low;
          ends = beyond_more None old.programs new.programs old.ends new.ends (long_as old.programs new.programs (ap (λ (s : server.State). s.programs) hears.rest))
              (ap (λ (s : server.State). s.ends) hears.rest) ready.ends;
          listeners = visits_beyond visits.Heard 0 visited.0 moved (clients_of old hears.serves.desk) (clients_of new hears.serves.desk_now) visited.1 ready.listeners;
        },
      )

  pump_clients : (moved : Bool) (old new : server.State) → PumpsClientsIfMay moved old new → Leading old new
  pump_clients moved old new (inl want) = want_leads old new want.1
  pump_clients moved old new (inr pumps) =
      let base : State = state_of old in
      let registry : Registry = old.core.registry.registry in
      let listeners : List Listener = old.listeners ++ replicate (length old.clients) fresh_listener in
      let enough : length old.clients ≤ length listeners = omega (arith, length-append old.listeners (replicate (length old.clients) fresh_listener), length-replicate (length old.clients) fresh_listener) in
      let was : Clients = record { links = old.clients; listeners = listeners; side = side old.core untold old.events old.folder } in
      let now : Clients = record { links = new.clients; listeners = listeners; side = side new.core untold new.events old.folder } in
      let pumped = pumps.pumps untold old.folder listeners enough in
      let lead = visits_lead (IsToldBy told) base registry [] (λ link. Unit {0}) visits.Pumped
      (λ number low all first there here c d fits some visit. pumped_leads (IsToldBy told) base registry [] number low all first there here c d visit) 0 pumped.0 moved was now (λ place link above at. tt) pumped.1
      (record { more = []; sets_so = refl; names = names_none registry }) in
      let padded : (links : List LinkTold) → clients_with links listeners ≡ clients_with links old.listeners = (λ links. joined_padded client_with fresh_listener links old.listeners (length old.clients)) in
      let long : length new.clients ≡ length old.clients = visits_long visits.Pumped 0 pumped.0 moved was now pumped.1 in
      aside old new (ap (λ (s : server.State). s.programs) pumps.rest) (ap (λ (s : server.State). s.ends) pumps.rest) (omega (arith, long)) (ap (λ (s : server.State). s.listeners) pumps.rest)
      (both _ (lift (IsToldBy told) base registry [] (spot_of was)) _ (same _ _ (λ i. record base { clients = padded old.clients i }))
      (both _ (lift (IsToldBy told) base registry [] (spot_of now)) _ lead.0
      (same _ _ (ap state_of pumps.rest ∙ (λ i. record base { core = new.core; events = new.events; clients = sym (padded new.clients) i })))))

  part_clients : (old new : server.State) → PartsClients old new → Leading old new
  part_clients old new parts =
      let long : length new.clients ≡ length old.clients = parts.shuts.many in
      let links : (ls : List LinkTold) → map (λ (c : Client). c.link) (clients_with ls old.listeners) ≡ ls = (λ ls. joined_left client_with fresh_listener (λ (c : Client). c.link) (λ x y. refl) ls old.listeners) in
      let now : State = record (state_of old) { clients = clients_with new.clients old.listeners } in
      let shuts : ShutsGone old.core.hub (map (λ (c : Client). c.link) (clients_with old.clients old.listeners)) (map (λ (c : Client). c.link) (clients_with new.clients old.listeners)) =
      subst (λ (ls : List LinkTold). ShutsGone old.core.hub ls (map (λ (c : Client). c.link) (clients_with new.clients old.listeners))) (sym (links old.clients))
      (subst (λ (ls : List LinkTold). ShutsGone old.core.hub old.clients ls) (sym (links new.clients)) parts.shuts) in
      aside old new (ap (λ (s : server.State). s.programs) parts.rest) (ap (λ (s : server.State). s.ends) parts.rest) (omega (arith, long)) (ap (λ (s : server.State). s.listeners) parts.rest)
      (both _ now _
      (goes_one (IsToldBy told) PartedAll (state_of old) now (
        shuts,
        joined_right client_with fresh_listener (λ (c : Client). c.cutter) (λ (l : Listener). l.cutter) (λ x y. refl) old.clients new.clients old.listeners long,
        joined_right client_with fresh_listener (λ (c : Client). c.due) (λ (l : Listener). None) (λ x y. refl) old.clients new.clients old.listeners long,
        refl,
        joined_right client_with fresh_listener (λ (c : Client). c.turn) (λ (l : Listener). no_turn) (λ x y. refl) old.clients new.clients old.listeners long,
      ))
      (same _ _ (ap state_of parts.rest)))

  close_clients : (old new : server.State) → ClosesClients (TellTheEnd told) old new → Goes_on (state_in true old) (state_in true new)
  close_clients old new closes =
      served_go true (ClosesAll (TellTheEnd told)) (λ links. Unit {0}) (λ base registry sets stops was now fit closed. visits_lead (IsToldBy told) base registry sets (λ link. Unit {0}) (visits.Closed (TellTheEnd told))
      (λ number low all first there here c d fits some visit. closed_leads (IsToldBy told) base registry sets number low all first there stops (TellTheEnd told) all_tell here c d some visit) 0 closed.1.0 closed.0 was now
      (λ place link above at. tt) closed.1.1) old new tt closes.serves
      (ap (state_in true) closes.rest)

  -- ---- programs

  -- clients and listeners stand
  beside_clients : (old new : server.State) → new.clients ≡ old.clients → new.listeners ≡ old.listeners → Goes_on (state_of old) (state_of new) → Beyond None new.programs new.ends → IsReady old
      → Goes_on (state_of old) (state_of new) × IsReady new
  beside_clients old new clients listeners goes ends ready = (
    goes,
    record {
      low = low_after (IsToldBy told) (state_of old) (state_of new) goes ready.low;
      ends = ends;
      listeners = beyond_more fresh_listener old.clients new.clients old.listeners new.listeners (long_as old.clients new.clients clients) listeners ready.listeners;
    },
  )

  hear_programs : (moment : Moment) (moved : Bool) (old new : server.State) → HearsPrograms moment moved old new → Leading old new
  hear_programs moment moved old new hears = λ ready.
      let lead = programs.heard_leads (IsToldBy told) (state_of old) (idle_with old.clients old.listeners) moment refl (open_in old.channels) (low_keys old.channels.inboxes ready.low) moved (scene_of old) (scene_of new) hears.hears ready.ends in
      beside_clients old new (ap (λ (s : server.State). s.clients) hears.rest) (ap (λ (s : server.State). s.listeners) hears.rest)
      (both _ (with_scene (state_of old) new.ends (scene_of new)) _ lead.0 (same _ _ (ap state_of hears.rest))) lead.1 ready

  pump_programs : (moment : Moment) (old new : server.State) → PumpsPrograms moment old new → Leading old new
  pump_programs moment old new pumps = λ ready.
      let lead = programs.sent_leads (IsToldBy told) (state_of old) (idle_with old.clients old.listeners) moment (open_in old.channels) (low_keys old.channels.inboxes ready.low) false (scene_of old) (scene_of new) pumps.pumps ready.ends in
      beside_clients old new (ap (λ (s : server.State). s.clients) pumps.rest) (ap (λ (s : server.State). s.listeners) pumps.rest)
      (both _ (with_scene (state_of old) new.ends (scene_of new)) _ lead.0 (same _ _ (ap state_of pumps.rest))) lead.1 ready

  pub close_programs : (moment : Moment) (old new : server.State) → HasLow (state_of old) → ClosesPrograms moment old new → Goes_on (state_in true old) (state_in true new)
  close_programs moment old new low closes =
      both _ (with_scene (state_in true old) old.ends (closing_scene new)) _
      (programs.stopped_go (IsToldBy told) (state_in true old) (idle_with old.clients old.listeners) moment refl old.ends (open_in old.channels) (low_keys old.channels.inboxes low) false (closing_scene old) (closing_scene new) closes.stops.0) (same _ _ (ap (state_in true) closes.rest))

  -- ---- rounds and the closing

  accepted_tell : (moved : Bool) (net net_now : NetTold L) (old new : server.State) → AcceptsClientIfMay told moved net net_now old new → TellsOvers old.clients → TellsOvers new.clients
  accepted_tell moved net net_now old new (inl none) tells = subst TellsOvers (sym (ap (λ (s : server.State). s.clients) none.3)) tells
  accepted_tell moved net net_now old new (inr (inl want)) tells = subst TellsOvers (sym (ap (λ (s : server.State). s.clients) want.3)) tells
  accepted_tell moved net net_now old new (inr (inr accepts)) tells = let a = accepts.1.2 in subst TellsOvers (sym a.are) (map_tells a.links_now.links)

  entered_clients : (moved : Bool) (net net_now : NetTold L) (old new : server.State) → AcceptsProgramIfMay told moved net net_now old new → new.clients ≡ old.clients
  entered_clients moved net net_now old new (inl none) = ap (λ (s : server.State). s.clients) none.3
  entered_clients moved net net_now old new (inr accepts) = ap (λ (s : server.State). s.clients) accepts.3.rest

  -- links of clients are told at its begin
  module _ (net net_now users users_now : NetTold L) (old new : server.State) (round : IsRound told net net_now users users_now old new) (tells : TellsOvers old.clients) where
    -- once a client was accepted
    pub came_leads : Leading old round.accepts.accepted
    came_leads = accept_leads net net_now old round.accepts.accepted round.accepts.came round.accepts.accepts

    -- before channels are listened to
    pub served_leads : Leading old round.hears.served
    served_leads =
        lead_both old round.accepts.accepted round.hears.served came_leads
        (lead_both round.accepts.accepted round.accepted round.hears.served (enter_leads users users_now round.accepts.accepted round.accepted round.accepts.entered round.accepts.enters)
        (hear_clients round.hears.asked round.accepted round.hears.served
        (subst TellsOvers (sym (entered_clients round.accepts.entered users users_now round.accepts.accepted round.accepted round.accepts.enters))
        (accepted_tell round.accepts.came net net_now old round.accepts.accepted round.accepts.accepts tells)) round.hears.clients))

    -- before channels are pumped
    pub sent_leads : Leading old round.pumps.sent
    sent_leads =
        lead_both old round.hears.served round.pumps.sent served_leads
        (lead_both round.hears.served round.heard round.pumps.sent (hear_programs round.hears.moment round.hears.moved round.hears.served round.heard round.hears.programs)
        (pump_clients round.pumps.moved round.heard round.pumps.sent round.pumps.clients))

    -- behind it
    pub round_leads : Leading old new
    round_leads =
        lead_both old round.pumps.sent new sent_leads
        (lead_both round.pumps.sent round.pumps.pumped new (pump_programs round.pumps.moment round.pumps.sent round.pumps.pumped round.pumps.programs)
        (part_clients round.pumps.pumped new round.pumps.parts))

  pub closing_goes : (moment : Moment) (old new : server.State) → HasLow (state_of old) → IsClosed (TellTheEnd told) moment old new → Goes (IsToldBy told) (state_of old) (state_in true new)
  closing_goes moment old new low closes =
      both _ (state_in true old) _ (goes_one (IsToldBy told) Stopping (state_of old) (state_in true old) refl)
      (both _ (state_in true closes.between) _ (close_programs moment old closes.between low closes.programs) (close_clients closes.between new closes.clients))
