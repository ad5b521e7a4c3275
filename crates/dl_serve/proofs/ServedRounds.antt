-- What one round of a server is to those who are there.
use Rattle.std.proofs.Common.{◌≡◌, ◌≢◌, ◌⊎◌, ◌<◌, ◌≤◌, ◌+◌, ◌-◌, ℕ, zero, suc, Bool, true, false, inl, inr, List, [], ◌∷◌, ◌++◌, length, replicate, Option, Some, None, is_some, refl, sym, ap, subst, ◌∙◌, arith, slice_get, append-nil, append_assoc}
use Rattle.std.specs.Prelude.{◌&&◌, IfSome, IsSome, IsSomeAnd}
use Rattle.std.specs.List.{concat}
use Rattle.std.specs.Option.{option_and_then}
use Rattle.std.proofs.lemmas.Bool.Decides.{eqb_tells}
use Rattle.std.proofs.lemmas.List.{append_cancel_left, length-replicate}
use Rattle.dl_channel.specs.declared.outcome.ChannelEnd.{ChannelEnd}
use Rattle.dl_channel_turns.specs.State as channels
use Rattle.dl_core.proofs.Connecting.{came_by_journal}
use Rattle.dl_core.proofs.OpenClients.{its_stream, open_by_core, open_by_journal}
use Rattle.dl_core.specs.Follows.{IsAfter, Run, source_of}
use Rattle.dl_core.specs.State.{Core}
use Rattle.dl_events.specs.declared.event.Event.{Event}
use Rattle.dl_hub.specs.State.{Client as HubClient, Comes, Hub, Waiting, client_of, outbox_of}
use Rattle.dl_model.proofs.ClientStreams.{traffic_admits}
use Rattle.dl_loop.proofs.TakenEvents.{open_before}
use Rattle.dl_loop.proofs.Visited.{PumpsAreEvents}
use Rattle.dl_loop.specs.Daemon.{TellTaken}
use Rattle.dl_machine.proofs.Joined.{joined, joined_first, joined_get, joined_length}
use Rattle.dl_machine.proofs.ProgramSteps.{programs_with}
use Rattle.dl_machine.proofs.SaidEvents.{told_of}
use Rattle.dl_serve.proofs.ServerSteps.{IsReady, TellsOvers, round_leads, state_of}
use Rattle.dl_machine.specs.Steps.{Goes, IsToldBy}
use Rattle.dl_model.specs.ClientStream.{sent, stream, traffic}
use Rattle.dl_model.specs.Frames.{admitted}
use Rattle.dl_model.specs.Journal.{IsOpen}
use Rattle.dl_model.specs.Setting.{Setting}
use Rattle.dl_model.specs.TraceFiles.{StoredFile}
use Rattle.dl_model.specs.Traffic.{Traffic}
use Rattle.dl_outside.specs.Links.{Links}
use Rattle.dl_outside.specs.Outside.{HasRisen}
use Rattle.dl_outside.specs.Told.{LinkTold, NetTold}
use Rattle.dl_registry.specs.Kept.{owed_change}
use Rattle.dl_rounds.proofs.ByPlace.{get_before}
use Rattle.dl_rounds.proofs.Connected.{at_next}
use Rattle.dl_rounds.proofs.OneClient.{but_pump, but_turn}
use Rattle.dl_rounds.specs.Arrivals.{ConnectsAs}
use Rattle.dl_rounds.specs.declared.accepting.Arrival.{Arrival}
use Rattle.dl_rounds.specs.declared.accepting.Arrival.TheVariants as arrival
use Rattle.dl_rounds.specs.Clients.{Client, Clients, Visits, VisitsAll, stage_of, with_client}
use Rattle.dl_rounds.specs.Partings.{AreShut, ShutsGone}
use Rattle.dl_rounds.specs.Passing.{AreLater, EachOpen as EachOpenClient, WasRead as WasHeard, WasSent as WasPumped, took_all}
use Rattle.dl_rounds.specs.Ready.{fresh_listener}
use Rattle.dl_rounds.specs.Visits.{Heard as HeardClient, HearsAll, Pumped}
use Rattle.dl_server.proofs.HeldAccepts.{client_on, program_on}
use Rattle.dl_server.proofs.HeldRounds.{all_hear, all_pump, no_desk}
use Rattle.dl_server.specs.Holds.{Holds}
use Rattle.dl_server.specs.Round.{IsRound}
use Rattle.dl_server.specs.State.{State, clients_of, scene_of}
use Rattle.dl_server.specs.Accepts.{AcceptsClientIfMay, AcceptsProgramIfMay}
use Rattle.dl_server.specs.Steps.{HearsClientsIfMay, PumpsClients, PumpsClientsIfMay}
use Rattle.dl_channels.specs.Accepting.{Enters}
use Rattle.dl_channels.specs.declared.accepting.Entry.{Entry}
use Rattle.dl_channels.specs.declared.accepting.Entry.TheVariants as entry
use Rattle.dl_socket.specs.Channels.{Channels, open_in}
use Rattle.dl_turns.specs.State.{Side, side}
use Rattle.dl_lemmas.proofs.Options.{not_some, some_of}
use Rattle.dl_serve.specs.Admitted.{TellGiven}
use Rattle.dl_serve.specs.Comes.{run_in}
use Rattle.dl_serve.specs.Levels.{levels_put}
use Rattle.dl_serve.specs.Service.{EachAdmitted, EachNow, GoesOn, IsNewLink, IsNewProgram, Program, ServesClient, ServesProgram, ServesRound, Standing, WasRead, WasSent, frames_in, source_in}
use Rattle.dl_serve.proofs.AdmittedSteps.{Keeps as Admits, Knows, all_admitted, goes_keep}
use Rattle.dl_serve.proofs.AskedNets.{Asked, client_asked, most_dropped, program_asked}
use Rattle.dl_serve.proofs.Farewells.{for_none, sent_quietly}
use Rattle.dl_serve.proofs.GoingLinks.{AllGo, all_both, all_same, channels_heard, channels_sent, clients_heard, clients_parted, clients_pumped, goes_both, goes_still, read_on, waited_on}
use Rattle.dl_serve.proofs.HandedLinks.{Keeps as Stays, hears_keep, keeps_both, pumps_keep, round_unwanted}
use Rattle.dl_serve.proofs.HeldInboxes.{adds_so}
use Rattle.dl_serve.proofs.OpenChannels.{OpenIn, round_open, sent_open, served_open}
use Rattle.dl_serve.proofs.PassedEvents as passed
use Rattle.dl_serve.proofs.ServedChannels.{each_read, each_sent, more_frames}
use Rattle.dl_serve.proofs.ShutPrograms.{EndedShut, HasEnds, heard_ends, heard_shut, sent_ends, sent_shut}
use Rattle.dl_serve.proofs.TakenLevels.{emptied_took}
use Rattle.dl_serve.proofs.WholeServers.{Kept, keeps_on, takes_at}

-- ---- what stands

abbrev pub program_of : LinkTold → Option ChannelEnd → Program
program_of link end = record { link = link; end = end }

-- links of programs with why they ended
abbrev pub programs_of : List LinkTold → List (Option ChannelEnd) → List Program
programs_of links ends = joined program_of None links ends

abbrev pub standing : {L : Type 0} → NetTold L → NetTold L → List Event → State → Standing L
standing net users events s = record {
  net = net;
  users = users;
  events = events;
  clients = s.clients;
  programs = programs_of s.programs s.ends;
  dropped = s.dropped;
  wanted = s.wanted;
}

-- the link and the end of a program
record IsAt (links : List LinkTold) (ends : List (Option ChannelEnd)) (place : ℕ) (program : Program) : Type 0 where
  link : slice_get links place ≡ Some program.link
  end : slice_get ends place ≡ Some program.end

parts_of : (links : List LinkTold) (ends : List (Option ChannelEnd)) (place : ℕ) (program : Program) → length links ≤ length ends → slice_get (programs_of links ends) place ≡ Some program → IsAt links ends place program
parts_of [] ends place program long there = absurd (cc there)
parts_of (link ∷ links) [] place program long there = absurd (omega (arith, long))
parts_of (link ∷ links) (end ∷ ends) zero program long there =
    let is : program_of link end ≡ program = cc there in record { link = ap (λ (p : Program). Some p.link) is; end = ap (λ (p : Program). Some p.end) is }
parts_of (link ∷ links) (end ∷ ends) (suc place) program long there = (let rest = parts_of links ends place program (omega (arith, long)) there in record { link = rest.link; end = rest.end })

-- ---- who is open was so before

visits_open : (Visit : ℕ → Bool → Client → Client → Type 0)
    → ((number : ℕ) (moved : Bool) (was now : Client) → Visit number moved was now → (other : ℕ) → other ≢ number → client_of now.side.core.hub other ≡ client_of was.side.core.hub other)
    → (last : ℕ) (numbers : List ℕ) (moved : Bool) (old new : Clients) → Visits Visit last numbers moved old new
    → (number : ℕ) → IsSome (outbox_of new.side.core.hub number) → IsSome (outbox_of old.side.core.hub number)
visits_open Visit others last [] moved old new visits number some = subst (λ (c : Clients). IsSome (outbox_of c.side.core.hub number)) visits.2 some
visits_open Visit others last (next ∷ numbers) moved old new visits number some =
    let was = visits.1 in
    let now = visits.3 in
    let then = visits_open Visit others next numbers visits.6 (with_client next now old) new visits.8 number some in
    elim (eqb_tells number next) [
      | inl same ↦ subst (λ (n : ℕ). IsSome (outbox_of old.side.core.hub n)) (sym same.1) visits.0.1
      | inr apart ↦
          subst (λ (s : Side). IsSome (outbox_of s.core.hub number)) visits.2.side
          (subst (λ (o : Option HubClient). IsSome (option_and_then (λ (c : HubClient). c.outbox) o)) (others next visits.4 was now visits.5 number apart.1) then)
    ]

pumped_open : (moved : Bool) (old new : Clients) → VisitsAll Pumped moved old new → (number : ℕ) → IsSome (outbox_of new.side.core.hub number) → IsSome (outbox_of old.side.core.hub number)
pumped_open moved old new pumps = visits_open Pumped
    (λ number here was now pumped. (but_pump number pumped.why was.link pumped.link was.side now.side pumped.pump).others) 0 pumps.0 moved old new pumps.1

-- ---- streams

-- what waits for a client is its stream less what was taken
module _ (run : Run) (events : List Event) (taken : ℕ → List ℕ) (core : Core) (is : IsAfter run events taken core) where
  stream_waits : (number : ℕ) (outbox : Waiting) → outbox_of core.hub number ≡ Some outbox → concat (stream (source_of run) run.setting.buffer number events) ≡ taken number ++ outbox.bytes
  stream_waits number outbox there = by (client_of core.hub number) refl there where
    streamed : List ℕ → ℕ → List ℕ
    streamed ecu buffer = concat (sent ecu buffer number (traffic (source_of run) events))

    of_client : (client : HubClient) → client_of core.hub number ≡ Some client → client.outbox ≡ Some outbox → streamed run.setting.ecu run.setting.buffer ≡ taken number ++ outbox.bytes
    of_client client at open_so =
        let left : IfSome client.outbox (λ (o : Waiting). streamed core.hub.ecu core.hub.buffer ≡ taken number ++ o.bytes) = (its_stream run events taken core is number client at).left in
        sym (ap (λ (e : List ℕ). streamed e core.hub.buffer) is.set_to.unit ∙ ap (λ (b : ℕ). streamed run.setting.ecu b) is.set_to.buffer)
        ∙ subst (λ (o : Option Waiting). IfSome o (λ (o : Waiting). streamed core.hub.ecu core.hub.buffer ≡ taken number ++ o.bytes)) open_so left

    by : (o : Option HubClient) → client_of core.hub number ≡ o → option_and_then (λ (c : HubClient). c.outbox) o ≡ Some outbox → streamed run.setting.ecu run.setting.buffer ≡ taken number ++ outbox.bytes
    by None at open_so = absurd (cc open_so)
    by (Some client) at open_so = of_client client at open_so

  pub frames_so : length (admitted (source_of run) events) ≡ core.hub.admitted
  frames_so = sym (ap (λ (fs : List (List ℕ)). length fs) (traffic_admits (source_of run) events)) ∙ is.hub.admissions

  -- where nothing waits for it, its link took the stream
  all_sent : (number : ℕ) → IsSomeAnd (outbox_of core.hub number) (λ outbox. outbox.bytes ≡ [])
      → concat (stream (source_of run) run.setting.buffer number events) ≡ taken number
  all_sent number empty_so = by (outbox_of core.hub number) refl empty_so where
    by : (o : Option Waiting) → outbox_of core.hub number ≡ o → IsSomeAnd o (λ outbox. outbox.bytes ≡ []) → concat (stream (source_of run) run.setting.buffer number events) ≡ taken number
    by None there none = absurd none
    by (Some outbox) there none = stream_waits number outbox there ∙ ap (λ (bytes : List ℕ). taken number ++ bytes) none ∙ append-nil (taken number)

-- ---- what an accept leaves

record BesideClient (old new : State) : Type 0 where
  programs : new.programs ≡ old.programs
  ends : new.ends ≡ old.ends
  no_programs : new.no_programs ≡ old.no_programs
  may_run_out : new.may_run_out ≡ old.may_run_out

record BesideProgram (old new : State) : Type 0 where
  core : new.core ≡ old.core
  clients : new.clients ≡ old.clients
  ends : new.ends ≡ old.ends
  no_clients : new.no_clients ≡ old.no_clients
  may_run_out : new.may_run_out ≡ old.may_run_out

module _ {L : Type 0} (told : L → LinkTold) where
  client_beside : (moved : Bool) (net net_now : NetTold L) (old new : State) → AcceptsClientIfMay told moved net net_now old new → BesideClient old new
  client_beside moved net net_now old new (inl none) =
      record { programs = ap (λ (s : State). s.programs) none.3; ends = ap (λ (s : State). s.ends) none.3; no_programs = ap (λ (s : State). s.no_programs) none.3; may_run_out = ap (λ (s : State). s.may_run_out) none.3 }
  client_beside moved net net_now old new (inr (inl want)) =
      record { programs = ap (λ (s : State). s.programs) want.3; ends = ap (λ (s : State). s.ends) want.3; no_programs = ap (λ (s : State). s.no_programs) want.3; may_run_out = ap (λ (s : State). s.may_run_out) want.3 }
  client_beside moved net net_now old new (inr (inr accepts)) =
      let rest = accepts.1.2.rest in record { programs = ap (λ (s : State). s.programs) rest; ends = ap (λ (s : State). s.ends) rest; no_programs = ap (λ (s : State). s.no_programs) rest; may_run_out = ap (λ (s : State). s.may_run_out) rest }

  program_beside : (moved : Bool) (net net_now : NetTold L) (old new : State) → AcceptsProgramIfMay told moved net net_now old new → BesideProgram old new
  program_beside moved net net_now old new (inl none) =
      record { core = ap (λ (s : State). s.core) none.3; clients = ap (λ (s : State). s.clients) none.3; ends = ap (λ (s : State). s.ends) none.3; no_clients = ap (λ (s : State). s.no_clients) none.3; may_run_out = ap (λ (s : State). s.may_run_out) none.3 }
  program_beside moved net net_now old new (inr accepts) =
      let rest = accepts.3.rest in record { core = ap (λ (s : State). s.core) rest; clients = ap (λ (s : State). s.clients) rest; ends = ap (λ (s : State). s.ends) rest; no_clients = ap (λ (s : State). s.no_clients) rest; may_run_out = ap (λ (s : State). s.may_run_out) rest }

-- one that came before is open where it was
came_before : (old new : Hub) (place : ℕ) → Comes old new → place < length old.clients → IsSome (outbox_of new (place + 1)) → IsSome (outbox_of old (place + 1))
came_before old new place comes below some =
    let same : client_of new (place + 1) ≡ client_of old (place + 1) =
    at_next new place ∙ ap (λ (cs : List HubClient). slice_get cs place) comes.1 ∙ get_before old.clients (comes.0 ∷ []) place below ∙ sym (at_next old place) in
    subst (λ (o : Option HubClient). IsSome (option_and_then (λ (c : HubClient). c.outbox) o)) same some

open_came : {L : Type 0} (told : L → LinkTold) (moved : Bool) (net net_now : NetTold L) (old new : State) → AcceptsClientIfMay told moved net net_now old new → (place : ℕ) → place < length old.core.hub.clients
    → IsSome (outbox_of new.core.hub (place + 1)) → IsSome (outbox_of old.core.hub (place + 1))
open_came told moved net net_now old new (inl none) place below some = subst (λ (s : State). IsSome (outbox_of s.core.hub (place + 1))) none.3 some
open_came told moved net net_now old new (inr (inl want)) place below some = subst (λ (s : State). IsSome (outbox_of s.core.hub (place + 1))) want.3 some
open_came told moved net net_now old new (inr (inr accepts)) place below some = by accepts.1.0 accepts.1.2.connects where
  same : new.core ≡ old.core → IsSome (outbox_of old.core.hub (place + 1))
  same core = subst (λ (c : Core). IsSome (outbox_of c.hub (place + 1))) core some

  by : (it : Arrival) → ConnectsAs it old.core new.core old.events new.events → IsSome (outbox_of old.core.hub (place + 1))
  by (arrival.Client number) connects = came_before old.core.hub new.core.hub place connects.comes below some
  by arrival.Dropped connects = same connects.1
  by arrival.Nobody connects = same connects.0
  by arrival.Failed connects = same connects.0
  by arrival.OutOfMemory connects = same connects.0

-- ---- visits to clients

open_heard : (moved : Bool) (old new : State) → HearsClientsIfMay moved old new → (number : ℕ) → IsSome (outbox_of new.core.hub number) → IsSome (outbox_of old.core.hub number)
open_heard moved old new (inl nobody) number some = subst (λ (s : State). IsSome (outbox_of s.core.hub number)) nobody.2 some
open_heard moved old new (inr (inl want)) number some = subst (λ (s : State). IsSome (outbox_of s.core.hub number)) want.1 some
open_heard moved old new (inr (inr hears)) number some =
    let serves = hears.serves in
    visits_open HeardClient (λ next here was now heard. (but_turn next heard.why (stage_of was) (record (stage_of now) { link = heard.link }) heard.turn).others) 0 serves.visits.0 moved (clients_of old serves.desk)
    (clients_of new serves.desk_now) serves.visits.1 number some

heard_links : (moved : Bool) (old new : State) → HearsClientsIfMay moved old new → AllGo old.clients new.clients
heard_links moved old new (inl nobody) = all_same old.clients new.clients (ap (λ (s : State). s.clients) nobody.2)
heard_links moved old new (inr (inl want)) = all_same old.clients new.clients (ap (λ (s : State). s.clients) want.1)
heard_links moved old new (inr (inr hears)) = (let serves = hears.serves in clients_heard moved (clients_of old serves.desk) (clients_of new serves.desk_now) serves.visits)

record BesideVisits (old new : State) : Type 0 where
  programs : new.programs ≡ old.programs
  ends : new.ends ≡ old.ends
  may_run_out : new.may_run_out ≡ old.may_run_out

heard_beside : (moved : Bool) (old new : State) → HearsClientsIfMay moved old new → BesideVisits old new
heard_beside moved old new (inl nobody) = record { programs = ap (λ (s : State). s.programs) nobody.2; ends = ap (λ (s : State). s.ends) nobody.2; may_run_out = ap (λ (s : State). s.may_run_out) nobody.2 }
heard_beside moved old new (inr (inl want)) = record { programs = ap (λ (s : State). s.programs) want.1; ends = ap (λ (s : State). s.ends) want.1; may_run_out = ap (λ (s : State). s.may_run_out) want.1 }
heard_beside moved old new (inr (inr hears)) = record { programs = ap (λ (s : State). s.programs) hears.rest; ends = ap (λ (s : State). s.ends) hears.rest; may_run_out = ap (λ (s : State). s.may_run_out) hears.rest }

pumped_beside : (moved : Bool) (old new : State) → PumpsClientsIfMay moved old new → BesideVisits old new
pumped_beside moved old new (inl want) = record { programs = ap (λ (s : State). s.programs) want.1; ends = ap (λ (s : State). s.ends) want.1; may_run_out = ap (λ (s : State). s.may_run_out) want.1 }
pumped_beside moved old new (inr pumps) = record { programs = ap (λ (s : State). s.programs) pumps.rest; ends = ap (λ (s : State). s.ends) pumps.rest; may_run_out = ap (λ (s : State). s.may_run_out) pumps.rest }

-- what a pump of all clients sees
module _ (moved : Bool) (old new : State) (pumps : PumpsClients moved old new) where
  abbrev before_pumps : Clients
  before_pumps = record { links = old.clients; listeners = replicate (length old.clients) fresh_listener; side = side old.core no_desk old.events old.folder }

  abbrev after_pumps : Clients
  after_pumps = record { links = new.clients; listeners = replicate (length old.clients) fresh_listener; side = side new.core no_desk new.events old.folder }

  visits_of : VisitsAll Pumped moved before_pumps after_pumps
  visits_of = pumps.pumps no_desk old.folder (replicate (length old.clients) fresh_listener) (omega (arith, length-replicate (length old.clients) fresh_listener))

pumped_links : (moved : Bool) (old new : State) → PumpsClientsIfMay moved old new → AllGo old.clients new.clients
pumped_links moved old new (inl want) = all_same old.clients new.clients (ap (λ (s : State). s.clients) want.1)
pumped_links moved old new (inr pumps) = clients_pumped moved (before_pumps moved old new pumps) (after_pumps moved old new pumps) (visits_of moved old new pumps)

open_sooner : (moved : Bool) (old new : State) → PumpsClientsIfMay moved old new → (number : ℕ) → IsSome (outbox_of new.core.hub number) → IsSome (outbox_of old.core.hub number)
open_sooner moved old new (inl want) number some = subst (λ (s : State). IsSome (outbox_of s.core.hub number)) want.1 some
open_sooner moved old new (inr pumps) number some = pumped_open moved (before_pumps moved old new pumps) (after_pumps moved old new pumps) (visits_of moved old new pumps) number some

true_then : (a b : Bool) → (b ≡ false → a ≡ false) → a ≡ true → b ≡ true
true_then a true back is = refl
true_then a false back is = absurd (let bad : true ≡ false = sym is ∙ back refl in cc bad)

there_before : (old new : List LinkTold) (place : ℕ) (link : LinkTold) → new ≡ old → slice_get new place ≡ Some link → slice_get old place ≡ Some link
there_before old new place link same there = subst (λ (ls : List LinkTold). slice_get ls place ≡ Some link) same there

-- where a link comes from that is there in a round
abbrev ComesFrom : {L : Type 0} → (L → LinkTold) → List LinkTold → ℕ → LinkTold → Type 0
ComesFrom told links place was = (slice_get links place ≡ Some was) ⊎ ((length links ≤ place) × IsNewLink told was)

same_origin : {L : Type 0} (told : L → LinkTold) (links : List LinkTold) (place : ℕ) (was now : LinkTold) → now ≡ was → ComesFrom told links place was → ComesFrom told links place now
same_origin told links place was now same origin = subst (ComesFrom told links place) (sym same) origin

-- ---- a round

module _ {L : Type 0} (told : L → LinkTold) (heard : (moved : Bool) (old new : Clients) → HearsAll moved old new → AreLater old new)
    (pumped : (moved : Bool) (old new : Clients) → VisitsAll Pumped moved old new → AreLater old new) (pump : PumpsAreEvents)
    (read : (moved : Bool) (old new : Clients) → HearsAll moved old new → EachOpenClient WasHeard old new)
    (sends : (moved : Bool) (old new : Clients) → VisitsAll Pumped moved old new → EachOpenClient WasPumped old new)
    (parted : (hub : Hub) (old new : List LinkTold) → ShutsGone hub old new → AreShut hub new) (setting : Setting) (stood : List StoredFile) (before : ℕ × List (List ℕ)) where
  abbrev pub Tells : Type 0
  Tells = TellTaken told

  -- the run of a setting, behind how many stored frames its trace began, and with which
  abbrev pub run : Run
  run = record (run_in setting stood) { before = before.0; head = before.1 }

  -- what is known between two rounds
  pub record Keeps (events : List Event) (s : State) : Type 0 where
    pub holds : Holds Tells ⊥ (Unit {0}) run events s
    pub room : ℕ
    pub taken : Kept told setting room (state_of s)
    pub ready : IsReady s
    pub opened : OpenIn s
    pub few : s.dropped ≤ most_dropped
    pub shut : AreShut s.core.hub s.clients
    pub ended : EndedShut s.programs s.ends
    pub has_ends : HasEnds (scene_of s)
    pub admits : TellGiven told → Admits (state_of s)

  -- and of nets, whose counts of faults were these at first: one has failed only where its count has risen since
  pub record Stands (faults user_faults : ℕ) (net users : NetTold L) (events : List Event) (s : State) : Type 0 where
    pub keeps : Keeps events s
    pub later : faults ≤ net.faults
    pub user_later : user_faults ≤ users.faults
    pub risen : s.no_clients ≡ true → HasRisen faults net.faults
    pub user_risen : s.no_programs ≡ true → HasRisen user_faults users.faults

  module _ (faults user_faults : ℕ) (net net_now users users_now : NetTold L) (old new : State) (events : List Event) (round : IsRound told net net_now users users_now old new)
      (tell_overs : TellsOvers told old.clients) (stands : Stands faults user_faults net users events old) where
    k : Keeps events old
    k = stands.keeps

    -- ---- what is noted

    pub at_accepted : (more : List Event) × Holds Tells ⊥ (Unit {0}) run (events ++ more) round.accepted
    at_accepted =
        let a = round.accepts in
        let one = client_on told ⊥ a.came net net_now old a.accepted a.accepts run events k.holds in
        let two = program_on told ⊥ a.entered users users_now a.accepted round.accepted a.enters run (events ++ one.0) one.1 in
        (one.0 ++ two.0, subst (λ (es : List Event). Holds Tells ⊥ (Unit {0}) run es round.accepted) (append_assoc events one.0 two.0) two.1)

    abbrev accepted_past : List Event
    accepted_past = events ++ at_accepted.0

    pub at_heard : (more : List Event) × Holds Tells ⊥ (Unit {0}) run (accepted_past ++ more) round.heard
    at_heard = all_hear Tells ⊥ heard round.accepted round.heard round.hears run accepted_past at_accepted.1

    abbrev heard_past : List Event
    heard_past = accepted_past ++ at_heard.0

    pub at_end : (more : List Event) × Holds Tells ⊥ (Unit {0}) run (heard_past ++ more) new
    at_end = all_pump Tells ⊥ pumped pump round.heard new round.pumps run heard_past at_heard.1

    abbrev more : List Event
    more = at_accepted.0 ++ (at_heard.0 ++ at_end.0)

    abbrev pub noted : List Event
    noted = events ++ more

    all_noted : heard_past ++ at_end.0 ≡ noted
    all_noted = append_assoc accepted_past at_heard.0 at_end.0 ∙ append_assoc events at_accepted.0 (at_heard.0 ++ at_end.0)

    now : Holds Tells ⊥ (Unit {0}) run noted new
    now = subst (λ (es : List Event). Holds Tells ⊥ (Unit {0}) run es new) all_noted at_end.1

    -- the steps of the round, and what links of programs took behind them
    steps : Goes (IsToldBy told) (state_of old) (state_of new) × IsReady new
    steps = round_leads told net net_now users users_now old new round tell_overs k.ready

    taken_now : Kept told setting k.room (state_of new)
    taken_now = keeps_on told setting k.room (state_of old) (state_of new) steps.0 k.taken

    -- before channels are listened to, and before they are pumped
    served_follows : (past : List Event) × (taken : ℕ → List ℕ) × IsAfter run past taken round.hears.served.core
    served_follows = by round.hears.clients where
      by : HearsClientsIfMay round.hears.asked round.accepted round.hears.served → (past : List Event) × (taken : ℕ → List ℕ) × IsAfter run past taken round.hears.served.core
      by (inl nobody) = (accepted_past, at_accepted.1.took, subst (λ (s : State). IsAfter run accepted_past at_accepted.1.took s.core) (sym nobody.2) at_accepted.1.after)
      by (inr (inl want)) = (accepted_past, at_accepted.1.took, subst (λ (s : State). IsAfter run accepted_past at_accepted.1.took s.core) (sym want.1) at_accepted.1.after)
      by (inr (inr hears)) =
          let serves = hears.serves in
          let goes = heard round.hears.asked (clients_of round.accepted serves.desk) (clients_of round.hears.served serves.desk_now) serves.visits in
          (accepted_past ++ goes.more, took_all at_accepted.1.took goes.sent, (goes.after run accepted_past at_accepted.1.took at_accepted.1.after).0)

    abbrev Settled : State → Type 0
    Settled s = (past : List Event) × (s.events ≡ Some past) × (taken : ℕ → List ℕ) × IsAfter run past taken s.core × (owed_change s.core.registry ≡ None)

    sent_settled : Settled round.pumps.sent
    sent_settled = by round.pumps.clients where
      by : PumpsClientsIfMay round.pumps.moved round.heard round.pumps.sent → Settled round.pumps.sent
      by (inl want) = subst Settled (sym want.1) (heard_past, at_heard.1.kept, at_heard.1.took, at_heard.1.after, at_heard.1.settled)
      by (inr pumps) =
          let goes = pumped round.pumps.moved (before_pumps round.pumps.moved round.heard round.pumps.sent pumps) (after_pumps round.pumps.moved round.heard round.pumps.sent pumps) (visits_of round.pumps.moved round.heard round.pumps.sent pumps) in (
            heard_past ++ goes.more,
            adds_so round.heard.events round.pumps.sent.events heard_past goes.more at_heard.1.kept goes.events,
            took_all at_heard.1.took goes.sent,
            (goes.after run heard_past at_heard.1.took at_heard.1.after).0,
            pumps.settled,
          )

    -- ---- what is kept beside

    keeps : Stays round.accepted new
    keeps = keeps_both round.accepted round.heard new (hears_keep round.accepted round.heard round.hears) (pumps_keep round.heard new round.pumps)

    came_beside : BesideClient old round.accepts.accepted
    came_beside = client_beside told round.accepts.came net net_now old round.accepts.accepted round.accepts.accepts

    entered_beside : BesideProgram round.accepts.accepted round.accepted
    entered_beside = program_beside told round.accepts.entered users users_now round.accepts.accepted round.accepted round.accepts.enters

    asked : Asked told faults new.wanted net net_now old.clients round.accepts.accepted.clients old.dropped round.accepts.accepted.dropped round.accepts.accepted.no_clients
    asked = client_asked told faults new.wanted net net_now old round.accepts.accepted k.few stands.later
        (true_then round.accepts.accepted.wanted new.wanted (λ none. (round_unwanted told net net_now users users_now old new round none).at_accept)) round.accepts.came stands.risen round.accepts.accepts

    asked_users : Asked told user_faults new.wanted users users_now round.accepts.accepted.programs round.accepted.programs round.accepts.accepted.dropped round.accepted.dropped round.accepted.no_programs
    asked_users = program_asked told user_faults new.wanted users users_now round.accepts.accepted round.accepted (let so = asked.dropped_so in omega (arith, so)) stands.user_later
        (true_then round.accepted.wanted new.wanted (λ none. (round_unwanted told net net_now users users_now old new round none).at_entry)) round.accepts.entered
        (λ failed. stands.user_risen (sym came_beside.no_programs ∙ failed)) round.accepts.enters

    -- ---- clients

    -- a client's link, as the steps of the round leave it
    record ClientLinks (place : ℕ) (link : LinkTold) : Type 0 where
      was : LinkTold
      origin : ComesFrom told old.clients place was
      at_first : slice_get round.accepted.clients place ≡ Some was
      heard_link : LinkTold
      at_served : slice_get round.hears.served.clients place ≡ Some heard_link
      at_heard_now : slice_get round.heard.clients place ≡ Some heard_link
      sent_link : LinkTold
      at_sent : slice_get round.pumps.sent.clients place ≡ Some sent_link
      listens : GoesOn was heard_link
      pumps : GoesOn heard_link sent_link
      rests : GoesOn sent_link link

    links_of : (place : ℕ) (link : LinkTold) → slice_get new.clients place ≡ Some link → ClientLinks place link
    links_of place link there =
        let p = round.pumps in
        let h = round.hears in
        let six = clients_parted p.pumped.core.hub p.pumped.clients new.clients p.parts.shuts place link there in
        let at_five = there_before p.sent.clients p.pumped.clients place six.0 (ap (λ (s : State). s.clients) p.programs.rest) six.1 in
        let four = pumped_links p.moved round.heard p.sent p.clients place six.0 at_five in
        let at_three = there_before h.served.clients round.heard.clients place four.0 (ap (λ (s : State). s.clients) h.programs.rest) four.1 in
        let two = heard_links h.asked round.accepted h.served h.clients place four.0 at_three in
        let one = asked.links_so place two.0 (there_before round.accepts.accepted.clients round.accepted.clients place two.0 entered_beside.clients two.1) in record {
          was = two.0;
          origin = same_origin told old.clients place one.0 two.0 one.2 one.1;
          at_first = two.1;
          heard_link = four.0;
          at_served = at_three;
          at_heard_now = four.1;
          sent_link = six.0;
          at_sent = at_five;
          listens = two.2;
          pumps = four.2;
          rests = six.2;
        }

    are_shut : AreShut new.core.hub new.clients
    are_shut = (let p = round.pumps in subst (λ (s : State). AreShut s.core.hub new.clients) (sym p.parts.rest) (parted p.pumped.core.hub p.pumped.clients new.clients p.parts.shuts))

    open_now : (place : ℕ) → IsOpen (place + 1) noted → IsSome (outbox_of new.core.hub (place + 1))
    open_now place is = open_by_core run noted now.took new.core now.after (place + 1) is

    open_sent : (place : ℕ) → IsOpen (place + 1) noted → IsSome (outbox_of round.pumps.sent.core.hub (place + 1))
    open_sent place is =
        let p = round.pumps in
        let passes = passed.all_sent p.moment (scene_of p.sent) (scene_of p.pumped) p.programs.pumps in
        open_before passes.more p.sent.core.hub p.pumped.core.hub passes.clients (place + 1) (subst (λ (s : State). IsSome (outbox_of s.core.hub (place + 1))) p.parts.rest (open_now place is))

    open_served : (place : ℕ) → IsOpen (place + 1) noted → IsSome (outbox_of round.hears.served.core.hub (place + 1))
    open_served place is =
        let h = round.hears in
        let passes = passed.all_heard h.moment h.moved (scene_of h.served) (scene_of round.heard) h.programs.hears in
        open_before passes.more h.served.core.hub round.heard.core.hub passes.clients (place + 1) (open_sooner round.pumps.moved round.heard round.pumps.sent round.pumps.clients (place + 1) (open_sent place is))

    open_then : (place : ℕ) → place < length old.clients → IsOpen (place + 1) noted → IsOpen (place + 1) events
    open_then place below is =
        let h = round.hears in
        let a = round.accepts in
        let accepted = open_heard h.asked round.accepted h.served h.clients (place + 1) (open_served place is) in
        let came = subst (λ (c : Core). IsSome (outbox_of c.hub (place + 1))) entered_beside.core accepted in
        open_by_journal run events k.holds.took old.core k.holds.after (place + 1)
        (open_came told a.came net net_now old a.accepted a.accepts place (let many = k.holds.many in omega (arith, below, many)) came)

    -- where the journal may want memory, and clients were served all the same, none was wanted
    abbrev NoneWanted : Type 0
    NoneWanted = (old.may_run_out && new.wanted) ≡ false

    accepted_may : round.accepted.may_run_out ≡ old.may_run_out
    accepted_may = entered_beside.may_run_out ∙ came_beside.may_run_out

    heard_may : round.heard.may_run_out ≡ old.may_run_out
    heard_may = (let h = round.hears in ap (λ (s : State). s.may_run_out) h.programs.rest ∙ (heard_beside h.asked round.accepted h.served h.clients).may_run_out ∙ accepted_may)

    unwanted_so : (may : Bool) → may ≡ old.may_run_out → may ≡ true → NoneWanted → new.wanted ≡ false
    unwanted_so may same wants is = ap (λ (b : Bool). b && new.wanted) (sym wants ∙ same) ∙ is

    module _ (place : ℕ) (link : LinkTold) (there : slice_get new.clients place ≡ Some link) (ls : ClientLinks place link) where
      back : place ≡ place + 1 - 1
      back = omega arith

      was_read : IsOpen (place + 1) noted → NoneWanted → WasRead ls.was link
      was_read is none = read_on ls.was ls.was ls.heard_link link (goes_still ls.was) (by round.hears.clients (open_served place is)) (goes_both ls.heard_link ls.sent_link link ls.pumps ls.rests) where
        by : HearsClientsIfMay round.hears.asked round.accepted round.hears.served → IsSome (outbox_of round.hears.served.core.hub (place + 1)) → WasRead ls.was ls.heard_link
        by (inl nobody) some = absurd (not_some (outbox_of round.accepted.core.hub (place + 1)) (nobody.1 (place + 1) (omega arith)) (subst (λ (s : State). IsSome (outbox_of s.core.hub (place + 1))) nobody.2 some))
        by (inr (inl want)) some = absurd (let bad : true ≡ false =
            sym (ap (λ (s : State). s.wanted) want.1) ∙ sym (ap (λ (s : State). s.wanted) round.hears.programs.rest)
            ∙ (round_unwanted told net net_now users users_now old new round (unwanted_so round.accepted.may_run_out accepted_may want.3 none)).at_hearing in cc bad)
        by (inr (inr hears)) some =
            let serves = hears.serves in
            read round.hears.asked (clients_of round.accepted serves.desk) (clients_of round.hears.served serves.desk_now) serves.visits (place + 1) some ls.was ls.heard_link
            (subst (λ (n : ℕ). slice_get round.accepted.clients n ≡ Some ls.was) back ls.at_first) (subst (λ (n : ℕ). slice_get round.hears.served.clients n ≡ Some ls.heard_link) back ls.at_served)

      -- nothing that programs make happen is for clients, while what waits for programs is sent
      sent_all : IsSomeAnd (outbox_of round.pumps.sent.core.hub (place + 1)) (λ outbox. outbox.bytes ≡ []) → IsSome (outbox_of new.core.hub (place + 1)) → Tells
          → link.taken ≡ Some (concat (stream (source_in setting) setting.buffer (place + 1) noted))
      sent_all none some tells =
          let p = round.pumps in
          let past = sent_settled.0 in
          let took = sent_settled.2 in
          let quiet = sent_quietly p.moment (open_in p.sent.channels) false (scene_of p.sent) (scene_of p.pumped) p.programs.pumps in
          let passes = passed.all_sent p.moment (scene_of p.sent) (scene_of p.pumped) p.programs.pumps in
          let by_quiet : p.pumped.events ≡ Some (past ++ quiet.0) = adds_so p.sent.events p.pumped.events past quiet.0 sent_settled.1 quiet.1 in
          let by_passes : p.pumped.events ≡ Some (past ++ passes.more) = adds_so p.sent.events p.pumped.events past passes.more sent_settled.1 passes.events in
          let same_more : past ++ passes.more ≡ past ++ quiet.0 = cc (by_passes, by_quiet) in
          let kept : p.pumped.events ≡ Some noted = sym (ap (λ (s : State). s.events) p.parts.rest) ∙ now.kept in
          let all : past ++ quiet.0 ≡ noted = cc (by_quiet, kept) in
          let after : IsAfter run noted took new.core =
          subst (λ (s : State). IsAfter run noted took s.core) (sym p.parts.rest)
          (subst (λ (es : List Event). IsAfter run es took p.pumped.core) (same_more ∙ all) (passes.after run past took tt sent_settled.3).0) in
          let streams : (es : List Event) → List ℕ = λ es. concat (stream (source_of run) run.setting.buffer (place + 1) es) in
          let still : traffic (source_of run) noted ≡ traffic (source_of run) past =
          ap (traffic (source_of run)) (sym all) ∙ for_none p.moment (source_of run) past quiet.0 quiet.2 in
          let same : streams noted ≡ streams past = ap (λ (ts : List Traffic). concat (sent (source_of run).ecu run.setting.buffer (place + 1) ts)) still in
          let whole : streams past ≡ took (place + 1) = all_sent run past took p.sent.core sent_settled.3 (place + 1) none in
          let outbox = some_of (outbox_of new.core.hub (place + 1)) some in
          let left : took (place + 1) ++ [] ≡ took (place + 1) ++ outbox.0.bytes =
          append-nil (took (place + 1)) ∙ sym whole ∙ sym same ∙ stream_waits run noted took new.core after (place + 1) outbox.0 outbox.1 in
          let empty_so : [] ≡ outbox.0.bytes = append_cancel_left (took (place + 1)) [] outbox.0.bytes left in
          now.taken tells place link there
          ∙ ap Some (sym (stream_waits run noted now.took new.core now.after (place + 1) outbox.0 outbox.1 ∙ ap (λ (bytes : List ℕ). now.took (place + 1) ++ bytes) (sym empty_so) ∙ append-nil (now.took (place + 1))))

      was_sent : IsOpen (place + 1) noted → NoneWanted → WasSent Tells (concat (stream (source_in setting) setting.buffer (place + 1) noted)) ls.was link
      was_sent is none = by round.pumps.clients where
        by : PumpsClientsIfMay round.pumps.moved round.heard round.pumps.sent → WasSent Tells (concat (stream (source_in setting) setting.buffer (place + 1) noted)) ls.was link
        by (inl want) = absurd (let bad : true ≡ false =
            sym (ap (λ (s : State). s.wanted) want.1) ∙ sym (ap (λ (s : State). s.wanted) round.pumps.programs.rest) ∙ sym (ap (λ (s : State). s.wanted) round.pumps.parts.rest)
            ∙ unwanted_so round.heard.may_run_out heard_may want.2 none in cc bad)
        by (inr pumps) =
            let m = round.pumps.moved in
            elim (sends m (before_pumps m round.heard round.pumps.sent pumps) (after_pumps m round.heard round.pumps.sent pumps) (visits_of m round.heard round.pumps.sent pumps) (place + 1) (open_sent place is) ls.heard_link ls.sent_link
            (subst (λ (n : ℕ). slice_get round.heard.clients n ≡ Some ls.heard_link) back ls.at_heard_now) (subst (λ (n : ℕ). slice_get round.pumps.sent.clients n ≡ Some ls.sent_link) back ls.at_sent)) [
              | inl all ↦ inl (sent_all all (open_now place is))
              | inr waited ↦ inr (waited_on ls.was ls.heard_link ls.sent_link link ls.listens waited ls.rests)
            ]

      is_shut : (IsOpen (place + 1) noted → ⊥) → link.is_shut ≡ true
      is_shut gone = by (outbox_of new.core.hub (place + 1)) refl where
        by : (o : Option Waiting) → outbox_of new.core.hub (place + 1) ≡ o → link.is_shut ≡ true
        by (Some outbox) some = absurd (gone (open_by_journal run noted now.took new.core now.after (place + 1) (ap is_some some)))
        by None none =
            are_shut (place + 1) link (omega arith) none (subst (λ (n : ℕ). slice_get new.clients n ≡ Some link) back there)

    clients_served : EachNow (IsNewLink told) (ServesClient Tells setting noted (old.may_run_out && new.wanted)) old.clients new.clients
    clients_served = λ place link there. (let ls = links_of place link there in (
      ls.was,
      ls.origin,
      record {
        goes_on = goes_both ls.was ls.heard_link link ls.listens (goes_both ls.heard_link ls.sent_link link ls.pumps ls.rests);
        read = was_read place link there ls;
        sent = was_sent place link there ls;
        shut = is_shut place link there ls;
      },
    ))

    -- ---- programs

    heard_programs : AllGo round.accepted.programs round.heard.programs
    heard_programs =
        let h = round.hears in
        all_both round.accepted.programs h.served.programs round.heard.programs (all_same round.accepted.programs h.served.programs (heard_beside h.asked round.accepted h.served h.clients).programs)
        (channels_heard h.moment (open_in h.served.channels) h.moved (scene_of h.served) (scene_of round.heard) h.programs.hears)

    pumped_programs : AllGo round.heard.programs new.programs
    pumped_programs =
        let p = round.pumps in
        all_both round.heard.programs p.sent.programs new.programs (all_same round.heard.programs p.sent.programs (pumped_beside p.moved round.heard p.sent p.clients).programs)
        (all_both p.sent.programs p.pumped.programs new.programs (channels_sent p.moment (open_in p.sent.channels) false (scene_of p.sent) (scene_of p.pumped) p.programs.pumps)
        (all_same p.pumped.programs new.programs (ap (λ (s : State). s.programs) p.parts.rest)))

    origin_of : (place : ℕ) (was : LinkTold) → slice_get round.accepted.programs place ≡ Some was → ComesFrom told old.programs place was
    origin_of place was there =
        let one = asked_users.links_so place was there in
        subst (λ (ls : List LinkTold). ComesFrom told ls place was) came_beside.programs (same_origin told round.accepts.accepted.programs place one.0 was one.2 one.1)

    abbrev old_programs : List Program
    old_programs = programs_of old.programs old.ends

    -- the program of a link
    program_was : (place : ℕ) (was : LinkTold) → ComesFrom told old.programs place was → (end : Option ChannelEnd) × ((slice_get old_programs place ≡ Some (program_of was end)) ⊎ ((length old_programs ≤ place) × IsNewProgram told (program_of was end)))
    program_was place was (inl there) = (let one = joined_first program_of None old.programs old.ends place was was there in (one.0, inl one.1))
    program_was place was (inr fresh) = (None, inr (omega (arith, fresh.0, joined_length program_of None old.programs old.ends), (fresh.1, refl)))

    open_was : (place : ℕ) (was : LinkTold) → ComesFrom told old.programs place was → slice_get old.ends place ≡ Some None → (slice_get old_programs place ≡ Some (program_of was None)) ⊎ ((length old_programs ≤ place) × IsNewProgram told (program_of was None))
    open_was place was (inl there) slot = inl (joined_get program_of None old.programs old.ends place was None there slot)
    open_was place was (inr fresh) slot = inr (omega (arith, fresh.0, joined_length program_of None old.programs old.ends), (fresh.1, refl))

    -- how many frames the journal admits
    frames_now : frames_in setting noted ≡ new.core.hub.admitted
    frames_now = frames_so run noted now.took new.core now.after

    frames_before : round.heard.core.hub.admitted ≤ new.core.hub.admitted
    frames_before = more_frames run heard_past at_end.0 at_heard.1.took at_end.1.took round.heard.core new.core at_heard.1.after at_end.1.after

    abbrev ProgramServed : ℕ → Program → Type 0
    ProgramServed place program =
        (was : Program) × ((slice_get old_programs place ≡ Some was) ⊎ ((length old_programs ≤ place) × IsNewProgram told was)) × ServesProgram Tells setting noted place was program

    open_served_so : (place : ℕ) (link : LinkTold) → slice_get new.programs place ≡ Some link → slice_get new.ends place ≡ Some None → ProgramServed place (program_of link None)
    open_served_so place link there slot =
        let p = round.pumps in
        let h = round.hears in
        let sent_open_so = sent_open told net net_now users users_now old new round k.opened in
        let served_open_so = served_open told net net_now users users_now old new round k.opened in
        let pumped_at : slice_get p.pumped.programs place ≡ Some link = ap (λ (s : State). slice_get s.programs place) (sym p.parts.rest) ∙ there in
        let pumped_slot : slice_get p.pumped.ends place ≡ Some None = ap (λ (s : State). slice_get s.ends place) (sym p.parts.rest) ∙ slot in
        let sending = each_sent run p.moment (scene_of p.sent) (scene_of p.pumped) sent_open_so.low sent_open_so.each p.programs.pumps (sent_settled.0, record { registry = sent_settled.3.registry; level = sent_settled.3.set_to.level }, sent_settled.4) place link pumped_at pumped_slot in
        let beside = pumped_beside p.moved round.heard p.sent p.clients in
        let heard_at : slice_get round.heard.programs place ≡ Some sending.was = ap (λ (ls : List LinkTold). slice_get ls place) (sym beside.programs) ∙ sending.there in
        let heard_slot : slice_get round.heard.ends place ≡ Some None = ap (λ (es : List (Option ChannelEnd)). slice_get es place) (sym beside.ends) ∙ sending.open_then in
        let hearing = each_read run h.moment (scene_of h.served) h.moved (scene_of round.heard) served_open_so.low served_open_so.each h.programs.hears served_follows place sending.was heard_at heard_slot in
        let sooner = heard_beside h.asked round.accepted h.served h.clients in
        let was = hearing.was in
        let origin = origin_of place was (there_before round.accepted.programs h.served.programs place was sooner.programs hearing.there) in
        let first_slot : slice_get old.ends place ≡ Some None =
        ap (λ (es : List (Option ChannelEnd)). slice_get es place) (sym came_beside.ends) ∙ ap (λ (es : List (Option ChannelEnd)). slice_get es place) (sym entered_beside.ends)
        ∙ ap (λ (es : List (Option ChannelEnd)). slice_get es place) (sym sooner.ends) ∙ hearing.open_then in (
          program_of was None,
          open_was place was origin first_slot,
          record {
            goes_on = goes_both was sending.was link hearing.goes sending.goes;
            still_open = λ none. refl {a = None};
            read = λ none. elim hearing.good [
              | inl read ↦ inl (read_on was was sending.was link (goes_still was) read sending.goes)
              | inr full ↦ inr (omega (arith, full, frames_before, frames_now))
            ];
            sent = λ none. elim sending.good [
              | inl all ↦ inl (emptied_took Tells (levels_put setting (place + 1) noted) link None (channels.outbox_of new.channels.outboxes (place + 1))
                  (ap (λ (s : State). channels.outbox_of s.channels.outboxes (place + 1)) p.parts.rest ∙ all) (takes_at told setting k.room false new taken_now noted now.kept place link None there slot))
              | inr waited ↦ inr (waited_on was sending.was link link hearing.goes waited (goes_still link))
            ];
            shut = λ some. absurd (cc some);
          },
        )

    -- there is room for why each ends
    accepted_ends : HasEnds (scene_of round.accepted)
    accepted_ends =
        let a = round.accepts in
        let came : HasEnds (scene_of a.accepted) = by_client a.accepts in by_program came a.enters
      where
        by_client : AcceptsClientIfMay told round.accepts.came net net_now old round.accepts.accepted → HasEnds (scene_of round.accepts.accepted)
        by_client (inl none) = subst (λ (s : State). HasEnds (scene_of s)) (sym none.3) k.has_ends
        by_client (inr (inl want)) = subst (λ (s : State). HasEnds (scene_of s)) (sym want.3) (record { within = k.has_ends.within; enough = k.has_ends.enough })
        by_client (inr (inr accepts)) = subst (λ (s : State). HasEnds (scene_of s)) (sym accepts.1.2.rest) (record { within = k.has_ends.within; enough = k.has_ends.enough })

        same_ends : HasEnds (scene_of round.accepts.accepted) → round.accepted.channels ≡ round.accepts.accepted.channels → round.accepted.ends ≡ round.accepts.accepted.ends → HasEnds (scene_of round.accepted)
        same_ends came channels ends =
            let opened = ap (λ (c : Channels). c.opened) channels in
            let in_all = ap (λ (c : Channels). c.in_all) channels in
            let long = ap (λ (es : List (Option ChannelEnd)). length es) ends in
            record { within = (let had = came.within in omega (arith, opened, in_all, had)); enough = (let had = came.enough in omega (arith, in_all, long, had)) }

        by_entry : HasEnds (scene_of round.accepts.accepted) → (it : Entry) (links links_now : Links L) → Enters told it users users_now links links_now round.accepts.accepted.dropped round.accepted.dropped round.accepts.accepted.channels round.accepted.channels
            → round.accepted.ends ≡ round.accepts.accepted.ends → HasEnds (scene_of round.accepted)
        by_entry came (entry.Channel number) links links_now e ends =
            let opens = e.4 in
            let opened = ap (λ (c : Channels). c.opened) opens.3 in
            let in_all = ap (λ (c : Channels). c.in_all) opens.3 in
            let long = ap (λ (es : List (Option ChannelEnd)). length es) ends in
            record { within = omega (arith, opened, in_all, opens.0, opens.2); enough = (let had = came.enough in omega (arith, in_all, long, had)) }
        by_entry came entry.Dropped links links_now e ends = same_ends came e.4 ends
        by_entry came entry.Unopened links links_now e ends = same_ends came e.4 ends
        by_entry came entry.Nobody links links_now e ends = same_ends came e.5 ends
        by_entry came entry.Failed links links_now e ends = same_ends came e.4 ends
        by_entry came entry.OutOfMemory links links_now e ends = same_ends came e.4 ends

        by_program : HasEnds (scene_of round.accepts.accepted) → AcceptsProgramIfMay told round.accepts.entered users users_now round.accepts.accepted round.accepted → HasEnds (scene_of round.accepted)
        by_program came (inl none) = subst (λ (s : State). HasEnds (scene_of s)) (sym none.3) came
        by_program came (inr accepts) = (let a = accepts.3 in by_entry came accepts.1 a.links a.links_now a.enters (ap (λ (s : State). s.ends) a.rest))

    all_have_ends : HasEnds (scene_of new)
    all_have_ends =
        let h = round.hears in
        let p = round.pumps in
        let served_so : HasEnds (scene_of h.served) = by_heard h.clients in
        let heard_so = heard_ends h.moment (open_in h.served.channels) h.moved (scene_of h.served) (scene_of round.heard) h.programs.hears served_so in
        let pumped_so = sent_ends p.moment (open_in p.sent.channels) false (scene_of p.sent) (scene_of p.pumped) p.programs.pumps (by_pumped heard_so p.clients) in
        subst (λ (s : State). HasEnds (scene_of s)) (sym p.parts.rest) (record { within = pumped_so.within; enough = pumped_so.enough })
      where
        by_heard : HearsClientsIfMay round.hears.asked round.accepted round.hears.served → HasEnds (scene_of round.hears.served)
        by_heard (inl nobody) = subst (λ (s : State). HasEnds (scene_of s)) (sym nobody.2) accepted_ends
        by_heard (inr (inl want)) = subst (λ (s : State). HasEnds (scene_of s)) (sym want.1) (record { within = accepted_ends.within; enough = accepted_ends.enough })
        by_heard (inr (inr hears)) =
            let opened = ap (λ (c : Channels). c.opened) hears.serves.is in
            let in_all = ap (λ (c : Channels). c.in_all) hears.serves.is in
            let long = ap (λ (s : State). length s.ends) hears.rest in
            record { within = (let had = accepted_ends.within in omega (arith, opened, in_all, had)); enough = (let had = accepted_ends.enough in omega (arith, in_all, long, had)) }

        by_pumped : HasEnds (scene_of round.heard) → PumpsClientsIfMay round.pumps.moved round.heard round.pumps.sent → HasEnds (scene_of round.pumps.sent)
        by_pumped so (inl want) = subst (λ (s : State). HasEnds (scene_of s)) (sym want.1) (record { within = so.within; enough = so.enough })
        by_pumped so (inr pumps) = subst (λ (s : State). HasEnds (scene_of s)) (sym pumps.rest) (record { within = so.within; enough = so.enough })

    opened_now : OpenIn new
    opened_now = round_open told net net_now users users_now old new round k.opened

    long_now : length new.programs ≤ length new.ends
    long_now = (let many = opened_now.many in let has = all_have_ends in let within = has.within in let enough = has.enough in omega (arith, many, within, enough))

    -- the links of those that have ended
    are_ended : EndedShut new.programs new.ends
    are_ended =
        let p = round.pumps in
        let h = round.hears in
        let sooner = heard_beside h.asked round.accepted h.served h.clients in
        let later = pumped_beside p.moved round.heard p.sent p.clients in
        let accepted : EndedShut round.accepted.programs round.accepted.ends = (λ place link cause there slot. elim (asked_users.links_so place link there).1 [
          | inl was ↦
              k.ended place link cause (ap (λ (ls : List LinkTold). slice_get ls place) (sym came_beside.programs) ∙ was ∙ ap Some (sym (asked_users.links_so place link there).2))
              (ap (λ (es : List (Option ChannelEnd)). slice_get es place) (sym came_beside.ends ∙ sym entered_beside.ends) ∙ slot)
          | inr fresh ↦
              absurd (let none : Some cause ≡ None =
              k.ready.ends.none place (Some cause) (let long = ap (λ (ls : List LinkTold). length ls) came_beside.programs in omega (arith, fresh.0, long))
              (ap (λ (es : List (Option ChannelEnd)). slice_get es place) (sym came_beside.ends ∙ sym entered_beside.ends) ∙ slot) in cc none)
        ]) in
        let served_so : EndedShut h.served.programs h.served.ends =
        subst (λ (ls : List LinkTold). EndedShut ls h.served.ends) (sym sooner.programs) (subst (λ (es : List (Option ChannelEnd)). EndedShut round.accepted.programs es) (sym sooner.ends) accepted) in
        let heard_so = heard_shut h.moment (open_in h.served.channels) h.moved (scene_of h.served) (scene_of round.heard) h.programs.hears served_so in
        let sent_so : EndedShut p.sent.programs p.sent.ends =
        subst (λ (ls : List LinkTold). EndedShut ls p.sent.ends) (sym later.programs) (subst (λ (es : List (Option ChannelEnd)). EndedShut round.heard.programs es) (sym later.ends) heard_so) in
        let pumped_so = sent_shut p.moment (open_in p.sent.channels) false (scene_of p.sent) (scene_of p.pumped) p.programs.pumps sent_so in
        subst (λ (s : State). EndedShut s.programs s.ends) (sym p.parts.rest) pumped_so

    ended_so : {A : Type 0} (end : Option ChannelEnd) (cause : ChannelEnd) → end ≡ Some cause → end ≡ None → A
    ended_so end cause is none = absurd (let bad : Some cause ≡ None = sym is ∙ none in cc bad)

    programs_served : EachNow (IsNewProgram told) (ServesProgram Tells setting noted) old_programs (programs_of new.programs new.ends)
    programs_served = λ place program there. by place program (parts_of new.programs new.ends place program long_now there) program.end refl where
      by : (place : ℕ) (program : Program) → IsAt new.programs new.ends place program → (end : Option ChannelEnd) → program.end ≡ end → ProgramServed place program
      by place program at None none = subst (λ (e : Option ChannelEnd). ProgramServed place (program_of program.link e)) (sym none) (open_served_so place program.link at.link (at.end ∙ ap Some none))
      by place program at (Some cause) ended =
          let pumps = pumped_programs place program.link at.link in
          let hears = heard_programs place pumps.0 pumps.1 in
          let was = program_was place hears.0 (origin_of place hears.0 hears.1) in (
            program_of hears.0 was.0,
            was.1,
            record {
              goes_on = goes_both hears.0 pumps.0 program.link hears.2 pumps.2;
              still_open = ended_so program.end cause ended;
              read = ended_so program.end cause ended;
              sent = ended_so program.end cause ended;
              shut = λ some. are_ended place program.link cause at.link (at.end ∙ ap Some ended);
            },
          )

    -- ---- what was noted of what programs gave

    admits_now : TellGiven told → Admits (state_of new)
    admits_now tells = goes_keep told tells (state_of old) (state_of new) steps.0 (k.admits tells)

    each_admitted : TellGiven told → EachAdmitted noted (programs_of new.programs new.ends)
    each_admitted tells = λ place program there.
        let at = parts_of new.programs new.ends place program long_now there in
        let known = subst (λ (es : Option (List Event)). Knows (told_of es) new.channels (programs_with new.programs new.ends) false) now.kept (admits_now tells).1 in
        all_admitted noted new.programs new.ends new.channels false known place program.link program.end at.link at.end

    -- ---- the round

    pub served : ServesRound told old.may_run_out setting faults user_faults (standing net users events old) (standing net_now users_now noted new)
    served = record {
      clients_came = asked.came;
      clients_dropped = asked.gone;
      accepts = asked.accepts;
      clients_many = keeps.clients ∙ ap (λ (ls : List LinkTold). length ls) entered_beside.clients ∙ asked.many;
      connected = sym now.many ∙ came_by_journal run noted now.took new.core now.after;
      programs_came = asked_users.came;
      programs_dropped = asked_users.gone;
      enters = asked_users.accepts;
      programs_many = (let long = ap (λ (ls : List LinkTold). length ls) came_beside.programs in let many = asked_users.many in
          omega (arith, joined_length program_of None new.programs new.ends, joined_length program_of None old.programs old.ends, keeps.programs, many, long));
      dropped = (let first = asked.dropped_so in let second = asked_users.dropped_so in omega (arith, first, second, keeps.dropped));
      more = more;
      noted = refl;
      running = now.running tt;
      admits = each_admitted;
      still_wanted = true_then old.wanted new.wanted (λ none. (round_unwanted told net net_now users users_now old new round none).at_first);
      still_open = open_then;
      clients = clients_served;
      programs = programs_served;
    }

    pub stands_on : Stands faults user_faults net_now users_now noted new
    stands_on = record {
      keeps = record {
        holds = now;
        room = k.room;
        taken = taken_now;
        ready = steps.1;
        opened = opened_now;
        few = (let so = asked_users.dropped_so in omega (arith, so, keeps.dropped));
        shut = are_shut;
        ended = are_ended;
        has_ends = all_have_ends;
        admits = admits_now;
      };
      later = asked.later;
      user_later = asked_users.later;
      risen = λ failed. asked.risen (sym entered_beside.no_clients ∙ sym keeps.no_clients ∙ failed);
      user_risen = λ failed. asked_users.risen (sym keeps.no_programs ∙ failed);
    }
