-- A server goes on for its journal in a round, and in its closing.
use Rattle.std.proofs.Common.{◌≡◌, ◌≤◌, Bool, inl, inr, List, [], ◌++◌, length, replicate, refl, sym, ap, subst, arith, append_assoc}
use Rattle.std.proofs.lemmas.List.{length-replicate}
use Rattle.dl_bytes.specs.declared.moment.Moment.{Moment}
use Rattle.dl_desk.specs.Told.{ControlTold}
use Rattle.dl_events.specs.declared.event.Event.{Event}
use Rattle.dl_hub.specs.State.{Hub}
use Rattle.dl_loop.specs.Daemon.{TellTaken}
use Rattle.dl_loop.proofs.Visited.{PumpsAreEvents, heard_runs, pumped_runs}
use Rattle.dl_outside.specs.Told.{LinkTold, NetTold}
use Rattle.dl_rounds.specs.Clients.{Clients, VisitsAll}
use Rattle.dl_rounds.specs.Passing.{AreLater}
use Rattle.dl_rounds.specs.Ready.{fresh_listener}
use Rattle.dl_rounds.specs.Visits.{ClosesAll, HearsAll, Pumped}
use Rattle.dl_rounds.specs.declared.listener.Listener.{Listener}
use Rattle.dl_admission.proofs.StandingClients.{as_many}
use Rattle.dl_server.specs.Closing.{ClosesClients, ClosesPrograms, IsClosed, closing_scene}
use Rattle.dl_server.specs.Holds.{GoesOn, GoesOnUntilClosed, Holds}
use Rattle.dl_server.specs.Round.{AcceptsAll, Hears, IsRound, Pumps}
use Rattle.dl_server.specs.State.{State, clients_of, scene_of, with_want}
use Rattle.dl_server.specs.Steps.{HearsClients, HearsClientsIfMay, HearsPrograms, PumpsClients, PumpsClientsIfMay, PumpsPrograms}
use Rattle.dl_server.proofs.HeldAccepts.{client_on, parts_on, program_on}
use Rattle.dl_server.proofs.HeldStates.{all_heard_on, all_sent_on, all_stopped_on, goes_aside, goes_both, goes_clients, goes_later, goes_out, goes_same}
use Rattle.dl_server.proofs.ReadyListeners.{Keeps}
use Rattle.dl_server.proofs.VisitedScenes.{all_heard, all_sent, all_stopped}

-- as many clients came where they stay
many_stay : (old new : Hub) → Keeps old new → length new.clients ≡ length old.clients
many_stay old new keeps = as_many keeps.0 old new keeps.1

-- what a pump does not see
pub no_desk : ControlTold
no_desk = record { apps = 0; first = 0; sets = []; pushed = λ app. []; refusals = λ app. 0 }

module _ (Tell Held : Type 0) where
  want_on : (old new : State) → new ≡ with_want old → GoesOn Tell Held old new
  want_on old new want = goes_aside Tell Held old new (ap (λ (s : State). s.core) want) (ap (λ (s : State). s.events) want) (ap (λ (s : State). s.folder) want) (ap (λ (s : State). s.clients) want)

  heard_programs : (moment : Moment) (moved : Bool) (old new : State) → HearsPrograms moment moved old new → GoesOn Tell Held old new
  heard_programs moment moved old new hears = λ run events holds.
      goes_later Tell Held old new (all_heard_on moment moved (scene_of old) (scene_of new) hears.hears holds.settled) (ap (λ (s : State). s.clients) hears.rest)
      (many_stay old.core.hub new.core.hub (all_heard moment moved (scene_of old) (scene_of new) hears.hears).clients) run events holds

  pumped_programs : (moment : Moment) (old new : State) → PumpsPrograms moment old new → GoesOn Tell Held old new
  pumped_programs moment old new pumps = λ run events holds.
      goes_later Tell Held old new (all_sent_on moment (scene_of old) (scene_of new) pumps.pumps holds.settled) (ap (λ (s : State). s.clients) pumps.rest)
      (many_stay old.core.hub new.core.hub (all_sent moment (scene_of old) (scene_of new) pumps.pumps).clients) run events holds

  closed_programs : (moment : Moment) (old new : State) → ClosesPrograms moment old new → GoesOn Tell Held old new
  closed_programs moment old new closes = λ run events holds.
      goes_later Tell Held old new (all_stopped_on moment (closing_scene old) (closing_scene new) closes.stops holds.settled) (ap (λ (s : State). s.clients) closes.rest)
      (many_stay old.core.hub new.core.hub (all_stopped moment (closing_scene old) (closing_scene new) closes.stops).clients) run events holds

  module _ (heard : (moved : Bool) (old new : Clients) → HearsAll moved old new → AreLater old new) where
    heard_clients : (moved : Bool) (old new : State) → HearsClients moved old new → GoesOn Tell Held old new
    heard_clients moved old new hears =
        let serves = hears.serves in
        let was = clients_of old serves.desk in
        let now = clients_of new serves.desk_now in
        goes_clients Tell Held old new was now refl refl refl refl refl refl refl refl (heard moved was now serves.visits) (heard_runs moved was now serves.visits) hears.settled hears.many

    heard_clients_if : (moved : Bool) (old new : State) → HearsClientsIfMay moved old new → GoesOn Tell Held old new
    heard_clients_if moved old new (inl nobody) = goes_same Tell Held old new nobody.2
    heard_clients_if moved old new (inr (inl want)) = want_on old new want.1
    heard_clients_if moved old new (inr (inr hears)) = heard_clients moved old new hears

    pub all_hear : (old new : State) → Hears old new → GoesOn Tell Held old new
    all_hear old new hears =
        goes_both Tell Held old hears.served new (heard_clients_if hears.asked old hears.served hears.clients) (heard_programs hears.moment hears.moved hears.served new hears.programs)

  module _ (pumped : (moved : Bool) (old new : Clients) → VisitsAll Pumped moved old new → AreLater old new) (pump : PumpsAreEvents) where
    pumped_clients : (moved : Bool) (old new : State) → PumpsClients moved old new → GoesOn Tell Held old new
    pumped_clients moved old new pumps =
        let listeners : List Listener = replicate (length old.clients) fresh_listener in
        let enough : length old.clients ≤ length listeners = omega (arith, length-replicate (length old.clients) fresh_listener) in
        let visits = pumps.pumps no_desk old.folder listeners enough in
        goes_clients Tell Held old new _ _ refl refl refl refl refl refl (sym (ap (λ (s : State). s.folder) pumps.rest)) refl (pumped moved _ _ visits) (pumped_runs pump moved _ _ visits)
        pumps.settled pumps.many

    pumped_clients_if : (moved : Bool) (old new : State) → PumpsClientsIfMay moved old new → GoesOn Tell Held old new
    pumped_clients_if moved old new (inl want) = want_on old new want.1
    pumped_clients_if moved old new (inr pumps) = pumped_clients moved old new pumps

    pub all_pump : (old new : State) → Pumps old new → GoesOn Tell Held old new
    all_pump old new pumps =
        goes_both Tell Held old pumps.sent new (pumped_clients_if pumps.moved old pumps.sent pumps.clients)
        (goes_both Tell Held pumps.sent pumps.pumped new (pumped_programs pumps.moment pumps.sent pumps.pumped pumps.programs) (parts_on Tell Held pumps.pumped new pumps.parts))

  module _ {Tells : Type 0} (closed : (old new : Clients) → ClosesAll Tells old new → AreLater old new) where
    closed_clients : (old new : State) → ClosesClients Tells old new → GoesOnUntilClosed Tell Held old new
    closed_clients old new closes =
        let serves = closes.serves in
        let was = clients_of old serves.desk in
        let now = clients_of new serves.desk_now in
        goes_out Tell Held old new was now refl refl refl refl refl refl refl refl (closed was now serves.visits) closes.settled closes.many

    pub all_close : (moment : Moment) (old new : State) → IsClosed Tells moment old new → GoesOnUntilClosed Tell Held old new
    all_close moment old new closes = λ run events holds.
        let first = closed_programs moment old closes.between closes.programs run events holds in
        let second = closed_clients closes.between new closes.clients run (events ++ first.0) first.1 in
        (first.0 ++ second.0, subst (λ (es : List Event). Holds Tell Held ⊥ run es new) (append_assoc events first.0 second.0) second.1)

module _ {L : Type 0} (told : L → LinkTold) (Held : Type 0) (heard : (moved : Bool) (old new : Clients) → HearsAll moved old new → AreLater old new)
    (pumped : (moved : Bool) (old new : Clients) → VisitsAll Pumped moved old new → AreLater old new) (pump : PumpsAreEvents) where
  all_accept : (net net_now users users_now : NetTold L) (old new : State) → AcceptsAll told net net_now users users_now old new → GoesOn (TellTaken told) Held old new
  all_accept net net_now users users_now old new accepts =
      goes_both (TellTaken told) Held old accepts.accepted new (client_on told Held accepts.came net net_now old accepts.accepted accepts.accepts)
      (program_on told Held accepts.entered users users_now accepts.accepted new accepts.enters)

  pub round_on : (net net_now users users_now : NetTold L) (old new : State) → IsRound told net net_now users users_now old new → GoesOn (TellTaken told) Held old new
  round_on net net_now users users_now old new round =
      goes_both (TellTaken told) Held old round.accepted new (all_accept net net_now users users_now old round.accepted round.accepts)
      (goes_both (TellTaken told) Held round.accepted round.heard new (all_hear (TellTaken told) Held heard round.accepted round.heard round.hears)
      (all_pump (TellTaken told) Held pumped pump round.heard new round.pumps))
