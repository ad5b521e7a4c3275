-- A server goes on for its journal in each step of a round.
use Rattle.std.proofs.Common.{◌≡◌, ◌+◌, ℕ, Bool, true, false, List, [], ◌∷◌, ◌++◌, Option, Some, None, length, sym, ap, subst, ◌∙◌, append_assoc, append-nil}
use Rattle.std.specs.Prelude.{IfSome}
use Rattle.dl_admission.proofs.Admitted.{running_both}
use Rattle.dl_bytes.specs.declared.moment.Moment.{Moment}
use Rattle.dl_channel.specs.declared.outcome.ChannelEnd.{ChannelEnd}
use Rattle.dl_channel_turns.specs.State as sides
use Rattle.dl_core.specs.Admission.{AddsEach}
use Rattle.dl_core.specs.Follows.{HoldsTrace, IsAfter, source_of}
use Rattle.dl_core.specs.State.{Core}
use Rattle.dl_events.specs.declared.event.Event.{Event}
use Rattle.dl_loop.specs.Holds.{AreTaken}
use Rattle.dl_model.specs.Journal.{IsRunning}
use Rattle.dl_outside.specs.Told.{FolderTold, LinkTold}
use Rattle.dl_model.proofs.LongerJournals.{goes_on}
use Rattle.dl_registry.specs.Kept.{owed_change}
use Rattle.dl_rounds.specs.Clients.{Clients}
use Rattle.dl_rounds.specs.Passing.{AreLater, took_all}
use Rattle.dl_channels.specs.Rounds.{Heard, HearsAll, PumpsAll, Scene, Sent, Stopped, StopsAll, VisitsEach, Visited, seen_by}
use Rattle.dl_socket.specs.Channels.{Channels, open_in}
use Rattle.dl_socket.specs.Turns.{ChannelView}
use Rattle.dl_server.specs.Holds.{GoesOn, GoesOnUntilClosed, Holds}
use Rattle.dl_server.specs.State.{State}
use Rattle.dl_server.proofs.LaterChannels.{IsOn, ends_on, hears_on, on_both, on_same, pumps_on}
use Rattle.dl_loop.proofs.LaterDaemons.{taken_later}

module _ (Tell Held : Type 0) where
  pub goes_none : (s : State) → GoesOn Tell Held s s
  goes_none s = λ run events holds. ([], subst (λ (es : List Event). Holds Tell Held (Unit {0}) run es s) (sym (append-nil events)) holds)

  pub goes_same : (old new : State) → new ≡ old → GoesOn Tell Held old new
  goes_same old new same = subst (GoesOn Tell Held old) (sym same) (goes_none old)

  pub goes_both : (old between new : State) → GoesOn Tell Held old between → GoesOn Tell Held between new → GoesOn Tell Held old new
  goes_both old between new first second = λ run events holds.
      let one = first run events holds in
      let two = second run (events ++ one.0) one.1 in
      (one.0 ++ two.0, subst (λ (es : List Event). Holds Tell Held (Unit {0}) run es new) (append_assoc events one.0 two.0) two.1)

  -- nothing has changed but what no journal tells
  pub goes_aside : (old new : State) → new.core ≡ old.core → new.events ≡ old.events → new.folder ≡ old.folder → new.clients ≡ old.clients → GoesOn Tell Held old new
  goes_aside old new core events folder clients = λ run all holds. (
    [],
    subst (λ (es : List Event). Holds Tell Held (Unit {0}) run es new) (sym (append-nil all)) (record {
      kept = events ∙ holds.kept;
      took = holds.took;
      after = subst (IsAfter run all holds.took) (sym core) holds.after;
      taken = λ tells. subst (λ (ls : List LinkTold). AreTaken ls holds.took) (sym clients) (holds.taken tells);
      many = ap (λ (c : Core). length c.hub.clients) core ∙ holds.many ∙ ap (λ (ls : List LinkTold). length ls) (sym clients);
      settled = ap (λ (c : Core). owed_change c.registry) core ∙ holds.settled;
      running = holds.running;
      formed = holds.formed;
      trace = λ held. subst (λ (f : FolderTold). HoldsTrace run all new.core f) (sym folder) (subst (λ (c : Core). HoldsTrace run all c old.folder) (sym core) (holds.trace held));
    }),
  )

  -- ---- channels

  pub goes_later : (old new : State) → IsOn (sides.side old.core old.channels.outboxes old.events old.folder) (sides.side new.core new.channels.outboxes new.events new.folder)
      → new.clients ≡ old.clients → length new.core.hub.clients ≡ length old.core.hub.clients → GoesOn Tell Held old new
  goes_later old new on clients many = λ run events holds.
      let later = on.0 in
      let after = later.after run events holds.took tt holds.after in (
        later.more,
        record {
          kept = subst (λ (o : Option (List Event)). AddsEach o new.events later.more) holds.kept later.events;
          took = holds.took;
          after = after.0;
          taken = λ tells. subst (λ (ls : List LinkTold). AreTaken ls holds.took) (sym clients) (holds.taken tells);
          many = many ∙ holds.many ∙ ap (λ (ls : List LinkTold). length ls) (sym clients);
          settled = on.1;
          running = λ so. running_both events later.more (holds.running tt) later.running;
          formed = later.formed run events holds.took holds.after (holds.running tt) holds.formed;
          trace = λ held. after.1 (holds.trace held);
        },
      )

-- what visits to channels see of a scene
abbrev pub side_in : Scene → sides.Side
side_in s = sides.side s.part.core s.channels.outboxes s.part.events s.part.folder

module _ (Visit : ℕ → Bool → List (Option ChannelEnd) → List (Option ChannelEnd) → ChannelView → ChannelView → Channels → Channels → Type 0)
    (one : (channel : ℕ) (moved : Bool) (old new : Scene) → Visited Visit channel moved old new → owed_change old.part.core.registry ≡ None → IsOn (side_in old) (side_in new)) where
  each_on : (channels : List ℕ) (moved : Bool) (old new : Scene) → VisitsEach Visit channels moved old new → owed_change old.part.core.registry ≡ None → IsOn (side_in old) (side_in new)
  each_on [] moved old new visits settled = on_same (side_in old) (side_in new) (ap side_in visits.1) settled
  each_on (number ∷ others) moved old new visits settled =
      let first = one number visits.1 old visits.0 visits.4 settled in
      on_both (side_in old) (side_in visits.0) (side_in new) first (each_on others visits.2 visits.0 new visits.5 first.1)

heard_on : (moment : Moment) (channel : ℕ) (moved : Bool) (old new : Scene) → Visited (Heard moment) channel moved old new → owed_change old.part.core.registry ≡ None → IsOn (side_in old) (side_in new)
heard_on moment channel moved old new visited settled =
    let visit = visited.visit in
    hears_on channel moment visit.end visit.end_now (seen_by visited.link old.part) (seen_by visited.link_now new.part) old.channels new.channels visit.hears settled

sent_on : (moment : Moment) (channel : ℕ) (moved : Bool) (old new : Scene) → Visited (Sent moment) channel moved old new → owed_change old.part.core.registry ≡ None → IsOn (side_in old) (side_in new)
sent_on moment channel moved old new visited settled =
    let visit = visited.visit in
    pumps_on channel moment visit.end visit.end_now (seen_by visited.link old.part) (seen_by visited.link_now new.part) old.channels new.channels visit.pumps settled

stopped_on : (moment : Moment) (closed : Bool) (channel : ℕ) (moved : Bool) (old new : Scene) → Visited (Stopped moment closed) channel moved old new → owed_change old.part.core.registry ≡ None
    → IsOn (side_in old) (side_in new)
stopped_on moment closed channel moved old new visited settled =
    ends_on channel moment closed (seen_by visited.link old.part) (seen_by visited.link_now new.part) old.channels new.channels visited.visit.stops settled

pub all_heard_on : (moment : Moment) (moved : Bool) (old new : Scene) → HearsAll moment moved old new → owed_change old.part.core.registry ≡ None → IsOn (side_in old) (side_in new)
all_heard_on moment moved old new hears settled = each_on (Heard moment) (heard_on moment) (open_in old.channels) moved old new hears settled

pub all_sent_on : (moment : Moment) (old new : Scene) → PumpsAll moment old new → owed_change old.part.core.registry ≡ None → IsOn (side_in old) (side_in new)
all_sent_on moment old new pumps settled = each_on (Sent moment) (sent_on moment) (open_in old.channels) false old new pumps settled

pub all_stopped_on : (moment : Moment) (old new : Scene) → StopsAll moment old new → owed_change old.part.core.registry ≡ None → IsOn (side_in old) (side_in new)
all_stopped_on moment old new stops settled = each_on (Stopped moment true) (stopped_on moment true) (open_in old.channels) false old new stops.0 settled

-- ---- clients

running_so : (o : Option (List Event)) (events : List Event) → o ≡ Some events → IfSome o IsRunning → IsRunning events
running_so None events is running = absurd cc
running_so (Some all) events is running = let same : all ≡ events = cc is in subst IsRunning same running

module _ (Tell Held : Type 0) where
  -- a round over the clients, in which none was closed as at a stop
  pub goes_clients : (old new : State) (was now : Clients) → was.side.core ≡ old.core → was.side.events ≡ old.events → was.side.folder ≡ old.folder → was.links ≡ old.clients
      → now.side.core ≡ new.core → now.side.events ≡ new.events → now.side.folder ≡ new.folder → now.links ≡ new.clients → AreLater was now
      → (IfSome was.side.events IsRunning → IfSome now.side.events IsRunning) → owed_change new.core.registry ≡ None → length new.core.hub.clients ≡ length new.clients → GoesOn Tell Held old new
  goes_clients old new was now core events folder clients core_now events_now folder_now clients_now later runs settled many = λ run all holds.
      let was_after : IsAfter run all holds.took was.side.core = subst (IsAfter run all holds.took) (sym core) holds.after in
      let after = later.after run all holds.took was_after in
      let kept : now.side.events ≡ Some (all ++ later.more) = subst (λ (o : Option (List Event)). AddsEach o now.side.events later.more) (events ∙ holds.kept) later.events in
      let was_running : IfSome was.side.events IsRunning = subst (λ (o : Option (List Event)). IfSome o IsRunning) (sym (events ∙ holds.kept)) (holds.running tt) in (
        later.more,
        record {
          kept = sym events_now ∙ kept;
          took = took_all holds.took later.sent;
          after = subst (IsAfter run (all ++ later.more) (took_all holds.took later.sent)) core_now after.0;
          taken = λ tells. subst (λ (ls : List LinkTold). AreTaken ls (took_all holds.took later.sent)) clients_now
              (taken_later was now holds.took later (subst (λ (ls : List LinkTold). AreTaken ls holds.took) (sym clients) (holds.taken tells)));
          many = many;
          settled = settled;
          running = λ so. running_so now.side.events (all ++ later.more) kept (runs was_running);
          formed = goes_on run.setting (source_of run) all later.more holds.formed (later.formed run all holds.took was_after);
          trace = λ held. subst (λ (f : FolderTold). HoldsTrace run (all ++ later.more) new.core f) folder_now (subst (λ (c : Core). HoldsTrace run (all ++ later.more) c now.side.folder) core_now
              (after.1 (subst (λ (f : FolderTold). HoldsTrace run all was.side.core f) (sym folder) (subst (λ (c : Core). HoldsTrace run all c old.folder) (sym core) (holds.trace held)))));
        },
      )

  -- the closing of the clients
  pub goes_out : (old new : State) (was now : Clients) → was.side.core ≡ old.core → was.side.events ≡ old.events → was.side.folder ≡ old.folder → was.links ≡ old.clients
      → now.side.core ≡ new.core → now.side.events ≡ new.events → now.side.folder ≡ new.folder → now.links ≡ new.clients → AreLater was now
      → owed_change new.core.registry ≡ None → length new.core.hub.clients ≡ length new.clients → GoesOnUntilClosed Tell Held old new
  goes_out old new was now core events folder clients core_now events_now folder_now clients_now later settled many = λ run all holds.
      let was_after : IsAfter run all holds.took was.side.core = subst (IsAfter run all holds.took) (sym core) holds.after in
      let after = later.after run all holds.took was_after in
      let kept : now.side.events ≡ Some (all ++ later.more) = subst (λ (o : Option (List Event)). AddsEach o now.side.events later.more) (events ∙ holds.kept) later.events in (
        later.more,
        record {
          kept = sym events_now ∙ kept;
          took = took_all holds.took later.sent;
          after = subst (IsAfter run (all ++ later.more) (took_all holds.took later.sent)) core_now after.0;
          taken = λ tells. subst (λ (ls : List LinkTold). AreTaken ls (took_all holds.took later.sent)) clients_now
              (taken_later was now holds.took later (subst (λ (ls : List LinkTold). AreTaken ls holds.took) (sym clients) (holds.taken tells)));
          many = many;
          settled = settled;
          running = λ so. absurd so;
          formed = goes_on run.setting (source_of run) all later.more holds.formed (later.formed run all holds.took was_after);
          trace = λ held. subst (λ (f : FolderTold). HoldsTrace run (all ++ later.more) new.core f) folder_now (subst (λ (c : Core). HoldsTrace run (all ++ later.more) c now.side.folder) core_now
              (after.1 (subst (λ (f : FolderTold). HoldsTrace run all was.side.core f) (sym folder) (subst (λ (c : Core). HoldsTrace run all c old.folder) (sym core) (holds.trace held)))));
        },
      )
