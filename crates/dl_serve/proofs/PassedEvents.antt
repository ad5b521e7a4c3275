-- What visits to channels are to the clients: messages and levels, and Closes of the clients that are too slow for a message.
use Rattle.std.proofs.Common.{◌≡◌, ℕ, Bool, true, false, inl, inr, List, [], ◌∷◌, ◌++◌, map, Option, Some, None, refl, sym, ap, subst}
use Rattle.std.specs.List.{AllByRecursion}
use Rattle.dl_admission.specs.Admission.{KeepsClients}
use Rattle.dl_admission.specs.Part.{Part, part}
use Rattle.dl_admission.specs.Slow.{Slow, TellRooms, slow_close}
use Rattle.dl_admission.proofs.Added.{adds_both, adds_each_both, adds_each_none, adds_none}
use Rattle.dl_admission.proofs.KeptClients.{clients_both, clients_none, clients_noted}
use Rattle.dl_admission.proofs.Rooms.{rooms_both}
use Rattle.dl_admission.proofs.Told.{all_of_messages}
use Rattle.dl_bytes.specs.declared.moment.Moment.{Moment}
use Rattle.dl_bytes.specs.declared.user.UserMsg.{UserMsg}
use Rattle.dl_bytes.specs.declared.user.UserMsg.TheVariants.{UnregisterApp}
use Rattle.dl_channel.specs.declared.outcome.ChannelEnd.{ChannelEnd}
use Rattle.dl_channel_turns.specs.Levels.{TellsLevel, TellsLevels}
use Rattle.dl_channel_turns.specs.Messages.{Alone, Group, Notes, Serves, ServesGroup, Together}
use Rattle.dl_channel_turns.specs.State.{Side, Stage, part_of}
use Rattle.dl_channel_turns.specs.Turns.{Heeds, IsTurn, ServesEach}
use Rattle.dl_core.specs.Admission.{AddsEach, has_frames}
use Rattle.dl_core.specs.Follows.{Adds, IsAfter, Run}
use Rattle.dl_core.specs.State.{Core}
use Rattle.dl_events.specs.declared.event.Event.{Event}
use Rattle.dl_events.specs.declared.event.Event.TheVariants as event
use Rattle.dl_events.specs.declared.event.Why.TheVariants as why
use Rattle.dl_hub.specs.State.{Hub}
use Rattle.dl_model.specs.declared.registry.LevelChange.{LevelChange}
use Rattle.dl_outside.specs.Told.{FolderTold}
use Rattle.dl_outside.specs.declared.link.Gave.{Gave}
use Rattle.dl_outside.specs.declared.link.Gave.TheVariants as gave
use Rattle.dl_channels.specs.Rounds.{Heard, HearsAll, PumpsAll, Scene, Sent, Stopped, StopsAll, VisitsEach, Visited, seen_by}
use Rattle.dl_channels.specs.Visits.{Ends, EndsFor, Hears, Pumps, side_of}
use Rattle.dl_socket.specs.Channels.{Channels, open_in}
use Rattle.dl_socket.specs.Closing.{UnregistersEach}
use Rattle.dl_socket.specs.Turns.{ChannelView}
use Rattle.dl_user.specs.Channel as cutter
use Rattle.dl_lemmas.proofs.Lists.{all_both}

-- an event of programs: a message, a level, or the Close of a client that was too slow for a message
abbrev pub IsOfPrograms : Event → Type 0
IsOfPrograms (event.User channel msg moment) = Unit {0}
IsOfPrograms (event.Level slot level) = Unit {0}
IsOfPrograms (event.Close client (why.Slow room need)) = Unit {0}
IsOfPrograms other = ⊥

-- Such events were noted. The core stands for the journal with them, each Close tells the very room that there was, and clients stay but those that
-- were closed.
pub record Passes (old new : Part) : Type 0 where
  pub more : List Event
  pub events : AddsEach old.events new.events more
  pub kinds : AllByRecursion IsOfPrograms more
  pub after : Adds more (λ run. Unit {0}) old.core new.core old.folder new.folder
  pub rooms : (run : Run) (past : List Event) (taken : ℕ → List ℕ) → IsAfter run past taken old.core → TellRooms run taken past more
  pub clients : KeepsClients more old.core.hub new.core.hub

passes_none : (p : Part) → Passes p p
passes_none p = record {
  more = [];
  events = adds_each_none p.events;
  kinds = tt;
  after = adds_none p.core p.folder;
  rooms = λ run past taken is. tt;
  clients = clients_none p.core.hub;
}

passes_same : (old new : Part) → new ≡ old → Passes old new
passes_same old new same = subst (Passes old) (sym same) (passes_none old)

passes_both : (old between new : Part) → Passes old between → Passes between new → Passes old new
passes_both old between new first second = record {
  more = first.more ++ second.more;
  events = adds_each_both old.events between.events new.events first.more second.more first.events second.events;
  kinds = all_both IsOfPrograms first.more second.more first.kinds second.kinds;
  after = λ run past taken gives is.
      adds_both first.more second.more (λ run. Unit {0}) (λ run. Unit {0}) old.core between.core new.core old.folder between.folder new.folder first.after second.after run past taken (tt, tt) is;
  rooms = λ run past taken is.
      rooms_both run taken past first.more second.more (first.rooms run past taken is) (second.rooms run (past ++ first.more) taken (first.after run past taken tt is).0);
  clients = clients_both first.more second.more old.core.hub between.core.hub new.core.hub first.clients second.clients;
}

-- ---- messages

level_clients : (slot level : ℕ) (old new : Hub) → new ≡ old → KeepsClients (event.Level slot level ∷ []) old new
level_clients slot level old new same = subst (KeepsClients (event.Level slot level ∷ []) old) (sym same)
    (clients_noted (event.Level slot level) old old (λ client. refl) (record { ecu = refl; buffer = refl; limit = refl }) refl refl)

level_passes : (next : LevelChange) (old new : Side) → TellsLevel next old new → Passes (part_of old) (part_of new)
level_passes next old new one = record {
  more = event.Level next.slot next.level ∷ [];
  events = one.events;
  kinds = (tt, tt);
  after = subst (λ (f : FolderTold). Adds (event.Level next.slot next.level ∷ []) (λ run. Unit {0}) old.core new.core old.folder f) (sym one.folder) (one.after old.folder);
  rooms = λ run past taken is. (tt, tt);
  clients = level_clients next.slot next.level old.core.hub new.core.hub (ap (λ (c : Core). c.hub) one.core);
}

levels_pass : (changes : List LevelChange) (old new : Side) → TellsLevels changes old new → Passes (part_of old) (part_of new)
levels_pass [] old new levels = passes_same (part_of old) (part_of new) (ap part_of levels.0)
levels_pass (next ∷ others) old new levels =
    passes_both (part_of old) (part_of levels.0) (part_of new) (level_passes next old levels.0 levels.1) (levels_pass others levels.0 new levels.2)

closes_pass : (need : ℕ) (slows : List Slow) → AllByRecursion IsOfPrograms (map (slow_close need) slows)
closes_pass need [] = tt
closes_pass need (slow ∷ slows) = (tt, closes_pass need slows)

module _ (channel : ℕ) (moment : Moment) where
  notes_pass : (msg : UserMsg) (old new : Side) → Notes channel moment msg old new → Passes (part_of old) (part_of new)
  notes_pass msg old new notes = record {
    more = event.User channel msg moment ∷ [];
    events = notes.notes.event;
    kinds = (tt, tt);
    after = notes.notes.after;
    rooms = λ run past taken is. (tt, tt);
    clients = clients_noted (event.User channel msg moment) old.core.hub new.core.hub (λ client. refl) notes.notes.same notes.notes.replies notes.notes.still_open;
  }

  one_passes : (msg : UserMsg) (b : Bool) (old new : Side) → Serves b channel moment msg old new → Passes (part_of old) (part_of new)
  one_passes msg true old new serves =
      let forwards = serves.0 in
      let noted = forwards.noted in
      let user : Event = event.User channel msg moment in record {
        more = forwards.more;
        events = forwards.events;
        kinds = subst (AllByRecursion IsOfPrograms) (sym noted.2)
            (all_both IsOfPrograms (map (slow_close _) noted.0) (user ∷ noted.1) (closes_pass _ noted.0) (tt, subst (AllByRecursion IsOfPrograms) (sym noted.5) tt));
        after = forwards.after;
        rooms = λ run past taken is. forwards.rooms run past taken tt is;
        clients = forwards.clients;
      }
  one_passes msg false old new serves =
      passes_both (part_of old) (part_of serves.0) (part_of new) (notes_pass msg old serves.0 serves.1) (levels_pass serves.2.0 serves.0 new serves.2.1)

  group_passes : (group : Group) (old new : Side) → ServesGroup channel moment group old new → Passes (part_of old) (part_of new)
  group_passes (Together msgs) old new serves =
      let forwards = serves.1 in record {
        more = forwards.more;
        events = forwards.events;
        kinds = all_of_messages old.core.ecu moment channel IsOfPrograms msgs forwards.more (λ need slow. tt) (λ msg. tt) forwards.noted;
        after = forwards.after;
        rooms = λ run past taken is. forwards.rooms run past taken tt is;
        clients = forwards.clients;
      }
  group_passes (Alone msg) old new serves = one_passes msg (has_frames msg) old new serves

  each_passes : (groups : List Group) (old new : Side) → ServesEach channel moment groups old new → Passes (part_of old) (part_of new)
  each_passes [] old new serves = passes_same (part_of old) (part_of new) (ap part_of serves)
  each_passes (group ∷ groups) old new serves =
      passes_both (part_of old) (part_of serves.0) (part_of new) (group_passes group old serves.0 serves.1) (each_passes groups serves.0 new serves.2)

  heeds_pass : (answer : Gave) (into : List ℕ) (end : Option ChannelEnd) (inbox inbox_now : cutter.Channel) (old new : Side) → Heeds channel moment answer into end inbox inbox_now old new
      → Passes (part_of old) (part_of new)
  heeds_pass (gave.Bytes count) into end inbox inbox_now old new heeds = each_passes heeds.groups old new heeds.serves
  heeds_pass gave.NotYet into end inbox inbox_now old new heeds = passes_same (part_of old) (part_of new) (ap part_of heeds.2)
  heeds_pass gave.End into end inbox inbox_now old new heeds = passes_same (part_of old) (part_of new) (ap part_of heeds.2)
  heeds_pass gave.Failed into end inbox inbox_now old new heeds = passes_same (part_of old) (part_of new) (ap part_of heeds.2)

  turn_passes : (end : Option ChannelEnd) (old new : Stage) → IsTurn channel moment end old new → Passes (part_of old.side) (part_of new.side)
  turn_passes end old new turn = heeds_pass turn.answer turn.into end old.inbox new.inbox old.side new.side turn.heeds

  -- ---- the end of a channel

  unregisters_pass : (apids : List (List ℕ)) (old new : Side) → UnregistersEach channel moment apids old new → Passes (part_of old) (part_of new)
  unregisters_pass [] old new each = passes_same (part_of old) (part_of new) (ap part_of each)
  unregisters_pass (apid ∷ apids) old new each =
      passes_both (part_of old) (part_of each.1) (part_of new) (one_passes (UnregisterApp apid 0) false old each.1 each.2) (unregisters_pass apids each.1 new each.3)

-- what a visit to a channel sees but its link
abbrev pub part_in : ChannelView → Part
part_in s = part s.core s.events s.folder

module _ (channel : ℕ) (moment : Moment) where
  ends_pass : (closed : Bool) (before after : ChannelView) (old new : Channels) → Ends channel moment closed before after old new → Passes (part_in before) (part_in after)
  ends_pass true before after old new ends =
      let all = ends.closes.unregistered in
      unregisters_pass channel moment all.0 (side_of before old) (record (side_of after new) { outboxes = ends.closes.outboxes }) all.1
  ends_pass false before after old new ends = let all = ends.closes.unregistered in unregisters_pass channel moment all.0 (side_of before old) (side_of after new) all.1

  ends_for_pass : (end : Option ChannelEnd) (before after : ChannelView) (old new : Channels) → EndsFor end channel moment before after old new → Passes (part_in before) (part_in after)
  ends_for_pass None before after old new same = passes_same (part_in before) (part_in after) (ap part_in same.0)
  ends_for_pass (Some cause) before after old new ends = ends_pass ends.0 before after old new ends.1

  -- ---- visits

  pub hears_pass : (end end_now : Option ChannelEnd) (before after : ChannelView) (old new : Channels) → Hears channel moment end end_now before after old new → Passes (part_in before) (part_in after)
  hears_pass None end_now before after old new hears = elim hears [
    | inl turned ↦
        passes_both (part_in before) (part_in turned.0) (part_in after) (turn_passes channel moment end_now _ _ turned.2.turn) (ends_for_pass end_now turned.0 after turned.1 new turned.3)
    | inr full ↦ passes_same (part_in before) (part_in after) (ap part_in full.2)
  ]
  hears_pass (Some cause) end_now before after old new hears = ends_pass hears.1 before after old new hears.2

  pub pumps_pass : (end end_now : Option ChannelEnd) (before after : ChannelView) (old new : Channels) → Pumps channel moment end end_now before after old new → Passes (part_in before) (part_in after)
  pumps_pass None end_now before after old new pumps =
      passes_both (part_in before) (part_in pumps.0) (part_in after) (passes_same (part_in before) (part_in pumps.0) (ap part_in pumps.3)) (ends_for_pass end_now pumps.0 after pumps.1 new pumps.4)
  pumps_pass (Some cause) end_now before after old new pumps = passes_same (part_in before) (part_in after) (ap part_in pumps.1)

-- ---- all channels

-- what visits to channels see of a scene
abbrev pub part_at : Scene → Part
part_at s = part s.part.core s.part.events s.part.folder

module _ (Visit : ℕ → Bool → List (Option ChannelEnd) → List (Option ChannelEnd) → ChannelView → ChannelView → Channels → Channels → Type 0)
    (one : (channel : ℕ) (moved : Bool) (old new : Scene) → Visited Visit channel moved old new → Passes (part_at old) (part_at new)) where
  all_pass : (channels : List ℕ) (moved : Bool) (old new : Scene) → VisitsEach Visit channels moved old new → Passes (part_at old) (part_at new)
  all_pass [] moved old new visits = passes_same (part_at old) (part_at new) (ap part_at visits.1)
  all_pass (number ∷ others) moved old new visits =
      passes_both (part_at old) (part_at visits.0) (part_at new) (one number visits.1 old visits.0 visits.4) (all_pass others visits.2 visits.0 new visits.5)

module _ (moment : Moment) where
  heard_pass : (channel : ℕ) (moved : Bool) (old new : Scene) → Visited (Heard moment) channel moved old new → Passes (part_at old) (part_at new)
  heard_pass channel moved old new visited =
      let v = visited.visit in
      hears_pass channel moment v.end v.end_now (seen_by visited.link old.part) (seen_by visited.link_now new.part) old.channels new.channels v.hears

  sent_pass : (channel : ℕ) (moved : Bool) (old new : Scene) → Visited (Sent moment) channel moved old new → Passes (part_at old) (part_at new)
  sent_pass channel moved old new visited =
      let v = visited.visit in
      pumps_pass channel moment v.end v.end_now (seen_by visited.link old.part) (seen_by visited.link_now new.part) old.channels new.channels v.pumps

  stopped_pass : (channel : ℕ) (moved : Bool) (old new : Scene) → Visited (Stopped moment true) channel moved old new → Passes (part_at old) (part_at new)
  stopped_pass channel moved old new visited =
      ends_pass channel moment true (seen_by visited.link old.part) (seen_by visited.link_now new.part) old.channels new.channels visited.visit.stops

  pub all_heard : (moved : Bool) (old new : Scene) → HearsAll moment moved old new → Passes (part_at old) (part_at new)
  all_heard moved old new hears = all_pass (Heard moment) heard_pass (open_in old.channels) moved old new hears

  pub all_sent : (old new : Scene) → PumpsAll moment old new → Passes (part_at old) (part_at new)
  all_sent old new pumps = all_pass (Sent moment) sent_pass (open_in old.channels) false old new pumps

  pub all_stopped : (old new : Scene) → StopsAll moment old new → Passes (part_at old) (part_at new)
  all_stopped old new stops = all_pass (Stopped moment true) stopped_pass (open_in old.channels) false old new stops.0
