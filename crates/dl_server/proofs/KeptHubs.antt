-- Which clients stay while a channel is served.
use Rattle.std.proofs.Common.{◌≡◌, ℕ, Bool, true, false, inl, inr, List, [], ◌∷◌, ◌++◌, Option, Some, None, refl, sym, ap, subst}
use Rattle.dl_bytes.specs.declared.moment.Moment.{Moment}
use Rattle.dl_bytes.specs.declared.user.UserMsg.{UserMsg}
use Rattle.dl_bytes.specs.declared.user.UserMsg.TheVariants.{UnregisterApp}
use Rattle.dl_admission.proofs.KeptClients.{clients_both, clients_none, clients_noted}
use Rattle.dl_channel.specs.declared.outcome.ChannelEnd.{ChannelEnd}
use Rattle.dl_channel_turns.specs.Levels.{TellsLevels}
use Rattle.dl_channel_turns.specs.Messages.{Alone, Group, Notes, Serves, ServesGroup, Together}
use Rattle.dl_channel_turns.specs.State.{Side, Stage}
use Rattle.dl_channel_turns.specs.Turns.{Heeds, IsTurn, ServesEach}
use Rattle.dl_core.specs.Admission.{has_frames}
use Rattle.dl_core.specs.State.{Core}
use Rattle.dl_events.specs.declared.event.Event.TheVariants as event
use Rattle.dl_hub.specs.State.{Hub}
use Rattle.dl_model.specs.declared.registry.LevelChange.{LevelChange}
use Rattle.dl_outside.specs.declared.link.Gave.{Gave}
use Rattle.dl_outside.specs.declared.link.Gave.TheVariants as gave
use Rattle.dl_channels.specs.Visits.{Ends, EndsFor, Hears, HearsOpen, Pumps, side_of}
use Rattle.dl_socket.specs.Channels.{Channels}
use Rattle.dl_socket.specs.Closing.{UnregistersEach}
use Rattle.dl_socket.specs.Turns.{ChannelView}
use Rattle.dl_user.specs.Channel as cutter
use Rattle.dl_server.proofs.ReadyListeners.{Keeps}

pub keeps_none : (hub : Hub) → Keeps hub hub
keeps_none hub = ([], clients_none hub)

pub keeps_same : (old new : Hub) → new ≡ old → Keeps old new
keeps_same old new same = subst (Keeps old) (sym same) (keeps_none old)

pub keeps_both : (old between new : Hub) → Keeps old between → Keeps between new → Keeps old new
keeps_both old between new first second = (first.0 ++ second.0, clients_both first.0 second.0 old between new first.1 second.1)

-- ---- messages

levels_keep : (changes : List LevelChange) (old new : Side) → TellsLevels changes old new → Keeps old.core.hub new.core.hub
levels_keep [] old new levels = keeps_same old.core.hub new.core.hub (ap (λ (s : Side). s.core.hub) levels.0)
levels_keep (next ∷ others) old new levels =
    keeps_both old.core.hub levels.0.core.hub new.core.hub (keeps_same old.core.hub levels.0.core.hub (ap (λ (c : Core). c.hub) levels.1.core)) (levels_keep others levels.0 new levels.2)

module _ (channel : ℕ) (moment : Moment) where
  notes_keep : (msg : UserMsg) (old new : Side) → Notes channel moment msg old new → Keeps old.core.hub new.core.hub
  notes_keep msg old new notes =
      (event.User channel msg moment ∷ [], clients_noted (event.User channel msg moment) old.core.hub new.core.hub (λ client. refl) notes.notes.same notes.notes.replies notes.notes.still_open)

  one_keeps : (msg : UserMsg) (b : Bool) (old new : Side) → Serves b channel moment msg old new → Keeps old.core.hub new.core.hub
  one_keeps msg true old new serves = (serves.0.more, serves.0.clients)
  one_keeps msg false old new serves =
      keeps_both old.core.hub serves.0.core.hub new.core.hub (notes_keep msg old serves.0 serves.1) (levels_keep serves.2.0 serves.0 new serves.2.1)

  group_keeps : (group : Group) (old new : Side) → ServesGroup channel moment group old new → Keeps old.core.hub new.core.hub
  group_keeps (Together msgs) old new serves = (serves.1.more, serves.1.clients)
  group_keeps (Alone msg) old new serves = one_keeps msg (has_frames msg) old new serves

  each_keeps : (groups : List Group) (old new : Side) → ServesEach channel moment groups old new → Keeps old.core.hub new.core.hub
  each_keeps [] old new serves = keeps_same old.core.hub new.core.hub (ap (λ (s : Side). s.core.hub) serves)
  each_keeps (group ∷ groups) old new serves =
      keeps_both old.core.hub serves.0.core.hub new.core.hub (group_keeps group old serves.0 serves.1) (each_keeps groups serves.0 new serves.2)

  heeds_keep : (answer : Gave) (into : List ℕ) (end : Option ChannelEnd) (inbox inbox_now : cutter.Channel) (old new : Side) → Heeds channel moment answer into end inbox inbox_now old new
      → Keeps old.core.hub new.core.hub
  heeds_keep (gave.Bytes count) into end inbox inbox_now old new heeds = each_keeps heeds.groups old new heeds.serves
  heeds_keep gave.NotYet into end inbox inbox_now old new heeds = keeps_same old.core.hub new.core.hub (ap (λ (s : Side). s.core.hub) heeds.2)
  heeds_keep gave.End into end inbox inbox_now old new heeds = keeps_same old.core.hub new.core.hub (ap (λ (s : Side). s.core.hub) heeds.2)
  heeds_keep gave.Failed into end inbox inbox_now old new heeds = keeps_same old.core.hub new.core.hub (ap (λ (s : Side). s.core.hub) heeds.2)

  turn_keeps : (end : Option ChannelEnd) (old new : Stage) → IsTurn channel moment end old new → Keeps old.side.core.hub new.side.core.hub
  turn_keeps end old new turn = heeds_keep turn.answer turn.into end old.inbox new.inbox old.side new.side turn.heeds

  -- ---- the end of a channel

  unregisters_keep : (apids : List (List ℕ)) (old new : Side) → UnregistersEach channel moment apids old new → Keeps old.core.hub new.core.hub
  unregisters_keep [] old new each = keeps_same old.core.hub new.core.hub (ap (λ (s : Side). s.core.hub) each)
  unregisters_keep (apid ∷ apids) old new each =
      keeps_both old.core.hub each.1.core.hub new.core.hub (one_keeps (UnregisterApp apid 0) false old each.1 each.2) (unregisters_keep apids each.1 new each.3)

  pub ends_keep : (closed : Bool) (before after : ChannelView) (old new : Channels) → Ends channel moment closed before after old new → Keeps before.core.hub after.core.hub
  ends_keep true before after old new ends =
      let all = ends.closes.unregistered in
      unregisters_keep all.0 (side_of before old) (record (side_of after new) { outboxes = ends.closes.outboxes }) all.1
  ends_keep false before after old new ends = let all = ends.closes.unregistered in unregisters_keep all.0 (side_of before old) (side_of after new) all.1

  ends_for_keep : (end : Option ChannelEnd) (before after : ChannelView) (old new : Channels) → EndsFor end channel moment before after old new → Keeps before.core.hub after.core.hub
  ends_for_keep None before after old new same = keeps_same before.core.hub after.core.hub (ap (λ (s : ChannelView). s.core.hub) same.0)
  ends_for_keep (Some cause) before after old new ends = ends_keep ends.0 before after old new ends.1

  -- ---- visits

  hears_open_keep : (end : Option ChannelEnd) (before after : ChannelView) (old new : Channels) → HearsOpen channel moment end before after old new → Keeps before.core.hub after.core.hub
  hears_open_keep end before after old new hears = elim hears [
    | inl turned ↦ keeps_both before.core.hub turned.0.core.hub after.core.hub (turn_keeps end _ _ turned.2.turn) (ends_for_keep end turned.0 after turned.1 new turned.3)
    | inr full ↦ keeps_same before.core.hub after.core.hub (ap (λ (s : ChannelView). s.core.hub) full.2)
  ]

  pub hears_keep : (end end_now : Option ChannelEnd) (before after : ChannelView) (old new : Channels) → Hears channel moment end end_now before after old new → Keeps before.core.hub after.core.hub
  hears_keep None end_now before after old new hears = hears_open_keep end_now before after old new hears
  hears_keep (Some cause) end_now before after old new hears = ends_keep hears.1 before after old new hears.2

  pub pumps_keep : (end end_now : Option ChannelEnd) (before after : ChannelView) (old new : Channels) → Pumps channel moment end end_now before after old new → Keeps before.core.hub after.core.hub
  pumps_keep None end_now before after old new pumps =
      keeps_both before.core.hub pumps.0.core.hub after.core.hub (keeps_same before.core.hub pumps.0.core.hub (ap (λ (s : ChannelView). s.core.hub) pumps.3))
      (ends_for_keep end_now pumps.0 after pumps.1 new pumps.4)
  pumps_keep (Some cause) end_now before after old new pumps = keeps_same before.core.hub after.core.hub (ap (λ (s : ChannelView). s.core.hub) pumps.1)
