-- What visits to channels are to the journal.
use Rattle.std.proofs.Common.{◌≡◌, ℕ, Bool, true, false, inl, inr, List, [], ◌∷◌, Option, Some, None, refl, sym, ap, subst, ◌∙◌}
use Rattle.dl_bytes.specs.declared.moment.Moment.{Moment}
use Rattle.dl_bytes.specs.declared.user.UserMsg.{UserMsg}
use Rattle.dl_bytes.specs.declared.user.UserMsg.TheVariants.{UnregisterApp}
use Rattle.dl_channel.specs.State.{Outbox}
use Rattle.dl_channel.specs.declared.outcome.ChannelEnd.{ChannelEnd}
use Rattle.dl_channel_turns.specs.Later.{IsLater}
use Rattle.dl_channel_turns.specs.Levels.{TellsLevels}
use Rattle.dl_channel_turns.specs.Messages.{Alone, Group, Notes, Serves, ServesGroup, Together}
use Rattle.dl_channel_turns.specs.State.{Side, Stage}
use Rattle.dl_channel_turns.specs.Turns.{Heeds, IsTurn, ServesEach}
use Rattle.dl_core.specs.Admission.{has_frames}
use Rattle.dl_core.specs.Follows.{source_of}
use Rattle.dl_core.specs.State.{Core}
use Rattle.dl_events.specs.declared.event.Event.{Event}
use Rattle.dl_events.specs.declared.event.Event.TheVariants as event
use Rattle.dl_model.specs.declared.registry.LevelChange.{LevelChange}
use Rattle.dl_outside.specs.declared.link.Gave.{Gave}
use Rattle.dl_outside.specs.declared.link.Gave.TheVariants as gave
use Rattle.dl_model.proofs.LongerJournals.{goes_on}
use Rattle.dl_registry.specs.Kept.{owed_change}
use Rattle.dl_channels.specs.Visits.{Ends, EndsFor, Hears, HearsOpen, Pumps, side_of}
use Rattle.dl_socket.specs.Channels.{Channels}
use Rattle.dl_socket.specs.Closing.{UnregistersEach}
use Rattle.dl_socket.specs.Turns.{ChannelView}
use Rattle.dl_user.specs.Channel as cutter
use Rattle.dl_core.proofs.InTurn.{user_in_turn}
use Rattle.dl_channel_turns.proofs.LaterSides.{later_both, later_none, level_later}

-- A side is later, and owes no level.
abbrev pub IsOn : Side → Side → Type 0
IsOn old new = IsLater old new × (owed_change new.core.registry ≡ None)

pub on_same : (old new : Side) → new ≡ old → owed_change old.core.registry ≡ None → IsOn old new
on_same old new same settled = subst (IsOn old) (sym same) (later_none old, settled)

pub on_both : (old between new : Side) → IsOn old between → IsOn between new → IsOn old new
on_both old between new first second = (later_both old between new first.0 second.0, second.1)

-- ---- messages

levels_on : (changes : List LevelChange) (old new : Side) → TellsLevels changes old new → IsOn old new
levels_on [] old new levels = on_same old new levels.0 levels.1
levels_on (next ∷ others) old new levels =
    let rest = levels_on others levels.0 new levels.2 in
    (later_both old levels.0 new (level_later next old levels.0 levels.1) rest.0, rest.1)

module _ (channel : ℕ) (moment : Moment) where
  notes_later : (msg : UserMsg) (old new : Side) → Notes channel moment msg old new → owed_change old.core.registry ≡ None → IsLater old new
  notes_later msg old new notes settled =
      let user : Event = event.User channel msg moment in
      record {
        more = user ∷ [];
        events = notes.notes.event;
        running = refl;
        after = notes.notes.after;
        formed = λ run past taken is running well. goes_on run.setting (source_of run) past (user ∷ []) well (user_in_turn old.core channel msg moment [] settled run past taken is running, tt);
      }

  one_on : (msg : UserMsg) (b : Bool) (old new : Side) → Serves b channel moment msg old new → owed_change old.core.registry ≡ None → IsOn old new
  one_on msg true old new serves settled =
      let forwards = serves.0 in (
        record {
          more = forwards.more;
          events = forwards.events;
          running = forwards.running;
          after = forwards.after;
          formed = λ run past taken is running well. forwards.formed run past taken tt is running well;
        },
        ap (λ (k : Core). owed_change k.registry) forwards.rest ∙ settled,
      )
  one_on msg false old new serves settled =
      let rest = levels_on serves.2.0 serves.0 new serves.2.1 in
      (later_both old serves.0 new (notes_later msg old serves.0 serves.1 settled) rest.0, rest.1)

  group_on : (group : Group) (old new : Side) → ServesGroup channel moment group old new → owed_change old.core.registry ≡ None → IsOn old new
  group_on (Together msgs) old new serves settled =
      let forwards = serves.1 in (
        record {
          more = forwards.more;
          events = forwards.events;
          running = forwards.running;
          after = forwards.after;
          formed = λ run past taken is running well. forwards.formed run past taken tt is running well;
        },
        ap (λ (k : Core). owed_change k.registry) forwards.rest ∙ settled,
      )
  group_on (Alone msg) old new serves settled = one_on msg (has_frames msg) old new serves settled

  each_on : (groups : List Group) (old new : Side) → ServesEach channel moment groups old new → owed_change old.core.registry ≡ None → IsOn old new
  each_on [] old new serves settled = on_same old new serves settled
  each_on (group ∷ groups) old new serves settled =
      let first = group_on group old serves.0 serves.1 settled in
      on_both old serves.0 new first (each_on groups serves.0 new serves.2 first.1)

  heeds_on : (answer : Gave) (into : List ℕ) (end : Option ChannelEnd) (inbox inbox_now : cutter.Channel) (old new : Side) → Heeds channel moment answer into end inbox inbox_now old new
      → owed_change old.core.registry ≡ None → IsOn old new
  heeds_on (gave.Bytes count) into end inbox inbox_now old new heeds settled = each_on heeds.groups old new heeds.serves settled
  heeds_on gave.NotYet into end inbox inbox_now old new heeds settled = on_same old new heeds.2 settled
  heeds_on gave.End into end inbox inbox_now old new heeds settled = on_same old new heeds.2 settled
  heeds_on gave.Failed into end inbox inbox_now old new heeds settled = on_same old new heeds.2 settled

  turn_on : (end : Option ChannelEnd) (old new : Stage) → IsTurn channel moment end old new → owed_change old.side.core.registry ≡ None → IsOn old.side new.side
  turn_on end old new turn settled = heeds_on turn.answer turn.into end old.inbox new.inbox old.side new.side turn.heeds settled

  -- ---- the end of a channel

  unregisters_on : (apids : List (List ℕ)) (old new : Side) → UnregistersEach channel moment apids old new → owed_change old.core.registry ≡ None → IsOn old new
  unregisters_on [] old new each settled = on_same old new each settled
  unregisters_on (apid ∷ apids) old new each settled =
      let first = one_on (UnregisterApp apid 0) false old each.1 each.2 settled in
      on_both old each.1 new first (unregisters_on apids each.1 new each.3 first.1)

  -- what waits for the channels is no part of the journal
  without_outboxes : (old new : Side) (outboxes : List (ℕ × Outbox)) → IsOn old (record new { outboxes = outboxes }) → IsOn old new
  without_outboxes old new outboxes on = (record { more = on.0.more; events = on.0.events; running = on.0.running; after = on.0.after; formed = on.0.formed }, on.1)

  pub ends_on : (closed : Bool) (before after : ChannelView) (old new : Channels) → Ends channel moment closed before after old new → owed_change before.core.registry ≡ None
      → IsOn (side_of before old) (side_of after new)
  ends_on true before after old new ends settled =
      let all = ends.closes.unregistered in
      without_outboxes (side_of before old) (side_of after new) ends.closes.outboxes
      (unregisters_on all.0 (side_of before old) (record (side_of after new) { outboxes = ends.closes.outboxes }) all.1 settled)
  ends_on false before after old new ends settled = let all = ends.closes.unregistered in unregisters_on all.0 (side_of before old) (side_of after new) all.1 settled

  ends_for_on : (end : Option ChannelEnd) (before after : ChannelView) (old new : Channels) → EndsFor end channel moment before after old new → owed_change before.core.registry ≡ None
      → IsOn (side_of before old) (side_of after new)
  ends_for_on None before after old new same settled =
      on_same (side_of before old) (side_of after new) (ap (λ (s : ChannelView). side_of s new) same.0 ∙ ap (λ (c : Channels). side_of before c) same.1) settled
  ends_for_on (Some cause) before after old new ends settled = ends_on ends.0 before after old new ends.1 settled

  -- ---- visits

  hears_open_on : (end : Option ChannelEnd) (before after : ChannelView) (old new : Channels) → HearsOpen channel moment end before after old new → owed_change before.core.registry ≡ None
      → IsOn (side_of before old) (side_of after new)
  hears_open_on end before after old new hears settled = elim hears [
    | inl turned ↦
        let first = turn_on end _ _ turned.2.turn settled in
        on_both (side_of before old) (side_of turned.0 turned.1) (side_of after new) first (ends_for_on end turned.0 after turned.1 new turned.3 first.1)
    | inr full ↦ on_same (side_of before old) (side_of after new) (ap (λ (s : ChannelView). side_of s new) full.2 ∙ ap (λ (c : Channels). side_of before c) full.3) settled
  ]

  pub hears_on : (end end_now : Option ChannelEnd) (before after : ChannelView) (old new : Channels) → Hears channel moment end end_now before after old new → owed_change before.core.registry ≡ None
      → IsOn (side_of before old) (side_of after new)
  hears_on None end_now before after old new hears settled = hears_open_on end_now before after old new hears settled
  hears_on (Some cause) end_now before after old new hears settled = ends_on hears.1 before after old new hears.2 settled

  pub pumps_on : (end end_now : Option ChannelEnd) (before after : ChannelView) (old new : Channels) → Pumps channel moment end end_now before after old new → owed_change before.core.registry ≡ None
      → IsOn (side_of before old) (side_of after new)
  pumps_on None end_now before after old new pumps settled =
      let sent : IsOn (side_of before old) (side_of pumps.0 pumps.1) =
      without_outboxes (side_of before old) (side_of pumps.0 pumps.1) old.outboxes
      (on_same (side_of before old) (record (side_of pumps.0 pumps.1) { outboxes = old.outboxes }) (ap (λ (s : ChannelView). side_of s old) pumps.3) settled) in
      on_both (side_of before old) (side_of pumps.0 pumps.1) (side_of after new) sent (ends_for_on end_now pumps.0 after pumps.1 new pumps.4 sent.1)
  pumps_on (Some cause) end_now before after old new pumps settled =
      on_same (side_of before old) (side_of after new) (ap (λ (s : ChannelView). side_of s new) pumps.1 ∙ ap (λ (c : Channels). side_of before c) pumps.2) settled
