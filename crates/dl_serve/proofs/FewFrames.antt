-- Channels admit few frames: in a turn no more than bytes came, and in all no more than events were noted.
use Rattle.std.proofs.Common.{◌≡◌, ◌<◌, ◌≤◌, ◌+◌, ℕ, Bool, true, false, inl, inr, List, [], ◌∷◌, ◌++◌, length, map, take, Option, Some, None, refl, sym, ap, subst, ◌∙◌, arith, length-append}
use Rattle.std.specs.Prelude.{ℤ, negsuc}
use Rattle.std.specs.List.{AllByRecursion}
use Rattle.std.proofs.lemmas.Bool.{cases_lt}
use Rattle.std.proofs.lemmas.List.{length-map, length-take}
use Rattle.dl_admission.specs.Admission.{AreNoted, Entry, message_entry}
use Rattle.dl_admission.specs.Part.{Part}
use Rattle.dl_admission.specs.Slow.{slow_close}
use Rattle.dl_admission.proofs.Added.{adds_each_both, adds_each_none}
use Rattle.dl_bytes.specs.Cutting.{AreCut}
use Rattle.dl_bytes.specs.declared.moment.Moment.{Moment}
use Rattle.dl_bytes.specs.declared.user.UserMsg.{UserMsg}
use Rattle.dl_bytes.specs.declared.user.UserMsg.TheVariants as user
use Rattle.dl_channel.specs.declared.outcome.ChannelEnd.{ChannelEnd}
use Rattle.dl_channel_turns.specs.Levels.{TellsLevels}
use Rattle.dl_channel_turns.specs.Messages.{Alone, Group, Serves, ServesGroup, Together, messages_in_group, messages_of}
use Rattle.dl_channel_turns.specs.State.{Side, Stage, part_of}
use Rattle.dl_channel_turns.specs.Turns.{Heeds, IsTurn, ServesEach}
use Rattle.dl_core.specs.Admission.{AddsEach, has_frames, message_frames}
use Rattle.dl_core.specs.State.{Core}
use Rattle.dl_events.specs.declared.event.Event.{Event}
use Rattle.dl_events.specs.declared.event.Event.TheVariants as event
use Rattle.dl_model.specs.Frames.{user_frames}
use Rattle.dl_model.specs.declared.registry.LevelChange.{LevelChange}
use Rattle.dl_outside.specs.declared.link.Gave.{Gave}
use Rattle.dl_outside.specs.declared.link.Gave.TheVariants as gave
use Rattle.dl_channel_turns.proofs.ServedMessages.{frames_few}
use Rattle.dl_channels.specs.Visits.{Ends, EndsFor, Hears, HearsOpen, Pumps, side_of}
use Rattle.dl_socket.specs.Channels.{Channels, inbox_of}
use Rattle.dl_socket.specs.Closing.{UnregistersEach}
use Rattle.dl_socket.specs.Turns.{ChannelView}
use Rattle.dl_user.specs.Channel as cutter
use Rattle.dl_user.specs.Cut.{Begins, HasRanges, IsSpelled}
use Rattle.dl_user.specs.Layout.{fields_of, kind_of, marker, uint32, user_message_with}
use Rattle.dl_serve.proofs.PassedEvents.{part_in}

-- ---- messages in bytes

-- no message stands at the front of these bytes
abbrev pub NoMessage : List ℕ → Type 0
NoMessage bytes = (msg : UserMsg) (after : List ℕ) → Begins bytes msg after → ⊥

written_some : (default : ℤ) (msg : UserMsg) → 1 ≤ length (user_message_with default msg)
written_some default msg = omega (arith, length-append marker (uint32 (kind_of msg) ++ fields_of default msg))

spelled_some : (piece : List ℕ) (msg : UserMsg) → IsSpelled piece msg → 1 ≤ length piece
spelled_some piece msg is = elim is.spelled [
  | inl one ↦ subst (λ (bytes : List ℕ). 1 ≤ length bytes) (sym one) (written_some (negsuc 0) msg)
  | inr two ↦ subst (λ (bytes : List ℕ). 1 ≤ length bytes) (sym two) (written_some (negsuc 1) msg)
]

-- what stands behind a message is shorter
shorter : (bytes : List ℕ) (msg : UserMsg) (after : List ℕ) → Begins bytes msg after → length after < length bytes
shorter bytes msg after begins =
    omega (arith, ap (λ (all : List ℕ). length all) begins.2, length-append begins.0 after, spelled_some begins.0 msg begins.1)

cut_few : (bytes : List ℕ) (msgs : List UserMsg) (left : List ℕ) → AreCut Begins bytes msgs left → length msgs ≤ length bytes
cut_few bytes [] left cut = omega arith
cut_few bytes (msg ∷ msgs) left cut = omega (arith, shorter bytes msg cut.0 cut.1, cut_few cut.0 msgs left cut.2)

-- where two lists make one, and the first of one pair is no longer than that of the other, it is the front of that
front_of : (xs ys ps qs : List ℕ) → xs ++ ys ≡ ps ++ qs → length ps ≤ length xs → (rest : List ℕ) × (xs ≡ ps ++ rest)
front_of xs ys [] qs same within = (xs, refl)
front_of [] ys (p ∷ ps) qs same within = absurd (omega (arith, within))
front_of (x ∷ xs) ys (p ∷ ps) qs same within =
    let head : x ≡ p = cc same in
    let tails : xs ++ ys ≡ ps ++ qs = cc same in
    let rest = front_of xs ys ps qs tails (omega (arith, within)) in
    (rest.0, ap (λ (n : ℕ). n ∷ xs) head ∙ ap (λ (ns : List ℕ). p ∷ ns) rest.1)

-- none stands where no byte is
pub nothing_begins : NoMessage []
nothing_begins = λ msg after begins. (let less = shorter [] msg after begins in omega (arith, less))

-- Where no message stood at the front, each that stands there with more bytes ends within these.
pub messages_few : (unread more : List ℕ) (msgs : List UserMsg) (left : List ℕ) → NoMessage unread → AreCut Begins (unread ++ more) msgs left → length msgs ≤ length more
messages_few unread more [] left none cut = omega arith
messages_few unread more (msg ∷ msgs) left none cut =
    let begins = cut.1 in
    let long = length-append unread more in
    let both = length-append begins.0 cut.0 in
    let same = ap (λ (all : List ℕ). length all) begins.2 in
    let others = cut_few cut.0 msgs left cut.2 in
    elim (cases_lt (length cut.0) (length more)) [
      | inl less ↦ omega (arith, less, others)
      | inr enough ↦
          let rest = front_of unread more begins.0 cut.0 begins.2 (omega (arith, enough, long, both, same)) in
          absurd (none msg rest.0 (begins.0, begins.1, rest.1))
    ]

-- ---- the frames of messages

ranges_of : (bytes : List ℕ) (msgs : List UserMsg) (left : List ℕ) → AreCut Begins bytes msgs left → AllByRecursion HasRanges msgs
ranges_of bytes [] left cut = tt
ranges_of bytes (msg ∷ msgs) left cut = (cut.1.1.ranges, ranges_of cut.0 msgs left cut.2)

all_few : (ecu : List ℕ) (msgs : List UserMsg) → AllByRecursion HasRanges msgs → length (message_frames ecu msgs) ≤ length msgs
all_few ecu [] ranges = omega arith
all_few ecu (msg ∷ msgs) ranges =
    omega (arith, length-append (user_frames ecu msg) (message_frames ecu msgs), frames_few ecu msg ranges.0, all_few ecu msgs ranges.1)

-- as many events were noted, or more
noted_many : (entries : List Entry) (noted : List Event) → AreNoted entries noted → length entries ≤ length noted
noted_many [] noted is = omega arith
noted_many (entry ∷ entries) noted is =
    let all = ap (λ (es : List Event). length es) is.2 in
    let both = length-append (map (slow_close entry.need) is.0) (entry.event ∷ is.1) in
    omega (arith, all, both, noted_many entries is.1 is.5)

-- ---- what is admitted

-- Events were noted; so many frames were admitted at most, and no more than these events are.
pub record Few (most : ℕ) (old new : Part) : Type 0 where
  pub more : List Event
  pub events : AddsEach old.events new.events more
  pub by_events : new.core.hub.admitted ≤ old.core.hub.admitted + length more
  pub by_most : new.core.hub.admitted ≤ old.core.hub.admitted + most

few_same : (old new : Part) → new ≡ old → Few 0 old new
few_same old new same = subst (Few 0 old) (sym same) (record { more = []; events = adds_each_none old.events; by_events = omega arith; by_most = omega arith })

few_both : (most others : ℕ) (old between new : Part) → Few most old between → Few others between new → Few (most + others) old new
few_both most others old between new first second = record {
  more = first.more ++ second.more;
  events = adds_each_both old.events between.events new.events first.more second.more first.events second.events;
  by_events = omega (arith, first.by_events, second.by_events, length-append first.more second.more);
  by_most = omega (arith, first.by_most, second.by_most);
}

few_more : (most more : ℕ) (old new : Part) → most ≤ more → Few most old new → Few more old new
few_more most more old new within few = record { more = few.more; events = few.events; by_events = few.by_events; by_most = omega (arith, few.by_most, within) }

levels_few : (changes : List LevelChange) (old new : Side) → TellsLevels changes old new → Few 0 (part_of old) (part_of new)
levels_few [] old new levels = few_same (part_of old) (part_of new) (ap part_of levels.0)
levels_few (next ∷ others) old new levels =
    let one = levels.1 in
    let same = ap (λ (c : Core). c.hub.admitted) one.core in
    few_both 0 0 (part_of old) (part_of levels.0) (part_of new) (record {
      more = event.Level next.slot next.level ∷ [];
      events = one.events;
      by_events = omega (arith, same);
      by_most = omega (arith, same);
    }) (levels_few others levels.0 new levels.2)

module _ (channel : ℕ) (moment : Moment) where
  one_few : (msg : UserMsg) (b : Bool) (old new : Side) → length (user_frames old.core.ecu msg) ≤ 1 → Serves b channel moment msg old new → Few (length (user_frames old.core.ecu msg)) (part_of old) (part_of new)
  one_few msg true old new one serves =
      let forwards = serves.0 in
      let admitted = forwards.admitted in
      let many = noted_many (message_entry old.core.ecu moment channel msg ∷ []) forwards.more forwards.noted in
      record { more = forwards.more; events = forwards.events; by_events = omega (arith, admitted, many, one); by_most = omega (arith, admitted) }
  one_few msg false old new one serves =
      let notes = serves.1.notes in
      let admitted = notes.admitted in
      few_more (length (user_frames old.core.ecu msg) + 0) (length (user_frames old.core.ecu msg)) (part_of old) (part_of new) (omega arith)
      (few_both (length (user_frames old.core.ecu msg)) 0 (part_of old) (part_of serves.0) (part_of new)
      (record { more = event.User channel msg moment ∷ []; events = notes.event; by_events = omega (arith, admitted, one); by_most = omega (arith, admitted) })
      (levels_few serves.2.0 serves.0 new serves.2.1))

  group_few : (group : Group) (old new : Side) → AllByRecursion HasRanges (messages_in_group group) → ServesGroup channel moment group old new → Few (length (messages_in_group group)) (part_of old) (part_of new)
  group_few (Together msgs) old new ranges serves =
      let forwards = serves.1 in
      let admitted = forwards.admitted in
      let frames = all_few old.core.ecu msgs ranges in
      let many = noted_many (map (message_entry old.core.ecu moment channel) msgs) forwards.more forwards.noted in
      let long = length-map msgs (message_entry old.core.ecu moment channel) in
      record { more = forwards.more; events = forwards.events; by_events = omega (arith, admitted, frames, many, long); by_most = omega (arith, admitted, frames) }
  group_few (Alone msg) old new ranges serves =
      let one = frames_few old.core.ecu msg ranges.0 in
      few_more (length (user_frames old.core.ecu msg)) 1 (part_of old) (part_of new) one (one_few msg (has_frames msg) old new one serves)

  ranges_front : (xs ys : List UserMsg) → AllByRecursion HasRanges (xs ++ ys) → AllByRecursion HasRanges xs × AllByRecursion HasRanges ys
  ranges_front [] ys all = (tt, all)
  ranges_front (x ∷ xs) ys all = (let rest = ranges_front xs ys all.1 in ((all.0, rest.0), rest.1))

  each_few : (groups : List Group) (old new : Side) → AllByRecursion HasRanges (messages_of groups) → ServesEach channel moment groups old new → Few (length (messages_of groups)) (part_of old) (part_of new)
  each_few [] old new ranges serves = few_same (part_of old) (part_of new) (ap part_of serves)
  each_few (group ∷ groups) old new ranges serves =
      let msgs = messages_in_group group in
      let both = ranges_front msgs (messages_of groups) ranges in
      few_more (length msgs + length (messages_of groups)) (length (messages_of (group ∷ groups))) (part_of old) (part_of new) (omega (arith, length-append msgs (messages_of groups)))
      (few_both (length msgs) (length (messages_of groups)) (part_of old) (part_of serves.0) (part_of new) (group_few group old serves.0 both.0 serves.1) (each_few groups serves.0 new both.1 serves.2))

  heeds_few : (answer : Gave) (into : List ℕ) (end : Option ChannelEnd) (inbox inbox_now : cutter.Channel) (old new : Side) → length into ≡ 4096 → NoMessage inbox.unread
      → Heeds channel moment answer into end inbox inbox_now old new → Few 4096 (part_of old) (part_of new)
  heeds_few (gave.Bytes count) into end inbox inbox_now old new size none heeds =
      let msgs = messages_of heeds.groups in
      let many = messages_few inbox.unread (take count into) msgs heeds.left none heeds.cut in
      let taken = length-take count into in
      few_more (length msgs) 4096 (part_of old) (part_of new) (omega (arith, many, taken, size))
      (each_few heeds.groups old new (ranges_of (inbox.unread ++ take count into) msgs heeds.left heeds.cut) heeds.serves)
  heeds_few gave.NotYet into end inbox inbox_now old new size none heeds = few_more 0 4096 (part_of old) (part_of new) (omega arith) (few_same (part_of old) (part_of new) (ap part_of heeds.2))
  heeds_few gave.End into end inbox inbox_now old new size none heeds = few_more 0 4096 (part_of old) (part_of new) (omega arith) (few_same (part_of old) (part_of new) (ap part_of heeds.2))
  heeds_few gave.Failed into end inbox inbox_now old new size none heeds = few_more 0 4096 (part_of old) (part_of new) (omega arith) (few_same (part_of old) (part_of new) (ap part_of heeds.2))

  turn_few : (end : Option ChannelEnd) (old new : Stage) → NoMessage old.inbox.unread → IsTurn channel moment end old new → Few 4096 (part_of old.side) (part_of new.side)
  turn_few end old new none turn = heeds_few turn.answer turn.into end old.inbox new.inbox old.side new.side turn.size none turn.heeds

  -- ---- the end of a channel

  unregisters_few : (apids : List (List ℕ)) (old new : Side) → UnregistersEach channel moment apids old new → Few 0 (part_of old) (part_of new)
  unregisters_few [] old new each = few_same (part_of old) (part_of new) (ap part_of each)
  unregisters_few (apid ∷ apids) old new each =
      few_both 0 0 (part_of old) (part_of each.1) (part_of new) (one_few (user.UnregisterApp apid 0) false old each.1 (omega arith) each.2) (unregisters_few apids each.1 new each.3)

  ends_few : (closed : Bool) (before after : ChannelView) (old new : Channels) → Ends channel moment closed before after old new → Few 0 (part_in before) (part_in after)
  ends_few true before after old new ends =
      let all = ends.closes.unregistered in unregisters_few all.0 (side_of before old) (record (side_of after new) { outboxes = ends.closes.outboxes }) all.1
  ends_few false before after old new ends = let all = ends.closes.unregistered in unregisters_few all.0 (side_of before old) (side_of after new) all.1

  ends_for_few : (end : Option ChannelEnd) (before after : ChannelView) (old new : Channels) → EndsFor end channel moment before after old new → Few 0 (part_in before) (part_in after)
  ends_for_few None before after old new same = few_same (part_in before) (part_in after) (ap part_in same.0)
  ends_for_few (Some cause) before after old new ends = ends_few ends.0 before after old new ends.1

  -- ---- visits

  hears_open_few : (end : Option ChannelEnd) (before after : ChannelView) (old new : Channels) → ((inbox : cutter.Channel) → inbox_of old.inboxes channel ≡ Some inbox → NoMessage inbox.unread)
      → HearsOpen channel moment end before after old new → Few 4096 (part_in before) (part_in after)
  hears_open_few end before after old new none hears = elim hears [
    | inl turned ↦
        few_both 4096 0 (part_in before) (part_in turned.0) (part_in after) (turn_few end _ _ (none turned.2.inbox turned.2.was) turned.2.turn) (ends_for_few end turned.0 after turned.1 new turned.3)
    | inr full ↦ few_more 0 4096 (part_in before) (part_in after) (omega arith) (few_same (part_in before) (part_in after) (ap part_in full.2))
  ]

  pub hears_few : (end end_now : Option ChannelEnd) (before after : ChannelView) (old new : Channels) → (end ≡ None → (inbox : cutter.Channel) → inbox_of old.inboxes channel ≡ Some inbox → NoMessage inbox.unread)
      → Hears channel moment end end_now before after old new → Few 4096 (part_in before) (part_in after)
  hears_few None end_now before after old new none hears = hears_open_few end_now before after old new (none refl) hears
  hears_few (Some cause) end_now before after old new none hears = few_more 0 4096 (part_in before) (part_in after) (omega arith) (ends_few hears.1 before after old new hears.2)

  pub pumps_few : (end end_now : Option ChannelEnd) (before after : ChannelView) (old new : Channels) → Pumps channel moment end end_now before after old new → Few 0 (part_in before) (part_in after)
  pumps_few None end_now before after old new pumps =
      few_both 0 0 (part_in before) (part_in pumps.0) (part_in after) (few_same (part_in before) (part_in pumps.0) (ap part_in pumps.3)) (ends_for_few end_now pumps.0 after pumps.1 new pumps.4)
  pumps_few (Some cause) end_now before after old new pumps = few_same (part_in before) (part_in after) (ap part_in pumps.1)
