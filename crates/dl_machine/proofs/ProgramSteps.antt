-- Turns, pumps and ends of channels, and visits to them, as steps.
use Rattle.std.proofs.Common.{◌≡◌, ◌-◌, ◌≤◌, ◌⊎◌, ℕ, Bool, true, false, inl, inr, List, [], ◌∷◌, ◌++◌, length, Option, Some, None, refl, sym, ap, subst, ◌∙◌, append-nil}
use Rattle.std.specs.Prelude.{nat_eq, IsSome, slice_get, slice_set}
use Rattle.std.specs.List.{AllByRecursion}
use Rattle.std.specs.Map.{set_value}
use Rattle.dl_admission.specs.Admission.{Admits, Forwards, ForwardsAll, message_entry}
use Rattle.dl_admission.specs.Part.{Part, part}
use Rattle.dl_bytes.specs.declared.moment.Moment.{Moment}
use Rattle.dl_bytes.specs.declared.user.UserMsg.{UserMsg}
use Rattle.dl_bytes.specs.declared.user.UserMsg.TheVariants as user
use Rattle.dl_channel.specs.declared.outcome.ChannelEnd.{ChannelEnd}
use Rattle.dl_channel_turns.specs.Levels.{TellsLevels}
use Rattle.dl_channel_turns.specs.Messages.{Alone, Group, Notes, Serves, ServesGroup, Together, messages_in_group, messages_of}
use Rattle.dl_channel_turns.specs.State.{Side}
use Rattle.dl_channel_turns.specs.Turns.{Heeds, ServesEach}
use Rattle.dl_core.specs.Admission.{IsLog, has_frames}
use Rattle.dl_lemmas.proofs.Lists.{set_again}
use Rattle.dl_model.specs.Frames.{user_frames}
use Rattle.dl_model.specs.declared.registry.LevelChange.{LevelChange}
use Rattle.dl_outside.specs.Told.{LinkTold}
use Rattle.dl_outside.specs.declared.link.Gave.{Gave as Answer}
use Rattle.dl_outside.specs.declared.link.Gave.TheVariants as answer
use Rattle.dl_channels.specs.Rounds as rounds
use Rattle.dl_channels.specs.Rounds.{Scene, VisitsEach, Visited, seen_by}
use Rattle.dl_channels.specs.Visits.{Closes, Ends, EndsFor, Hears, Pumps, side_of}
use Rattle.dl_socket.specs.Channels.{Channels}
use Rattle.dl_socket.specs.Closing.{UnregistersEach}
use Rattle.dl_socket.specs.Turns.{HasTurned, ChannelView}
use Rattle.dl_turns.specs.Turns as client
use Rattle.dl_machine.specs.State.{AreIdle, Changes, IsOne, Program, State}
use Rattle.dl_machine.specs.Steps.{Ended, Forwarded, Goes, Levelled, Noted, OfProgram, Said, Says, ShutOff, TookLevels, Unregistered}
use Rattle.dl_machine.proofs.Composed.{Leads, goes_both, goes_one, goes_same, leads_both, leads_same}
use Rattle.dl_machine.proofs.Joined.{Beyond, beyond_set, changes_on, joined, joined_first, joined_get, joined_set}

-- one message is a list of one
forwards_one : (moment : Moment) (channel : ℕ) (msg : UserMsg) (old new : Part) → Forwards moment channel msg old new → ForwardsAll moment channel (msg ∷ []) old new
forwards_one moment channel msg old new forwards =
    subst (λ (fs : List (List ℕ)). Admits (message_entry old.core.ecu moment channel msg ∷ []) (λ run. Unit {0}) (length fs) old new) (sym (append-nil (user_frames old.core.ecu msg))) forwards

-- it has frames
abbrev HasFrames : UserMsg → Type 0
HasFrames msg = has_frames msg ≡ true

logs_have : (msgs : List UserMsg) → AllByRecursion IsLog msgs → AllByRecursion HasFrames msgs
logs_have [] all = tt
logs_have (msg ∷ msgs) all = (by msg all.0, logs_have msgs all.1) where
  by : (m : UserMsg) → IsLog m → HasFrames m
  by (user.Log message) is = refl
  by _ is = absurd is

-- the program of a link and an end, between two of its turns
abbrev pub program_with : LinkTold → Option ChannelEnd → Program
program_with link end = record { link = link; end = end; said = [] }

abbrev pub programs_with : List LinkTold → List (Option ChannelEnd) → List Program
programs_with links ends = joined program_with None links ends

-- what a sight has beside its link
abbrev part_seen : ChannelView → Part
part_seen s = part s.core s.events s.folder

-- with this part, these channels and this program of a number, beside the others
abbrev pub set_at : State → ℕ → List Program → Part → Channels → Program → State
set_at base number all p channels program =
    record base { core = p.core; events = p.events; folder = p.folder; channels = channels; programs = slice_set all (number - 1) program }

-- with a scene's part and channels, and programs of these links and ends
abbrev pub with_scene : State → List (Option ChannelEnd) → Scene → State
with_scene base ends s =
    record base { core = s.part.core; events = s.part.events; folder = s.part.folder; channels = s.channels; programs = programs_with s.links ends }

-- numbers from 1
abbrev pub AreLow : List ℕ → Type 0
AreLow numbers = AllByRecursion (λ number. 1 ≤ number) numbers

module _ (IsTold : LinkTold → Type 0) (base : State) (idle : AreIdle base.clients) where
  both : (old between new : State) → Goes IsTold old between → Goes IsTold between new → Goes IsTold old new
  both = goes_both IsTold

  same : (old new : State) → new ≡ old → Goes IsTold old new
  same = goes_same IsTold

  -- ---- one channel: what its program is, beside the others

  module _ (number : ℕ) (low : 1 ≤ number) (moment : Moment) (all : List Program) (first : Program) (there : IsOne number all first) where
    abbrev at : Part → Channels → Program → State
    at p channels program = set_at base number all p channels program

    abbrev on : Side → Channels → Program → State
    on side channels program = at (part side.core side.events side.folder) (record channels { outboxes = side.outboxes }) program

    changes : (was now : Program) → Changes number was now (slice_set all (number - 1) was) (slice_set all (number - 1) now)
    changes was now = changes_on number all first was now there

    -- ---- messages

    levels_go : (told : List LevelChange) (old new : Side) (channels : Channels) (program : Program) → TellsLevels told old new → Goes IsTold (on old channels program) (on new channels program)
    levels_go [] old new channels program tells = same _ _ (ap (λ (s : Side). on s channels program) tells.0)
    levels_go (next ∷ told) old new channels program tells =
        both _ (on tells.0 channels program) _ (goes_one IsTold (Levelled next) (on old channels program) (on tells.0 channels program) (tells.1, refl))
        (levels_go told tells.0 new channels program tells.2)

    forwards_go : (msgs rest : List UserMsg) (old new : Side) (channels : Channels) (program : Program) → AllByRecursion HasFrames msgs
        → ForwardsAll moment number msgs (part old.core old.events old.folder) (part new.core new.events new.folder) → new.outboxes ≡ old.outboxes
        → Goes IsTold (on old channels (record program { said = msgs ++ rest })) (on new channels (record program { said = rest }))
    forwards_go msgs rest old new channels program have forwards outboxes =
        let was : Program = record program { said = msgs ++ rest } in
        let now : Program = record program { said = rest } in
        goes_one IsTold (OfProgram number (Forwarded moment msgs)) (on old channels was) (on new channels now)
        (low, ((was, rest, refl, changes was now), forwards, (λ i. record channels { outboxes = outboxes i }), have, idle), refl)

    serves_go : (has : Bool) (msg : UserMsg) (rest : List UserMsg) (old new : Side) (channels : Channels) (program : Program) → has_frames msg ≡ has → Serves has number moment msg old new
        → Goes IsTold (on old channels (record program { said = msg ∷ rest })) (on new channels (record program { said = rest }))
    serves_go true msg rest old new channels program has serves =
        forwards_go (msg ∷ []) rest old new channels program (has, tt) (forwards_one moment number msg (part old.core old.events old.folder) (part new.core new.events new.folder) serves.0) serves.1
    serves_go false msg rest old new channels program has serves =
        let was : Program = record program { said = msg ∷ rest } in
        let now : Program = record program { said = rest } in
        let notes : Notes number moment msg old serves.0 = serves.1 in
        both _ (on serves.0 channels now) _
        (goes_one IsTold (OfProgram number (Noted moment msg)) (on old channels was) (on serves.0 channels now)
        (low, ((was, rest, refl, changes was now), notes, refl), refl))
        (levels_go serves.2.0 serves.0 new channels now serves.2.1)

    group_goes : (group : Group) (rest : List UserMsg) (old new : Side) (channels : Channels) (program : Program) → ServesGroup number moment group old new
        → Goes IsTold (on old channels (record program { said = messages_in_group group ++ rest })) (on new channels (record program { said = rest }))
    group_goes (Together msgs) rest old new channels program serves = forwards_go msgs rest old new channels program (logs_have msgs serves.0) serves.1 serves.2
    group_goes (Alone msg) rest old new channels program serves = serves_go (has_frames msg) msg rest old new channels program refl serves

    groups_go : (groups : List Group) (old new : Side) (channels : Channels) (program : Program) → ServesEach number moment groups old new
        → Goes IsTold (on old channels (record program { said = messages_of groups })) (on new channels (record program { said = [] }))
    groups_go [] old new channels program serves = same _ _ (ap (λ (s : Side). on s channels (record program { said = [] })) serves)
    groups_go (group ∷ groups) old new channels program serves =
        both _ (on serves.0 channels (record program { said = messages_of groups })) _ (group_goes group (messages_of groups) old serves.0 channels program serves.1)
        (groups_go groups serves.0 new channels program serves.2)

    -- ---- turns

    turn_goes : base.stops ≡ false → (end : Option ChannelEnd) (before after : ChannelView) (old new : Channels) → HasTurned number moment end before after old new
        → Goes IsTold (at (part_seen before) old (program_with before.link None)) (at (part_seen after) new (program_with after.link end))
    turn_goes runs end before after old new turned = by turned.turn.answer turned.turn.into turned.turn.size turned.turn.hears turned.turn.heeds where
      channels : Channels
      channels = record old { inboxes = set_value (nat_eq number) old.inboxes turned.inbox_now }

      told : List UserMsg → Program
      told msgs = record { link = after.link; end = end; said = msgs }

      said : (gave : Answer) (into : List ℕ) (msgs : List UserMsg) → length into ≡ 4096 → client.Hears before.link after.link gave into → Says gave into end turned.inbox turned.inbox_now msgs
          → Goes IsTold (on (side_of after new) channels (told [])) (at (part_seen after) new (told [])) → Goes IsTold (on (side_of before old) channels (told msgs)) (on (side_of after new) channels (told []))
          → Goes IsTold (at (part_seen before) old (program_with before.link None)) (at (part_seen after) new (told []))
      said gave into msgs size hears says last serves =
          both _ (on (side_of before old) channels (told msgs)) _
          (goes_one IsTold (OfProgram number (Said end after.link turned.inbox_now msgs)) (at (part_seen before) old (program_with before.link None)) (on (side_of before old) channels (told msgs))
          (low, (program_with before.link None, (refl, refl), changes (program_with before.link None) (told msgs), turned.inbox, turned.was, gave, into, size, hears, says, refl, refl, runs), refl))
          (both _ (on (side_of after new) channels (told [])) _ serves last)

      ready : Goes IsTold (on (side_of after new) channels (told [])) (at (part_seen after) new (told []))
      ready = same _ _ (ap (λ (c : Channels). at (part_seen after) c (told [])) turned.is)

      nothing : side_of after new ≡ side_of before old → Goes IsTold (on (side_of before old) channels (told [])) (on (side_of after new) channels (told []))
      nothing stands = same _ _ (ap (λ (s : Side). on s channels (told [])) stands)

      by : (gave : Answer) (into : List ℕ) → length into ≡ 4096 → client.Hears before.link after.link gave into
          → Heeds number moment gave into end turned.inbox turned.inbox_now (side_of before old) (side_of after new)
          → Goes IsTold (at (part_seen before) old (program_with before.link None)) (at (part_seen after) new (told []))
      by (answer.Bytes count) into size hears heeds =
          said (answer.Bytes count) into (messages_of heeds.groups) size hears (heeds.left, heeds.cut, heeds.stops) ready
          (groups_go heeds.groups (side_of before old) (side_of after new) channels (told []) heeds.serves)
      by answer.NotYet into size hears heeds = said answer.NotYet into [] size hears (refl, heeds.0, heeds.1) ready (nothing heeds.2)
      by answer.End into size hears heeds = said answer.End into [] size hears (refl, heeds.0, heeds.1) ready (nothing heeds.2)
      by answer.Failed into size hears heeds = said answer.Failed into [] size hears (refl, heeds.0, heeds.1) ready (nothing heeds.2)

    -- ---- ends

    unregisters_go : (apids : List (List ℕ)) (old new : Side) (channels : Channels) (program : Program) → program.said ≡ [] → IsSome program.end ⊎ (base.stops ≡ true) → UnregistersEach number moment apids old new
        → Goes IsTold (on old channels program) (on new channels program)
    unregisters_go [] old new channels program none may stands = same _ _ (ap (λ (s : Side). on s channels program) stands)
    unregisters_go (apid ∷ apids) old new channels program none may unregisters =
        let between : Side = unregisters.1 in
        let serves = unregisters.2 in
        let noted : Side = serves.0 in
        both _ (on noted channels program) _
        (goes_one IsTold (OfProgram number (Unregistered moment apid)) (on old channels program) (on noted channels program)
        (low, (unregisters.0, serves.1, λ i. record channels { outboxes = serves.1.outboxes i }, refl, (program, (changes program program).there, none, may)), refl))
        (both _ (on between channels program) _ (levels_go serves.2.0 noted between channels program serves.2.1) (unregisters_go apids between new channels program none may unregisters.3))

    ends_go : (closed : Bool) (end : Option ChannelEnd) → IsSome end ⊎ (base.stops ≡ true) → (before after : ChannelView) (old new : Channels) → Ends number moment closed before after old new
        → Goes IsTold (at (part_seen before) old (program_with before.link end)) (at (part_seen after) new (program_with after.link end))
    ends_go closed end may before after old new ends =
        let was : Program = program_with before.link end in
        both _ (at (part_seen before) old now) _
        (goes_one IsTold (OfProgram number (ShutOff after.link)) (at (part_seen before) old was) (at (part_seen before) old now) (low, (was, changes was now, ends.shut, refl, refl), refl))
        (by closed ends.closes)
      where
        now : Program
        now = program_with after.link end

        by : (b : Bool) → Closes b number moment (side_of before old) (side_of after new) old new → Goes IsTold (at (part_seen before) old now) (at (part_seen after) new now)
        by true closes =
            let mid : Side = record (side_of after new) { outboxes = closes.outboxes } in
            both _ (on mid old now) _ (unregisters_go closes.unregistered.0 (side_of before old) mid old now refl may closes.unregistered.1)
            (goes_one IsTold (OfProgram number Ended) (on mid old now) (at (part_seen after) new now) (low, (closes.none_left, closes.is, refl, refl, (now, (changes now now).there, refl, may)), refl))
        by false closes =
            both _ (on (side_of after new) old now) _ (unregisters_go closes.unregistered.0 (side_of before old) (side_of after new) old now refl may closes.unregistered.1)
            (same _ _ (ap (λ (c : Channels). at (part_seen after) c now) closes.is))

    ends_for_go : (end : Option ChannelEnd) (before after : ChannelView) (old new : Channels) → EndsFor end number moment before after old new
        → Goes IsTold (at (part_seen before) old (program_with before.link end)) (at (part_seen after) new (program_with after.link end))
    ends_for_go None before after old new stands = same _ _ (λ i. at (part_seen (stands.0 i)) (stands.1 i) (program_with (stands.0 i).link None))
    ends_for_go (Some cause) before after old new ends = ends_go ends.0 (Some cause) (inl refl) before after old new ends.1

    pub hears_go : base.stops ≡ false → (end end_now : Option ChannelEnd) (before after : ChannelView) (old new : Channels) → Hears number moment end end_now before after old new
        → Goes IsTold (at (part_seen before) old (program_with before.link end)) (at (part_seen after) new (program_with after.link end_now))
    hears_go runs None end_now before after old new (inl turned) =
        both _ (at (part_seen turned.0) turned.1 (program_with turned.0.link end_now)) _ (turn_goes runs end_now before turned.0 old turned.1 turned.2)
        (ends_for_go end_now turned.0 after turned.1 new turned.3)
    hears_go runs None end_now before after old new (inr full) = same _ _ (λ i. at (part_seen (full.2 i)) (full.3 i) (program_with (full.2 i).link (full.1 i)))
    hears_go runs (Some cause) end_now before after old new hears =
        both _ (at (part_seen after) new (program_with after.link (Some cause))) _ (ends_go hears.1 (Some cause) (inl refl) before after old new hears.2)
        (same _ _ (ap (λ (e : Option ChannelEnd). at (part_seen after) new (program_with after.link e)) hears.0))

    pub pumps_go : (end end_now : Option ChannelEnd) (before after : ChannelView) (old new : Channels) → Pumps number moment end end_now before after old new
        → Goes IsTold (at (part_seen before) old (program_with before.link end)) (at (part_seen after) new (program_with after.link end_now))
    pumps_go None end_now before after old new pumps =
        let between : ChannelView = pumps.0 in
        let sent : Channels = pumps.1 in
        let was : Program = program_with before.link None in
        let now : Program = program_with between.link end_now in
        let mid : Channels = record old { outboxes = sent.outboxes } in
        both _ (at (part_seen before) mid now) _
        (goes_one IsTold (OfProgram number (TookLevels end_now between.link)) (at (part_seen before) old was) (at (part_seen before) mid now)
        (low, (was, refl, changes was now, pumps.2.pumps, refl, refl), refl))
        (both _ (at (part_seen between) sent now) _ (same _ _ (λ i. at (part_seen (pumps.3 i)) (pumps.2.is i) now)) (ends_for_go end_now between after sent new pumps.4))
    pumps_go (Some cause) end_now before after old new pumps = same _ _ (λ i. at (part_seen (pumps.1 i)) (pumps.2 i) (program_with (pumps.1 i).link (pumps.0 i)))

  -- ---- all of them

  abbrev pub Leading : Scene → Scene → Type 0
  Leading old new = Leads IsTold (λ (s : Scene). with_scene base s.ends s) (λ (s : Scene). Beyond None s.links s.ends) old new

  -- a channel's link and end were set
  set_leads : (number : ℕ) (link link_now : LinkTold) (end end_now : Option ChannelEnd) (old new : Scene) → slice_get old.links (number - 1) ≡ Some link → slice_get old.ends (number - 1) ≡ Some end
      → new.links ≡ slice_set old.links (number - 1) link_now → new.ends ≡ slice_set old.ends (number - 1) end_now
      → ((all : List Program) (first : Program) → IsOne number all first
      → Goes IsTold (set_at base number all old.part old.channels (program_with link end)) (set_at base number all new.part new.channels (program_with link_now end_now))) → Leading old new
  set_leads number link link_now end end_now old new was was_end links ends goes = λ beyond.
      let all : List Program = programs_with old.links old.ends in
      let there : IsOne number all (program_with link end) = joined_get program_with None old.links old.ends (number - 1) link end was was_end in
      let set : programs_with new.links new.ends ≡ slice_set all (number - 1) (program_with link_now end_now) =
      (λ i. programs_with (links i) (ends i)) ∙ joined_set program_with None old.links old.ends (number - 1) link link_now end end_now was was_end in (
        both _ (set_at base number all old.part old.channels (program_with link end)) _
            (same _ _ (λ i. record (with_scene base old.ends old) { programs = set_again all (number - 1) (program_with link end) there i }))
            (both _ (set_at base number all new.part new.channels (program_with link_now end_now)) _ (goes all (program_with link end) there)
            (same _ _ (λ i. record (with_scene base new.ends new) { programs = set i }))),
        beyond_set None old.links new.links old.ends new.ends (number - 1) link link_now end_now was links ends beyond,
      )

  -- its link alone was
  stop_goes : (ends : List (Option ChannelEnd)) (number : ℕ) (link link_now : LinkTold) (old new : Scene) → slice_get old.links (number - 1) ≡ Some link
      → new.links ≡ slice_set old.links (number - 1) link_now
      → ((end : Option ChannelEnd) (all : List Program) (first : Program) → IsOne number all first
      → Goes IsTold (set_at base number all old.part old.channels (program_with link end)) (set_at base number all new.part new.channels (program_with link_now end)))
      → Goes IsTold (with_scene base ends old) (with_scene base ends new)
  stop_goes ends number link link_now old new was links goes =
      let all : List Program = programs_with old.links ends in
      let one = joined_first program_with None old.links ends (number - 1) link link_now was in
      let set : programs_with new.links ends ≡ slice_set all (number - 1) (program_with link_now one.0) = ap (λ (ls : List LinkTold). programs_with ls ends) links ∙ one.2 in
      both _ (set_at base number all old.part old.channels (program_with link one.0)) _
      (same _ _ (λ i. record (with_scene base ends old) { programs = set_again all (number - 1) (program_with link one.0) one.1 i }))
      (both _ (set_at base number all new.part new.channels (program_with link_now one.0)) _ (goes one.0 all (program_with link one.0) one.1)
      (same _ _ (λ i. record (with_scene base ends new) { programs = set i })))

  module _ (moment : Moment) where
    pub heard_leads : base.stops ≡ false → (channels : List ℕ) → AreLow channels → (moved : Bool) (old new : Scene) → VisitsEach (rounds.Heard moment) channels moved old new → Leading old new
    heard_leads runs [] lows moved old new visits = leads_same IsTold (λ (s : Scene). with_scene base s.ends s) (λ (s : Scene). Beyond None s.links s.ends) old new visits.1
    heard_leads runs (number ∷ channels) lows moved old new visits =
        let between : Scene = visits.0 in
        let one = visits.4 in
        let v = one.visit in
        leads_both IsTold (λ (s : Scene). with_scene base s.ends s) (λ (s : Scene). Beyond None s.links s.ends) old between new
        (set_leads number one.link one.link_now v.end v.end_now old between one.was v.was one.links v.is
        (λ all first there. hears_go number lows.0 moment all first there runs v.end v.end_now (seen_by one.link old.part) (seen_by one.link_now between.part) old.channels between.channels v.hears))
        (heard_leads runs channels lows.1 visits.2 between new visits.5)

    pub sent_leads : (channels : List ℕ) → AreLow channels → (moved : Bool) (old new : Scene) → VisitsEach (rounds.Sent moment) channels moved old new → Leading old new
    sent_leads [] lows moved old new visits = leads_same IsTold (λ (s : Scene). with_scene base s.ends s) (λ (s : Scene). Beyond None s.links s.ends) old new visits.1
    sent_leads (number ∷ channels) lows moved old new visits =
        let between : Scene = visits.0 in
        let one = visits.4 in
        let v = one.visit in
        leads_both IsTold (λ (s : Scene). with_scene base s.ends s) (λ (s : Scene). Beyond None s.links s.ends) old between new
        (set_leads number one.link one.link_now v.end v.end_now old between one.was v.was one.links v.is
        (λ all first there. pumps_go number lows.0 moment all first there v.end v.end_now (seen_by one.link old.part) (seen_by one.link_now between.part) old.channels between.channels v.pumps))
        (sent_leads channels lows.1 visits.2 between new visits.5)

    pub stopped_one : base.stops ≡ true → (ends : List (Option ChannelEnd)) (closed : Bool) (number : ℕ) → 1 ≤ number → (moved : Bool) (old new : Scene) → Visited (rounds.Stopped moment closed) number moved old new
        → Goes IsTold (with_scene base ends old) (with_scene base ends new)
    stopped_one stops ends closed number low moved old new one =
        stop_goes ends number one.link one.link_now old new one.was one.links
        (λ end all first there. ends_go number low moment all first there closed end (inr stops) (seen_by one.link old.part) (seen_by one.link_now new.part) old.channels new.channels one.visit.stops)

    pub stopped_go : base.stops ≡ true → (ends : List (Option ChannelEnd)) (channels : List ℕ) → AreLow channels → (moved : Bool) (old new : Scene) → VisitsEach (rounds.Stopped moment true) channels moved old new
        → Goes IsTold (with_scene base ends old) (with_scene base ends new)
    stopped_go stops ends [] lows moved old new visits = same _ _ (ap (λ (s : Scene). with_scene base ends s) visits.1)
    stopped_go stops ends (number ∷ channels) lows moved old new visits =
        both _ (with_scene base ends visits.0) _ (stopped_one stops ends true number lows.0 visits.1 old visits.0 visits.4) (stopped_go stops ends channels lows.1 visits.2 visits.0 new visits.5)
