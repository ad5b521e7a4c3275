-- What a turn adds to what a channel has heard, and to the journal.
use Rattle.std.proofs.Common.{◌≡◌, ◌⊎◌, ℕ, Bool, true, false, List, [], ◌∷◌, ◌++◌, map, take, Option, Some, None, inl, inr, refl, sym, ap, subst, ◌∙◌}
use Rattle.std.proofs.lemmas.Bool.Decides.{eqb_tells}
use Rattle.std.proofs.lemmas.List.{append-nil}
use Rattle.std.proofs.lemmas.List.Elements.{filter_map-append}
use Rattle.dl_bytes.proofs.Cutting.{cut_more, cut_on}
use Rattle.dl_bytes.specs.Cutting.{AreCut}
use Rattle.dl_bytes.specs.declared.moment.Moment.{Moment}
use Rattle.dl_bytes.specs.declared.user.UserMsg.{UserMsg}
use Rattle.dl_events.specs.declared.event.Event.{Event}
use Rattle.dl_events.specs.declared.event.Event.TheVariants as event
use Rattle.dl_outside.specs.Outside.{Stays}
use Rattle.dl_outside.specs.declared.link.Gave.{Gave}
use Rattle.dl_outside.specs.declared.link.Gave.TheVariants as gave
use Rattle.dl_user.specs.Channel.{unfed}
use Rattle.dl_user.specs.Channel as cutter
use Rattle.dl_user.specs.Cut.{Begins, IsCut, Stops}
use Rattle.dl_user.specs.Reading.{kind_at, message_at}
use Rattle.dl_user.specs.declared.fault.Stop.{Stop}
use Rattle.dl_user.specs.declared.fault.Stop.TheVariants as stops
use Rattle.dl_user.specs.declared.fault.UserFault.{UserFault}
use Rattle.dl_user.proofs.Cuts.{begins_more, cut_once}
use Rattle.dl_user.proofs.FrontLemmas.{open_is}
use Rattle.dl_model.specs.declared.registry.LevelChange.{LevelChange}
use Rattle.dl_channel.specs.declared.outcome.ChannelEnd.{ChannelEnd}
use Rattle.dl_channel.specs.declared.outcome.ChannelEnd.TheVariants.{Left, Broken, Bad, Slow, NoMemory}
use Rattle.dl_core.specs.Admission.{AddsEach, has_frames}
use Rattle.dl_admission.specs.Admission.{AreNoted, message_entry}
use Rattle.dl_admission.specs.Slow as slow
use Rattle.dl_admission.specs.Slow.{slow_close}
use Rattle.dl_turns.specs.Turns.{Hears}
use Rattle.dl_turns.proofs.AddedEvents.{each_both, each_none}
use Rattle.dl_turns.proofs.GrownBytes.{stays_grow}
use Rattle.dl_channel_turns.specs.Heard.{HasHeard, HearsMore, message_of, messages_in}
use Rattle.dl_channel_turns.specs.Levels.{TellsLevels}
use Rattle.dl_channel_turns.specs.Messages.{Alone, Group, Serves, ServesGroup, Together, messages_in_group, messages_of}
use Rattle.dl_channel_turns.specs.State.{Side, Stage}
use Rattle.dl_channel_turns.specs.Turns.{Heeds, IsTurn, ServesEach, StopsAt}

-- ---- a new inbox

pub nothing_heard : HasHeard [] [] unfed
unfolding message_at kind_at
nothing_heard = record { cut = refl; open_so = open_is [] refl }

-- ---- the events

-- events were noted, with these messages of the channel
abbrev Notes : ℕ → List UserMsg → Side → Side → Type 0
Notes channel msgs old new = (events : List Event) × AddsEach old.events new.events events × (messages_in channel events ≡ msgs)

module _ (channel : ℕ) where
  levels_noted : (changes : List LevelChange) (old new : Side) → TellsLevels changes old new → Notes channel [] old new
  levels_noted [] old new levels = ([], subst (λ (s : Side). AddsEach old.events s.events []) (sym levels.0) (each_none old.events), refl)
  levels_noted (next ∷ others) old new levels =
      let more = levels_noted others levels.0 new levels.2 in
      let level : Event = event.Level next.slot next.level in
      (level ∷ more.0, each_both old.events levels.0.events new.events (level ∷ []) more.0 levels.1.events more.1, more.2)

  closes_pass : (need : ℕ) (slows : List slow.Slow) (later : List Event) → messages_in channel (map (slow_close need) slows ++ later) ≡ messages_in channel later
  closes_pass need [] later = refl
  closes_pass need (s ∷ slows) later = closes_pass need slows later

  module _ (moment : Moment) where
    its_message : (msg : UserMsg) → messages_in channel (event.User channel msg moment ∷ []) ≡ msg ∷ []
    its_message msg = elim (eqb_tells channel channel) [ inl same ↦ rw same.0 refl | inr other ↦ absurd (other.1 refl) ]

    one_noted : (msg : UserMsg) (b : Bool) (old new : Side) → Serves b channel moment msg old new → Notes channel (msg ∷ []) old new
    one_noted msg true old new serves =
        let noted = serves.0.noted in
        let user : Event = event.User channel msg moment in (
          serves.0.more,
          serves.0.events,
          ap (messages_in channel) noted.2 ∙ closes_pass _ noted.0 (user ∷ noted.1) ∙ ap (λ (es : List Event). messages_in channel (user ∷ es)) noted.5 ∙ its_message msg,
        )
    one_noted msg false old new serves =
        let more = levels_noted serves.2.0 serves.0 new serves.2.1 in
        let user : Event = event.User channel msg moment in (
          user ∷ more.0,
          each_both old.events serves.0.events new.events (user ∷ []) more.0 serves.1.notes.event more.1,
          filter_map-append (message_of channel) (user ∷ []) more.0 ∙ ap (λ (ms : List UserMsg). ms ++ messages_in channel more.0) (its_message msg) ∙ ap (λ (ms : List UserMsg). msg ∷ ms) more.2,
        )

    its_messages : (ecu : List ℕ) (msgs : List UserMsg) (events : List Event) → AreNoted (map (message_entry ecu moment channel) msgs) events → messages_in channel events ≡ msgs
    its_messages ecu [] events noted = ap (messages_in channel) noted
    its_messages ecu (msg ∷ msgs) events noted =
        ap (messages_in channel) noted.2 ∙ closes_pass _ noted.0 (event.User channel msg moment ∷ noted.1)
        ∙ filter_map-append (message_of channel) (event.User channel msg moment ∷ []) noted.1
        ∙ ap (λ (ms : List UserMsg). ms ++ messages_in channel noted.1) (its_message msg) ∙ ap (λ (ms : List UserMsg). msg ∷ ms) (its_messages ecu msgs noted.1 noted.5)

    group_noted : (group : Group) (old new : Side) → ServesGroup channel moment group old new → Notes channel (messages_in_group group) old new
    group_noted (Together msgs) old new serves = (serves.1.more, serves.1.events, its_messages old.core.ecu msgs serves.1.more serves.1.noted)
    group_noted (Alone msg) old new serves = one_noted msg (has_frames msg) old new serves

    each_noted : (groups : List Group) (old new : Side) → ServesEach channel moment groups old new → Notes channel (messages_of groups) old new
    each_noted [] old new serves = ([], subst (λ (s : Side). AddsEach old.events s.events []) (sym serves) (each_none old.events), refl)
    each_noted (group ∷ groups) old new serves =
        let first = group_noted group old serves.0 serves.1 in
        let more = each_noted groups serves.0 new serves.2 in (
          first.0 ++ more.0,
          each_both old.events serves.0.events new.events first.0 more.0 first.1 more.1,
          filter_map-append (message_of channel) first.0 more.0 ∙ ap (λ (ms : List UserMsg). ms ++ messages_in channel more.0) first.2
              ∙ ap (λ (ms : List UserMsg). messages_in_group group ++ ms) more.2,
        )

-- ---- why a channel ends

abbrev EndsBad : Option ChannelEnd → UserFault → Type 0
EndsBad end fault = (end ≡ Some (Bad fault)) ⊎ (end ≡ Some NoMemory)

module _ (bytes left rest : List ℕ) (msgs all : List UserMsg) (fault : UserFault) (cut : AreCut Begins bytes msgs left) (bad : IsCut bytes all rest (stops.Bad fault)) where
  stop_there : (stop : Stop) → Stops left stop → stop ≡ stops.Bad fault
  stop_there stop stopped = (cut_once bytes msgs all left rest stop (stops.Bad fault) (cut, stopped) bad).2

  ends_bad : (end : Option ChannelEnd) (inbox : cutter.Channel) → StopsAt end left inbox → EndsBad end fault
  ends_bad None inbox stopped = absurd (cc (stop_there stops.NeedMore stopped.0))
  ends_bad (Some (Bad other)) inbox stopped = let same : other ≡ fault = cc (stop_there (stops.Bad other) stopped) in inl (ap (λ (f : UserFault). Some (Bad f)) same)
  ends_bad (Some NoMemory) inbox stopped = inr refl
  ends_bad (Some Left) inbox stopped = absurd stopped
  ends_bad (Some Broken) inbox stopped = absurd stopped
  ends_bad (Some Slow) inbox stopped = absurd stopped

-- ---- one turn

module _ (channel : ℕ) (moment : Moment) (end : Option ChannelEnd) (old new : Stage) (stream : List ℕ) (msgs : List UserMsg) (was : HasHeard stream msgs old.inbox) where
  -- nothing came
  nothing_more : Stays old.link.given new.link.given → new.inbox ≡ old.inbox → new.side ≡ old.side → ((fault : UserFault) → end ≡ Some (Bad fault) → ⊥) → HearsMore channel end stream msgs old new
  nothing_more stays inbox side not_bad =
      let heard : HasHeard (stream ++ []) (msgs ++ []) new.inbox =
      subst (λ (s : List ℕ). HasHeard s (msgs ++ []) new.inbox) (sym (append-nil stream))
      (subst (λ (ms : List UserMsg). HasHeard stream ms new.inbox) (sym (append-nil msgs)) (subst (HasHeard stream msgs) (sym inbox) was)) in
      record {
        given = [];
        link_gave = stays_grow old.link.given new.link.given stays;
        more = [];
        left = new.inbox.unread;
        cut = heard.cut;
        goes_on = λ none. heard;
        is_bad = λ fault is. absurd (not_bad fault is);
        bad_ends = λ all rest fault bad. absurd (cc (stop_there (stream ++ []) new.inbox.unread rest (msgs ++ []) all fault heard.cut bad stops.NeedMore heard.open_so));
        events = [];
        noted = subst (λ (s : Side). AddsEach old.side.events s.events []) (sym side) (each_none old.side.events);
        of_channel = refl;
      }

  by_answer : (answer : Gave) (into : List ℕ) → Hears old.link new.link answer into → Heeds channel moment answer into end old.inbox new.inbox old.side new.side → HearsMore channel end stream msgs old new
  by_answer (gave.Bytes count) into hears heeds =
      let given = take count into in
      let noted = each_noted channel moment heeds.groups old.side new.side heeds.serves in
      let cut : AreCut Begins (stream ++ given) (msgs ++ messages_of heeds.groups) heeds.left =
      cut_on Begins (stream ++ given) (old.inbox.unread ++ given) heeds.left msgs (messages_of heeds.groups) (cut_more Begins begins_more stream old.inbox.unread given msgs was.cut) heeds.cut in
      record {
        given = given;
        link_gave = hears.given;
        more = messages_of heeds.groups;
        left = heeds.left;
        cut = cut;
        goes_on = λ none.
            let ends : StopsAt None heeds.left new.inbox = subst (λ (e : Option ChannelEnd). StopsAt e heeds.left new.inbox) none heeds.stops in
            record {
              cut = subst (AreCut Begins (stream ++ given) (msgs ++ messages_of heeds.groups)) (sym ends.1) cut;
              open_so = subst (λ (b : List ℕ). Stops b stops.NeedMore) (sym ends.1) ends.0;
            };
        is_bad = λ fault is. subst (λ (e : Option ChannelEnd). StopsAt e heeds.left new.inbox) is heeds.stops;
        bad_ends = λ all rest fault bad. ends_bad (stream ++ given) heeds.left rest (msgs ++ messages_of heeds.groups) all fault cut bad end new.inbox heeds.stops;
        events = noted.0;
        noted = noted.1;
        of_channel = noted.2;
      }
  by_answer gave.NotYet into hears heeds = nothing_more hears.given heeds.1 heeds.2 (λ fault is. cc (sym heeds.0 ∙ is))
  by_answer gave.End into hears heeds = nothing_more hears.given heeds.1 heeds.2 (λ fault is. cc (sym heeds.0 ∙ is))
  by_answer gave.Failed into hears heeds = nothing_more hears.given heeds.1 heeds.2 (λ fault is. cc (sym heeds.0 ∙ is))

  pub hears_more : IsTurn channel moment end old new → HearsMore channel end stream msgs old new
  hears_more turn = by_answer turn.answer turn.into turn.hears turn.heeds
