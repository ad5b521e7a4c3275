-- What the end of a channel notes: messages without frames, all at one moment, and levels. Nothing of it is for a client.
use Rattle.std.proofs.Common.{◌≡◌, ℕ, Bool, true, false, List, [], ◌∷◌, ◌++◌, map, Option, Some, None, refl, sym, ap, subst, ◌∙◌, append_assoc, append-nil}
use Rattle.std.specs.List.{AllByRecursion}
use Rattle.dl_admission.proofs.Added.{adds_each_both, adds_each_none}
use Rattle.dl_bytes.specs.declared.moment.Moment.{Moment}
use Rattle.dl_bytes.specs.declared.user.UserMsg.TheVariants.{UnregisterApp}
use Rattle.dl_channel.specs.declared.outcome.ChannelEnd.{ChannelEnd}
use Rattle.dl_channel_turns.specs.Levels.{TellsLevels}
use Rattle.dl_channel_turns.specs.State.{Side}
use Rattle.dl_core.specs.Admission.{AddsEach}
use Rattle.dl_events.specs.declared.event.Event.{Event}
use Rattle.dl_events.specs.declared.event.Event.TheVariants as event
use Rattle.dl_model.proofs.Lists.{along-one}
use Rattle.dl_lemmas.proofs.Lists.{all_both}
use Rattle.dl_model.specs.ClientStream.{traffic, traffic_of}
use Rattle.dl_model.specs.Frames.{FrameSource, user_frames}
use Rattle.dl_model.specs.Report.{why_of}
use Rattle.dl_model.specs.Traffic.{Admitted, Traffic}
use Rattle.dl_model.specs.declared.registry.LevelChange.{LevelChange}
use Rattle.dl_rounds.specs.Passing.{IsOfClients}
use Rattle.dl_channels.specs.Rounds.{Scene, Sent, Stopped, VisitsEach, seen_by}
use Rattle.dl_channels.specs.Visits.{Ends, EndsFor, Pumps, side_of}
use Rattle.dl_socket.specs.Channels.{Channels}
use Rattle.dl_socket.specs.Closing.{UnregistersEach}
use Rattle.dl_socket.specs.Turns.{ChannelView}
use Rattle.dl_serve.specs.Admitted.{IsFarewell}
use Rattle.dl_serve.specs.Service.{IsAt}

-- a message without frames at this moment, or a level
abbrev pub IsQuietAt : Moment → Event → Type 0
IsQuietAt moment (event.User channel msg at) = (at ≡ moment) × IsFarewell msg × ((ecu : List ℕ) → user_frames ecu msg ≡ [])
IsQuietAt moment (event.Level slot level) = Unit {0}
IsQuietAt moment other = ⊥

-- ---- for clients

one_for_none : (source : FrameSource) (past : List Event) (e : Event) → traffic_of source past e ≡ [] → traffic source (past ++ e ∷ []) ≡ traffic source past
one_for_none source past e none = along-one (traffic_of source) past e ∙ ap (λ (ts : List Traffic). traffic source past ++ ts) none ∙ append-nil (traffic source past)

pub for_none : (moment : Moment) (source : FrameSource) (past more : List Event) → AllByRecursion (IsQuietAt moment) more → traffic source (past ++ more) ≡ traffic source past
for_none moment source past [] all = ap (traffic source) (append-nil past)
for_none moment source past (event.User channel msg at ∷ more) all =
    let e : Event = event.User channel msg at in
    ap (traffic source) (sym (append_assoc past (e ∷ []) more)) ∙ for_none moment source (past ++ e ∷ []) more all.1 ∙ one_for_none source past e (ap (map Admitted) (all.0.2 source.ecu))
for_none moment source past (event.Level slot level ∷ more) all =
    let e : Event = event.Level slot level in
    ap (traffic source) (sym (append_assoc past (e ∷ []) more)) ∙ for_none moment source (past ++ e ∷ []) more all.1 ∙ one_for_none source past e refl
for_none moment source past (event.Log app writer call at ∷ more) all = absurd all.0
for_none moment source past (event.Claim claim at ∷ more) all = absurd all.0
for_none moment source past (event.Lost app count at ∷ more) all = absurd all.0
for_none moment source past (event.Connect client ∷ more) all = absurd all.0
for_none moment source past (event.Request client frame answer ∷ more) all = absurd all.0
for_none moment source past (event.Close client why ∷ more) all = absurd all.0

-- no client is closed
pub closes_none : (moment : Moment) (client : ℕ) (events : List Event) → AllByRecursion (IsQuietAt moment) events → why_of client events ≡ None
closes_none moment client [] all = refl
closes_none moment client (event.User channel msg at ∷ events) all = closes_none moment client events all.1
closes_none moment client (event.Level slot level ∷ events) all = closes_none moment client events all.1
closes_none moment client (event.Log app writer call at ∷ events) all = absurd all.0
closes_none moment client (event.Claim claim at ∷ events) all = absurd all.0
closes_none moment client (event.Lost app count at ∷ events) all = absurd all.0
closes_none moment client (event.Connect other ∷ events) all = absurd all.0
closes_none moment client (event.Request other frame answer ∷ events) all = absurd all.0
closes_none moment client (event.Close other why ∷ events) all = absurd all.0

-- ---- at one moment

pub quiet_at : (moment : Moment) (events : List Event) → AllByRecursion (IsQuietAt moment) events → AllByRecursion (IsAt moment) events
quiet_at moment [] all = tt
quiet_at moment (event.User channel msg at ∷ events) all = ((all.0.0, all.0.1), quiet_at moment events all.1)
quiet_at moment (event.Level slot level ∷ events) all = (tt, quiet_at moment events all.1)
quiet_at moment (event.Log app writer call at ∷ events) all = absurd all.0
quiet_at moment (event.Claim claim at ∷ events) all = absurd all.0
quiet_at moment (event.Lost app count at ∷ events) all = absurd all.0
quiet_at moment (event.Connect client ∷ events) all = absurd all.0
quiet_at moment (event.Request client frame answer ∷ events) all = absurd all.0
quiet_at moment (event.Close client why ∷ events) all = absurd all.0

pub clients_at : (moment : Moment) (events : List Event) → AllByRecursion IsOfClients events → AllByRecursion (IsAt moment) events
clients_at moment [] all = tt
clients_at moment (event.User channel msg at ∷ events) all = absurd all.0
clients_at moment (event.Level slot level ∷ events) all = (tt, clients_at moment events all.1)
clients_at moment (event.Log app writer call at ∷ events) all = absurd all.0
clients_at moment (event.Claim claim at ∷ events) all = absurd all.0
clients_at moment (event.Lost app count at ∷ events) all = absurd all.0
clients_at moment (event.Connect client ∷ events) all = absurd all.0
clients_at moment (event.Request client frame answer ∷ events) all = (tt, clients_at moment events all.1)
clients_at moment (event.Close client why ∷ events) all = (tt, clients_at moment events all.1)

-- ---- what is noted

module _ (moment : Moment) where
  -- no more than this was noted
  abbrev pub Quietly : Option (List Event) → Option (List Event) → Type 0
  Quietly before after = (more : List Event) × AddsEach before after more × AllByRecursion (IsQuietAt moment) more

  same_quietly : (before after : Option (List Event)) → after ≡ before → Quietly before after
  same_quietly before after same = subst (Quietly before) (sym same) ([], adds_each_none before, tt)

  both_quietly : (before between after : Option (List Event)) → Quietly before between → Quietly between after → Quietly before after
  both_quietly before between after first second =
      (first.0 ++ second.0, adds_each_both before between after first.0 second.0 first.1 second.1, all_both (IsQuietAt moment) first.0 second.0 first.2 second.2)

  levels_quietly : (changes : List LevelChange) (old new : Side) → TellsLevels changes old new → Quietly old.events new.events
  levels_quietly [] old new levels = same_quietly old.events new.events (ap (λ (s : Side). s.events) levels.0)
  levels_quietly (next ∷ others) old new levels =
      both_quietly old.events levels.0.events new.events (event.Level next.slot next.level ∷ [], levels.1.events, (tt, tt)) (levels_quietly others levels.0 new levels.2)

  module _ (channel : ℕ) where
    each_quietly : (apids : List (List ℕ)) (old new : Side) → UnregistersEach channel moment apids old new → Quietly old.events new.events
    each_quietly [] old new each = same_quietly old.events new.events (ap (λ (s : Side). s.events) each)
    each_quietly (apid ∷ apids) old new each =
        let noted : Side = each.2.0 in
        both_quietly old.events each.1.events new.events
        (both_quietly old.events noted.events each.1.events (event.User channel (UnregisterApp apid 0) moment ∷ [], each.2.1.notes.event, ((refl, refl, λ ecu. refl), tt)) (levels_quietly each.2.2.0 noted each.1 each.2.2.1))
        (each_quietly apids each.1 new each.3)

    ends_quietly : (closed : Bool) (before after : ChannelView) (old new : Channels) → Ends channel moment closed before after old new → Quietly before.events after.events
    ends_quietly true before after old new ends =
        let all = ends.closes.unregistered in each_quietly all.0 (side_of before old) (record (side_of after new) { outboxes = ends.closes.outboxes }) all.1
    ends_quietly false before after old new ends = let all = ends.closes.unregistered in each_quietly all.0 (side_of before old) (side_of after new) all.1

    for_quietly : (cause : Option ChannelEnd) (before after : ChannelView) (old new : Channels) → EndsFor cause channel moment before after old new → Quietly before.events after.events
    for_quietly None before after old new same = same_quietly before.events after.events (ap (λ (s : ChannelView). s.events) same.0)
    for_quietly (Some cause) before after old new ends = ends_quietly ends.0 before after old new ends.1

    pumps_quietly : (end end_now : Option ChannelEnd) (before after : ChannelView) (old new : Channels) → Pumps channel moment end end_now before after old new → Quietly before.events after.events
    pumps_quietly None end_now before after old new pumps =
        both_quietly before.events pumps.0.events after.events (same_quietly before.events pumps.0.events (ap (λ (s : ChannelView). s.events) pumps.3)) (for_quietly end_now pumps.0 after pumps.1 new pumps.4)
    pumps_quietly (Some cause) end_now before after old new pumps = same_quietly before.events after.events (ap (λ (s : ChannelView). s.events) pumps.1)

  pub sent_quietly : (channels : List ℕ) (moved : Bool) (old new : Scene) → VisitsEach (Sent moment) channels moved old new → Quietly old.part.events new.part.events
  sent_quietly [] moved old new visits = same_quietly old.part.events new.part.events (ap (λ (s : Scene). s.part.events) visits.1)
  sent_quietly (channel ∷ others) moved old new visits =
      let one = visits.4 in
      let v = one.visit in
      both_quietly old.part.events visits.0.part.events new.part.events
      (pumps_quietly channel v.end v.end_now (seen_by one.link old.part) (seen_by one.link_now visits.0.part) old.channels visits.0.channels v.pumps) (sent_quietly others visits.2 visits.0 new visits.5)

  pub stopped_quietly : (channels : List ℕ) (moved : Bool) (old new : Scene) → VisitsEach (Stopped moment true) channels moved old new → Quietly old.part.events new.part.events
  stopped_quietly [] moved old new visits = same_quietly old.part.events new.part.events (ap (λ (s : Scene). s.part.events) visits.1)
  stopped_quietly (channel ∷ others) moved old new visits =
      let one = visits.4 in
      both_quietly old.part.events visits.0.part.events new.part.events
      (ends_quietly channel true (seen_by one.link old.part) (seen_by one.link_now visits.0.part) old.channels visits.0.channels one.visit.stops) (stopped_quietly others visits.2 visits.0 new visits.5)
