-- Each channel that is open behind a round was visited in it: its link was read, and was sent what waits for it.
use Rattle.std.proofs.Common.{◌≡◌, ◌≢◌, ◌⊎◌, ◌<◌, ◌≤◌, ◌+◌, ◌-◌, ℕ, Bool, true, false, inl, inr, List, [], ◌∷◌, ◌++◌, length, take, Option, Some, None, refl, sym, ap, subst, ◌∙◌, arith, slice_get, length-append, length-take}
use Rattle.std.specs.Prelude.{IsSome, nat_eq, slice_set}
use Rattle.std.specs.List.{AllByRecursion}
use Rattle.std.specs.Map.{set_value}
use Rattle.std.specs.Option.{option_map_or}
use Rattle.std.proofs.lemmas.Bool.Decides.{eqb_tells}
use Rattle.std.proofs.lemmas.List.Concat.{flat_map-append}
use Rattle.dl_bytes.specs.Limits.{admitted_limit}
use Rattle.dl_bytes.specs.declared.moment.Moment.{Moment}
use Rattle.dl_channel.specs.Pumping.{PumpsBy}
use Rattle.dl_channel.specs.State.{Outbox, empty}
use Rattle.dl_channel.specs.declared.outcome.ChannelEnd.{ChannelEnd}
use Rattle.dl_channel_turns.specs.State.{Stage, outbox_of}
use Rattle.dl_channel_turns.specs.Turns.{Heeds, IsTurn}
use Rattle.dl_core.specs.Follows.{IsAfter, Run, source_of}
use Rattle.dl_core.specs.State.{Core}
use Rattle.dl_events.specs.declared.event.Event.{Event}
use Rattle.dl_model.proofs.ClientStreams.{traffic_admits}
use Rattle.dl_model.specs.Frames.{admitted, frames_of}
use Rattle.dl_outside.specs.Outside.{HasRisen}
use Rattle.dl_outside.specs.Told.{LinkTold}
use Rattle.dl_outside.specs.declared.link.Gave.{Gave}
use Rattle.dl_outside.specs.declared.link.Gave.TheVariants as gave
use Rattle.dl_registry.specs.Kept.{owed_change}
use Rattle.dl_channels.specs.Rounds.{Heard, HearsAll, PumpsAll, Scene, Sent, VisitsEach, Visited, seen_by}
use Rattle.dl_channels.specs.Visits.{Hears, HearsOpen, Pumps, PumpsOpen}
use Rattle.dl_socket.specs.Channels.{Channels, inbox_of, open_in}
use Rattle.dl_socket.specs.Turns.{ChannelView}
use Rattle.dl_turns.specs.Turns as clients
use Rattle.dl_serve.specs.Service.{GoesOn, WasRead}
use Rattle.dl_serve.proofs.EmptiedChannels.{EachOpen, IsAmong, among_keys, pumps_led}
use Rattle.dl_serve.proofs.GoingLinks.{channel_heard, channel_sent, goes_both, goes_same, goes_still, read_on, waited_on}
use Rattle.dl_serve.proofs.NotedSteps.{Follows}
use Rattle.dl_serve.proofs.OtherEntries.{set_apart, set_here, value_here}
use Rattle.dl_serve.proofs.PassedEvents.{hears_pass}

-- ---- each of those that were open

-- What is true of a channel's link, by what it told first; and what is kept of the scene from visit to visit.
module _ (first : Scene) (Good : Scene → ℕ → LinkTold → LinkTold → Type 0) (Kept : Scene → Type 0) where
  -- a visit to one channel
  record Does (channel : ℕ) (old new : Scene) : Type 0 where
    link : LinkTold
    link_now : LinkTold
    was : slice_get old.links (channel - 1) ≡ Some link
    links : new.links ≡ slice_set old.links (channel - 1) link_now
    end : Option ChannelEnd
    end_now : Option ChannelEnd
    end_was : slice_get old.ends (channel - 1) ≡ Some end
    ends : new.ends ≡ slice_set old.ends (channel - 1) end_now
    back : end_now ≡ None → end ≡ None
    goes : GoesOn link link_now
    good : end_now ≡ None → (before : LinkTold) → GoesOn before link → Good new (channel - 1) before link_now
    still : (place : ℕ) (before now : LinkTold) → place + 1 ≢ channel → Good old place before now → Good new place before now
    kept : Kept new

  -- a channel that is open: it is still to be visited, or what is to be true is so
  record Found (left : List ℕ) (s : Scene) (place : ℕ) (now : LinkTold) : Type 0 where
    was : LinkTold
    there : slice_get first.links place ≡ Some was
    open_then : slice_get first.ends place ≡ Some None
    goes : GoesOn was now
    good : IsAmong (place + 1) left ⊎ Good s place was now

  abbrev AllFound : List ℕ → Scene → Type 0
  AllFound left s = EachOpen (Found left s) s.links s.ends

  one_found : (channel : ℕ) (others : List ℕ) (old new : Scene) → 1 ≤ channel → Does channel old new → AllFound (channel ∷ others) old → AllFound others new
  one_found channel others old new low does all = λ place now there slot. elim (eqb_tells place (channel - 1)) [
    | inl same ↦
        let at : slice_get new.links place ≡ Some does.link_now =
        ap (λ (n : ℕ). slice_get new.links n) same.1 ∙ ap (λ (ls : List LinkTold). slice_get ls (channel - 1)) does.links ∙ set_here old.links (channel - 1) does.link_now does.link does.was in
        let is : does.link_now ≡ now = cc (sym at ∙ there) in
        let end_at : slice_get new.ends place ≡ Some does.end_now =
        ap (λ (n : ℕ). slice_get new.ends n) same.1 ∙ ap (λ (es : List (Option ChannelEnd)). slice_get es (channel - 1)) does.ends ∙ set_here old.ends (channel - 1) does.end_now does.end does.end_was in
        let goes_on : does.end_now ≡ None = cc (sym end_at ∙ slot) in
        let before = all (channel - 1) does.link does.was (does.end_was ∙ ap Some (does.back goes_on)) in
        subst (λ (n : ℕ). Found others new n now) (sym same.1) (subst (λ (l : LinkTold). Found others new (channel - 1) l) is (record {
          was = before.was;
          there = before.there;
          open_then = before.open_then;
          goes = goes_both before.was does.link does.link_now before.goes does.goes;
          good = inr (does.good goes_on before.was before.goes);
        }))
    | inr apart ↦
        let differs : place + 1 ≢ channel = (λ same. apart.1 (omega (arith, same))) in
        let before = all place now (sym (ap (λ (ls : List LinkTold). slice_get ls place) does.links ∙ set_apart old.links (channel - 1) place does.link_now apart.1) ∙ there)
        (sym (ap (λ (es : List (Option ChannelEnd)). slice_get es place) does.ends ∙ set_apart old.ends (channel - 1) place does.end_now apart.1) ∙ slot) in record {
          was = before.was;
          there = before.there;
          open_then = before.open_then;
          goes = before.goes;
          good = elim before.good [
            | inl among ↦ elim among [ inl same ↦ absurd (differs same) | inr later ↦ inl later ]
            | inr good ↦ inr (does.still place before.was now differs good)
          ];
        }
  ]

  module _ (Visit : ℕ → Bool → List (Option ChannelEnd) → List (Option ChannelEnd) → ChannelView → ChannelView → Channels → Channels → Type 0)
      (one : (channel : ℕ) (moved : Bool) (old new : Scene) → 1 ≤ channel → Visited Visit channel moved old new → Kept old → Does channel old new) where
    each_found : (channels : List ℕ) (moved : Bool) (old new : Scene) → AllByRecursion (λ channel. 1 ≤ channel) channels → VisitsEach Visit channels moved old new → Kept old → AllFound channels old → AllFound [] new
    each_found [] moved old new low visits kept all = subst (AllFound []) (sym visits.1) all
    each_found (channel ∷ others) moved old new low visits kept all =
        let does = one channel visits.1 old visits.0 low.0 visits.4 kept in
        each_found others visits.2 visits.0 new low.1 visits.5 does.kept (one_found channel others old visits.0 low.0 does all)

    all_found : (moved : Bool) (new : Scene) → AllByRecursion (λ channel. 1 ≤ channel) (open_in first.channels) → EachOpen (λ place link. IsSome (inbox_of first.channels.inboxes (place + 1))) first.links first.ends
        → VisitsEach Visit (open_in first.channels) moved first new → Kept first → AllFound [] new
    all_found moved new low opened visits kept = each_found (open_in first.channels) moved first new low visits kept (λ place now there slot. record {
      was = now;
      there = there;
      open_then = slot;
      goes = goes_still now;
      good = inl (among_keys (place + 1) first.channels.inboxes (opened place now there slot));
    })

-- a channel that is open behind it: its link goes on from this one, and this is true of it
pub record IsOpenSince (first : Scene) (Good : LinkTold → LinkTold → Type 0) (place : ℕ) (now : LinkTold) : Type 0 where
  pub was : LinkTold
  pub there : slice_get first.links place ≡ Some was
  pub open_then : slice_get first.ends place ≡ Some None
  pub goes : GoesOn was now
  pub good : Good was now

-- ---- each was read

-- a channel that goes on went on before
pub heard_back : (channel : ℕ) (moment : Moment) (end end_now : Option ChannelEnd) (before after : ChannelView) (old new : Channels) → Hears channel moment end end_now before after old new → end_now ≡ None
    → (end ≡ None) × HearsOpen channel moment None before after old new
heard_back channel moment None end_now before after old new hears none = (refl, subst (λ (e : Option ChannelEnd). Hears channel moment None e before after old new) none hears)
heard_back channel moment (Some cause) end_now before after old new hears none = absurd (let bad : Some cause ≡ None = sym hears.0 ∙ none in cc bad)

pub sent_back : (moment : Moment) (channel : ℕ) (end end_now : Option ChannelEnd) (before after : ChannelView) (old new : Channels) → Pumps channel moment end end_now before after old new → end_now ≡ None
    → (end ≡ None) × PumpsOpen channel moment None before after old new
sent_back moment channel None end_now before after old new pumps none = (refl, subst (λ (e : Option ChannelEnd). Pumps channel moment None e before after old new) none pumps)
sent_back moment channel (Some cause) end_now before after old new pumps none = absurd (let bad : Some cause ≡ None = sym pumps.0 ∙ none in cc bad)

turn_reads : (channel : ℕ) (moment : Moment) (old new : Stage) → IsTurn channel moment None old new → WasRead old.link new.link
turn_reads channel moment old new turn = by turn.answer turn.into turn.hears turn.heeds where
  by : (answer : Gave) (into : List ℕ) → clients.Hears old.link new.link answer into → Heeds channel moment answer into None old.inbox new.inbox old.side new.side → WasRead old.link new.link
  by (gave.Bytes count) into hears heeds = inl (take count into, hears.given, omega (arith, hears.bytes.0, hears.bytes.1, length-take count into))
  by gave.NotYet into hears heeds = inr hears.cause.1
  by gave.End into hears heeds = absurd (cc heeds.0)
  by gave.Failed into hears heeds = absurd (cc heeds.0)

-- no fewer frames were admitted, with events more
pub more_frames : (run : Run) (past more : List Event) (taken taken_now : ℕ → List ℕ) (old new : Core) → IsAfter run past taken old → IsAfter run (past ++ more) taken_now new → old.hub.admitted ≤ new.hub.admitted
more_frames run past more taken taken_now old new is is_now =
    let source = source_of run in
    let before = ap (λ (fs : List (List ℕ)). length fs) (traffic_admits source past) in
    let now = ap (λ (fs : List (List ℕ)). length fs) (traffic_admits source (past ++ more)) in
    let split = ap (λ (fs : List (List ℕ)). length fs) (flat_map-append (frames_of source) past more) in
    let long = length-append (admitted source past) (admitted source more) in
    omega (arith, is.hub.admissions, is_now.hub.admissions, before, now, split, long)

module _ (run : Run) (moment : Moment) (first : Scene) where
  -- so many frames were admitted that a turn might admit more than may be
  abbrev pub IsFull : Scene → Type 0
  IsFull s = admitted_limit < s.part.core.hub.admitted + 4096

  abbrev pub ReadIn : Scene → ℕ → LinkTold → LinkTold → Type 0
  ReadIn s place was now = WasRead was now ⊎ IsFull s

  abbrev pub IsOfRun : Scene → Type 0
  IsOfRun s = (past : List Event) × (taken : ℕ → List ℕ) × IsAfter run past taken s.part.core

  hears_does : (channel : ℕ) (moved : Bool) (old new : Scene) → 1 ≤ channel → Visited (Heard moment) channel moved old new → IsOfRun old → Does first ReadIn IsOfRun channel old new
  hears_does channel moved old new low visited follows =
      let v = visited.visit in
      let before = seen_by visited.link old.part in
      let after = seen_by visited.link_now new.part in
      let passes = hears_pass channel moment v.end v.end_now before after old.channels new.channels v.hears in
      let now : IsAfter run (follows.0 ++ passes.more) follows.1 new.part.core = (passes.after run follows.0 follows.1 tt follows.2).0 in
      let more = more_frames run follows.0 passes.more follows.1 follows.1 old.part.core new.part.core follows.2 now in record {
        link = visited.link;
        link_now = visited.link_now;
        was = visited.was;
        links = visited.links;
        end = v.end;
        end_now = v.end_now;
        end_was = v.was;
        ends = v.is;
        back = λ none. (heard_back channel moment v.end v.end_now before after old.channels new.channels v.hears none).0;
        goes = channel_heard channel moment v.end v.end_now before after old.channels new.channels v.hears;
        good = λ none link goes. elim (heard_back channel moment v.end v.end_now before after old.channels new.channels v.hears none).1 [
          | inl turned ↦
              let read : WasRead visited.link turned.0.link = turn_reads channel moment _ _ turned.2.turn in
              inl (read_on link visited.link turned.0.link visited.link_now goes read (goes_same turned.0.link visited.link_now (ap (λ (s : ChannelView). s.link) turned.3.0)))
          | inr full ↦ inr (let over = full.0 in omega (arith, over, more))
        ];
        still = λ place link link_now apart good. elim good [ inl read ↦ inl read | inr full ↦ inr (omega (arith, full, more)) ];
        kept = (follows.0 ++ passes.more, follows.1, now);
      }

  pub each_read : (moved : Bool) (new : Scene) → AllByRecursion (λ channel. 1 ≤ channel) (open_in first.channels) → EachOpen (λ place link. IsSome (inbox_of first.channels.inboxes (place + 1))) first.links first.ends
      → HearsAll moment moved first new → IsOfRun first → EachOpen (IsOpenSince first (λ was now. WasRead was now ⊎ IsFull new)) new.links new.ends
  each_read moved new low opened hears follows = λ place now there slot.
      let found = all_found first ReadIn IsOfRun (Heard moment) hears_does moved new low opened hears follows place now there slot in
      record { was = found.was; there = found.there; open_then = found.open_then; goes = found.goes; good = elim found.good [ inl none ↦ absurd none | inr good ↦ good ] }

  -- ---- each was sent what waits for it

  -- a pump leaves nothing, where the channel goes on, or its link had to wait
  pump_sends : (channel : ℕ) (before after : ChannelView) (old new : Channels) → PumpsOpen channel moment None before after old new → (outbox_of new.outboxes channel ≡ Some empty) ⊎ HasRisen before.link.waits after.link.waits
  pump_sends channel before after old new pumps =
      let one = pumps.2.pumps in
      let set : pumps.1.outboxes ≡ set_value (nat_eq channel) old.outboxes one.outbox_now =
      one.is ∙ ap (λ (o : Option Outbox). option_map_or (λ (x : Outbox). set_value (nat_eq channel) old.outboxes one.outbox_now) o old.outboxes) one.was in
      let here : outbox_of pumps.1.outboxes channel ≡ Some one.outbox_now = ap (λ (es : List (ℕ × Outbox)). outbox_of es channel) set ∙ value_here channel old.outboxes one.outbox_now one.outbox one.was in
      elim (by one.outbox.full one.outbox one.outbox_now before.link pumps.0.link refl one.pumps) [
        | inl none ↦ inl (ap (λ (c : Channels). outbox_of c.outboxes channel) pumps.4.1 ∙ here ∙ ap Some none)
        | inr waited ↦ inr (subst (λ (s : ChannelView). HasRisen before.link.waits s.link.waits) (sym pumps.4.0) waited)
      ]
    where
      by : (b : Bool) (outbox outbox_now : Outbox) (link link_now : LinkTold) → outbox.full ≡ b → PumpsBy b None outbox outbox_now link link_now → (outbox_now ≡ empty) ⊎ HasRisen link.waits link_now.waits
      by true outbox outbox_now link link_now full pumps = absurd (cc pumps.0)
      by false outbox outbox_now link link_now full pumps = elim pumps.0.ends.0 [
        | inl all ↦ inl (pumps.1 ∙ (λ i. record { waiting = all.0 i; full = full i }))
        | inr left ↦ inr left.1
      ]

  abbrev pub SentIn : Scene → ℕ → LinkTold → LinkTold → Type 0
  SentIn s place was now = (outbox_of s.channels.outboxes (place + 1) ≡ Some empty) ⊎ HasRisen was.waits now.waits

  -- the registry is that of events, and no level is owed
  abbrev pub Settled : Scene → Type 0
  Settled s = (past : List Event) × Follows run.setting past s.part.core × (owed_change s.part.core.registry ≡ None)

  pumps_does : (channel : ℕ) (moved : Bool) (old new : Scene) → 1 ≤ channel → Visited (Sent moment) channel moved old new → Settled old → Does first SentIn Settled channel old new
  pumps_does channel moved old new low visited settled =
      let v = visited.visit in
      let before = seen_by visited.link old.part in
      let after = seen_by visited.link_now new.part in
      let quiet = pumps_led run.setting channel moment settled.0 v.end v.end_now before after old.channels new.channels v.pumps settled.1 settled.2 in
      let number : channel ≡ channel - 1 + 1 = omega (arith, low) in record {
        link = visited.link;
        link_now = visited.link_now;
        was = visited.was;
        links = visited.links;
        end = v.end;
        end_now = v.end_now;
        end_was = v.was;
        ends = v.is;
        back = λ none. (sent_back moment channel v.end v.end_now before after old.channels new.channels v.pumps none).0;
        goes = channel_sent channel moment v.end v.end_now before after old.channels new.channels v.pumps;
        good = λ none link goes. elim (pump_sends channel before after old.channels new.channels (sent_back moment channel v.end v.end_now before after old.channels new.channels v.pumps none).1) [
          | inl all ↦ inl (subst (λ (n : ℕ). outbox_of new.channels.outboxes n ≡ Some empty) number all)
          | inr waited ↦ inr (waited_on link visited.link visited.link_now visited.link_now goes waited (goes_still visited.link_now))
        ];
        still = λ place link link_now apart good. elim good [ inl all ↦ inl (quiet.others (place + 1) apart ∙ all) | inr waited ↦ inr waited ];
        kept = (settled.0 ++ quiet.more, quiet.follows, quiet.settled);
      }

  pub each_sent : (new : Scene) → AllByRecursion (λ channel. 1 ≤ channel) (open_in first.channels) → EachOpen (λ place link. IsSome (inbox_of first.channels.inboxes (place + 1))) first.links first.ends
      → PumpsAll moment first new → Settled first → (place : ℕ) (now : LinkTold) → slice_get new.links place ≡ Some now → slice_get new.ends place ≡ Some None → IsOpenSince first (SentIn new place) place now
  each_sent new low opened pumps settled = λ place now there slot.
      let found = all_found first SentIn Settled (Sent moment) pumps_does false new low opened pumps settled place now there slot in
      record { was = found.was; there = found.there; open_then = found.open_then; goes = found.goes; good = elim found.good [ inl none ↦ absurd none | inr good ↦ good ] }
