-- No message begins what is held of a channel that goes on, and so each turn admits few frames: through the visits of a round.
use Rattle.std.proofs.Common.{◌≡◌, ◌≢◌, ◌<◌, ◌≤◌, ◌+◌, ◌*◌, ◌-◌, ℕ, Bool, inl, inr, List, [], ◌∷◌, ◌++◌, length, Option, Some, None, sym, ap, subst, ◌∙◌, arith, slice_get, length-append}
use Rattle.std.specs.Prelude.{slice_set}
use Rattle.std.specs.List.{AllByRecursion}
use Rattle.std.proofs.lemmas.Bool.Decides.{eqb_tells}
use Rattle.dl_bytes.specs.declared.moment.Moment.{Moment}
use Rattle.dl_channel.specs.declared.outcome.ChannelEnd.{ChannelEnd}
use Rattle.dl_channel_turns.specs.State.{Stage}
use Rattle.dl_channel_turns.specs.Turns.{Heeds, IsTurn}
use Rattle.dl_core.specs.Admission.{AddsEach}
use Rattle.dl_events.specs.declared.event.Event.{Event}
use Rattle.dl_outside.specs.Told.{LinkTold}
use Rattle.dl_outside.specs.declared.link.Gave.{Gave}
use Rattle.dl_outside.specs.declared.link.Gave.TheVariants as gave
use Rattle.dl_channels.specs.Rounds.{Heard, Scene, Sent, VisitsEach, Visited, seen_by}
use Rattle.dl_socket.specs.Channels.{Channels, inbox_of}
use Rattle.dl_user.specs.Channel as cutter
use Rattle.dl_serve.proofs.EmptiedChannels.{EachOpen}
use Rattle.dl_serve.proofs.FewFrames.{NoMessage, hears_few, pumps_few}
use Rattle.dl_serve.proofs.HeldInboxes.{adds_so, hears_held, pumps_held}
use Rattle.dl_serve.proofs.OtherEntries.{set_apart, set_here, set_long, value_here, within}
use Rattle.dl_serve.proofs.ServedChannels.{heard_back, sent_back}

-- no message begins what is held of a channel
abbrev pub IsQuiet : Channels → ℕ → Type 0
IsQuiet channels channel = (inbox : cutter.Channel) → inbox_of channels.inboxes channel ≡ Some inbox → NoMessage inbox.unread

-- So it is of those that go on, and nothing is held of channels that did not come yet. The events are kept, and they are no fewer than the frames that were
-- admitted.
pub record Quiet (s : Scene) : Type 0 where
  pub quiet : EachOpen (λ place link. IsQuiet s.channels (place + 1)) s.links s.ends
  pub unheld : (channel : ℕ) → length s.links < channel → inbox_of s.channels.inboxes channel ≡ None
  pub events : List Event
  pub kept : s.part.events ≡ Some events
  pub few : s.part.core.hub.admitted ≤ length events

-- ---- one visit

one_quiet : (channel : ℕ) (old new : Scene) (link link_now : LinkTold) (end end_now : Option ChannelEnd) (more : List Event) → 1 ≤ channel → slice_get old.links (channel - 1) ≡ Some link
    → new.links ≡ slice_set old.links (channel - 1) link_now → slice_get old.ends (channel - 1) ≡ Some end → new.ends ≡ slice_set old.ends (channel - 1) end_now
    → ((other : ℕ) → other ≢ channel → inbox_of new.channels.inboxes other ≡ inbox_of old.channels.inboxes other) → (end_now ≡ None → IsQuiet new.channels channel) → AddsEach old.part.events new.part.events more
    → new.part.core.hub.admitted ≤ old.part.core.hub.admitted + length more → Quiet old → Quiet new
one_quiet channel old new link link_now end end_now more low was links end_was ends held its events few q = record {
  quiet = λ place now there slot. elim (eqb_tells place (channel - 1)) [
    | inl same ↦
        let at : slice_get new.ends place ≡ Some end_now =
        ap (λ (n : ℕ). slice_get new.ends n) same.1 ∙ ap (λ (es : List (Option ChannelEnd)). slice_get es (channel - 1)) ends ∙ set_here old.ends (channel - 1) end_now end end_was in
        let goes_on : end_now ≡ None = cc (sym at ∙ slot) in
        let number : channel ≡ place + 1 = (let at_place = same.1 in omega (arith, at_place, low)) in
        subst (λ (n : ℕ). IsQuiet new.channels n) number (its goes_on)
    | inr apart ↦ (λ inbox at.
        q.quiet place now (sym (ap (λ (ls : List LinkTold). slice_get ls place) links ∙ set_apart old.links (channel - 1) place link_now apart.1) ∙ there)
        (sym (ap (λ (es : List (Option ChannelEnd)). slice_get es place) ends ∙ set_apart old.ends (channel - 1) place end_now apart.1) ∙ slot) inbox
        (sym (held (place + 1) (λ same. apart.1 (omega (arith, same)))) ∙ at))
  ];
  unheld = λ other above.
      let long = ap (λ (ls : List LinkTold). length ls) links ∙ set_long old.links (channel - 1) link_now in
      let below = within old.links (channel - 1) link was in
      held other (λ same. omega (arith, same, above, long, below, low)) ∙ q.unheld other (omega (arith, above, long));
  events = q.events ++ more;
  kept = adds_so old.part.events new.part.events q.events more q.kept events;
  few = omega (arith, q.few, few, length-append q.events more);
}

turn_quiet : (channel : ℕ) (moment : Moment) (old new : Stage) → NoMessage old.inbox.unread → IsTurn channel moment None old new → NoMessage new.inbox.unread
turn_quiet channel moment old new none turn = by turn.answer turn.into turn.heeds where
  by : (answer : Gave) (into : List ℕ) → Heeds channel moment answer into None old.inbox new.inbox old.side new.side → NoMessage new.inbox.unread
  by (gave.Bytes count) into heeds = subst (λ (bytes : List ℕ). NoMessage bytes) (sym heeds.stops.1) heeds.stops.0.no_message
  by gave.NotYet into heeds = subst (λ (c : cutter.Channel). NoMessage c.unread) (sym heeds.1) none
  by gave.End into heeds = absurd (cc heeds.0)
  by gave.Failed into heeds = absurd (cc heeds.0)

module _ (moment : Moment) (channel : ℕ) (moved : Bool) (old new : Scene) (low : 1 ≤ channel) where
  -- it was quiet where it went on
  quiet_before : (end : Option ChannelEnd) (link : LinkTold) → slice_get old.links (channel - 1) ≡ Some link → slice_get old.ends (channel - 1) ≡ Some end → Quiet old → end ≡ None → IsQuiet old.channels channel
  quiet_before end link was end_was q none =
      let number : channel - 1 + 1 ≡ channel = omega (arith, low) in subst (λ (n : ℕ). IsQuiet old.channels n) number (q.quiet (channel - 1) link was (end_was ∙ ap Some none))

  heard_one : (visited : Visited (Heard moment) channel moved old new) → Quiet old → Quiet new × (new.part.core.hub.admitted ≤ old.part.core.hub.admitted + 4096)
  heard_one visited q =
      let v = visited.visit in
      let before = seen_by visited.link old.part in
      let now = seen_by visited.link_now new.part in
      let sooner = quiet_before v.end visited.link visited.was v.was q in
      let less = hears_few channel moment v.end v.end_now before now old.channels new.channels sooner v.hears in (
        one_quiet channel old new visited.link visited.link_now v.end v.end_now less.more low visited.was visited.links v.was v.is
            (hears_held channel moment v.end v.end_now before now old.channels new.channels v.hears)
            (λ none inbox at. (let back = heard_back channel moment v.end v.end_now before now old.channels new.channels v.hears none in elim back.1 [
              | inl turned ↦
                  let has = turned.2 in
                  let holds : inbox_of new.channels.inboxes channel ≡ Some has.inbox_now =
                  ap (λ (c : Channels). inbox_of c.inboxes channel) (turned.3.1 ∙ has.is) ∙ value_here channel old.channels.inboxes has.inbox_now has.inbox has.was in
                  let same : has.inbox_now ≡ inbox = cc (sym holds ∙ at) in
                  subst (λ (c : cutter.Channel). NoMessage c.unread) same (turn_quiet channel moment _ _ (sooner back.0 has.inbox has.was) has.turn)
              | inr full ↦ sooner back.0 inbox (sym (ap (λ (c : Channels). inbox_of c.inboxes channel) full.3) ∙ at)
            ])) less.events less.by_events q,
        less.by_most,
      )

  sent_one : (visited : Visited (Sent moment) channel moved old new) → Quiet old → Quiet new × (new.part.core.hub.admitted ≤ old.part.core.hub.admitted)
  sent_one visited q =
      let v = visited.visit in
      let before = seen_by visited.link old.part in
      let now = seen_by visited.link_now new.part in
      let sooner = quiet_before v.end visited.link visited.was v.was q in
      let less = pumps_few channel moment v.end v.end_now before now old.channels new.channels v.pumps in (
        one_quiet channel old new visited.link visited.link_now v.end v.end_now less.more low visited.was visited.links v.was v.is
            (pumps_held channel moment v.end v.end_now before now old.channels new.channels v.pumps)
            (λ none inbox at. (let back = sent_back moment channel v.end v.end_now before now old.channels new.channels v.pumps none in
            sooner back.0 inbox (sym (ap (λ (c : Channels). inbox_of c.inboxes channel) (back.1.4.1 ∙ back.1.2.is)) ∙ at))) less.events less.by_events q,
        (let none = less.by_most in omega (arith, none)),
      )

-- ---- all channels

module _ (moment : Moment) where
  pub heard_quiet : (channels : List ℕ) (moved : Bool) (old new : Scene) → AllByRecursion (λ channel. 1 ≤ channel) channels → VisitsEach (Heard moment) channels moved old new → Quiet old
      → Quiet new × (new.part.core.hub.admitted ≤ old.part.core.hub.admitted + 4096 * length channels)
  heard_quiet [] moved old new low visits q = (subst Quiet (sym visits.1) q, (let same = ap (λ (s : Scene). s.part.core.hub.admitted) visits.1 in omega (arith, same)))
  heard_quiet (channel ∷ others) moved old new low visits q =
      let one = heard_one moment channel visits.1 old visits.0 low.0 visits.4 q in
      let rest = heard_quiet others visits.2 visits.0 new low.1 visits.5 one.0 in
      (rest.0, (let first = one.1 in let then = rest.1 in omega (arith, first, then)))

  pub sent_quiet : (channels : List ℕ) (moved : Bool) (old new : Scene) → AllByRecursion (λ channel. 1 ≤ channel) channels → VisitsEach (Sent moment) channels moved old new → Quiet old
      → Quiet new × (new.part.core.hub.admitted ≤ old.part.core.hub.admitted)
  sent_quiet [] moved old new low visits q = (subst Quiet (sym visits.1) q, (let same = ap (λ (s : Scene). s.part.core.hub.admitted) visits.1 in omega (arith, same)))
  sent_quiet (channel ∷ others) moved old new low visits q =
      let one = sent_one moment channel visits.1 old visits.0 low.0 visits.4 q in
      let rest = sent_quiet others visits.2 visits.0 new low.1 visits.5 one.0 in
      (rest.0, (let first = one.1 in let then = rest.1 in omega (arith, first, then)))
