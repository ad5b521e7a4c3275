-- Links go on: what they gave and took grows, and none of their counts falls.
use Rattle.std.proofs.Common.{◌≡◌, ◌≤◌, ◌+◌, ◌-◌, ℕ, zero, suc, Bool, true, false, inl, inr, List, [], ◌∷◌, ◌++◌, length, take, Option, Some, None, refl, sym, ap, subst, ◌∙◌, arith, length-append, slice_get}
use Rattle.std.specs.Prelude.{IsSome, IsSomeAnd, get_or, slice_set}
use Rattle.std.proofs.lemmas.Option.{slice_get-get_or, slice_get_within}
use Rattle.dl_bytes.specs.declared.moment.Moment.{Moment}
use Rattle.dl_channel.specs.Pumping.{EndsSending, PumpsBy}
use Rattle.dl_channel.specs.State.{Outbox}
use Rattle.dl_channel.specs.declared.outcome.ChannelEnd.{ChannelEnd}
use Rattle.dl_channel.specs.declared.outcome.ChannelEnd.TheVariants as end
use Rattle.dl_events.specs.declared.event.Why.{Why}
use Rattle.dl_events.specs.declared.event.Why.TheVariants as why
use Rattle.dl_hub.specs.Pumping.{Pumps as PumpsHub}
use Rattle.dl_hub.specs.State.{Hub, Waiting, outbox_of}
use Rattle.dl_core.specs.State.{Core}
use Rattle.dl_outside.proofs.Staying.{grows_both, stays_same}
use Rattle.dl_outside.specs.Outside.{Grows, HasRisen}
use Rattle.dl_outside.specs.Told.{LinkTold}
use Rattle.dl_outside.specs.declared.link.Gave.{Gave}
use Rattle.dl_outside.specs.declared.link.Gave.TheVariants as gave
use Rattle.dl_rounds.specs.Clients.{Client, Clients, Visits, VisitsAll, with_client}
use Rattle.dl_rounds.specs.Partings.{ShutsGone}
use Rattle.dl_rounds.specs.Visits.{Closed, ClosesAll, Heard as HeardClient, HearsAll as HearsClients, IsShut, Pumped, ShutsFor}
use Rattle.dl_rounds.proofs.ByPlace.{set_cases}
use Rattle.dl_channels.specs.Rounds.{Heard, Scene, Sent, Stopped, VisitsEach, Visited, seen_by}
use Rattle.dl_channels.specs.Visits.{EndsFor, Hears, Pumps}
use Rattle.dl_socket.specs.Channels.{Channels}
use Rattle.dl_socket.specs.Turns.{ChannelView}
use Rattle.dl_turns.specs.State.{Side, Stage}
use Rattle.dl_turns.specs.Stopping.{GoesOn as TurnsOnce, IsClosedIn, HasClosingTurns, TurnsOn}
use Rattle.dl_turns.specs.Turns.{Hears as HearsLink, IsPump, SendsRightly, heard}
use Rattle.dl_turns.proofs.GrownBytes.{gives_heard, stays_grow}
use Rattle.dl_serve.specs.Service.{GoesOn, WasRead}

-- ---- one link

pub goes_same : (old new : LinkTold) → new ≡ old → GoesOn old new
goes_same old new same = subst (GoesOn old) (sym same) (record {
  gave = [];
  given = stays_grow old.given old.given (stays_same old.given);
  took = [];
  taken = stays_grow old.taken old.taken (stays_same old.taken);
  faults = omega arith;
  idles = omega arith;
  waits = omega arith;
})

-- a link that stands
pub goes_still : (link : LinkTold) → GoesOn link link
goes_still link = goes_same link link refl

pub goes_both : (old between new : LinkTold) → GoesOn old between → GoesOn between new → GoesOn old new
goes_both old between new first second = record {
  gave = first.gave ++ second.gave;
  given = grows_both old.given between.given new.given first.gave second.gave first.given second.given;
  took = first.took ++ second.took;
  taken = grows_both old.taken between.taken new.taken first.took second.took first.taken second.taken;
  faults = omega (arith, first.faults, second.faults);
  idles = omega (arith, first.idles, second.idles);
  waits = omega (arith, first.waits, second.waits);
}

goes_shut : (old new : LinkTold) → IsShut old new → GoesOn old new
goes_shut old new shut = record {
  gave = [];
  given = stays_grow old.given new.given shut.given;
  took = [];
  taken = stays_grow old.taken new.taken shut.taken;
  faults = omega (arith, shut.faults);
  idles = omega (arith, shut.idles);
  waits = omega (arith, shut.waits);
}

goes_for : (cause : Option Why) (old new : LinkTold) → ShutsFor cause old new → GoesOn old new
goes_for None old new same = goes_same old new same
goes_for (Some cause) old new shut = goes_shut old new shut

goes_heard : (answer : Gave) (into : List ℕ) (old new : LinkTold) → HearsLink old new answer into → GoesOn old new
goes_heard answer into old new hears = record {
  gave = heard answer into;
  given = gives_heard old.given new.given answer into hears.given;
  took = [];
  taken = stays_grow old.taken new.taken hears.untaken;
  faults = faults answer hears;
  idles = idles answer hears;
  waits = omega (arith, hears.waits);
} where
  faults : (answer : Gave) → HearsLink old new answer into → old.faults ≤ new.faults
  faults (gave.Bytes count) hears = (let same = hears.cause.0 in omega (arith, same))
  faults gave.NotYet hears = (let same = hears.cause.0 in omega (arith, same))
  faults gave.End hears = (let same = hears.cause.0 in omega (arith, same))
  faults gave.Failed hears = hears.cause.0.0

  idles : (answer : Gave) → HearsLink old new answer into → old.idles ≤ new.idles
  idles (gave.Bytes count) hears = (let same = hears.cause.1 in omega (arith, same))
  idles gave.NotYet hears = hears.cause.1.0
  idles gave.End hears = (let same = hears.cause.1 in omega (arith, same))
  idles gave.Failed hears = (let same = hears.cause.1 in omega (arith, same))

-- what a client's link took
grows_by : (number : ℕ) (old new : Hub) (link link_now : LinkTold) → PumpsHub number old new link link_now → (took : List ℕ) × Grows link.taken link_now.taken took
grows_by number old new link link_now pumps = by (outbox_of old number) pumps.sent where
  by : (o : Option Waiting) → IsSomeAnd o (λ outbox. (pumps.count ≤ length outbox.bytes) × Grows link.taken link_now.taken (take pumps.count outbox.bytes)) → (took : List ℕ) × Grows link.taken link_now.taken took
  by None sent = absurd sent
  by (Some outbox) sent = (take pumps.count outbox.bytes, sent.1)

sends_on : (number : ℕ) (cause : Option Why) (core : Core) (link link_now : LinkTold) → SendsRightly number cause core link link_now → (link.faults ≤ link_now.faults) × (link.waits ≤ link_now.waits)
sends_on number None core link link_now sends =
    let faults = sends.1 in
    (omega (arith, faults), elim sends.0 [ inl all ↦ (let same = all.1 in omega (arith, same)) | inr left ↦ left.1.0 ])
sends_on number (Some why.Broken) core link link_now sends = (sends.0.0, (let same = sends.1 in omega (arith, same)))
sends_on number (Some why.Left) core link link_now sends = absurd sends
sends_on number (Some why.Malformed) core link link_now sends = absurd sends
sends_on number (Some why.TooMany) core link link_now sends = absurd sends
sends_on number (Some why.NoMemory) core link link_now sends = absurd sends
sends_on number (Some (why.Slow room need)) core link link_now sends = absurd sends
sends_on number (Some (why.Stuck left)) core link link_now sends = absurd sends
sends_on number (Some why.Stopped) core link link_now sends = absurd sends

goes_sent : (number : ℕ) (cause : Option Why) (link link_now : LinkTold) (old new : Side) → IsPump number cause link link_now old new → GoesOn link link_now
goes_sent number cause link link_now old new pump =
    let took = grows_by number old.core.hub pump.between.core.hub link link_now pump.pumps in
    let counts = sends_on number cause pump.between.core link link_now pump.sends in record {
      gave = [];
      given = stays_grow link.given link_now.given pump.only_sent.given;
      took = took.0;
      taken = took.1;
      faults = counts.0;
      idles = omega (arith, pump.only_sent.idles);
      waits = counts.1;
    }

-- what a program's link took
ends_on : (cause : Option ChannelEnd) (left : List ℕ) (link link_now : LinkTold) → EndsSending cause left link link_now → (link.faults ≤ link_now.faults) × (link.waits ≤ link_now.waits)
ends_on None left link link_now ends =
    let faults = ends.1 in
    (omega (arith, faults), elim ends.0 [ inl all ↦ (let same = all.1 in omega (arith, same)) | inr some ↦ some.1.0 ])
ends_on (Some end.Broken) left link link_now ends = (ends.1.0, (let same = ends.2 in omega (arith, same)))
ends_on (Some end.Left) left link link_now ends = absurd ends
ends_on (Some end.Slow) left link link_now ends = absurd ends
ends_on (Some end.NoMemory) left link link_now ends = absurd ends
ends_on (Some (end.Bad fault)) left link link_now ends = absurd ends

goes_pumped : (full : Bool) (cause : Option ChannelEnd) (outbox outbox_now : Outbox) (link link_now : LinkTold) → PumpsBy full cause outbox outbox_now link link_now → GoesOn link link_now
goes_pumped true cause outbox outbox_now link link_now pumps = goes_same link link_now pumps.2
goes_pumped false cause outbox outbox_now link link_now pumps =
    let sent = pumps.0 in
    let counts = ends_on cause outbox_now.waiting link link_now sent.ends in record {
      gave = [];
      given = stays_grow link.given link_now.given sent.only_sent.given;
      took = take sent.count outbox.waiting;
      taken = sent.taken;
      faults = counts.0;
      idles = omega (arith, sent.only_sent.idles);
      waits = counts.1;
    }

-- ---- what was read and sent is so afterwards

pub rose_on : (first before now last : ℕ) → first ≤ before → now ≤ last → HasRisen before now → HasRisen first last
rose_on first before now last below above rose = (omega (arith, below, rose.0, above), (let least = rose.1 in omega (arith, below, above, least)))

pub read_on : (was before now last : LinkTold) → GoesOn was before → WasRead before now → GoesOn now last → WasRead was last
read_on was before now last first (inr idled) later = inr (rose_on was.idles before.idles now.idles last.idles first.idles later.idles idled)
read_on was before now last first (inl given) later = inl (
  (first.gave ++ given.0) ++ later.gave,
  grows_both was.given now.given last.given (first.gave ++ given.0) later.gave (grows_both was.given before.given now.given first.gave given.0 first.given given.1) later.given,
  (let least = given.2 in let one = length-append first.gave given.0 in let all = length-append (first.gave ++ given.0) later.gave in omega (arith, least, one, all)),
)

pub waited_on : (was before now last : LinkTold) → GoesOn was before → HasRisen before.waits now.waits → GoesOn now last → HasRisen was.waits last.waits
waited_on was before now last first rose later = rose_on was.waits before.waits now.waits last.waits first.waits later.waits rose

-- ---- links by place

-- each of the links goes on from one that was there
abbrev pub AllGo : List LinkTold → List LinkTold → Type 0
AllGo old new = (place : ℕ) (now : LinkTold) → slice_get new place ≡ Some now → (was : LinkTold) × (slice_get old place ≡ Some was) × GoesOn was now

pub all_same : (old new : List LinkTold) → new ≡ old → AllGo old new
all_same old new same = λ place link there. (link, ap (λ (ls : List LinkTold). slice_get ls place) (sym same) ∙ there, goes_still link)

pub all_both : (old between new : List LinkTold) → AllGo old between → AllGo between new → AllGo old new
all_both old between new first second = λ place link there.
    let then = second place link there in
    let was = first place then.0 then.1 in
    (was.0, was.1, goes_both was.0 then.0 link was.2 then.2)

one_goes : (old : List LinkTold) (place : ℕ) (link link_now : LinkTold) → slice_get old place ≡ Some link → GoesOn link link_now → (new : List LinkTold) → new ≡ slice_set old place link_now → AllGo old new
one_goes old place link link_now was goes new is = λ other now there.
    set_cases (λ (l : LinkTold). (before : LinkTold) × (slice_get old other ≡ Some before) × GoesOn before l) old place other link link_now now was
    (λ same. (link, ap (slice_get old) same ∙ was, goes)) (λ apart before. (now, before, goes_still now)) (ap (λ (ls : List LinkTold). slice_get ls other) (sym is) ∙ there)

-- ---- visits to clients

visits_go : (Visit : ℕ → Bool → Client → Client → Type 0) → ((number : ℕ) (moved : Bool) (was now : Client) → Visit number moved was now → GoesOn was.link now.link)
    → (last : ℕ) (numbers : List ℕ) (moved : Bool) (old new : Clients) → Visits Visit last numbers moved old new → AllGo old.links new.links
visits_go Visit one last [] moved old new visits = all_same old.links new.links (ap (λ (c : Clients). c.links) visits.2)
visits_go Visit one last (number ∷ numbers) moved old new visits =
    let was = visits.1 in
    let now = visits.3 in
    let between : Clients = with_client number now old in
    all_both old.links between.links new.links (one_goes old.links (number - 1) was.link now.link visits.2.link (one number visits.4 was now visits.5) between.links refl)
    (visits_go Visit one number numbers visits.6 between new visits.8)

client_heard : (number : ℕ) (moved : Bool) (was now : Client) → HeardClient number moved was now → GoesOn was.link now.link
client_heard number moved was now heard =
    let listens = heard.turn.listens in
    goes_both was.link heard.link now.link (goes_heard listens.answer listens.into was.link heard.link listens.hears) (goes_for heard.why heard.link now.link heard.shut)

client_pumped : (number : ℕ) (moved : Bool) (was now : Client) → Pumped number moved was now → GoesOn was.link now.link
client_pumped number moved was now pumped =
    goes_both was.link pumped.link now.link (goes_sent number pumped.why was.link pumped.link was.side now.side pumped.pump) (goes_for pumped.why pumped.link now.link pumped.shut)

pub clients_heard : (moved : Bool) (old new : Clients) → HearsClients moved old new → AllGo old.links new.links
clients_heard moved old new hears = visits_go HeardClient client_heard 0 hears.0 moved old new hears.1

pub clients_pumped : (moved : Bool) (old new : Clients) → VisitsAll Pumped moved old new → AllGo old.links new.links
clients_pumped moved old new pumps = visits_go Pumped client_pumped 0 pumps.0 moved old new pumps.1

-- ---- closing turns

turn_goes : (client : ℕ) (quiet : Bool) (old new : Stage) → TurnsOnce client quiet old new → GoesOn old.link new.link
turn_goes client quiet old new goes =
    goes_both old.link goes.heard.link new.link (goes_heard goes.listens.answer goes.listens.into old.link goes.heard.link goes.listens.hears)
    (goes_sent client None goes.heard.link new.link goes.heard.side new.side goes.pumps)

turns_go : (client count : ℕ) (old new : Stage) → TurnsOn client count old new → GoesOn old.link new.link
turns_go client zero old new same = goes_same old.link new.link (ap (λ (s : Stage). s.link) same)
turns_go client (suc count) old new turns =
    goes_both old.link turns.0.link new.link (turn_goes client false old turns.0 turns.1) (turns_go client count turns.0 new turns.2)

closing_goes : (client : ℕ) (cause : Why) (old new : Stage) → IsClosedIn client cause old new → GoesOn old.link new.link
closing_goes client cause old new (inl turn) = goes_heard turn.listens.answer turn.listens.into old.link new.link turn.listens.hears
closing_goes client cause old new (inr sent) =
    let listens = sent.1 in
    goes_both old.link sent.0.link new.link (goes_heard listens.answer listens.into old.link sent.0.link listens.hears) (goes_sent client (Some cause) sent.0.link new.link sent.0.side new.side sent.2)

stop_goes : (client : ℕ) (cause : Why) (old new : Stage) → HasClosingTurns client cause old new → GoesOn old.link new.link
stop_goes client cause old new wound = goes_both old.link wound.last.link new.link (turns_go client wound.count old wound.last wound.turns) (elim wound.ends [
  | inl closed ↦ closing_goes client cause wound.last new closed.1
  | inr stopped ↦
      goes_both wound.last.link stopped.0.link new.link (elim stopped.1 [
        | inl quiet ↦ turn_goes client true wound.last stopped.0 quiet.1
        | inr all ↦ goes_same wound.last.link stopped.0.link (ap (λ (s : Stage). s.link) all.1)
      ]) (goes_same stopped.0.link new.link stopped.4)
])

pub clients_closed : (Tells : Type 0) (old new : Clients) → ClosesAll Tells old new → AllGo old.links new.links
clients_closed Tells old new closes =
    visits_go (Closed Tells)
    (λ number moved was now closed. goes_both was.link closed.link now.link (stop_goes number closed.why _ _ closed.wound_up) (goes_shut closed.link now.link closed.shut)) 0 closes.1.0 closes.0 old new closes.1.1

-- ---- links of clients that are gone were shut

pub clients_parted : (hub : Hub) (old new : List LinkTold) → ShutsGone hub old new → AllGo old new
clients_parted hub old new shuts = λ place link there. by place link there (outbox_of hub (place + 1)) refl where
  back : (place : ℕ) → place ≡ place + 1 - 1
  back place = omega arith

  was : (place : ℕ) (link : LinkTold) → slice_get new place ≡ Some link → slice_get old place ≡ Some (get_or old place link)
  was place link there = slice_get-get_or old place link (omega (arith, slice_get_within new place link there, shuts.many))

  by : (place : ℕ) (link : LinkTold) → slice_get new place ≡ Some link → (o : Option Waiting) → outbox_of hub (place + 1) ≡ o → (before : LinkTold) × (slice_get old place ≡ Some before) × GoesOn before link
  by place link there (Some outbox) some =
      let stands = shuts.others (place + 1) (omega arith) (inr (subst (λ (o : Option Waiting). IsSome o) (sym some) refl)) in
      let stands_here : slice_get new place ≡ slice_get old place = subst (λ (p : ℕ). slice_get new p ≡ slice_get old p) (sym (back place)) stands in
      (link, sym stands_here ∙ there, goes_still link)
  by place link there None none =
      let before = get_or old place link in
      let here = was place link there in (
        before,
        here,
        goes_shut before link (shuts.gone (place + 1) before link (omega arith) (omega (arith, slice_get_within new place link there, shuts.many)) none
            (subst (λ (p : ℕ). slice_get old p ≡ Some before) (back place) here) (subst (λ (p : ℕ). slice_get new p ≡ Some link) (back place) there)),
      )

-- ---- visits to channels

ended_goes : (cause : Option ChannelEnd) (channel : ℕ) (moment : Moment) (before after : ChannelView) (old new : Channels) → EndsFor cause channel moment before after old new → GoesOn before.link after.link
ended_goes None channel moment before after old new same = goes_same before.link after.link (ap (λ (s : ChannelView). s.link) same.0)
ended_goes (Some cause) channel moment before after old new ends = goes_shut before.link after.link ends.1.shut

pub channel_heard : (channel : ℕ) (moment : Moment) (end end_now : Option ChannelEnd) (before after : ChannelView) (old new : Channels) → Hears channel moment end end_now before after old new → GoesOn before.link after.link
channel_heard channel moment None end_now before after old new (inl turned) =
    let turn = turned.2.turn in
    goes_both before.link turned.0.link after.link (goes_heard turn.answer turn.into before.link turned.0.link turn.hears) (ended_goes end_now channel moment turned.0 after turned.1 new turned.3)
channel_heard channel moment None end_now before after old new (inr full) = goes_same before.link after.link (ap (λ (s : ChannelView). s.link) full.2)
channel_heard channel moment (Some cause) end_now before after old new hears = goes_shut before.link after.link hears.2.shut

pub channel_sent : (channel : ℕ) (moment : Moment) (end end_now : Option ChannelEnd) (before after : ChannelView) (old new : Channels) → Pumps channel moment end end_now before after old new → GoesOn before.link after.link
channel_sent channel moment None end_now before after old new pumps =
    let one = pumps.2.pumps in
    goes_both before.link pumps.0.link after.link (goes_pumped one.outbox.full end_now one.outbox one.outbox_now before.link pumps.0.link one.pumps) (ended_goes end_now channel moment pumps.0 after pumps.1 new pumps.4)
channel_sent channel moment (Some cause) end_now before after old new pumps = goes_same before.link after.link (ap (λ (s : ChannelView). s.link) pumps.1)

each_goes : (Visit : ℕ → Bool → List (Option ChannelEnd) → List (Option ChannelEnd) → ChannelView → ChannelView → Channels → Channels → Type 0)
    → ((channel : ℕ) (moved : Bool) (old new : Scene) (visited : Visited Visit channel moved old new) → GoesOn visited.link visited.link_now)
    → (channels : List ℕ) (moved : Bool) (old new : Scene) → VisitsEach Visit channels moved old new → AllGo old.links new.links
each_goes Visit one [] moved old new visits = all_same old.links new.links (ap (λ (s : Scene). s.links) visits.1)
each_goes Visit one (channel ∷ others) moved old new visits =
    let v = visits.4 in
    all_both old.links visits.0.links new.links (one_goes old.links (channel - 1) v.link v.link_now v.was (one channel visits.1 old visits.0 v) visits.0.links v.links) (each_goes Visit one others visits.2 visits.0 new visits.5)

module _ (moment : Moment) where
  pub channels_heard : (channels : List ℕ) (moved : Bool) (old new : Scene) → VisitsEach (Heard moment) channels moved old new → AllGo old.links new.links
  channels_heard = each_goes (Heard moment)
      (λ channel moved old new visited. (let v = visited.visit in
      channel_heard channel moment v.end v.end_now (seen_by visited.link old.part) (seen_by visited.link_now new.part) old.channels new.channels v.hears))

  pub channels_sent : (channels : List ℕ) (moved : Bool) (old new : Scene) → VisitsEach (Sent moment) channels moved old new → AllGo old.links new.links
  channels_sent = each_goes (Sent moment)
      (λ channel moved old new visited. (let v = visited.visit in
      channel_sent channel moment v.end v.end_now (seen_by visited.link old.part) (seen_by visited.link_now new.part) old.channels new.channels v.pumps))

  pub channels_stopped : (channels : List ℕ) (moved : Bool) (old new : Scene) → VisitsEach (Stopped moment true) channels moved old new → AllGo old.links new.links
  channels_stopped = each_goes (Stopped moment true) (λ channel moved old new visited. goes_shut visited.link visited.link_now visited.visit.stops.shut)
