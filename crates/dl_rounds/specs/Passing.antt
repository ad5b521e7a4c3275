-- What visits are: events of clients, and bytes that their links gave and took.
use Rattle.std.specs.Prelude.{◌≡◌, ℕ, ◌+◌, ◌-◌, ◌≤◌, ◌⊎◌, Bool, true, List, [], ◌∷◌, ◌++◌, length, slice_get, Option, Some, None, IfNone, IfSome, IsSome, IsSomeAnd}
use Rattle.std.specs.List.{AllByRecursion}
use Rattle.dl_events.specs.declared.event.Event.{Event}
use Rattle.dl_events.specs.declared.event.Event.TheVariants as event
use Rattle.dl_events.specs.declared.event.Why.{Why}
use Rattle.dl_events.specs.declared.event.Why.TheVariants.{Left}
use Rattle.dl_message.specs.Requests.{requests}
use Rattle.dl_model.specs.ClientEnds.{HasGone, LinkDid, asked_by}
use Rattle.dl_outside.specs.Outside.{Grows, HasRisen}
use Rattle.dl_outside.specs.Told.{LinkTold}
use Rattle.dl_hub.specs.State.{client_of, outbox_of}
use Rattle.dl_core.specs.Admission.{AddsEach}
use Rattle.dl_core.specs.Follows.{HoldsTrace, IsAfter, Run, source_of}
use Rattle.dl_core.specs.Next.{ComeInTurn}
use Rattle.dl_turns.specs.Gone.{IsShown, Tells}
use Rattle.dl_turns.specs.Injected.{HasInjected}
use Rattle.dl_turns.specs.Later.{IsDeskLater, IsLaterStage}
use Rattle.dl_turns.specs.Sent.{HasCut}
use Rattle.dl_turns.specs.State.{Side}
use Rattle.dl_turns.specs.Turns.{HasGiven}
use Rattle.dl_rounds.specs.Clients.{Client, Clients, IsClient, stage_of}
use Rattle.dl_rounds.specs.Visits.{ShutsFor}

-- ---- one visit

-- A visit is the client's events and bytes, as a turn of it is; its link is shut where it was closed, and what it did shows the cause. Else the
-- client is open.
pub record IsVisit (number : ℕ) (old new : Client) : Type 0 where
  pub why : Option Why
  pub link : LinkTold
  pub later : IsLaterStage number why (stage_of old) (record (stage_of new) { link = link })
  pub shut : ShutsFor why link new.link
  pub stays : IfNone why (IsSome (outbox_of new.side.core.hub number))
  pub shows : IfSome why (λ cause. (did : LinkDid) → Tells old.link link did → (cause ≡ Left → did.is_over ≡ true) → IsShown did cause)

-- ---- all of them

-- an event of a round over clients: a request, a level, or a Close
abbrev pub IsOfClients : Event → Type 0
IsOfClients (event.Request client frame answer) = Unit {0}
IsOfClients (event.Level slot level) = Unit {0}
IsOfClients (event.Close client why) = Unit {0}
IsOfClients other = ⊥

-- what links took, with more for each of them
abbrev pub took_all : (ℕ → List ℕ) → (ℕ → List ℕ) → ℕ → List ℕ
took_all taken sent number = taken number ++ sent number

-- Whatever a run made of the core, with these events more, and these bytes more that the links took, it makes what the core is now; and the
-- same of the folder.
abbrev pub AddsSendingAll : List Event → (ℕ → List ℕ) → Side → Side → Type 0
AddsSendingAll more sent old new = (run : Run) (past : List Event) (taken : ℕ → List ℕ) → IsAfter run past taken old.core
    → IsAfter run (past ++ more) (took_all taken sent) new.core × (HoldsTrace run past old.core old.folder → HoldsTrace run (past ++ more) new.core new.folder)

-- The clients and the daemon's side are later by these events of clients, each in its turn, so that a well-formed journal stays so; by these
-- bytes that the links took; and by the levels and the injections of these events.
pub record AreLater (old new : Clients) : Type 0 where
  pub more : List Event
  pub events : AddsEach old.side.events new.side.events more
  pub of_clients : AllByRecursion IsOfClients more
  pub formed : ComeInTurn more old.side.core
  pub sent : ℕ → List ℕ
  pub links_took : (place : ℕ) (link link_now : LinkTold) → slice_get old.links place ≡ Some link → slice_get new.links place ≡ Some link_now
      → Grows link.taken link_now.taken (sent (place + 1))
  pub after : AddsSendingAll more sent old.side new.side
  pub desk : IsDeskLater more old.side.desk new.side.desk
  pub posts : (run : Run) (past : List Event) (taken : ℕ → List ℕ) → IsAfter run past taken old.side.core
      → (app : ℕ) → HasInjected run.setting past more app old.side.desk new.side.desk
  pub many : length new.links ≡ length old.links

-- ---- what a client is, by the events of a run

-- a link tells what it did; it need not tell whether it is over
pub record Did (link : LinkTold) (did : LinkDid) : Type 0 where
  pub given : link.given ≡ Some did.given
  pub taken : link.taken ≡ Some did.taken
  pub faults : link.faults ≡ did.faults
  pub idles : link.idles ≡ did.idles
  pub waits : link.waits ≡ did.waits

-- where the client left, its link is over
abbrev pub IsOverIfLeft : List Event → ℕ → LinkDid → Type 0
IsOverIfLeft events number did = (before after : List Event) → events ≡ before ++ event.Close number Left ∷ after → did.is_over ≡ true

-- A client is as these events have it, where its link tells. While it is open, its cutter has cut just what the link gave, and its Request
-- events are the requests of that. Once it has gone, it went as the model of a daemon's end says.
pub record IsAsNoted (run : Run) (events : List Event) (number : ℕ) (client : Client) : Type 0 where
  pub open_so : IsSome (outbox_of client.side.core.hub number) → (given : List ℕ) → client.link.given ≡ Some given
      → HasCut given client.listener.cutter × (asked_by number events ≡ requests given)
  pub gone_so : outbox_of client.side.core.hub number ≡ None → (did : LinkDid) → Did client.link did → IsOverIfLeft events number did
      → HasGone run.setting (source_of run) events number did

-- All clients that came are so, and the core stands for these events and for what their links took.
pub record AreAsNoted (run : Run) (events : List Event) (taken : ℕ → List ℕ) (clients : Clients) : Type 0 where
  pub after : IsAfter run events taken clients.side.core
  pub took : (place : ℕ) (link : LinkTold) (bytes : List ℕ) → slice_get clients.links place ≡ Some link → link.taken ≡ Some bytes → bytes ≡ taken (place + 1)
  pub each : (number : ℕ) (client : Client) → IsClient number clients client → IsSome (client_of clients.side.core.hub number) → IsAsNoted run events number client

-- the links from this place on tell what they gave and took
abbrev pub TellFrom : ℕ → List LinkTold → Type 0
TellFrom first links = (place : ℕ) (link : LinkTold) → first ≤ place → slice_get links place ≡ Some link → IsSome link.given × IsSome link.taken

-- Where the links tell what they gave and took, clients that were as the events had them are so afterwards, with the events and bytes more by
-- which they are later.
pub record StayAsNoted (old new : Clients) : Type 0 where
  pub later : AreLater old new
  pub stay : (run : Run) (past : List Event) (taken : ℕ → List ℕ) → TellFrom 0 old.links → AreAsNoted run past taken old
      → AreAsNoted run (past ++ later.more) (took_all taken later.sent) new

-- ---- clients that are still open

-- A client was visited: its link and its listener are as the visit left them, and so is the client in the hub.
pub record WasVisited (Visit : ℕ → Bool → Client → Client → Type 0) (number : ℕ) (old new : Clients) : Type 0 where
  pub was : Client
  pub now : Client
  pub moved : Bool
  pub visit : Visit number moved was now
  pub link_was : slice_get old.links (number - 1) ≡ Some was.link
  pub link_now : slice_get new.links (number - 1) ≡ Some now.link
  pub client : client_of new.side.core.hub number ≡ client_of now.side.core.hub number

-- each client that is still open has a link of which this holds, by what it told before and tells now
abbrev pub EachOpen : (ℕ → LinkTold → LinkTold → Side → Type 0) → Clients → Clients → Type 0
EachOpen Holds old new = (number : ℕ) → IsSome (outbox_of new.side.core.hub number) → (link link_now : LinkTold)
    → slice_get old.links (number - 1) ≡ Some link → slice_get new.links (number - 1) ≡ Some link_now → Holds number link link_now new.side

-- its link gave a byte, or had nothing to give yet, its count of idle turns risen
abbrev pub WasRead : ℕ → LinkTold → LinkTold → Side → Type 0
WasRead number link link_now side = HasGiven link.given link_now.given ⊎ HasRisen link.idles link_now.idles

-- nothing is left to send to it, or its link took nothing more, its count of busy turns risen
abbrev pub WasSent : ℕ → LinkTold → LinkTold → Side → Type 0
WasSent number link link_now side = IsSomeAnd (outbox_of side.core.hub number) (λ outbox. outbox.bytes ≡ []) ⊎ HasRisen link.waits link_now.waits
