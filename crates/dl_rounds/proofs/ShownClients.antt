-- Clients that are gone show why, before and after visits.
use Rattle.std.proofs.Common.{◌≡◌, ◌≢◌, ℕ, ◌-◌, ◌<◌, ◌≤◌, Bool, true, List, [], ◌∷◌, ◌++◌, Option, Some, None, inl, inr, refl, sym, ap, subst, ◌∙◌, append_assoc, arith}
use Rattle.std.specs.Prelude.{slice_get, IfNone, IfSome, IsSome, IsSomeAnd}
use Rattle.std.specs.Option.{option_and_then}
use Rattle.std.proofs.lemmas.Bool.Decides.{eqb_tells}
use Rattle.dl_bytes.specs.Limits.{request_limit}
use Rattle.dl_events.specs.declared.event.Event.{Event}
use Rattle.dl_events.specs.declared.event.Event.TheVariants as event
use Rattle.dl_events.specs.declared.event.Why.{Why}
use Rattle.dl_events.specs.declared.event.Why.TheVariants as why
use Rattle.dl_model.specs.Backlog.{outbox_limit}
use Rattle.dl_outside.specs.Told.{LinkTold}
use Rattle.dl_hub.specs.State.{Client as HubClient, Hub, client_of, outbox_of}
use Rattle.dl_core.specs.Admission.{AddsEach}
use Rattle.dl_turns.specs.Gone.{ShowsCause}
use Rattle.dl_turns.specs.Later.{HasLeft, IsLater, IsLaterStage, LeavesSo, close_of}
use Rattle.dl_turns.specs.State.{Side, Stage}
use Rattle.dl_turns.specs.Stopping.{HasClosingTurns}
use Rattle.dl_turns.specs.Turns.{IsPump, IsTurn}
use Rattle.dl_rounds.specs.Clients.{Client, Clients, IsClient, Visits, stage_of, with_client}
use Rattle.dl_rounds.specs.Shown.{AllShowWhy, IsOverFor, ShowWhy, ShowsWhy, TellOvers, WasServedAll}
use Rattle.dl_rounds.specs.Visits.{Closed, Heard, IsShut, Pumped, ShutsFor}
use Rattle.dl_rounds.specs.declared.listener.Listener.{Listener}
use Rattle.dl_rounds.proofs.OneClient.{IsBut, but_pump, but_stop, but_turn}
use Rattle.dl_rounds.proofs.ServedClients.{pump_served, stop_served, turn_served}
use Rattle.dl_rounds.proofs.Turned.{open_and_gone, placed}
use Rattle.dl_lemmas.proofs.Options.{one_is}
use Rattle.dl_lemmas.proofs.Lists.{set_here, set_other}

-- ---- what a client that is gone shows, it goes on to show

-- a link that is shut shows the same
pub counts_shut : (cause : Why) (link link_now : LinkTold) → IsShut link link_now → ShowsCause link cause → ShowsCause link_now cause
counts_shut why.Broken link link_now shut counts = subst (λ (n : ℕ). 0 < n) (sym shut.faults) counts
counts_shut (why.Stuck left) link link_now shut counts = subst (λ (n : ℕ). 0 < n) (sym shut.waits) counts
counts_shut _ link link_now shut counts = tt

pub over_shut : (cause : Why) (link link_now : LinkTold) → IsShut link link_now → IsOverFor cause link → IsOverFor cause link_now
over_shut why.Left link link_now shut over = shut.over over
over_shut _ link link_now shut over = tt

-- the hub keeps as much of a client that has not changed
pub left_still : (number : ℕ) (cause : Why) (old new : Hub) → client_of new number ≡ client_of old number → new.buffer ≡ old.buffer → HasLeft number cause old → HasLeft number cause new
left_still number cause old new same buffer left =
    subst (λ (o : Option HubClient). IsSomeAnd o (λ c. (c.outbox ≡ None) × LeavesSo (outbox_limit new.buffer) cause c.left)) (sym same)
    (subst (λ (b : ℕ). IsSomeAnd (client_of old number) (λ c. (c.outbox ≡ None) × LeavesSo (outbox_limit b) cause c.left)) (sym buffer) left)

pub served_still : (number : ℕ) (cause : Why) (old new : Hub) → client_of new number ≡ client_of old number → WasServedAll number cause old → WasServedAll number cause new
served_still number why.TooMany old new same served = subst (λ (o : Option HubClient). IsSomeAnd o (λ c. c.replies ≡ request_limit)) (sym same) served
served_still number _ old new same served = tt

module _ {Tells : Type 0} where
  -- with more events, and a hub and a link in which nothing of it has changed
  pub shows_on : (past more : List Event) (old new : Hub) (number : ℕ) (link : LinkTold) → client_of new number ≡ client_of old number → new.buffer ≡ old.buffer
      → ShowsWhy Tells past old number link → ShowsWhy Tells (past ++ more) new number link
  shows_on past more old new number link same buffer shows = record {
    before = shows.before;
    cause = shows.cause;
    after = shows.after ++ more;
    place = ap (λ (es : List Event). es ++ more) shows.place ∙ append_assoc shows.before (event.Close number shows.cause ∷ shows.after) more;
    left = left_still number shows.cause old new same buffer shows.left;
    served = served_still number shows.cause old new same shows.served;
    counts = shows.counts;
    over = shows.over;
  }

  -- and where its link is shut
  pub shows_shut : (events : List Event) (hub : Hub) (number : ℕ) (link link_now : LinkTold) → IsShut link link_now → ShowsWhy Tells events hub number link → ShowsWhy Tells events hub number link_now
  shows_shut events hub number link link_now shut shows = record {
    before = shows.before;
    cause = shows.cause;
    after = shows.after;
    place = shows.place;
    left = shows.left;
    served = shows.served;
    counts = counts_shut shows.cause link link_now shut shows.counts;
    over = λ tells. over_shut shows.cause link link_now shut (shows.over tells);
  }

-- ---- one visit

module _ (Tells : Type 0) (number : ℕ) (clients : Clients) (was now : Client) (some : 1 ≤ number) (is : IsClient number clients was) (sent : List ℕ) (link : LinkTold)
    (but : IsBut number was.side.core.hub now.side.core.hub) where
  -- the client that was visited, where it was closed
  closed_so : (past : List Event) (cause : Option Why) (later : IsLater number cause sent was.side now.side) → ShutsFor cause link now.link → IfNone cause (IsSome (outbox_of now.side.core.hub number))
      → IfSome cause (ShowsCause link) → IfSome cause (λ w. Tells → IsOverFor w link) → IfSome cause (λ w. WasServedAll number w now.side.core.hub) → outbox_of now.side.core.hub number ≡ None → ShowsWhy Tells (past ++ later.more) now.side.core.hub number now.link
  closed_so past None later shut stays counts over served gone = open_and_gone now.side.core.hub number stays gone
  closed_so past (Some cause) later shut stays counts over served gone = record {
    before = past ++ later.calm;
    cause = cause;
    after = [];
    place = ap (λ (es : List Event). past ++ es) later.ends ∙ sym (append_assoc past later.calm (close_of number (Some cause)));
    left = later.leaves;
    served = served;
    counts = counts_shut cause link now.link shut counts;
    over = λ tells. over_shut cause link now.link shut (over tells);
  }

  -- each client
  all_so : (past : List Event) (cause : Option Why) (later : IsLater number cause sent was.side now.side) → ShutsFor cause link now.link → IfNone cause (IsSome (outbox_of now.side.core.hub number))
      → IfSome cause (ShowsCause link) → IfSome cause (λ w. Tells → IsOverFor w link) → IfSome cause (λ w. WasServedAll number w now.side.core.hub)
      → AllShowWhy Tells past clients.side.core.hub clients.links → AllShowWhy Tells (past ++ later.more) now.side.core.hub (with_client number now clients).links
  all_so past cause later shut stays counts over served shown = λ other there_link there gone at. elim (eqb_tells other number) [
    | inl this ↦
        let at_number : slice_get (with_client number now clients).links (number - 1) ≡ Some there_link = subst (λ (n : ℕ). slice_get (with_client number now clients).links (n - 1) ≡ Some there_link) this.1 at in
        let same : now.link ≡ there_link = one_is now.link there_link (slice_get (with_client number now clients).links (number - 1)) (set_here clients.links (number - 1) was.link now.link is.link) at_number in
        subst (λ (n : ℕ). ShowsWhy Tells (past ++ later.more) now.side.core.hub n there_link) (sym this.1)
        (subst (ShowsWhy Tells (past ++ later.more) now.side.core.hub number) same
        (closed_so past cause later shut stays counts over served (subst (λ (n : ℕ). outbox_of now.side.core.hub n ≡ None) this.1 gone)))
    | inr apart ↦
        let place = placed now.side.core.hub other there in
        let elsewhere : other - 1 ≢ number - 1 = λ e. apart.1 (omega (arith, e, some, place.3)) in
        let same : client_of now.side.core.hub other ≡ client_of clients.side.core.hub other = but.others other apart.1 ∙ ap (λ (s : Side). client_of s.core.hub other) is.side in
        let outbox : outbox_of now.side.core.hub other ≡ outbox_of clients.side.core.hub other = ap (λ (o : Option HubClient). option_and_then (λ (c : HubClient). c.outbox) o) same in
        shows_on past later.more clients.side.core.hub now.side.core.hub other there_link same (but.same.buffer ∙ ap (λ (s : Side). s.core.hub.buffer) is.side)
        (shown other there_link (subst (λ (o : Option HubClient). IsSome o) same there) (sym outbox ∙ gone) (sym (set_other clients.links (number - 1) (other - 1) now.link elsewhere) ∙ at))
  ]

  pub visit_shows : (cause : Option Why) → IsLater number cause sent was.side now.side → ShutsFor cause link now.link → IfNone cause (IsSome (outbox_of now.side.core.hub number))
      → IfSome cause (ShowsCause link) → IfSome cause (λ w. Tells → IsOverFor w link) → IfSome cause (λ w. WasServedAll number w now.side.core.hub) → ShowWhy Tells clients → ShowWhy Tells (with_client number now clients)
  visit_shows cause later shut stays counts over served shown = by clients.side.events (ap (λ (s : Side). s.events) is.side) shown where
    by : (o : Option (List Event)) → was.side.events ≡ o → IfSome o (λ events. AllShowWhy Tells events clients.side.core.hub clients.links) → ShowWhy Tells (with_client number now clients)
    by None same none = subst (λ (o : Option (List Event)). IfSome o (λ events. AllShowWhy Tells events now.side.core.hub (with_client number now clients).links)) (sym (subst (λ (o : Option (List Event)). AddsEach o now.side.events later.more) same later.events)) tt
    by (Some past) same all = subst (λ (o : Option (List Event)). IfSome o (λ events. AllShowWhy Tells events now.side.core.hub (with_client number now clients).links)) (sym (subst (λ (o : Option (List Event)). AddsEach o now.side.events later.more) same later.events))
        (all_so past cause later shut stays counts over served all)

-- ---- the three visits

-- what a turn is, and what it shows
abbrev TurnsAreEvents : Type 0
TurnsAreEvents = (client : ℕ) (cause : Option Why) (old new : Stage) → IsTurn client cause old new → IsLaterStage client cause old new

abbrev PumpsAreEvents : Type 0
PumpsAreEvents = (client : ℕ) (cause : Option Why) (old new : Stage) → IsPump client cause old.link new.link old.side new.side → new.cutter ≡ old.cutter → IsLaterStage client cause old new

abbrev StopsAreEvents : Type 0
StopsAreEvents = (client : ℕ) (cause : Why) (old new : Stage) → HasClosingTurns client cause old new → IsLaterStage client (Some cause) old new

over_if : (cause : Why) (link : LinkTold) → (cause ≡ why.Left → link.over ≡ Some true) → IsOverFor cause link
over_if why.Left link left = left refl
over_if _ link left = tt

module _ (Tells : Type 0) where
  heard_shows : TurnsAreEvents → ((client : ℕ) (cause : Why) (old new : Stage) → IsTurn client (Some cause) old new → ShowsCause new.link cause)
      → ((client : ℕ) (old new : Stage) → IsTurn client (Some why.Left) old new → IsSome old.link.over → new.link.over ≡ Some true)
      → (number : ℕ) (moved : Bool) (clients : Clients) (was now : Client) → 1 ≤ number → IsClient number clients was → (Tells → IsSome was.link.over) → Heard number moved was now
      → ShowWhy Tells clients → ShowWhy Tells (with_client number now clients)
  heard_shows turns shown left number moved clients was now some is told heard =
      visit_shows Tells number clients was now some is later.sent heard.link (but_turn number heard.why (stage_of was) end heard.turn) heard.why later.side heard.shut heard.stays
      (counts heard.why heard.turn) (over heard.why heard.turn) (served heard.why heard.turn)
    where
      end : Stage
      end = record (stage_of now) { link = heard.link }

      later : IsLaterStage number heard.why (stage_of was) end
      later = turns number heard.why (stage_of was) end heard.turn

      counts : (cause : Option Why) → IsTurn number cause (stage_of was) end → IfSome cause (ShowsCause heard.link)
      counts None turn = tt
      counts (Some cause) turn = shown number cause (stage_of was) end turn

      over : (cause : Option Why) → IsTurn number cause (stage_of was) end → IfSome cause (λ w. Tells → IsOverFor w heard.link)
      over None turn = tt
      over (Some cause) turn = λ tells. over_if cause heard.link (λ this. left number (stage_of was) end (subst (λ (w : Why). IsTurn number (Some w) (stage_of was) end) this turn) (told tells))

      served : (cause : Option Why) → IsTurn number cause (stage_of was) end → IfSome cause (λ w. WasServedAll number w now.side.core.hub)
      served None turn = tt
      served (Some cause) turn = turn_served number cause (stage_of was) end turn

  pumped_shows : PumpsAreEvents → ((client : ℕ) (cause : Why) (old new : Stage) → IsPump client (Some cause) old.link new.link old.side new.side → ShowsCause new.link cause)
      → (number : ℕ) (moved : Bool) (clients : Clients) (was now : Client) → 1 ≤ number → IsClient number clients was → Pumped number moved was now
      → ShowWhy Tells clients → ShowWhy Tells (with_client number now clients)
  pumped_shows pumps shown number moved clients was now some is pumped =
      visit_shows Tells number clients was now some is later.sent pumped.link (but_pump number pumped.why was.link pumped.link was.side now.side pumped.pump) pumped.why later.side pumped.shut pumped.stays
      (counts pumped.why pumped.pump) (over pumped.why pumped.pump) (served pumped.why pumped.pump)
    where
      end : Stage
      end = record (stage_of now) { link = pumped.link }

      later : IsLaterStage number pumped.why (stage_of was) end
      later = pumps number pumped.why (stage_of was) end pumped.pump (ap (λ (l : Listener). l.cutter) pumped.listener)

      counts : (cause : Option Why) → IsPump number cause was.link pumped.link was.side now.side → IfSome cause (ShowsCause pumped.link)
      counts None pump = tt
      counts (Some cause) pump = shown number cause (stage_of was) end pump

      over : (cause : Option Why) → IsPump number cause was.link pumped.link was.side now.side → IfSome cause (λ w. Tells → IsOverFor w pumped.link)
      over None pump = tt
      over (Some why.Left) pump = absurd pump.sends
      over (Some _) pump = λ tells. tt

      served : (cause : Option Why) → IsPump number cause was.link pumped.link was.side now.side → IfSome cause (λ w. WasServedAll number w now.side.core.hub)
      served None pump = tt
      served (Some cause) pump = pump_served number cause was.link pumped.link was.side now.side pump

  closed_shows : StopsAreEvents → ((client : ℕ) (cause : Why) (old new : Stage) → HasClosingTurns client cause old new → ShowsCause new.link cause)
      → (number : ℕ) (moved : Bool) (clients : Clients) (was now : Client) → 1 ≤ number → IsClient number clients was → Closed Tells number moved was now
      → ShowWhy Tells clients → ShowWhy Tells (with_client number now clients)
  closed_shows stops shown number moved clients was now some is closed =
      visit_shows Tells number clients was now some is later.sent closed.link (but_stop number closed.why (stage_of was) end closed.wound_up) (Some closed.why) later.side closed.shut tt
      (shown number closed.why (stage_of was) end closed.wound_up) (λ tells. over_if closed.why closed.link (λ this. closed.left this tells)) (stop_served number closed.why (stage_of was) end closed.wound_up)
    where
      end : Stage
      end = record (stage_of now) { link = closed.link }

      later : IsLaterStage number (Some closed.why) (stage_of was) end
      later = stops number closed.why (stage_of was) end closed.wound_up

-- ---- all of them

-- what goes on from visit to visit
passed_on : (Visit : ℕ → Bool → Client → Client → Type 0) (P : ℕ → Clients → Type 0)
    → ((last number : ℕ) (moved : Bool) (clients : Clients) (was now : Client) → last < number → IsClient number clients was → Visit number moved was now → P last clients → P number (with_client number now clients))
    → (last : ℕ) (numbers : List ℕ) (moved : Bool) (old new : Clients) → Visits Visit last numbers moved old new → P last old → (end : ℕ) × P end new
passed_on Visit P on last [] moved old new visits holds = (last, subst (P last) (sym visits.2) holds)
passed_on Visit P on last (number ∷ numbers) moved old new visits holds =
    passed_on Visit P on number numbers visits.6 (with_client number visits.3 old) new visits.8 (on last number visits.4 old visits.1 visits.3 visits.0.0 visits.2 visits.5 holds)

-- links of which those from this place on tell whether they are over
abbrev TellOversFrom : ℕ → List LinkTold → Type 0
TellOversFrom first links = (place : ℕ) (link : LinkTold) → first ≤ place → slice_get links place ≡ Some link → IsSome link.over

module _ (Tells : Type 0) where
  pub heard_all : TurnsAreEvents → ((client : ℕ) (cause : Why) (old new : Stage) → IsTurn client (Some cause) old new → ShowsCause new.link cause)
      → ((client : ℕ) (old new : Stage) → IsTurn client (Some why.Left) old new → IsSome old.link.over → new.link.over ≡ Some true)
      → (moved : Bool) (old new : Clients) (numbers : List ℕ) → Visits Heard 0 numbers moved old new → (Tells → TellOvers old.links) → ShowWhy Tells old → ShowWhy Tells new
  heard_all turns shown left moved old new numbers visits told holds =
      let end = passed_on Heard (λ last clients. ShowWhy Tells clients × (Tells → TellOversFrom last clients.links)) on 0 numbers moved old new visits (holds, λ tells place link above at. told tells place link at) in end.1.0
    where
      on : (last number : ℕ) (moved : Bool) (clients : Clients) (was now : Client) → last < number → IsClient number clients was → Heard number moved was now
          → ShowWhy Tells clients × (Tells → TellOversFrom last clients.links) → ShowWhy Tells (with_client number now clients) × (Tells → TellOversFrom number (with_client number now clients).links)
      on last number moved clients was now above is heard so = (
        heard_shows Tells turns shown left number moved clients was now (omega (arith, above)) is (λ tells. so.1 tells (number - 1) was.link (omega (arith, above)) is.link) heard so.0,
        λ tells place link first at. so.1 tells place link (omega (arith, first, above))
            (sym (set_other clients.links (number - 1) place now.link (λ e. absurd (omega (arith, e, first, above)))) ∙ at),
      )

  pub pumped_all : PumpsAreEvents → ((client : ℕ) (cause : Why) (old new : Stage) → IsPump client (Some cause) old.link new.link old.side new.side → ShowsCause new.link cause)
      → (moved : Bool) (old new : Clients) (numbers : List ℕ) → Visits Pumped 0 numbers moved old new → ShowWhy Tells old → ShowWhy Tells new
  pumped_all pumps shown moved old new numbers visits holds =
      (passed_on Pumped (λ last clients. ShowWhy Tells clients)
      (λ last number here clients was now above is pumped so. pumped_shows Tells pumps shown number here clients was now (omega (arith, above)) is pumped so) 0 numbers moved old new visits holds).1

  pub closed_all : StopsAreEvents → ((client : ℕ) (cause : Why) (old new : Stage) → HasClosingTurns client cause old new → ShowsCause new.link cause)
      → (moved : Bool) (old new : Clients) (numbers : List ℕ) → Visits (Closed Tells) 0 numbers moved old new → ShowWhy Tells old → ShowWhy Tells new
  closed_all stops shown moved old new numbers visits holds =
      (passed_on (Closed Tells) (λ last clients. ShowWhy Tells clients)
      (λ last number here clients was now above is closed so. closed_shows Tells stops shown number here clients was now (omega (arith, above)) is closed so) 0 numbers moved old new visits holds).1
