-- What a round was to each client that is still open after it.
use Rattle.std.proofs.Common.{◌≡◌, ℕ, zero, suc, ◌+◌, ◌-◌, ◌<◌, ◌≤◌, inl, inr, Bool, List, [], ◌∷◌, Option, Some, None, length, map, slice_get, refl, sym, ap, subst, ◌∙◌, arith}
use Rattle.std.specs.Prelude.{IsSome, IsSomeAnd, IfSome}
use Rattle.std.specs.Option.{option_and_then}
use Rattle.std.proofs.lemmas.Bool.Decides.{eqb_tells}
use Rattle.std.proofs.lemmas.List.{length-map}
use Rattle.dl_bytes.specs.declared.conf.AppSpec.{AppSpec}
use Rattle.dl_outside.proofs.Staying.{stays_both}
use Rattle.dl_events.specs.declared.event.Why.{Why}
use Rattle.dl_outside.specs.Links.{Links}
use Rattle.dl_outside.specs.Outside.{HasRisen, Stays}
use Rattle.dl_outside.specs.Told.{LinkTold, NetTold}
use Rattle.dl_hub.specs.State.{Client as HubClient, outbox_of}
use Rattle.dl_taking.specs.declared.taking.Got.{Got}
use Rattle.dl_taking.proofs.DrainedEvents.{step_drain}
use Rattle.dl_turns.specs.State.{Side, side}
use Rattle.dl_turns.specs.Turns.{HasGiven}
use Rattle.dl_rounds.specs.Clients.{Client, Clients, VisitsAll}
use Rattle.dl_rounds.specs.Passing.{EachOpen, WasRead, WasSent, WasVisited}
use Rattle.dl_rounds.specs.Ready.{fresh_listener}
use Rattle.dl_rounds.specs.Visits.{Heard, HearsAll, Pumped, ShutsFor}
use Rattle.dl_rounds.specs.declared.listener.Listener.{Listener}
use Rattle.dl_rounds.proofs.OneClient.{but_pump}
use Rattle.dl_loop.specs.RoundSteps.{Serves}
use Rattle.dl_loop.specs.Scene.{Scene, taking_of}
use Rattle.dl_loop.specs.State.{DaemonState, clients_of, desk_told}
use Rattle.dl_taking.specs.Takes.{found_none, gave}
use Rattle.dl_loop.specs.Takes.{TakesLossesIfMay, TakesOn, TakesTurns, most_of}
use Rattle.dl_loop.specs.declared.round.Round.{Round}
use Rattle.dl_loop.proofs.TakenDaemons.{taken_apps}
use Rattle.dl_loop.proofs.TakenEvents.{open_before}
use Rattle.dl_loop.proofs.TakesTurned.{turn_same}
use Rattle.dl_loop.proofs.Visited.{visits_keep}
use Rattle.dl_rounds.proofs.VisitedClients.{same_link}

-- ---- one visit

-- a client that was listened to has a link that is as busy as before
heard_waits : (number : ℕ) (moved : Bool) (was now : Client) → Heard number moved was now → now.link.waits ≡ was.link.waits
heard_waits number moved was now heard = by heard.why heard.shut ∙ heard.turn.listens.hears.waits where
  by : (why : Option Why) → ShutsFor why heard.link now.link → now.link.waits ≡ heard.link.waits
  by None same = ap (λ (l : LinkTold). l.waits) same
  by (Some why) shut = shut.waits

-- one that was pumped has a link that gave nothing meanwhile, and was not asked for anything
pumped_idles : (number : ℕ) (moved : Bool) (was now : Client) → Pumped number moved was now → now.link.idles ≡ was.link.idles
pumped_idles number moved was now pumped = by pumped.why pumped.shut ∙ pumped.pump.only_sent.idles where
  by : (why : Option Why) → ShutsFor why pumped.link now.link → now.link.idles ≡ pumped.link.idles
  by None same = ap (λ (l : LinkTold). l.idles) same
  by (Some why) shut = shut.idles

pumped_given : (number : ℕ) (moved : Bool) (was now : Client) → Pumped number moved was now → Stays was.link.given now.link.given
pumped_given number moved was now pumped = stays_both was.link.given pumped.link.given now.link.given pumped.pump.only_sent.given (by pumped.why pumped.shut) where
  same_given : (o : Option (List ℕ)) → Stays o o
  same_given None = tt
  same_given (Some x) = refl

  by : (why : Option Why) → ShutsFor why pumped.link now.link → Stays pumped.link.given now.link.given
  by None same = subst (λ (l : LinkTold). Stays pumped.link.given l.given) (sym same) (same_given pumped.link.given)
  by (Some why) shut = shut.given

-- what a link gave, it has given afterwards
given_on : (a b c : Option (List ℕ)) → HasGiven a b → Stays b c → HasGiven a c
given_on None b c given stays = (given.0, tt, given.2)
given_on (Some x) b c given stays = (given.0, subst (λ (o : Option (List ℕ)). IfSome o (λ told. c ≡ Some told)) given.1 stays, given.2)

-- who is open after all were sent was open before
pumped_open : (moved : Bool) (old new : Clients) → VisitsAll Pumped moved old new → (number : ℕ) → IsSome (outbox_of new.side.core.hub number) → IsSome (outbox_of old.side.core.hub number)
pumped_open moved old new pumps = visits_keep Pumped (λ (c : Clients). (number : ℕ) → IsSome (outbox_of c.side.core.hub number) → IsSome (outbox_of old.side.core.hub number)) keeps 0 pumps.0 moved old new pumps.1
    (λ number some. some) where
      some_of : {A : Type 0} (P : A → Type 0) (o : Option A) → IsSomeAnd o P → IsSome o
      some_of P None is = absurd is
      some_of P (Some x) is = refl

      keeps : (number : ℕ) (here : Bool) (clients : Clients) (was now : Client) → was.side ≡ clients.side → Pumped number here was now
          → ((other : ℕ) → IsSome (outbox_of clients.side.core.hub other) → IsSome (outbox_of old.side.core.hub other))
          → (other : ℕ) → IsSome (outbox_of now.side.core.hub other) → IsSome (outbox_of old.side.core.hub other)
      keeps number here clients was now is pumped before other some = before other (subst (λ (s : Side). IsSome (outbox_of s.core.hub other)) is (elim (eqb_tells other number) [
        | inl same ↦ subst (λ (n : ℕ). IsSome (outbox_of was.side.core.hub n)) (sym same.1) (some_of _ (outbox_of was.side.core.hub number) pumped.pump.pumps.sent)
        | inr apart ↦
            subst (λ (o : Option HubClient). IsSome (option_and_then (λ (c : HubClient). c.outbox) o))
            ((but_pump number pumped.why was.link pumped.link was.side now.side pumped.pump).others other apart.1) some
      ]))

-- ---- what is taken

-- it leaves the links, and who is open afterwards was so before
record LeavesClients {L : Type 0} (old new : Scene L) : Type 0 where
  links : new.daemon.links ≡ old.daemon.links
  open_so : (number : ℕ) → IsSome (outbox_of new.daemon.core.hub number) → IsSome (outbox_of old.daemon.core.hub number)

leaves_both : {L : Type 0} (a b c : Scene L) → LeavesClients a b → LeavesClients b c → LeavesClients a c
leaves_both a b c one two = record { links = two.links ∙ one.links; open_so = λ number some. one.open_so number (two.open_so number some) }

-- calls and a claim, and then more
leaves_on : {L : Type 0} (app done : ℕ) (empty : Bool) (gots : List Got) (old new : Scene L) → app < length old.daemon.desk.apps → TakesOn app done empty gots old new → LeavesClients old new
leaves_on app done empty [] old new within none = subst (λ (s : Scene _). LeavesClients old s) (sym none.1) (record { links = refl; open_so = λ number is. is })
leaves_on app done empty (got ∷ gots) old new within some =
    let next = some.1 in
    let drain = (step_drain old.daemon.desk.apps app _ got (taking_of old) (taking_of next) within some.2.takes).drain in
    let same : next.daemon.desk.apps ≡ old.daemon.desk.apps = taken_apps old.daemon.desk next.daemon.desk some.2.desk in
    leaves_both old next new (record {
      links = ap (λ (d : DaemonState _). d.links) some.2.rest;
      open_so = λ number is. open_before drain.more old.daemon.core.hub next.daemon.core.hub drain.clients number is;
    }) (leaves_on app (done + gave got) (found_none (most_of done old.daemon) got) gots next new (subst (λ (specs : List AppSpec). app < length specs) (sym same) within) some.3)

leaves_losses : {L : Type 0} (app : ℕ) (old new : Scene L) → TakesLossesIfMay app old new → LeavesClients old new
leaves_losses app old new (inl some) = record {
  links = ap (λ (d : DaemonState _). d.links) some.2.rest;
  open_so = λ number is. open_before some.2.reports.tells.more old.daemon.core.hub new.daemon.core.hub some.2.reports.tells.clients number is;
}
leaves_losses app old new (inr none) = subst (λ (s : Scene _). LeavesClients old s) (sym none.1) (record { links = refl; open_so = λ number is. is })

leaves_turns : {L : Type 0} (first many : ℕ) (old new : Scene L) → first + many ≤ length old.daemon.desk.apps → TakesTurns first many old new → LeavesClients old new
leaves_turns first zero old new within same = subst (λ (s : Scene _). LeavesClients old s) (sym same) (record { links = refl; open_so = λ number is. is })
leaves_turns first (suc many) old new within turns =
    let turn = turns.1 in
    let next : first + 1 + many ≤ length turns.0.daemon.desk.apps = omega (arith, within, ap (λ (specs : List AppSpec). length specs) (turn_same first old turn.between turns.0 turn.calls turn.losses).apps) in
    leaves_both old turn.between new (leaves_on first 0 _ turn.calls.0 old turn.between (omega (arith, within)) turn.calls.1)
    (leaves_both turn.between turns.0 new (leaves_losses first turn.between turns.0 turn.losses) (leaves_turns (first + 1) many turns.0 new next turns.2))

-- ---- the round

module _ (heard_each : (moved : Bool) (old new : Clients) → HearsAll moved old new → (number : ℕ) → IsSome (outbox_of new.side.core.hub number) → WasVisited Heard number old new)
    (pumped_each : (moved : Bool) (old new : Clients) → VisitsAll Pumped moved old new → (number : ℕ) → IsSome (outbox_of new.side.core.hub number) → WasVisited Pumped number old new)
    (read : (moved : Bool) (old new : Clients) → HearsAll moved old new → EachOpen WasRead old new)
    (sent : (moved : Bool) (old new : Clients) → VisitsAll Pumped moved old new → EachOpen WasSent old new) {L : Type 0} (told : L → LinkTold) (answer : Round) (net net_now : NetTold L) (old new : Scene L)
    (round : Serves told answer net net_now old new) where
  abbrev listeners : List Listener
  listeners = map (λ link. fresh_listener) round.taken.daemon.links.links

  abbrev before : Clients
  before = record {
    links = map told round.taken.daemon.links.links;
    listeners = listeners;
    side = side round.taken.daemon.core (desk_told round.taken.daemon.desk) (Some round.taken.daemon.journal.events) round.taken.folder;
  }

  abbrev after : Clients
  after = record {
    links = map told new.daemon.links.links;
    listeners = listeners;
    side = side new.daemon.core (desk_told round.taken.daemon.desk) (Some new.daemon.journal.events) round.taken.folder;
  }

  visits : VisitsAll Pumped round.pumps.0 before after
  visits = round.pumps.1.visits (desk_told round.taken.daemon.desk) round.taken.folder listeners
      (omega (arith, length-map round.taken.daemon.links.links told, length-map round.taken.daemon.links.links (λ (link : L). fresh_listener)))

  left : LeavesClients round.heard round.taken
  left = leaves_turns 0 (length round.heard.daemon.desk.apps) round.heard round.taken (omega arith) round.takes

  open_heard : (number : ℕ) → IsSome (outbox_of new.daemon.core.hub number) → IsSome (outbox_of round.heard.daemon.core.hub number)
  open_heard number some = left.open_so number (pumped_open round.pumps.0 before after visits number some)

  -- it was listened to
  first : (number : ℕ) → IsSome (outbox_of new.daemon.core.hub number) → WasVisited Heard number (clients_of told round.accepted old.folder) (clients_of told round.heard.daemon round.heard.folder)
  first number some = heard_each round.hears.0 (clients_of told round.accepted old.folder) (clients_of told round.heard.daemon round.heard.folder) round.hears.1.visits number (open_heard number some)

  -- and then sent what waits
  last : (number : ℕ) → IsSome (outbox_of new.daemon.core.hub number) → WasVisited Pumped number before after
  last number some = pumped_each round.pumps.0 before after visits number some

  between : (number : ℕ) (some : IsSome (outbox_of new.daemon.core.hub number)) → (last number some).was.link ≡ (first number some).now.link
  between number some = same_link (map told round.heard.daemon.links.links) (number - 1) (first number some).now.link (last number some).was.link (first number some).link_now
      (subst (λ (ls : Links L). slice_get (map told ls.links) (number - 1) ≡ Some (last number some).was.link) left.links (last number some).link_was)

  pub was_sent : EachOpen WasSent (clients_of told round.accepted old.folder) (clients_of told new.daemon new.folder)
  was_sent = λ number some link link_now at_first at_last.
      let one = first number some in
      let two = last number some in
      let same_first : link ≡ one.was.link = same_link (map told round.accepted.links.links) (number - 1) one.was.link link one.link_was at_first in
      let waits : two.was.link.waits ≡ link.waits = ap (λ (l : LinkTold). l.waits) (between number some) ∙ heard_waits number one.moved one.was one.now one.visit ∙ ap (λ (l : LinkTold). l.waits) (sym same_first) in
      elim (sent round.pumps.0 before after visits number some two.was.link link_now two.link_was at_last) [
        | inl none ↦ inl none
        | inr busy ↦ inr (subst (λ (n : ℕ). HasRisen n link_now.waits) waits busy)
      ]

  pub was_read : EachOpen WasRead (clients_of told round.accepted old.folder) (clients_of told new.daemon new.folder)
  was_read = λ number some link link_now at_first at_last.
      let one = first number some in
      let two = last number some in
      let same_last : link_now ≡ two.now.link = same_link (map told new.daemon.links.links) (number - 1) two.now.link link_now two.link_now at_last in
      let idles : link_now.idles ≡ one.now.link.idles =
      ap (λ (l : LinkTold). l.idles) same_last ∙ pumped_idles number two.moved two.was two.now two.visit ∙ ap (λ (l : LinkTold). l.idles) (between number some) in
      let given : Stays one.now.link.given link_now.given =
      subst (λ (l : LinkTold). Stays l.given link_now.given) (between number some) (subst (λ (l : LinkTold). Stays two.was.link.given l.given) (sym same_last) (pumped_given number two.moved two.was two.now two.visit)) in
      elim (read round.hears.0 (clients_of told round.accepted old.folder) (clients_of told round.heard.daemon round.heard.folder) round.hears.1.visits number (open_heard number some) link one.now.link at_first one.link_now) [
        | inl bytes ↦ inl (given_on link.given one.now.link.given link_now.given bytes given)
        | inr idle ↦ inr (subst (λ (n : ℕ). HasRisen link.idles n) (sym idles) idle)
      ]
