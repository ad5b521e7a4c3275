-- Each client that is open after visits was visited, and is as its visit left it.
use Rattle.std.proofs.Common.{◌≡◌, ◌≢◌, ℕ, ◌-◌, ◌<◌, ◌≤◌, Bool, List, [], ◌∷◌, Option, Some, None, inl, inr, ◌⊎◌, refl, sym, ap, subst, ◌∙◌, arith}
use Rattle.std.specs.Prelude.{slice_get, IsSome, IsSomeAnd}
use Rattle.std.specs.Option.{option_and_then}
use Rattle.std.proofs.lemmas.Bool.{cases_lt}
use Rattle.std.proofs.lemmas.Bool.Decides.{eqb_tells}
use Rattle.dl_events.specs.declared.event.Why.{Why}
use Rattle.dl_outside.specs.Outside.{HasRisen}
use Rattle.dl_outside.specs.Told.{LinkTold}
use Rattle.dl_hub.specs.State.{Client as HubClient, Waiting, client_of, outbox_of}
use Rattle.dl_turns.specs.State.{Side, Stage}
use Rattle.dl_turns.specs.Turns.{HasGiven, HasSent, IsPump, IsTurn}
use Rattle.dl_rounds.specs.Clients.{Client, Clients, HaveVisited, IsClient, Visits, stage_of, with_client}
use Rattle.dl_rounds.specs.Passing.{EachOpen, IsVisit, WasRead, WasSent, WasVisited}
use Rattle.dl_rounds.specs.Visits.{Heard, Pumped, ShutsFor}
use Rattle.dl_rounds.proofs.Turned.{closed_so, open_and_gone, open_within}
use Rattle.dl_lemmas.proofs.Lists.{set_here, set_other}

-- a client that isn't visited is as it was
pub record IsAsBefore (number : ℕ) (old new : Clients) : Type 0 where
  pub client : client_of new.side.core.hub number ≡ client_of old.side.core.hub number
  pub link : slice_get new.links (number - 1) ≡ slice_get old.links (number - 1)

before_both : (number : ℕ) (a b c : Clients) → IsAsBefore number a b → IsAsBefore number b c → IsAsBefore number a c
before_both number a b c one two = record { client = two.client ∙ one.client; link = two.link ∙ one.link }

pub outbox_in : (old new : Clients) (number : ℕ) → IsAsBefore number old new → outbox_of new.side.core.hub number ≡ outbox_of old.side.core.hub number
outbox_in old new number as_before = ap (λ (o : Option HubClient). option_and_then (λ (c : HubClient). c.outbox) o) as_before.client

pub other_visit : (number other : ℕ) (clients : Clients) (was now : Client) → IsClient number clients was → IsVisit number was now → 1 ≤ number → 1 ≤ other → other ≢ number
    → IsAsBefore other clients (with_client number now clients)
other_visit number other clients was now is visit some one apart = record {
  client = visit.later.side.others other apart ∙ ap (λ (s : Side). client_of s.core.hub other) is.side;
  link = set_other clients.links (number - 1) (other - 1) now.link (λ e. apart (omega (arith, e, some, one)));
}

module _ (Visit : ℕ → Bool → Client → Client → Type 0) (is_visit : (number : ℕ) (moved : Bool) (was now : Client) → Visit number moved was now → IsVisit number was now) where
  passed : (last : ℕ) (numbers : List ℕ) (moved : Bool) (old new : Clients) → Visits Visit last numbers moved old new → (number : ℕ) → 1 ≤ number → number ≤ last → IsAsBefore number old new
  passed last [] moved old new visits number one below = subst (λ (c : Clients). IsAsBefore number old c) (sym visits.2) (record { client = refl; link = refl })
  passed last (next ∷ numbers) moved old new visits number one below =
      let between = with_client next visits.3 old in
      let here = other_visit next number old visits.1 visits.3 visits.2 (is_visit next visits.4 visits.1 visits.3 visits.5) (omega (arith, visits.0.0)) one (λ e. absurd (omega (arith, e, visits.0.0, below))) in
      before_both number old between new here (passed next numbers visits.6 between new visits.8 number one (omega (arith, visits.0.0, below)))

  visited : (last : ℕ) (numbers : List ℕ) (moved : Bool) (old new : Clients) → Visits Visit last numbers moved old new → (number : ℕ) → last < number → IsSome (outbox_of new.side.core.hub number)
      → WasVisited Visit number old new
  visited last [] moved old new visits number above some =
      open_and_gone old.side.core.hub number (subst (λ (c : Clients). IsSome (outbox_of c.side.core.hub number)) visits.2 some) (visits.0 number above)
  visited last (next ∷ numbers) moved old new visits number above some = elim (eqb_tells number next) [
    | inl this ↦ visited_here this.1
    | inr apart ↦ elim (cases_lt next number) [
      | inl later ↦ visited_later apart.1 (visited next numbers visits.6 between new visits.8 number later some)
      | inr sooner ↦
          let below : number < next = omega (arith, sooner, apart.1) in
          let same = before_both number old between new (beside apart.1) (passed next numbers visits.6 between new visits.8 number (omega (arith, above)) (omega (arith, below))) in
          open_and_gone new.side.core.hub number some (outbox_in old new number same ∙ visits.0.2 number above below)
    ]
  ] where
    between : Clients
    between = with_client next visits.3 old

    beside : number ≢ next → IsAsBefore number old between
    beside apart = other_visit next number old visits.1 visits.3 visits.2 (is_visit next visits.4 visits.1 visits.3 visits.5) (omega (arith, visits.0.0)) (omega (arith, above)) apart

    visited_here : number ≡ next → WasVisited Visit number old new
    visited_here this = subst (λ (n : ℕ). WasVisited Visit n old new) (sym this)
        (let same = passed next numbers visits.6 between new visits.8 next (omega (arith, visits.0.0)) (omega arith) in record {
          was = visits.1;
          now = visits.3;
          moved = visits.4;
          visit = visits.5;
          link_was = visits.2.link;
          link_now = same.link ∙ set_here old.links (next - 1) visits.1.link visits.3.link visits.2.link;
          client = same.client;
        })

    visited_later : number ≢ next → WasVisited Visit number between new → WasVisited Visit number old new
    visited_later apart rest =
        record {
          was = rest.was;
          now = rest.now;
          moved = rest.moved;
          visit = rest.visit;
          link_was = sym (beside apart).link ∙ rest.link_was;
          link_now = rest.link_now;
          client = rest.client;
        }

  pub visited_all : (moved : Bool) (old new : Clients) → HaveVisited Visit 0 moved old new → (number : ℕ) → IsSome (outbox_of new.side.core.hub number) → WasVisited Visit number old new
  visited_all moved old new visits number some = visited 0 visits.0 moved old new visits.1 number (omega (arith, (open_within new.side.core.hub number some).0)) some

-- ---- why they stay

-- it is open behind its visit, too
open_then : (Visit : ℕ → Bool → Client → Client → Type 0) (number : ℕ) (old new : Clients) (visited : WasVisited Visit number old new) → IsSome (outbox_of new.side.core.hub number)
    → IsSome (outbox_of visited.now.side.core.hub number)
open_then Visit number old new visited some = subst (λ (o : Option HubClient). IsSome (option_and_then (λ (c : HubClient). c.outbox) o)) visited.client some

read_by : ((client : ℕ) (old new : Stage) → IsTurn client None old new → HasGiven old.link.given new.link.given ⊎ HasRisen old.link.idles new.link.idles)
    → (number : ℕ) (moved : Bool) (was now : Client) → Heard number moved was now → IsSome (outbox_of now.side.core.hub number) → WasRead number was.link now.link now.side
read_by stays number moved was now heard some = by heard.why heard.turn heard.shut where
  by : (why : Option Why) → IsTurn number why (stage_of was) (record (stage_of now) { link = heard.link }) → ShutsFor why heard.link now.link → WasRead number was.link now.link now.side
  by None turn same =
      subst (λ (l : LinkTold). HasGiven was.link.given l.given ⊎ HasRisen was.link.idles l.idles) (sym same) (stays number (stage_of was) (record (stage_of now) { link = heard.link }) turn)
  by (Some why) turn shut = open_and_gone now.side.core.hub number some (closed_so number why turn.between now.side turn.closes)

sent_by : (number : ℕ) (moved : Bool) (was now : Client) → Pumped number moved was now → IsSome (outbox_of now.side.core.hub number) → WasSent number was.link now.link now.side
sent_by number moved was now pumped some = by pumped.why pumped.pump pumped.shut where
  by : (why : Option Why) → IsPump number why was.link pumped.link was.side now.side → ShutsFor why pumped.link now.link → WasSent number was.link now.link now.side
  by None pump same =
      let sent = subst (λ (s : Side). HasSent number s.core was.link pumped.link) (sym pump.closes) pump.sends.0 in
      elim sent [
        | inl none ↦ inl none.0
        | inr busy ↦ inr (subst (λ (l : LinkTold). HasRisen was.link.waits l.waits) (sym same) busy.1)
      ]
  by (Some why) pump shut = open_and_gone now.side.core.hub number some (closed_so number why pump.between now.side pump.closes)

pub same_link : (links : List LinkTold) (place : ℕ) (a b : LinkTold) → slice_get links place ≡ Some a → slice_get links place ≡ Some b → b ≡ a
same_link links place a b one two = cc (sym two ∙ one)

pub each_read : ((client : ℕ) (old new : Stage) → IsTurn client None old new → HasGiven old.link.given new.link.given ⊎ HasRisen old.link.idles new.link.idles)
    → (old new : Clients) → ((number : ℕ) → IsSome (outbox_of new.side.core.hub number) → WasVisited Heard number old new) → EachOpen WasRead old new
each_read stays old new each = λ number some link link_now before after.
    let one = each number some in
    let read = read_by stays number one.moved one.was one.now one.visit (open_then Heard number old new one some) in
    subst (λ (l : LinkTold). HasGiven l.given link_now.given ⊎ HasRisen l.idles link_now.idles) (sym (same_link old.links (number - 1) one.was.link link one.link_was before))
    (subst (λ (l : LinkTold). HasGiven one.was.link.given l.given ⊎ HasRisen one.was.link.idles l.idles) (sym (same_link new.links (number - 1) one.now.link link_now one.link_now after)) read)

pub each_sent : (old new : Clients) → ((number : ℕ) → IsSome (outbox_of new.side.core.hub number) → WasVisited Pumped number old new) → EachOpen WasSent old new
each_sent old new each = λ number some link link_now before after.
    let one = each number some in
    let sent = sent_by number one.moved one.was one.now one.visit (open_then Pumped number old new one some) in
    let first = same_link old.links (number - 1) one.was.link link one.link_was before in
    let last = same_link new.links (number - 1) one.now.link link_now one.link_now after in
    let outbox = ap (λ (o : Option HubClient). option_and_then (λ (c : HubClient). c.outbox) o) one.client in
    elim sent [
      | inl none ↦ inl (subst (λ (o : Option Waiting). IsSomeAnd o (λ w. w.bytes ≡ [])) (sym outbox) none)
      | inr busy ↦ inr (subst (λ (l : LinkTold). HasRisen l.waits link_now.waits) (sym first) (subst (λ (l : LinkTold). HasRisen one.was.link.waits l.waits) (sym last) busy))
    ]
