-- Visits, one after the other, told by their events.
use Rattle.std.proofs.Common.{◌≡◌, ◌≢◌, ℕ, ◌+◌, ◌-◌, ◌<◌, ◌≤◌, Bool, true, false, cond, eqb, List, [], ◌∷◌, ◌++◌, length, Option, Some, None, inl, inr, refl, sym, ap, subst, ◌∙◌, append_assoc, arith}
use Rattle.std.specs.Prelude.{get_or, slice_get, slice_set, IfSome}
use Rattle.std.specs.List.{AllByRecursion}
use Rattle.std.proofs.lemmas.Bool.Decides.{eqb_tells}
use Rattle.std.proofs.lemmas.List.{append-nil}
use Rattle.std.proofs.lemmas.Option.{slice_get-get_or, slice_get_within}
use Rattle.dl_outside.proofs.Staying.{grows_both}
use Rattle.dl_events.specs.declared.event.Event.{Event}
use Rattle.dl_events.specs.declared.event.Event.TheVariants as event
use Rattle.dl_events.specs.declared.event.Why.{Why}
use Rattle.dl_events.specs.declared.event.Why.TheVariants.{Left}
use Rattle.dl_model.specs.ClientEnds.{LinkDid}
use Rattle.dl_outside.specs.Outside.{Grows}
use Rattle.dl_outside.specs.Told.{LinkTold}
use Rattle.dl_hub.specs.Follows.{took_more}
use Rattle.dl_core.specs.Admission.{AddsEach}
use Rattle.dl_core.specs.Follows.{HoldsTrace, IsAfter, Run}
use Rattle.dl_core.specs.Next.{ComeInTurn}
use Rattle.dl_core.proofs.Following.{both_come}
use Rattle.dl_turns.specs.Gone.{IsShown, Tells}
use Rattle.dl_turns.specs.Injected.{HasInjected}
use Rattle.dl_turns.specs.Later.{IsCalm, IsDeskLater, IsLater, IsLaterStage, close_of}
use Rattle.dl_turns.specs.State.{Side, Stage}
use Rattle.dl_turns.specs.Stopping.{HasClosingTurns}
use Rattle.dl_turns.specs.Turns.{IsPump, IsTurn}
use Rattle.dl_turns.proofs.AddedEvents.{each_both, each_none}
use Rattle.dl_turns.proofs.GrownBytes.{stays_grow, stays_same}
use Rattle.dl_turns.proofs.LaterSides.{desk_both, later_same}
use Rattle.dl_turns.proofs.PostedSides.{posted_both}
use Rattle.dl_rounds.specs.declared.listener.Listener.{Listener}
use Rattle.dl_rounds.specs.Clients.{Client, Clients, IsClient, Visits, stage_of, with_client}
use Rattle.dl_rounds.specs.Passing.{AddsSendingAll, AreLater, IsOfClients, IsVisit, took_all}
use Rattle.dl_rounds.specs.Visits.{Closed, Heard, Pumped, ShutsFor}
use Rattle.dl_rounds.proofs.ByPlace.{set_length}
use Rattle.dl_lemmas.proofs.Lists.{set_here, set_other}

-- ---- the events

close_of_clients : (number : ℕ) (why : Option Why) → AllByRecursion IsOfClients (close_of number why)
close_of_clients number None = tt
close_of_clients number (Some why) = (tt, tt)

calm_of_clients : (number : ℕ) (e : Event) → IsCalm number e → IsOfClients e
calm_of_clients number (event.Request client frame answer) calm = tt
calm_of_clients number (event.Level slot level) calm = tt
calm_of_clients number _ calm = absurd calm

pub all_of_clients : (number : ℕ) (calm : List Event) (why : Option Why) → AllByRecursion (IsCalm number) calm → AllByRecursion IsOfClients (calm ++ close_of number why)
all_of_clients number [] why all = close_of_clients number why
all_of_clients number (e ∷ calm) why all = (calm_of_clients number e all.0, all_of_clients number calm why all.1)

pub both_of_clients : (first second : List Event) → AllByRecursion IsOfClients first → AllByRecursion IsOfClients second → AllByRecursion IsOfClients (first ++ second)
both_of_clients [] second one two = two
both_of_clients (e ∷ first) second one two = (one.0, both_of_clients first second one.1 two)

-- ---- the bytes

-- one link's bytes, as those of all
abbrev pub only : ℕ → List ℕ → ℕ → List ℕ
only number sent other = cond (eqb other number) sent []

pub took_only : (taken : ℕ → List ℕ) (number : ℕ) (sent : List ℕ) → took_more taken number sent ≡ took_all taken (only number sent)
took_only taken number sent = λ i other. by (eqb other number) (taken other) i where
  by : (b : Bool) (bytes : List ℕ) → cond b (bytes ++ sent) bytes ≡ bytes ++ cond b sent []
  by true bytes = refl
  by false bytes = sym (append-nil bytes)

pub took_twice : (taken first second : ℕ → List ℕ) → took_all (took_all taken first) second ≡ took_all taken (took_all first second)
took_twice taken first second = λ i other. append_assoc (taken other) (first other) (second other) i

pub took_none : (taken : ℕ → List ℕ) → taken ≡ took_all taken (λ number. [])
took_none taken = λ i other. sym (append-nil (taken other)) i

-- a link that was shut took nothing meanwhile
shut_took : (why : Option Why) (link link_now : LinkTold) → ShutsFor why link link_now → Grows link.taken link_now.taken []
shut_took None link link_now same = subst (λ (l : LinkTold). Grows link.taken l.taken []) (sym same) (stays_grow link.taken link.taken (stays_same link.taken))
shut_took (Some why) link link_now shut = stays_grow link.taken link_now.taken shut.taken

-- ---- none, and one after the other

unfoldable pub all_none : (clients : Clients) → AreLater clients clients
unfolding later_same
all_none clients = record {
  more = [];
  events = each_none clients.side.events;
  of_clients = tt;
  formed = λ run past taken was. tt;
  sent = λ number. [];
  links_took = λ place link link_now was is.
      let same : link_now ≡ link = cc (was, is) in subst (λ (l : LinkTold). Grows link.taken l.taken []) (sym same) (stays_grow link.taken link.taken (stays_same link.taken));
  after = λ run past taken was.
      let none : past ≡ past ++ [] = sym (append-nil past) in (
        subst (λ (t : ℕ → List ℕ). IsAfter run (past ++ []) t clients.side.core) (took_none taken) (subst (λ (es : List Event). IsAfter run es taken clients.side.core) none was),
        λ held. subst (λ (es : List Event). HoldsTrace run es clients.side.core clients.side.folder) none held,
      );
  desk = (later_same 0 clients.side clients.side refl).desk;
  posts = (later_same 0 clients.side clients.side refl).posts;
  many = refl;
}

-- the links at a place are there before and afterwards
pub linked_there : (a b : Clients) → length b.links ≡ length a.links → (place : ℕ) (link : LinkTold) → slice_get a.links place ≡ Some link → (link_now : LinkTold) × (slice_get b.links place ≡ Some link_now)
linked_there a b many place link at =
    let within : place < length b.links = omega (arith, slice_get_within a.links place link at, many) in (get_or b.links place link, slice_get-get_or b.links place link within)

unfoldable pub all_both : (a b c : Clients) → AreLater a b → AreLater b c → AreLater a c
all_both a b c one two = record {
  more = one.more ++ two.more;
  events = each_both a.side.events b.side.events c.side.events one.more two.more one.events two.events;
  of_clients = both_of_clients one.more two.more one.of_clients two.of_clients;
  formed = both_come a.side.core b.side.core one.more two.more (λ run past taken was. (took_all taken one.sent, (one.after run past taken was).0)) one.formed two.formed;
  sent = took_all one.sent two.sent;
  links_took = λ place link link_now was is.
      let between = linked_there a b one.many place link was in
      grows_both link.taken between.0.taken link_now.taken (one.sent (place + 1)) (two.sent (place + 1)) (one.links_took place link between.0 was between.1) (two.links_took place between.0 link_now between.1 is);
  after = λ run past taken was.
      let here = one.after run past taken was in
      let there = two.after run (past ++ one.more) (took_all taken one.sent) here.0 in
      let same = append_assoc past one.more two.more in (
        subst (λ (t : ℕ → List ℕ). IsAfter run (past ++ (one.more ++ two.more)) t c.side.core) (took_twice taken one.sent two.sent)
            (subst (λ (es : List Event). IsAfter run es (took_all (took_all taken one.sent) two.sent) c.side.core) same there.0),
        λ held. subst (λ (es : List Event). HoldsTrace run es c.side.core c.side.folder) same (there.1 (here.1 held)),
      );
  desk = desk_both one.more two.more a.side.desk b.side.desk c.side.desk one.desk two.desk;
  posts = λ run past taken was app.
      posted_both run.setting past one.more two.more app a.side.desk b.side.desk c.side.desk (one.posts run past taken was app)
      (two.posts run (past ++ one.more) (took_all taken one.sent) (one.after run past taken was).0 app);
  many = two.many ∙ one.many;
}

-- ---- one visit

module _ (number : ℕ) (clients : Clients) (was now : Client) (some : 1 ≤ number) (is : IsClient number clients was) (visit : IsVisit number was now) where
  abbrev pub side : IsLater number visit.why visit.later.sent was.side now.side
  side = visit.later.side

  here_took : Grows was.link.taken now.link.taken visit.later.sent
  here_took =
      subst (λ (bytes : List ℕ). Grows was.link.taken now.link.taken bytes) (append-nil visit.later.sent)
      (grows_both was.link.taken visit.link.taken now.link.taken visit.later.sent [] visit.later.link_took (shut_took visit.why visit.link now.link visit.shut))

  pub links_took_one : (place : ℕ) (link link_now : LinkTold) → slice_get clients.links place ≡ Some link → slice_get (slice_set clients.links (number - 1) now.link) place ≡ Some link_now
      → Grows link.taken link_now.taken (only number visit.later.sent (place + 1))
  links_took_one place link link_now before after = elim (eqb_tells (place + 1) number) [
    | inl this ↦
        let at : place ≡ number - 1 = omega (arith, this.1) in
        let first : link ≡ was.link = cc (sym before ∙ ap (λ (n : ℕ). slice_get clients.links n) at ∙ is.link) in
        let last : link_now ≡ now.link = cc (sym after ∙ ap (λ (n : ℕ). slice_get (slice_set clients.links (number - 1) now.link) n) at ∙ set_here clients.links (number - 1) was.link now.link is.link) in
        rw (first, last, this.0) here_took
    | inr other ↦
        let apart : place ≢ number - 1 = λ e. other.1 (omega (arith, e, some)) in
        let same : link_now ≡ link = cc (sym after ∙ set_other clients.links (number - 1) place now.link apart ∙ before) in
        rw (same, other.0) (stays_grow link.taken link.taken (stays_same link.taken))
  ]

  unfoldable pub all_one : AreLater clients (with_client number now clients)
  all_one = record {
    more = side.more;
    events = subst (λ (s : Side). AddsEach s.events now.side.events side.more) is.side side.events;
    of_clients = subst (AllByRecursion IsOfClients) (sym side.ends) (all_of_clients number side.calm visit.why side.all_calm);
    formed = subst (λ (s : Side). ComeInTurn side.more s.core) is.side side.formed;
    sent = only number visit.later.sent;
    links_took = links_took_one;
    after = subst (λ (s : Side). AddsSendingAll side.more (only number visit.later.sent) s now.side) is.side (λ run past taken before.
        let so = side.after run past taken before in (subst (λ (t : ℕ → List ℕ). IsAfter run (past ++ side.more) t now.side.core) (took_only taken number visit.later.sent) so.0, so.1));
    desk = subst (λ (s : Side). IsDeskLater side.more s.desk now.side.desk) is.side side.desk;
    posts = subst (λ (s : Side). (run : Run) (past : List Event) (taken : ℕ → List ℕ) → IsAfter run past taken s.core → (app : ℕ) → HasInjected run.setting past side.more app s.desk now.side.desk) is.side side.posts;
    many = set_length clients.links (number - 1) now.link;
  }

-- ---- all of them

pub all_later : (Visit : ℕ → Bool → Client → Client → Type 0) → ((number : ℕ) (moved : Bool) (was now : Client) → Visit number moved was now → IsVisit number was now)
    → (last : ℕ) (numbers : List ℕ) (moved : Bool) (old new : Clients) → Visits Visit last numbers moved old new → AreLater old new
all_later Visit is last [] moved old new visits = subst (λ (c : Clients). AreLater old c) (sym visits.2) (all_none old)
all_later Visit is last (number ∷ numbers) moved old new visits =
    let some : 1 ≤ number = omega (arith, visits.0.0) in
    let between = with_client number visits.3 old in
    all_both old between new (all_one number old visits.1 visits.3 some visits.2 (is number visits.4 visits.1 visits.3 visits.5)) (all_later Visit is number numbers visits.6 between new visits.8)

-- ---- the three visits

pub heard_visit : ((client : ℕ) (why : Option Why) (old new : Stage) → IsTurn client why old new → IsLaterStage client why old new)
    → ((client : ℕ) (why : Why) (old new : Stage) (did : LinkDid) → IsTurn client (Some why) old new → Tells old.link new.link did → (why ≡ Left → did.is_over ≡ true) → IsShown did why)
    → (number : ℕ) (moved : Bool) (old new : Client) → Heard number moved old new → IsVisit number old new
heard_visit turns shown number moved old new heard = record {
  why = heard.why;
  link = heard.link;
  later = turns number heard.why (stage_of old) (record (stage_of new) { link = heard.link }) heard.turn;
  shut = heard.shut;
  stays = heard.stays;
  shows = by heard.why heard.turn;
}
  where
    by : (why : Option Why) → IsTurn number why (stage_of old) (record (stage_of new) { link = heard.link })
        → IfSome why (λ cause. (did : LinkDid) → Tells old.link heard.link did → (cause ≡ Left → did.is_over ≡ true) → IsShown did cause)
    by None turn = tt
    by (Some why) turn = λ did tells left. shown number why (stage_of old) (record (stage_of new) { link = heard.link }) did turn tells left

pub pumped_visit : ((client : ℕ) (why : Option Why) (old new : Stage) → IsPump client why old.link new.link old.side new.side → new.cutter ≡ old.cutter → IsLaterStage client why old new)
    → ((client : ℕ) (why : Why) (old new : Stage) (did : LinkDid) → IsPump client (Some why) old.link new.link old.side new.side → Tells old.link new.link did → IsShown did why)
    → (number : ℕ) (moved : Bool) (old new : Client) → Pumped number moved old new → IsVisit number old new
pumped_visit pumps shown number moved old new pumped = record {
  why = pumped.why;
  link = pumped.link;
  later = pumps number pumped.why (stage_of old) (record (stage_of new) { link = pumped.link }) pumped.pump (ap (λ (l : Listener). l.cutter) pumped.listener);
  shut = pumped.shut;
  stays = pumped.stays;
  shows = by pumped.why pumped.pump;
}
  where
    by : (why : Option Why) → IsPump number why old.link pumped.link old.side new.side
        → IfSome why (λ cause. (did : LinkDid) → Tells old.link pumped.link did → (cause ≡ Left → did.is_over ≡ true) → IsShown did cause)
    by None pump = tt
    by (Some why) pump = λ did tells left. shown number why (stage_of old) (record (stage_of new) { link = pumped.link }) did pump tells

pub closed_visit : ((client : ℕ) (why : Why) (old new : Stage) → HasClosingTurns client why old new → IsLaterStage client (Some why) old new)
    → ((client : ℕ) (why : Why) (old new : Stage) (did : LinkDid) → HasClosingTurns client why old new → Tells old.link new.link did → (why ≡ Left → did.is_over ≡ true) → IsShown did why)
    → {Tells : Type 0} (number : ℕ) (moved : Bool) (old new : Client) → Closed Tells number moved old new → IsVisit number old new
closed_visit stops shown number moved old new closed = record {
  why = Some closed.why;
  link = closed.link;
  later = stops number closed.why (stage_of old) (record (stage_of new) { link = closed.link }) closed.wound_up;
  shut = closed.shut;
  stays = tt;
  shows = λ did tells left. shown number closed.why (stage_of old) (record (stage_of new) { link = closed.link }) did closed.wound_up tells left;
}
