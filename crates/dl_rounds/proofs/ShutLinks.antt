-- The links of clients that are gone are shut, one after the other; and visits leave none of them as it was.
use Rattle.std.proofs.Common.{◌≡◌, ◌≢◌, ℕ, ◌+◌, ◌-◌, ◌<◌, ◌≤◌, Bool, true, false, List, [], ◌∷◌, length, Option, Some, None, inl, inr, ◌⊎◌, refl, sym, ap, subst, ◌∙◌, arith, map}
use Rattle.std.specs.Prelude.{get_or, slice_get, slice_set, IsSome, IfNone}
use Rattle.std.specs.Option.{option_map}
use Rattle.std.proofs.lemmas.Option.{slice_get-get_or, slice_get-map, slice_get_within}
use Rattle.std.proofs.lemmas.Bool.Decides.{eqb_tells}
use Rattle.dl_events.specs.declared.event.Why.{Why}
use Rattle.dl_outside.specs.Told.{LinkTold}
use Rattle.dl_hub.specs.State.{Hub, outbox_of}
use Rattle.dl_rounds.specs.Clients.{Client, Clients, HaveVisited, IsClient, Visits, with_client}
use Rattle.dl_rounds.specs.Passing.{IsVisit}
use Rattle.dl_rounds.specs.Visits.{IsShut, ShutsFor}
use Rattle.dl_rounds.specs.Partings.{AreShut, ShutsGone, ShutsTo}
use Rattle.dl_rounds.proofs.ByPlace.{set_length, set_map}
use Rattle.dl_rounds.proofs.Turned.{open_and_gone}
use Rattle.dl_rounds.proofs.VisitedClients.{other_visit, outbox_in}
use Rattle.dl_lemmas.proofs.Lists.{set_here, set_other}

pub shuts_one : (done : ℕ) (hub : Hub) (old now : List LinkTold) (link link_now : LinkTold) → ShutsTo done hub old now → slice_get now done ≡ Some link
    → (IsSome (outbox_of hub (done + 1)) → link_now ≡ link) → (outbox_of hub (done + 1) ≡ None → IsShut link link_now) → ShutsTo (done + 1) hub old (slice_set now done link_now)
shuts_one done hub old now link link_now so there stays gone = record {
  many = set_length now done link_now ∙ so.many;
  others = λ number one which. elim (eqb_tells number (done + 1)) [
    | inl this ↦ here number this.1 which
    | inr apart ↦ set_other now done (number - 1) link_now (λ e. apart.1 (omega (arith, e, one))) ∙ so.others number one (sooner number which)
  ];
  gone = λ number before after one within none was is. elim (eqb_tells number (done + 1)) [
    | inl this ↦ shut_here number before after this.1 none was is
    | inr apart ↦ so.gone number before after one (omega (arith, within, apart.1)) none was
        (sym (set_other now done (number - 1) link_now (λ e. apart.1 (omega (arith, e, one)))) ∙ is)
  ];
} where
  sooner : (number : ℕ) → (done + 1 < number) ⊎ IsSome (outbox_of hub number) → (done < number) ⊎ IsSome (outbox_of hub number)
  sooner number (inl later) = inl (omega (arith, later))
  sooner number (inr some) = inr some

  place : (number : ℕ) → number ≡ done + 1 → number - 1 ≡ done
  place number this = omega (arith, this)

  here : (number : ℕ) → number ≡ done + 1 → (done + 1 < number) ⊎ IsSome (outbox_of hub number) → slice_get (slice_set now done link_now) (number - 1) ≡ slice_get old (number - 1)
  here number this (inl later) = absurd (omega (arith, later, this))
  here number this (inr some) =
      let same = stays (subst (λ (n : ℕ). IsSome (outbox_of hub n)) this some) in
      subst (λ (p : ℕ). slice_get (slice_set now done link_now) p ≡ slice_get now p) (sym (place number this)) (set_here now done link link_now there ∙ ap Some same ∙ sym there)
      ∙ so.others number (omega (arith, this)) (inr some)

  shut_here : (number : ℕ) (before after : LinkTold) → number ≡ done + 1 → outbox_of hub number ≡ None → slice_get old (number - 1) ≡ Some before
      → slice_get (slice_set now done link_now) (number - 1) ≡ Some after → IsShut before after
  shut_here number before after this none was is =
      let kept = so.others number (omega (arith, this)) (inl (omega (arith, this))) in
      let shut = gone (subst (λ (n : ℕ). outbox_of hub n ≡ None) this none) in
      let at_now : slice_get now (number - 1) ≡ Some link = subst (λ (p : ℕ). slice_get now p ≡ Some link) (sym (place number this)) there in
      let at_new : slice_get (slice_set now done link_now) (number - 1) ≡ Some link_now =
      subst (λ (p : ℕ). slice_get (slice_set now done link_now) p ≡ Some link_now) (sym (place number this)) (set_here now done link link_now there) in
      let first : link ≡ before = cc (sym at_now ∙ kept ∙ was) in
      let last : link_now ≡ after = cc (sym at_new ∙ is) in
      subst (λ (l : LinkTold). IsShut l after) first (subst (λ (l : LinkTold). IsShut link l) last shut)

-- the same of a list of links, of which this one was called
pub shuts_next : {L : Type 0} (told : L → LinkTold) (done place : ℕ) (hub : Hub) (old : List LinkTold) (links : List L) (link link_now : L) → place ≡ done
    → ShutsTo done hub old (map told links) → slice_get links place ≡ Some link
    → (IsSome (outbox_of hub (done + 1)) → told link_now ≡ told link) → (outbox_of hub (done + 1) ≡ None → IsShut (told link) (told link_now))
    → ShutsTo (done + 1) hub old (map told (slice_set links place link_now))
shuts_next told done place hub old links link link_now same so there stays gone =
    subst (λ (ls : List LinkTold). ShutsTo (done + 1) hub old ls) (sym (set_map told links place link_now))
    (subst (λ (p : ℕ). ShutsTo (done + 1) hub old (slice_set (map told links) p (told link_now))) (sym same)
    (shuts_one done hub old (map told links) (told link) (told link_now) so
    (subst (λ (p : ℕ). slice_get (map told links) p ≡ Some (told link)) same (slice_get-map told links place ∙ ap (option_map told) there)) stays gone))

-- ---- visits

visit_shuts : (number : ℕ) (why : Option Why) (hub : Hub) (link link_now : LinkTold) → ShutsFor why link link_now → IfNone why (IsSome (outbox_of hub number)) → outbox_of hub number ≡ None
    → link_now.is_shut ≡ true
visit_shuts number None hub link link_now shut stays none = open_and_gone hub number stays none
visit_shuts number (Some why) hub link link_now shut stays none = shut.shut

one_visit : (number : ℕ) (clients : Clients) (was now : Client) → 1 ≤ number → IsClient number clients was → IsVisit number was now → AreShut clients.side.core.hub clients.links
    → AreShut now.side.core.hub (slice_set clients.links (number - 1) now.link)
one_visit number clients was now some is visit shut = λ other link one none there. elim (eqb_tells other number) [
  | inl this ↦
      let same : other ≡ number = this.1 in
      let at : slice_get (slice_set clients.links (number - 1) now.link) (number - 1) ≡ Some link =
      subst (λ (n : ℕ). slice_get (slice_set clients.links (number - 1) now.link) (n - 1) ≡ Some link) same there in
      let link_is : now.link ≡ link = cc (sym (set_here clients.links (number - 1) was.link now.link is.link) ∙ at) in
      subst (λ (l : LinkTold). l.is_shut ≡ true) link_is
      (visit_shuts number visit.why now.side.core.hub visit.link now.link visit.shut visit.stays (subst (λ (n : ℕ). outbox_of now.side.core.hub n ≡ None) same none))
  | inr apart ↦
      let before = other_visit number other clients was now is visit some one apart.1 in
      shut other link one (sym (outbox_in clients (with_client number now clients) other before) ∙ none) (sym before.link ∙ there)
]

module _ (Visit : ℕ → Bool → Client → Client → Type 0) (is_visit : (number : ℕ) (moved : Bool) (was now : Client) → Visit number moved was now → IsVisit number was now) where
  visits_shut : (last : ℕ) (numbers : List ℕ) (moved : Bool) (old new : Clients) → Visits Visit last numbers moved old new → AreShut old.side.core.hub old.links
      → AreShut new.side.core.hub new.links
  visits_shut last [] moved old new visits shut = subst (λ (c : Clients). AreShut c.side.core.hub c.links) (sym visits.2) shut
  visits_shut last (next ∷ numbers) moved old new visits shut =
      let between = with_client next visits.3 old in
      visits_shut next numbers visits.6 between new visits.8
      (one_visit next old visits.1 visits.3 (omega (arith, visits.0.0)) visits.2 (is_visit next visits.4 visits.1 visits.3 visits.5) shut)

  pub all_shut : (moved : Bool) (old new : Clients) → HaveVisited Visit 0 moved old new → AreShut old.side.core.hub old.links → AreShut new.side.core.hub new.links
  all_shut moved old new visits shut = visits_shut 0 visits.0 moved old new visits.1 shut

pub parted : (hub : Hub) (old new : List LinkTold) → ShutsGone hub old new → AreShut hub new
parted hub old new shuts = λ number link one none there.
    let within : number - 1 < length old = omega (arith, slice_get_within new (number - 1) link there, shuts.many) in
    (shuts.gone number (get_or old (number - 1) link) link one (omega (arith, within, one)) none (slice_get-get_or old (number - 1) link within) there).shut
