-- The contexts, the writers and the claims of a script's marks, as its lines declare them.
use Rattle.std.proofs.Common.{◌≡◌, ℕ, ◌+◌, ◌<◌, ◌≤◌, Bool, true, false, cond, eqb, List, [], ◌∷◌, ◌++◌, length, Option, Some, None, refl, sym, ap, subst, ◌∙◌, length-append, append-nil, arith, inl, inr, true≢false}
use Rattle.std.specs.Prelude.{◌||◌, ◌⊎◌, count_by}
use Rattle.std.specs.List.{AllByRecursion, cons_option, filter, filter_map, list_any}
use Rattle.std.specs.Str.{bytes_eq}
use Rattle.std.proofs.lemmas.Bool.{eq-eqb, eqb-true}
use Rattle.std.proofs.lemmas.List.Elements.{filter-append, filter_map-append}
use Rattle.std.proofs.lemmas.List.Folds.{list_any-append}
use Rattle.std.proofs.Math.Bool.{or-true}
use Rattle.dl_lemmas.proofs.Lists.{all_both, all_map}
use Rattle.dl_bytes.specs.Claim.{Claimed}
use Rattle.dl_bytes.specs.Number.{◌>>=◌}
use Rattle.dl_bytes.specs.declared.user.UserMsg.{UserMsg}
use Rattle.dl_events.specs.declared.event.Event.{Event}
use Rattle.dl_events.specs.declared.event.Event.TheVariants as event
use Rattle.dl_script_model.specs.declared.line.ClaimLine.{ClaimLine}
use Rattle.dl_script_model.specs.declared.line.ContextLine.{ContextLine}
use Rattle.dl_model.proofs.StandingApps.{is_message}
use Rattle.dl_script_model.proofs.Marks.{contexts-same, writers-same}
use Rattle.dl_script.specs.Earlier.{Declared, is_of, is_on, numbered, places_on}
use Rattle.dl_script.specs.declared.claim.ContextName.{ContextName}
use Rattle.dl_script.specs.declared.claim.PlaceName.{PlaceName}
use Rattle.dl_script_model.specs.Marks.{Mark, HasContext, HasWriter, HasClaim, app_of_writer, claim_of, claims_on, context_of, contexts_of, moment, next_place, number_of, writer_of, writers}
use Rattle.dl_model.specs.Setting.{Setting}
use Rattle.dl_script_model.specs.Steps.{Act, claim, claim_made, finish, for_some, in_sequence, just, tell}
use Rattle.dl_model.proofs.Presence.{bytes_differ, bytes_same}
use Rattle.dl_model.proofs.Lists.{count_by-append}
use Rattle.dl_runs.proofs.ClaimPlaces.{same_id}
use Rattle.dl_runs.proofs.OwnApps.{number_more}
use Rattle.dl_runs.proofs.Relations.{Keeps, holds_on, turns, weaker}
use Rattle.dl_script_runs.proofs.Walks.{Goes, Still, Without, goes_then, notes}

-- ---- marks that declare no context and no writer, and claim no place

abbrev pub Aside : List Mark → Mark → Type 0
Aside done (HasContext context) = ⊥
Aside done (HasWriter apid) = ⊥
Aside done (HasClaim claim) = ⊥
Aside done _ = Unit {0}

without_aside : (kind : Event → Bool) (done : List Mark) (mark : Mark) → Without kind done mark → Aside done mark
without_aside kind done (HasContext context) none = none
without_aside kind done (HasWriter apid) none = none
without_aside kind done (HasClaim claim) none = none
without_aside kind done _ none = tt

aside : (kind : Event → Bool) (act : Act) → Keeps (Without kind) act → Keeps Aside act
aside kind act without done = weaker (Without kind) Aside (without_aside kind) done (act done) (without done)

pub still_aside : (act : Act) → Keeps Still act → Keeps Aside act
still_aside act still = aside is_message act still

pub tells : (setting : Setting) (channel : ℕ) (msg : UserMsg) → Keeps Aside (tell setting channel msg)
tells setting channel msg = aside (λ _. false) (tell setting channel msg) (notes setting (λ _. false) (λ _ _. refl) (λ now. event.User channel msg (moment now)) (λ _. refl))

-- ---- one mark more

same_claims : (done : List Mark) (mark : Mark) → claim_of mark ≡ None → filter_map claim_of (done ++ mark ∷ []) ≡ filter_map claim_of done
same_claims done mark none =
    filter_map-append claim_of done (mark ∷ []) ∙ ap (λ (o : Option Claimed). filter_map claim_of done ++ cons_option o []) none ∙ append-nil (filter_map claim_of done)

abbrev one_if : Bool → ℕ
one_if b = cond b 1 0

one_long : {A : Type 0} (b : Bool) (x : A) → length (cond b (x ∷ []) []) ≡ one_if b
one_long true x = refl
one_long false x = refl

-- one more, where it passes
one_counted : {A : Type 0} (p : A → Bool) (xs : List A) (x : A) → count_by p (xs ++ x ∷ []) ≡ count_by p xs + one_if (p x)
one_counted p xs x = let one : count_by p (x ∷ []) ≡ one_if (p x) = omega arith in count_by-append p xs (x ∷ []) ∙ ap (λ (n : ℕ). count_by p xs + n) one

one_kept : {A : Type 0} (p : A → Bool) (xs : List A) (x : A) → length (filter p (xs ++ x ∷ [])) ≡ length (filter p xs) + one_if (p x)
one_kept p xs x = ap length (filter-append p xs (x ∷ [])) ∙ length-append (filter p xs) (cond (p x) (x ∷ []) []) ∙ ap (λ (n : ℕ). length (filter p xs) + n) (one_long (p x) x)

pub context_more : (apid : List ℕ) (done : List Mark) (context : ContextLine) → length (contexts_of apid (done ++ HasContext context ∷ [])) ≡ length (contexts_of apid done) + one_if (bytes_eq context.apid apid)
context_more apid done context =
    let p = λ (c : ContextLine). bytes_eq c.apid apid in
    ap (λ (cs : List ContextLine). length (filter p cs)) (filter_map-append context_of done (HasContext context ∷ [])) ∙ one_kept p (filter_map context_of done) context

claim_more : (app : ℕ) (done : List Mark) (c : Claimed) → length (claims_on app (done ++ HasClaim c ∷ [])) ≡ length (claims_on app done) + one_if (eqb c.app app)
claim_more app done c =
    let p = λ (x : Claimed). eqb x.app app in
    ap (λ (cs : List Claimed). length (filter p cs)) (filter_map-append claim_of done (HasClaim c ∷ [])) ∙ one_kept p (filter_map claim_of done) c

-- ---- what lines declare

-- A claim is of an application of which lines claim as many places as the marks do, at least. Its place is one that an application can
-- have, and stands behind the contexts that lines declare of it.
pub record IsPlaced (places : List PlaceName) (done : List Mark) (c : Claimed) : Type 0 where
  pub apid : List ℕ
  pub number : number_of apid done ≡ Some c.app
  pub there : list_any (is_on apid) places ≡ true
  pub few : length (claims_on c.app done) ≤ count_by (is_on apid) places
  pub behind : length (contexts_of apid done) ≤ c.place
  pub below : c.place < 64

-- After these marks the writers are those that lines declare, of each application there are no more contexts than these, and so it is with
-- the claims.
pub record Tracked (known : Declared) (done : List Mark) : Type 0 where
  pub owners : writers done ≡ known.writers
  pub contexts : (apid : List ℕ) → length (contexts_of apid done) ≤ count_by (is_of apid) known.contexts
  pub placed : AllByRecursion (IsPlaced known.places done) (filter_map claim_of done)

-- lines that declare nothing of these, and claim no place
pub tracked_alike : (known now : Declared) (done : List Mark) → now.writers ≡ known.writers → now.contexts ≡ known.contexts → now.places ≡ known.places → Tracked known done → Tracked now done
tracked_alike known now done writers contexts places is = record {
  owners = is.owners ∙ sym writers;
  contexts = λ apid. omega (arith, is.contexts apid, ap (count_by (is_of apid)) contexts);
  placed = subst (λ (ps : List PlaceName). AllByRecursion (IsPlaced ps done) (filter_map claim_of done)) (sym places) is.placed;
}

module _ (known : Declared) where
  -- a claim stays so with a mark more, which is no claim and declares no context of its application
  placed_later : (done : List Mark) (mark : Mark) → claim_of mark ≡ None → ((c : Claimed) (was : IsPlaced known.places done c) → length (contexts_of was.apid (done ++ mark ∷ [])) ≡ length (contexts_of was.apid done)) →
      Tracked known done → AllByRecursion (IsPlaced known.places (done ++ mark ∷ [])) (filter_map claim_of (done ++ mark ∷ []))
  placed_later done mark none same is =
      let P = IsPlaced known.places (done ++ mark ∷ []) in
      let claims = same_claims done mark none in
      subst (AllByRecursion P) (sym claims) (all_map (IsPlaced known.places done) P (λ c was. record {
        apid = was.apid;
        number = number_more done mark was.apid c.app was.number;
        there = was.there;
        few = omega (arith, was.few, ap (λ (cs : List Claimed). length (filter (λ (x : Claimed). eqb x.app c.app) cs)) claims);
        behind = omega (arith, was.behind, same c was);
        below = was.below;
      }) (filter_map claim_of done) is.placed)

  tracked_on : (done : List Mark) (mark : Mark) → writer_of mark ≡ None → context_of mark ≡ None → claim_of mark ≡ None → Tracked known done → Tracked known (done ++ mark ∷ [])
  tracked_on done mark no_writer no_context no_claim is = record {
    owners = writers-same done mark no_writer ∙ is.owners;
    contexts = λ apid. omega (arith, is.contexts apid, ap length (contexts-same apid done mark no_context));
    placed = placed_later done mark no_claim (λ c was. ap length (contexts-same was.apid done mark no_context)) is;
  }

  tracked_aside : (done : List Mark) (mark : Mark) → Tracked known done → Aside done mark → Tracked known (done ++ mark ∷ [])
  tracked_aside done (HasContext context) is none = absurd none
  tracked_aside done (HasWriter apid) is none = absurd none
  tracked_aside done (HasClaim claim) is none = absurd none
  tracked_aside done mark is none = tracked_on done mark refl refl refl is

  pub goes_on : (act : Act) → Keeps Aside act → Goes (Tracked known) act (Tracked known)
  goes_on act none done is = holds_on Aside (Tracked known) tracked_aside done (act done) is (none done)

  pub tracked_writer : (apid : List ℕ) (done : List Mark) → Tracked known done → Tracked (record known { writers = known.writers ++ apid ∷ [] }) (done ++ HasWriter apid ∷ [])
  tracked_writer apid done is = record {
    owners = filter_map-append writer_of done (HasWriter apid ∷ []) ∙ ap (λ (ws : List (List ℕ)). ws ++ apid ∷ []) is.owners;
    contexts = λ id. omega (arith, is.contexts id, ap length (contexts-same id done (HasWriter apid) refl));
    placed = placed_later done (HasWriter apid) refl (λ c was. ap length (contexts-same was.apid done (HasWriter apid) refl)) is;
  }

  -- a context of an application of which lines claim no place
  pub tracked_context : (context : ContextLine) (done : List Mark) → list_any (is_on context.apid) known.places ≡ false → Tracked known done →
      Tracked (record known { contexts = known.contexts ++ record { apid = context.apid; ctid = context.ctid } ∷ [] }) (done ++ HasContext context ∷ [])
  tracked_context context done none is =
      let name : ContextName = record { apid = context.apid; ctid = context.ctid } in
      record {
        owners = writers-same done (HasContext context) refl ∙ is.owners;
        contexts = λ apid. omega (arith, is.contexts apid, context_more apid done context, one_counted (is_of apid) known.contexts name);
        placed = placed_later done (HasContext context) refl (λ c was.
            let other : bytes_eq context.apid was.apid ≡ false = bytes_differ context.apid was.apid (λ same. true≢false (sym was.there ∙ ap (λ (id : List ℕ). list_any (is_on id) known.places) (sym same) ∙ none)) in
            omega (arith, context_more was.apid done context, ap one_if other)) is;
      }

-- ---- a claim

-- what a claim is made of: its writer's application, and the next place there
record IsMade (asked : ClaimLine) (done : List Mark) (c : Claimed) : Type 0 where
  apid : List ℕ
  owner : app_of_writer asked.writer done ≡ Some apid
  number : number_of apid done ≡ Some c.app
  place : c.place ≡ next_place apid c.app done

made_of : (asked : ClaimLine) (done : List Mark) (c : Claimed) → claim_made asked done ≡ Some c → IsMade asked done c
made_of asked done c e = by_writer (app_of_writer asked.writer done) refl e where
  made : List ℕ → ℕ → Claimed
  made apid app = record { app = app; writer = asked.writer; place = next_place apid app done; ctid = asked.ctid; level = asked.level; text = asked.text }

  by_app : (apid : List ℕ) → app_of_writer asked.writer done ≡ Some apid → (o : Option ℕ) → number_of apid done ≡ o → (o >>= λ app. Some (made apid app)) ≡ Some c → IsMade asked done c
  by_app apid owner None is e = absurd cc
  by_app apid owner (Some app) is e =
      let same : made apid app ≡ c = cc in
      record {
        apid = apid;
        owner = owner;
        number = is ∙ ap (λ (x : Claimed). Some x.app) same;
        place = sym (ap (λ (x : Claimed). x.place) same) ∙ ap (λ (x : Claimed). next_place apid x.app done) same;
      }

  by_writer : (o : Option (List ℕ)) → app_of_writer asked.writer done ≡ o → (o >>= λ apid. number_of apid done >>= λ app. Some (made apid app)) ≡ Some c → IsMade asked done c
  by_writer None is e = absurd cc
  by_writer (Some apid) is e = by_app apid is (number_of apid done) refl e

module _ (asked : ClaimLine) (apid : List ℕ) (known : Declared) (owner : numbered known.writers asked.writer ≡ Some apid) (room : places_on known apid < 64) where
  abbrev place : PlaceName
  place = record { writer = asked.writer; apid = apid; ctid = asked.ctid }

  abbrev more : List PlaceName
  more = known.places ++ place ∷ []

  abbrev with_place : Declared
  with_place = record known { places = more }

  there_still : (id : List ℕ) → list_any (is_on id) known.places ≡ true → list_any (is_on id) more ≡ true
  there_still id was = list_any-append (is_on id) known.places (place ∷ []) ∙ ap (λ (b : Bool). b || list_any (is_on id) (place ∷ [])) was

  -- no claim is made
  none_made : (done : List Mark) → Tracked known done → Tracked with_place done
  none_made done is = record {
    owners = is.owners;
    contexts = is.contexts;
    placed = all_map (IsPlaced known.places done) (IsPlaced more done) (λ c was. record {
      apid = was.apid;
      number = was.number;
      there = there_still was.apid was.there;
      few = omega (arith, was.few, one_counted (is_on was.apid) known.places place);
      behind = was.behind;
      below = was.below;
    }) (filter_map claim_of done) is.placed;
  }

  module _ (done : List Mark) (is : Tracked known done) (c : Claimed) (number : number_of apid done ≡ Some c.app) (next : c.place ≡ next_place apid c.app done) where
    -- another claim: one place more is claimed of its application, where that is the same
    beside : (d : Claimed) → IsPlaced known.places done d → IsPlaced more (done ++ HasClaim c ∷ []) d
    beside d was = record {
      apid = was.apid;
      number = number_more done (HasClaim c) was.apid d.app was.number;
      there = there_still was.apid was.there;
      few = by (eqb c.app d.app) refl;
      behind = omega (arith, was.behind, ap length (contexts-same was.apid done (HasClaim c) refl));
      below = was.below;
    }
      where
        by : (b : Bool) → eqb c.app d.app ≡ b → length (claims_on d.app (done ++ HasClaim c ∷ [])) ≤ count_by (is_on was.apid) more
        by false other = omega (arith, was.few, claim_more d.app done c, ap one_if other, one_counted (is_on was.apid) known.places place)
        by true same =
            let ids : apid ≡ was.apid = same_id apid was.apid d.app done (number ∙ ap Some (eqb-true c.app d.app same)) was.number in
            let on : bytes_eq apid was.apid ≡ true = ap (bytes_eq apid) (sym ids) ∙ bytes_same apid in
            omega (arith, was.few, claim_more d.app done c, ap one_if same, one_counted (is_on was.apid) known.places place, ap one_if on)

    -- no more are made of its application than lines claim
    few_of : (cs : List Claimed) → AllByRecursion (IsPlaced known.places done) cs → (length (filter (λ (x : Claimed). eqb x.app c.app) cs) ≡ 0) ⊎ (length (claims_on c.app done) ≤ count_by (is_on apid) known.places)
    few_of [] all = inl refl
    few_of (d ∷ cs) all = by (eqb d.app c.app) refl (few_of cs all.1) where
      by : (b : Bool) → eqb d.app c.app ≡ b → (length (filter (λ (x : Claimed). eqb x.app c.app) cs) ≡ 0) ⊎ (length (claims_on c.app done) ≤ count_by (is_on apid) known.places) →
          (length (cond b (d ∷ filter (λ (x : Claimed). eqb x.app c.app) cs) (filter (λ (x : Claimed). eqb x.app c.app) cs)) ≡ 0) ⊎ (length (claims_on c.app done) ≤ count_by (is_on apid) known.places)
      by false other rest = rest
      by true here rest =
          let same = eqb-true d.app c.app here in
          let ids : all.0.apid ≡ apid = same_id all.0.apid apid c.app done (all.0.number ∙ ap Some same) number in
          inr (omega (arith, all.0.few, ap (λ (n : ℕ). length (claims_on n done)) same, ap (λ (id : List ℕ). count_by (is_on id) known.places) ids))

    few_made : length (claims_on c.app done) ≤ count_by (is_on apid) known.places
    few_made = elim (few_of (filter_map claim_of done) is.placed) [ inl none ↦ omega (arith, none) | inr few ↦ few ]

    one_placed : IsPlaced more (done ++ HasClaim c ∷ []) c
    one_placed = record {
      apid = apid;
      number = number_more done (HasClaim c) apid c.app number;
      there = list_any-append (is_on apid) known.places (place ∷ []) ∙ ap (λ (b : Bool). list_any (is_on apid) known.places || (b || false)) (bytes_same apid) ∙ or-true (list_any (is_on apid) known.places);
      few = omega (arith, few_made, claim_more c.app done c, ap one_if (eq-eqb c.app c.app refl), one_counted (is_on apid) known.places place, ap one_if (bytes_same apid));
      behind = omega (arith, next, ap length (contexts-same apid done (HasClaim c) refl));
      below = omega (arith, next, few_made, is.contexts apid, room);
    }

    one_made : Tracked with_place (done ++ HasClaim c ∷ [])
    one_made =
        let P = IsPlaced more (done ++ HasClaim c ∷ []) in
        record {
          owners = writers-same done (HasClaim c) refl ∙ is.owners;
          contexts = λ id. omega (arith, is.contexts id, ap length (contexts-same id done (HasClaim c) refl));
          placed = subst (AllByRecursion P) (sym (filter_map-append claim_of done (HasClaim c ∷ [])))
              (all_both P (filter_map claim_of done) (c ∷ []) (all_map (IsPlaced known.places done) P beside (filter_map claim_of done) is.placed) (one_placed, tt));
        }

  goes_claim : Goes (Tracked known) (claim asked) (Tracked with_place)
  goes_claim done is = by (claim_made asked done) refl where
    by : (o : Option Claimed) → claim_made asked done ≡ o → Tracked with_place (done ++ for_some o (λ c. just (HasClaim c)) done)
    by None e = subst (Tracked with_place) (sym (append-nil done)) (none_made done is)
    by (Some c) e =
        let made = made_of asked done c e in
        let same : Some made.apid ≡ Some apid = sym made.owner ∙ ap (λ (ws : List (List ℕ)). numbered ws asked.writer) is.owners ∙ owner in
        let ids : made.apid ≡ apid = cc in
        one_made done is c (ap (λ (id : List ℕ). number_of id done) (sym ids) ∙ made.number) (made.place ∙ ap (λ (id : List ℕ). next_place id c.app done) ids)

  -- behind the writer's open call, and before what follows
  pub goes_claiming : (acts : List Act) → AllByRecursion (Keeps Aside) acts → Keeps Aside (finish asked.writer) → Goes (Tracked known) (in_sequence (finish asked.writer ∷ claim asked ∷ acts)) (Tracked with_place)
  goes_claiming acts all finishes =
      let P = Tracked known in
      let Q = Tracked with_place in
      goes_then P P Q (finish asked.writer) (claim asked ∷ acts) (goes_on known (finish asked.writer) finishes)
      (goes_then P Q Q (claim asked) acts goes_claim (goes_on with_place (in_sequence acts) (turns Aside acts all)))
