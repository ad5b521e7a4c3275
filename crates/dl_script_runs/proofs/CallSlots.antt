-- The slot that a call loads is one of the context that the registry has under the call's ids.
use Rattle.std.proofs.Common.{◌≡◌, ℕ, zero, suc, ◌+◌, Bool, true, false, cond, eqb, List, [], ◌∷◌, ◌++◌, map, Option, Some, refl, sym, ap, subst, ◌∙◌, append_assoc, arith, true≢false}
use Rattle.std.specs.Prelude.{nat_eq, reverse, slice_get}
use Rattle.std.specs.List.{AllByRecursion, IsDistinct, filter, filter_map}
use Rattle.std.specs.Map.{lookup}
use Rattle.std.specs.Option.{option_and_then, option_map, option_or}
use Rattle.std.specs.Str.{bytes_eq}
use Rattle.std.proofs.lemmas.Bool.{eq-eqb, eqb-true}
use Rattle.std.proofs.lemmas.List.Elements.{filter_map-append}
use Rattle.std.proofs.lemmas.Map.Keys.{IsDistinct-head, IsDistinct-tail}
use Rattle.dl_lemmas.proofs.Lists.{all_first, all_second, by_end}
use Rattle.dl_bytes.specs.Claim.{Claimed}
use Rattle.dl_bytes.specs.declared.outcome.Done.{Done}
use Rattle.dl_events.specs.declared.event.Event.{Event}
use Rattle.dl_events.specs.declared.event.Event.TheVariants as event
use Rattle.dl_script_model.specs.declared.step.Step.{Step}
use Rattle.dl_model.proofs.StandingApps.{AreFirst, Who, channel_found, there, who}
use Rattle.dl_script.specs.Playable.{IsPlayable}
use Rattle.dl_model.specs.declared.context.Context.{Context}
use Rattle.dl_model.specs.Along.{last_that}
use Rattle.dl_model.specs.Journal.{registry_of}
use Rattle.dl_script_model.specs.Marks.{Call, Mark, app_of_writer, claim_of, claims_of, event_of, journal, number_of, place_of}
use Rattle.dl_model.specs.Registry.{App, Registry, context_of, numbers, slot_of}
use Rattle.dl_model.specs.Setting.{Setting}
use Rattle.dl_script_model.specs.Steps.{run}
use Rattle.dl_model.proofs.Order.{app_of_found, in_order-registry_of}
use Rattle.dl_model.proofs.Presence.{bytes_same, same_bytes}
use Rattle.dl_runs.proofs.Founded.{run_founded}
use Rattle.dl_model.proofs.Lists.{find-passes, last_that-one}
use Rattle.dl_runs.specs.RunRecords.{IsLoadedIn}
use Rattle.dl_runs.specs.WaitingClaims.{IsRegistered}
use Rattle.dl_runs.proofs.ClaimPlaces.{IsOwnClaim, all_own}
use Rattle.dl_runs.proofs.OwnApps.{number_more, writer_more}
use Rattle.dl_runs.proofs.Relations.{AreAll, holds_on, second_part}
use Rattle.dl_laws.proofs.UniqueIds.{AreUnique, numbered, unique-registry_of}
use Rattle.dl_script_runs.specs.OwnSlots.{IsInOwnSlot, IsTaken, claim_named}
use Rattle.dl_script_runs.proofs.FairMarks.{Fair, StaysIn, events_stay, load_named, run_fair}
use Rattle.dl_script_runs.proofs.LeftFree.{found_number, number_is}
use Rattle.dl_script_runs.proofs.PresentApps.{run_known}
use Rattle.dl_script_runs.proofs.StayingContexts.{Seated, seated_on}
use Rattle.dl_script_runs.proofs.Walks.{IsNamed}

-- ---- lists

passing : {A : Type 0} (P : A → Type 0) (p : A → Bool) (xs : List A) → AllByRecursion P xs → AllByRecursion (λ x. P x × (p x ≡ true)) (filter p xs)
passing P p [] all = tt
passing {A = A} P p (x ∷ xs) all = by (p x) refl (passing P p xs all.1) where
  by : (b : Bool) → p x ≡ b → AllByRecursion (λ y. P y × (p y ≡ true)) (filter p xs) → AllByRecursion (λ y. P y × (p y ≡ true)) (cond b (x ∷ filter p xs) (filter p xs))
  by true is rest = ((all.0, is), rest)
  by false is rest = rest

-- the last that passes is one of them
last_of : {A : Type 0} (P : A → Type 0) (p : A → Bool) (x : A) (xs : List A) → AllByRecursion P xs → last_that p xs ≡ Some x → P x
last_of {A = A} P p x xs = by_end (λ ys. AllByRecursion P ys → last_that p ys ≡ Some x → P x) (λ all none. absurd cc) one_more xs where
  one_more : (ys : List A) (y : A) → (AllByRecursion P ys → last_that p ys ≡ Some x → P x) → AllByRecursion P (ys ++ y ∷ []) → last_that p (ys ++ y ∷ []) ≡ Some x → P x
  one_more ys y before all found = by (p y) (sym (last_that-one p ys y) ∙ found) where
    by : (b : Bool) → cond b (Some y) (last_that p ys) ≡ Some x → P x
    by true here = let same : y ≡ x = cc in subst P same (all_second P ys (y ∷ []) all).0
    by false past = before (all_first P ys (y ∷ []) all) past

last_passes : {A : Type 0} (p : A → Bool) (x : A) (xs : List A) → last_that p xs ≡ Some x → p x ≡ true
last_passes p x xs found = find-passes p (reverse xs) x found

-- ---- which application has a number

-- where these are the first, the one that has the number of one of them has its id
first_id : (number : ℕ) (apids : List (List ℕ)) (es : List (List ℕ × App)) → AreFirst number apids (map who es) → IsDistinct nat_eq (numbers es) → (k : ℕ) (id apid : List ℕ) (a : App) → slice_get apids k ≡ Some id →
    lookup (bytes_eq apid) es ≡ Some a → a.number ≡ number + k → apid ≡ id
first_id number [] es first apart k id apid a at found is = absurd cc
first_id number (one ∷ apids) [] first apart k id apid a at found is = absurd first
first_id number (one ∷ apids) (e ∷ es) first apart k id apid a at found is =
    by (bytes_eq apid e.0) refl found k at is (λ next later found same. first_id (number + 1) apids es first.1 (IsDistinct-tail nat_eq e.1.number (numbers es) apart) next id apid a later found same)
  where
    mine : e.1.number ≡ number
    mine = ap (λ (w : Who). w.number) first.0

    later_differs : lookup (bytes_eq apid) es ≡ Some a → e.1.number ≡ a.number → ⊥
    later_differs later same =
        true≢false (sym (eq-eqb e.1.number a.number same) ∙ found_number (λ n. nat_eq e.1.number n ≡ false) (bytes_eq apid) es a later (IsDistinct-head nat_eq e.1.number (numbers es) apart))

    by : (b : Bool) → bytes_eq apid e.0 ≡ b → cond b (Some e.1) (lookup (bytes_eq apid) es) ≡ Some a → (k : ℕ) → slice_get (one ∷ apids) k ≡ Some id → a.number ≡ number + k
        → ((k : ℕ) → slice_get apids k ≡ Some id → lookup (bytes_eq apid) es ≡ Some a → a.number ≡ number + 1 + k → apid ≡ id) → apid ≡ id
    by true here same zero at is rest =
        let ids : one ≡ id = cc at in
        same_bytes apid e.0 here ∙ ap (λ (w : Who). w.apid) first.0 ∙ ids
    by true here same (suc k) at is rest = let app : e.1 ≡ a = cc same in absurd (omega (arith, is, mine, ap (λ (x : App). x.number) app))
    by false past later zero at is rest = absurd (later_differs later (omega (arith, mine, is)))
    by false past later (suc k) at is rest = rest k at later (omega (arith, is))

-- where these are the first, the one of such an id has its number
has_id : (number : ℕ) (apids : List (List ℕ)) (es : List (List ℕ × App)) → AreFirst number apids (map who es) → (k : ℕ) (id other : List ℕ) → slice_get apids k ≡ Some id →
    AllByRecursion (λ e. bytes_eq e.0 other ≡ false) es → bytes_eq id other ≡ false
has_id number [] es first k id other at all = absurd cc
has_id number (one ∷ apids) [] first k id other at all = absurd first
has_id number (one ∷ apids) (e ∷ es) first zero id other at all =
    let ids : one ≡ id = cc at in
    ap (λ (i : List ℕ). bytes_eq i other) (sym (ap (λ (w : Who). w.apid) first.0 ∙ ids)) ∙ all.0
has_id number (one ∷ apids) (e ∷ es) first (suc k) id other at all = has_id (number + 1) apids es first.1 k id other at all.1

pub first_number : (number : ℕ) (apids : List (List ℕ)) (es : List (List ℕ × App)) → AreFirst number apids (map who es) → AreUnique es → (k : ℕ) (id : List ℕ) (a : App) → slice_get apids k ≡ Some id →
    lookup (bytes_eq id) es ≡ Some a → a.number ≡ number + k
first_number number [] es first unique k id a at found = absurd cc
first_number number (one ∷ apids) [] first unique k id a at found = absurd first
first_number number (one ∷ apids) (e ∷ es) first unique zero id a at found =
    let ids : one ≡ id = cc at in
    let same : e.0 ≡ id = ap (λ (w : Who). w.apid) first.0 ∙ ids in
    let here : bytes_eq id e.0 ≡ true = ap (bytes_eq id) same ∙ bytes_same id in
    let app : Some e.1 ≡ Some a = sym (ap (λ (b : Bool). cond b (Some e.1) (lookup (bytes_eq id) es)) here) ∙ found in
    let is : e.1 ≡ a = cc in
    omega (arith, ap (λ (x : App). x.number) is, ap (λ (w : Who). w.number) first.0)
first_number number (one ∷ apids) (e ∷ es) first unique (suc k) id a at found =
    let past : bytes_eq id e.0 ≡ false = has_id (number + 1) apids es first.1 k id e.0 at unique.0 in
    let later : lookup (bytes_eq id) es ≡ Some a = sym (ap (λ (b : Bool). cond b (Some e.1) (lookup (bytes_eq id) es)) past) ∙ found in
    omega (arith, first_number (number + 1) apids es first.1 unique.1 k id a at later)

-- ---- what is seated stays to the end of a run

-- a call whose ids have the place of its slot is in its slot
pub in_own_slot : (r : Registry) (call : Call) (place : ℕ) → Seated call.item.apid call.item.app call.item.ctid place r → call.slot ≡ slot_of call.item.app place → IsInOwnSlot r call
in_own_slot r call place seat slot = record {
  app = seat.entry;
  context = seat.is.context.entry;
  place = place;
  named = ap (option_and_then (λ (app : App). option_map (λ (context : Context). (app, context)) (context_of app call.item.ctid))) seat.there ∙ ap (option_map (λ (context : Context). (seat.entry, context))) seat.is.context.there;
  own = seat.is.own;
  number = seat.is.number_is;
  placed = seat.is.context.is;
  slot = slot;
}

module _ (setting : Setting) (answers : List Done) (steps : List Step) (playable : IsPlayable steps) (call : Call) (loaded : IsLoadedIn setting (run setting answers steps) call) where
  abbrev marks : List Mark
  marks = run setting answers steps

  abbrev later : List Mark
  later = loaded.load ∷ loaded.after

  abbrev at_load : Registry
  at_load = registry_of setting (journal loaded.before)

  abbrev at_end : Registry
  at_end = registry_of setting (journal marks)

  pub fair : AreAll Fair [] marks
  fair = run_fair setting answers steps playable

  pub journal_parts : journal marks ≡ journal loaded.before ++ journal later
  journal_parts = ap journal loaded.place ∙ filter_map-append event_of loaded.before later

  all_stay : AllByRecursion StaysIn (journal loaded.before ++ journal later)
  all_stay = subst (AllByRecursion StaysIn) journal_parts (events_stay [] marks fair)

  pub named : IsNamed loaded.before call
  named = load_named marks loaded.before loaded.after loaded.load call fair loaded.place loaded.first_step loaded.of_call

  -- the writer's application at the end
  owner : app_of_writer call.item.writer marks ≡ Some call.item.apid
  owner = subst (λ (done : List Mark). app_of_writer call.item.writer done ≡ Some call.item.apid) (sym loaded.place)
      (holds_on Fair (λ done. app_of_writer call.item.writer done ≡ Some call.item.apid) (λ done mark is _. writer_more done mark call.item.writer call.item.apid is) loaded.before later named.owner
      (second_part Fair [] loaded.before later (subst (AreAll Fair []) loaded.place fair)))

  number : number_of call.item.apid marks ≡ Some call.item.app
  number = subst (λ (done : List Mark). number_of call.item.apid done ≡ Some call.item.app) (sym loaded.place)
      (holds_on Fair (λ done. number_of call.item.apid done ≡ Some call.item.app) (λ done mark is _. number_more done mark call.item.apid call.item.app is) loaded.before later named.number
      (second_part Fair [] loaded.before later (subst (AreAll Fair []) loaded.place fair)))

  -- the names of the applications at the end, and the call's among them
  abbrev names : List (List ℕ)
  names = (run_known setting answers steps playable).0.apps

  firsts : AreFirst 0 names (there at_end)
  firsts = (run_known setting answers steps playable).1.first

  at_number : slice_get names call.item.app ≡ Some call.item.apid
  at_number = ap (λ (ids : List (List ℕ)). slice_get ids call.item.app) (sym (run_known setting answers steps playable).1.declared) ∙ number_is marks call.item.apid call.item.app number

  to_end : (apid : List ℕ) (n : ℕ) (ctid : List ℕ) (place : ℕ) → Seated apid n ctid place at_load → Seated apid n ctid place at_end
  to_end apid n ctid place seat = subst (λ (es : List Event). Seated apid n ctid place (registry_of setting es)) (sym journal_parts) (seated_on apid n ctid place setting (journal loaded.before) (journal later) (all_second StaysIn (journal loaded.before) (journal later) all_stay) seat)

  -- the application of the call's number has the call's id
  its_id : (apid ctid : List ℕ) (place : ℕ) → Seated apid call.item.app ctid place at_load → apid ≡ call.item.apid
  its_id apid ctid place seat =
      let last = to_end apid call.item.app ctid place seat in
      first_id 0 names at_end.apps firsts (in_order-registry_of setting (journal marks)).numbered.apart call.item.app call.item.apid apid last.entry at_number last.there (last.is.number_is ∙ omega arith)

  -- and that of the call's id has its number
  pub its_number : (n : ℕ) (ctid : List ℕ) (place : ℕ) → Seated call.item.apid n ctid place at_load → n ≡ call.item.app
  its_number n ctid place seat =
      let last = to_end call.item.apid n ctid place seat in
      let is = first_number 0 names at_end.apps firsts (unique-registry_of setting (journal marks)) call.item.app call.item.apid last.entry at_number last.there in
      omega (arith, is, last.is.number_is)

  -- ---- a claim that was taken

  module _ (claim : Claimed) (mine : claim_named call.item.writer call.item.ctid loaded.before ≡ Some claim) (taken : IsTaken claim (journal loaded.before)) where
    abbrev IsMine : Claimed → Type 0
    IsMine c = (IsOwnClaim marks c × (eqb c.writer call.item.writer ≡ true)) × (bytes_eq c.ctid call.item.ctid ≡ true)

    -- it is one of the call's writer, and of the call's id
    is_mine : IsMine claim
    is_mine =
        let all = all_first (IsOwnClaim marks) (filter_map claim_of loaded.before) (filter_map claim_of later)
        (subst (AllByRecursion (IsOwnClaim marks)) (ap (filter_map claim_of) loaded.place ∙ filter_map-append claim_of loaded.before later) (all_own setting marks (run_founded setting answers steps))) in
        let of_writer = passing (IsOwnClaim marks) (λ (c : Claimed). eqb c.writer call.item.writer) (filter_map claim_of loaded.before) all in (
          last_of (λ c. IsOwnClaim marks c × (eqb c.writer call.item.writer ≡ true)) (λ (c : Claimed). bytes_eq c.ctid call.item.ctid) claim (claims_of call.item.writer loaded.before) of_writer mine,
          last_passes (λ (c : Claimed). bytes_eq c.ctid call.item.ctid) claim (claims_of call.item.writer loaded.before) mine,
        )

    ctid_is : claim.ctid ≡ call.item.ctid
    ctid_is = same_bytes claim.ctid call.item.ctid is_mine.1

    app_is : claim.app ≡ call.item.app
    app_is =
        let own = is_mine.0.0 in
        let of_call : app_of_writer call.item.writer marks ≡ Some own.apid = subst (λ (w : ℕ). app_of_writer w marks ≡ Some own.apid) (eqb-true claim.writer call.item.writer is_mine.0.1) own.of_writer in
        let ids : Some own.apid ≡ Some call.item.apid = sym of_call ∙ owner in
        let id : own.apid ≡ call.item.apid = cc in
        let numbers : Some claim.app ≡ Some call.item.app = sym own.number ∙ ap (λ (i : List ℕ). number_of i marks) id ∙ number in
        cc

    place_is : claim.place ≡ named.place
    place_is =
        let places : Some claim.place ≡ Some named.place =
        sym (ap (λ (o : Option Claimed). option_or (option_map (λ (c : Claimed). c.place) o) (place_of call.item.apid call.item.ctid loaded.before)) mine) ∙ named.named in
        cc

    -- the registry has it right after its Claim event, and so at the load
    abbrev pub rest : List Event
    rest = taken.after ++ journal later

    pub event_parts : journal marks ≡ taken.before ++ event.Claim claim taken.moment ∷ rest
    event_parts = journal_parts ∙ ap (λ (es : List Event). es ++ journal later) taken.place ∙ append_assoc taken.before (event.Claim claim taken.moment ∷ taken.after) (journal later)

    seated_at : (r : Registry) → AreUnique r.apps → (reg : IsRegistered r claim) → Seated reg.apid claim.app claim.ctid claim.place r
    seated_at r unique reg =
        let one = numbered r.apps claim.app reg.apid unique reg.numbered in
        let found = app_of_found r 0 reg.apid reg.app reg.there in
        let same : one.app ≡ reg.app = cc (sym one.there ∙ found) in
        record {
          entry = reg.app;
          there = found;
          is = record {
            own = channel_found 0 (lookup (bytes_eq reg.apid) r.apps) reg.app reg.there;
            number_is = sym (ap (λ (a : App). a.number) same) ∙ one.is;
            context = record { entry = reg.context; there = reg.named; is = reg.placed };
          };
        }

    pub taken_in_slot : IsRegistered (registry_of setting (taken.before ++ event.Claim claim taken.moment ∷ [])) claim → IsInOwnSlot at_load call
    taken_in_slot reg =
        let first = taken.before ++ event.Claim claim taken.moment ∷ [] in
        let parts : journal loaded.before ≡ first ++ taken.after = taken.place ∙ sym (append_assoc taken.before (event.Claim claim taken.moment ∷ []) taken.after) in
        let after_stay = all_second StaysIn first taken.after (subst (AllByRecursion StaysIn) parts (all_first StaysIn (journal loaded.before) (journal later) all_stay)) in
        let then = seated_at (registry_of setting first) (unique-registry_of setting first) reg in
        let seat : Seated reg.apid claim.app claim.ctid claim.place at_load =
        subst (λ (es : List Event). Seated reg.apid claim.app claim.ctid claim.place (registry_of setting es)) (sym parts)
        (seated_on reg.apid claim.app claim.ctid claim.place setting first taken.after after_stay then) in
        let by_number : Seated reg.apid call.item.app call.item.ctid claim.place at_load =
        subst (λ (n : ℕ). Seated reg.apid n call.item.ctid claim.place at_load) app_is (subst (λ (k : List ℕ). Seated reg.apid claim.app k claim.place at_load) ctid_is seat) in
        let id = its_id reg.apid call.item.ctid claim.place by_number in
        in_own_slot at_load call claim.place (subst (λ (i : List ℕ). Seated i call.item.app call.item.ctid claim.place at_load) id by_number)
        (named.slot ∙ ap (slot_of call.item.app) (sym place_is))
