-- A claim that the daemon takes is in the registry.
use Rattle.std.proofs.Common.{◌≡◌, ◌≢◌, ℕ, ◌<◌, Bool, true, false, not, cond, eqb, List, [], ◌∷◌, ◌++◌, map, Option, Some, None, refl, sym, ap, subst, ◌∙◌, unwrap_or, lt-ltb}
use Rattle.std.specs.Prelude.{nat_eq, ◌==◌, ◌&&◌, ◌||◌, IsSome}
use Rattle.std.specs.List.{AllByRecursion, IsDistinct, find, cons_option, list_any}
use Rattle.std.specs.Map.{lookup, set_value}
use Rattle.std.specs.Option.{option_and_then, option_map, option_or}
use Rattle.std.specs.Str.{bytes_eq}
use Rattle.std.proofs.lemmas.Bool.{eq-eqb, ne_eqb}
use Rattle.std.proofs.lemmas.List.{map-append}
use Rattle.std.proofs.lemmas.List.Elements.{filter_map-append}
use Rattle.std.proofs.lemmas.List.Folds.{list_any-append}
use Rattle.std.proofs.lemmas.Map.Keys.{IsDistinct-head, IsDistinct-tail}
use Rattle.dl_bytes.specs.Claim.{Claimed}
use Rattle.dl_bytes.specs.Limits.{last_version}
use Rattle.dl_bytes.specs.declared.conf.StoredLevel.{StoredLevel}
use Rattle.dl_bytes.specs.declared.moment.Moment.{Moment}
use Rattle.dl_events.specs.declared.event.Event.{Event}
use Rattle.dl_events.specs.declared.event.Event.TheVariants as event
use Rattle.dl_model.specs.declared.context.Context.{Context}
use Rattle.dl_model.specs.declared.registry.Slot.{Slot}
use Rattle.dl_model.specs.Accounts.{claim_of, claims}
use Rattle.dl_model.specs.Journal.{registry_of, slots_of}
use Rattle.dl_script_model.specs.Marks.{Mark, journal}
use Rattle.dl_model.specs.Registry.{App, Registry, apid_numbered, app_of, claimed, context_claimed, context_of, has_place, is_free, places, slot_of, stored_level, with_app, with_claim}
use Rattle.dl_script_model.specs.Runs.{AreFounded}
use Rattle.dl_model.specs.Setting.{Setting}
use Rattle.dl_model.proofs.Changes.{app_of_own, found_on}
use Rattle.dl_model.proofs.OneMore.{registry-one}
use Rattle.dl_model.proofs.Presence.{bytes_same, lookup-push, lookup-set_same}
use Rattle.dl_laws.specs.PresentClaims.{IsThere}
use Rattle.dl_runs.specs.WaitingClaims.{IsRegistered, IsUntaken, MessagesLeaveFree}
use Rattle.dl_runs.proofs.ClaimPlaces.{places_apart}
use Rattle.dl_runs.proofs.EarlyCalls.{stand_and_owe}
use Rattle.dl_runs.proofs.FreePlaces.{AreOwed, IsUnused, first_owed, lack-lookup, unused}
use Rattle.dl_runs.proofs.Relations.{AreAll}
use Rattle.dl_laws.proofs.UniqueIds.{numbered, unique-registry_of}
use Rattle.dl_runs.proofs.WellFormed.{Stands}

-- ---- no claim of its place was taken before

apart_before : (xs ys : List ℕ) (y : ℕ) → IsDistinct nat_eq (xs ++ y ∷ ys) → AllByRecursion (λ x. nat_eq x y ≡ false) xs
apart_before [] ys y is = tt
apart_before (x ∷ xs) ys y is = (here xs (IsDistinct-head nat_eq x (xs ++ y ∷ ys) is), apart_before xs ys y (IsDistinct-tail nat_eq x (xs ++ y ∷ ys) is)) where
  here : (zs : List ℕ) → AllByRecursion (λ z. nat_eq x z ≡ false) (zs ++ y ∷ ys) → nat_eq x y ≡ false
  here [] all = all.0
  here (z ∷ zs) all = here zs all.1

other_places : (place : ℕ) (cs : List Claimed) → AllByRecursion (λ x. nat_eq x place ≡ false) (map (λ (c : Claimed). c.place) cs) → AllByRecursion (λ (c : Claimed). c.place ≡ place → ⊥) cs
other_places place [] all = tt
other_places place (c ∷ cs) all = ((λ same. absurd (cc (sym (eq-eqb c.place place same) ∙ all.0))), other_places place cs all.1)

untaken_before : (before after : List Event) (claim : Claimed) (moment : Moment) → IsDistinct nat_eq (map (λ (c : Claimed). c.place) (claims claim.app (before ++ event.Claim claim moment ∷ after))) → IsUntaken claim.app claim.place before
untaken_before before after claim moment is =
    let parts : claims claim.app (before ++ event.Claim claim moment ∷ after) ≡ claims claim.app before ++ claim ∷ claims claim.app after =
    filter_map-append (claim_of claim.app) before (event.Claim claim moment ∷ after)
    ∙ ap (λ (b : Bool). claims claim.app before ++ cons_option (cond b (Some claim) None) (claims claim.app after)) (eq-eqb claim.app claim.app refl) in
    let split : map (λ (c : Claimed). c.place) (claims claim.app (before ++ event.Claim claim moment ∷ after)) ≡ map (λ (c : Claimed). c.place) (claims claim.app before) ++ claim.place ∷ map (λ (c : Claimed). c.place) (claims claim.app after) =
    ap (map (λ (c : Claimed). c.place)) parts ∙ map-append (λ (c : Claimed). c.place) (claims claim.app before) (claim ∷ claims claim.app after) in
    other_places claim.place (claims claim.app before)
    (apart_before (map (λ (c : Claimed). c.place) (claims claim.app before)) (map (λ (c : Claimed). c.place) (claims claim.app after)) claim.place (subst (IsDistinct nat_eq) split is))

-- ---- a claim that changes something

free_now : (place : ℕ) (app : App) → place < 64 → list_any (nat_eq place) (places app.contexts) ≡ false → is_free place app.contexts ≡ true
free_now place app below none = ap (λ (b : Bool). b && not (list_any (nat_eq place) (places app.contexts))) (lt-ltb place 64 below) ∙ ap not none

context_is_claimed : (slots : ℕ → Slot) (r : Registry) (apid : List ℕ) (claim : Claimed) (app : App) → is_free claim.place app.contexts ≡ true → ((slots (slot_of app.number claim.place)).version == last_version) ≡ false
    → context_claimed slots r apid claim app ≡ Some (with_app r apid (with_claim r.stored apid claim app (context_of app claim.ctid)))
context_is_claimed slots r apid claim app free fresh =
    ap (λ (b : Bool). cond (not b) None (cond ((slots (slot_of app.number claim.place)).version == last_version) None (Some (with_app r apid (with_claim r.stored apid claim app (context_of app claim.ctid)))))) free
    ∙ ap (λ (b : Bool). cond b None (Some (with_app r apid (with_claim r.stored apid claim app (context_of app claim.ctid))))) fresh

-- ---- what it leaves

-- the application of a number keeps its id
number_kept : (number : ℕ) (apid : List ℕ) (es : List (List ℕ × App)) (old new : App) → lookup (bytes_eq apid) es ≡ Some old → new.number ≡ old.number
    → option_map (λ (e : List ℕ × App). e.0) (find (λ (e : List ℕ × App). eqb e.1.number number) (set_value (bytes_eq apid) es new)) ≡ option_map (λ (e : List ℕ × App). e.0) (find (λ (e : List ℕ × App). eqb e.1.number number) es)
number_kept number apid [] old new found same = refl
number_kept number apid (e ∷ es) old new found same = by (bytes_eq apid e.0) found (λ later. number_kept number apid es old new later same) where
  key : Option (List ℕ × App) → Option (List ℕ)
  key o = option_map (λ x. x.0) o

  test : List ℕ × App → Bool
  test x = eqb x.1.number number

  by : (b : Bool) → cond b (Some e.1) (lookup (bytes_eq apid) es) ≡ Some old → (lookup (bytes_eq apid) es ≡ Some old → key (find test (set_value (bytes_eq apid) es new)) ≡ key (find test es))
      → key (find test (cond b ((e.0, new) ∷ es) (e ∷ set_value (bytes_eq apid) es new))) ≡ key (find test (e ∷ es))
  by true is later =
      let here : e.1 ≡ old = cc in
      let numbers : eqb new.number number ≡ eqb e.1.number number = ap (λ (n : ℕ). eqb n number) (same ∙ ap (λ (a : App). a.number) (sym here)) in
      ap (λ (b : Bool). key (cond b (Some (e.0, new)) (find test es))) numbers ∙ by_test (eqb e.1.number number) where
        by_test : (b : Bool) → key (cond b (Some (e.0, new)) (find test es)) ≡ key (cond b (Some e) (find test es))
        by_test true = refl
        by_test false = refl
  by false is later = by_test (eqb e.1.number number) (later is) where
    by_test : (b : Bool) → key (find test (set_value (bytes_eq apid) es new)) ≡ key (find test es) → key (cond b (Some e) (find test (set_value (bytes_eq apid) es new))) ≡ key (cond b (Some e) (find test es))
    by_test true rest = refl
    by_test false rest = rest

record HasNow (app : App) (claim : Claimed) : Type 0 where
  context : Context
  named : context_of app claim.ctid ≡ Some context
  placed : has_place claim.place context ≡ true

or_true : (b : Bool) → (b || (true || false)) ≡ true
or_true true = refl
or_true false = refl

has_now : (stored : List StoredLevel) (apid : List ℕ) (claim : Claimed) (app : App) (o : Option Context) → context_of app claim.ctid ≡ o → HasNow (with_claim stored apid claim app o) claim
has_now stored apid claim app (Some context) there = record {
  context = record context { further = context.further ++ claim.place ∷ [] };
  named = lookup-set_same claim.ctid app.contexts context (record context { further = context.further ++ claim.place ∷ [] }) there;
  placed = list_any-append (nat_eq claim.place) (context.place ∷ context.further) (claim.place ∷ [])
      ∙ ap (λ (b : Bool). list_any (nat_eq claim.place) (context.place ∷ context.further) || (b || false)) (eq-eqb claim.place claim.place refl) ∙ or_true (list_any (nat_eq claim.place) (context.place ∷ context.further));
}
has_now stored apid claim app None there = record {
  context = new;
  named = lookup-push (bytes_eq claim.ctid) app.contexts claim.ctid new ∙ ap (λ (o : Option Context). option_or o (cond (bytes_eq claim.ctid claim.ctid) (Some new) None)) there
      ∙ ap (λ (b : Bool). cond b (Some new) None) (bytes_same claim.ctid);
  placed = ap (λ (b : Bool). b || false) (eq-eqb claim.place claim.place refl);
}
  where
    new : Context
    new = record { place = claim.place; further = []; own = option_or (stored_level stored apid claim.ctid) claim.level; position = 0; text = claim.text }

same_kind : (stored : List StoredLevel) (apid : List ℕ) (claim : Claimed) (app : App) (o : Option Context) → ((with_claim stored apid claim app o).number ≡ app.number) × ((with_claim stored apid claim app o).channel ≡ app.channel)
same_kind stored apid claim app (Some context) = (refl, refl)
same_kind stored apid claim app None = (refl, refl)

registered : (r : Registry) (apid : List ℕ) (claim : Claimed) (app : App) → apid_numbered r claim.app ≡ Some apid → lookup (bytes_eq apid) r.apps ≡ Some app → app.channel ≡ 0
    → IsRegistered (with_app r apid (with_claim r.stored apid claim app (context_of app claim.ctid))) claim
registered r apid claim app number there channel =
    let new = with_claim r.stored apid claim app (context_of app claim.ctid) in
    let kind = same_kind r.stored apid claim app (context_of app claim.ctid) in
    let now = has_now r.stored apid claim app (context_of app claim.ctid) refl in
    record {
      apid = apid;
      app = new;
      context = now.context;
      numbered = number_kept claim.app apid r.apps app new there kind.0 ∙ number;
      there = app_of_own (with_app r apid new) 0 apid new (lookup-set_same apid r.apps app new there) (kind.1 ∙ channel);
      named = now.named;
      placed = now.placed;
    }

-- ---- at its Claim event

taken_there : (setting : Setting) (before : List Event) (claim : Claimed) → claim.place < 64 → setting.first ≢ last_version → IsUnused setting claim.app claim.place before
    → (apid : List ℕ) → apid_numbered (registry_of setting before) claim.app ≡ Some apid → (app : App) → app_of (registry_of setting before) 0 apid ≡ Some app
    → IsRegistered (unwrap_or (claimed (slots_of setting before) (registry_of setting before) claim) (registry_of setting before)) claim
taken_there setting before claim below first unused apid number app there =
    let r = registry_of setting before in
    let slots = slots_of setting before in
    let own = found_on 0 (lookup (bytes_eq apid) r.apps) app there in
    let mine = numbered r.apps claim.app apid (unique-registry_of setting before) number in
    let same : app ≡ mine.app = cc (sym own.0 ∙ mine.there) in
    let number_is : app.number ≡ claim.app = ap (λ (a : App). a.number) same ∙ mine.is in
    let free = free_now claim.place app below (lack-lookup claim.app claim.place (bytes_eq apid) r.apps app unused.free own.0 number_is) in
    let fresh : ((slots (slot_of app.number claim.place)).version == last_version) ≡ false =
    ap (λ (n : ℕ). (slots (slot_of n claim.place)).version == last_version) number_is ∙ ap (λ (s : Slot). s.version == last_version) unused.slot ∙ ne_eqb setting.first last_version first in
    let all : claimed slots r claim ≡ Some (with_app r apid (with_claim r.stored apid claim app (context_of app claim.ctid))) =
    ap (option_and_then (λ (id : List ℕ). option_and_then (context_claimed slots r id claim) (app_of r 0 id))) number
    ∙ ap (option_and_then (context_claimed slots r apid claim)) there ∙ context_is_claimed slots r apid claim app free fresh in
    subst (λ (o : Option Registry). IsRegistered (unwrap_or o r) claim) (sym all) (registered r apid claim app number own.0 own.1)

taken : (setting : Setting) (before : List Event) (claim : Claimed) (moment : Moment) → claim.place < 64 → setting.first ≢ last_version → IsUnused setting claim.app claim.place before → IsThere setting before (event.Claim claim moment)
    → IsRegistered (registry_of setting (before ++ event.Claim claim moment ∷ [])) claim
taken setting before claim moment below first unused there =
    subst (λ (r : Registry). IsRegistered r claim) (sym (registry-one setting before (event.Claim claim moment))) (by_apid (apid_numbered r claim.app) refl there) where
      r : Registry
      r = registry_of setting before

      Now : Type 0
      Now = IsRegistered (unwrap_or (claimed (slots_of setting before) r claim) r) claim

      by_app : (apid : List ℕ) → apid_numbered r claim.app ≡ Some apid → (o : Option App) → app_of r 0 apid ≡ o → IsSome o → Now
      by_app apid number None is some = absurd cc
      by_app apid number (Some app) is some = taken_there setting before claim below first unused apid number app is

      by_apid : (o : Option (List ℕ)) → apid_numbered r claim.app ≡ o → IsSome (option_and_then (app_of r 0) o) → Now
      by_apid None is some = absurd cc
      by_apid (Some apid) is some = by_app apid is (app_of r 0 apid) refl some

pub taken_registered : (setting : Setting) (marks : List Mark) → AreFounded setting [] marks → AreAll (Stands setting) [] marks → (before after : List Event) (claim : Claimed) (moment : Moment)
    → journal marks ≡ before ++ event.Claim claim moment ∷ after → IsThere setting before (event.Claim claim moment) → claim.place < 64 → setting.first ≢ last_version → MessagesLeaveFree setting claim.app claim.place [] before
    → IsRegistered (registry_of setting (before ++ event.Claim claim moment ∷ [])) claim
taken_registered setting marks founded stand before after claim moment parts there below first leaves =
    let owed_so = first_owed setting [] before (event.Claim claim moment ∷ after) (subst (AreOwed setting []) parts (stand_and_owe setting [] marks stand)) in
    let untaken = untaken_before before after claim moment
    (subst (λ (events : List Event). IsDistinct nat_eq (map (λ (c : Claimed). c.place) (claims claim.app events))) parts (places_apart setting marks founded claim.app)) in
    taken setting before claim moment below first (unused setting claim.app claim.place below before owed_so untaken leaves) there
