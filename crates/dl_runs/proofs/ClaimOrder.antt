-- Claims stand behind the contexts that lines declare, where these come first.
use Rattle.std.proofs.Common.{◌≡◌, ℕ, ◌≤◌, Bool, true, false, cond, eqb, List, [], ◌∷◌, ◌++◌, length, Some, None, refl, sym, ap, subst, ◌∙◌, arith, inl, inr}
use Rattle.std.specs.List.{filter, filter_map, cons_option, AllByRecursion}
use Rattle.std.specs.Str.{bytes_eq}
use Rattle.std.proofs.lemmas.Bool.{eqb-true}
use Rattle.std.proofs.lemmas.List.{append-nil}
use Rattle.std.proofs.lemmas.List.Elements.{filter-append, filter_map-append}
use Rattle.dl_lemmas.proofs.Lists.{all_both, all_map}
use Rattle.dl_bytes.specs.Claim.{Claimed}
use Rattle.dl_events.specs.declared.event.Event.{Event}
use Rattle.dl_events.specs.declared.event.Event.TheVariants as event
use Rattle.dl_script_model.specs.declared.line.ContextLine.{ContextLine}
use Rattle.dl_model.specs.Setting.{Setting}
use Rattle.dl_model.specs.Accounts.{claims}
use Rattle.dl_script_model.specs.Marks.{Mark, HasContext, HasClaim, claim_of, context_of, contexts_of, journal, number_of}
use Rattle.dl_script_model.specs.Runs.{IsClaimed, RestsOn, AreFounded}
use Rattle.dl_model.proofs.Presence.{bytes_tell}
use Rattle.dl_runs.specs.WaitingClaims.{ComesFirst, ContextsComeFirst}
use Rattle.dl_runs.proofs.ClaimPlaces.{same_id, noted_are}
use Rattle.dl_runs.proofs.OwnApps.{number_more}
use Rattle.dl_runs.proofs.Relations.{AreAll, with_founded, holds_on}

-- a claim has its application's id, and a place behind all contexts that were declared of it
record IsBehind (done : List Mark) (c : Claimed) : Type 0 where
  apid : List ℕ
  number : number_of apid done ≡ Some c.app
  behind : length (contexts_of apid done) ≤ c.place

abbrev of_app : List ℕ → ContextLine → Bool
of_app apid context = bytes_eq context.apid apid

contexts_are : (apid : List ℕ) (done : List Mark) (mark : Mark) → contexts_of apid (done ++ mark ∷ []) ≡ contexts_of apid done ++ filter (of_app apid) (filter_map context_of (mark ∷ []))
contexts_are apid done mark =
    ap (filter (of_app apid)) (filter_map-append context_of done (mark ∷ [])) ∙ filter-append (of_app apid) (filter_map context_of done) (filter_map context_of (mark ∷ []))

-- a mark that declares no context of the application
same_contexts : (apid : List ℕ) (done : List Mark) (mark : Mark) → filter (of_app apid) (filter_map context_of (mark ∷ [])) ≡ [] → contexts_of apid (done ++ mark ∷ []) ≡ contexts_of apid done
same_contexts apid done mark none = contexts_are apid done mark ∙ ap (λ (cs : List ContextLine). contexts_of apid done ++ cs) none ∙ append-nil (contexts_of apid done)

still_behind : (done : List Mark) (mark : Mark) (c : Claimed) (is : IsBehind done c) → filter (of_app is.apid) (filter_map context_of (mark ∷ [])) ≡ [] → IsBehind (done ++ mark ∷ []) c
still_behind done mark c is none = record {
  apid = is.apid;
  number = number_more done mark is.apid c.app is.number;
  behind = omega (arith, is.behind, ap length (same_contexts is.apid done mark none));
}

-- a context of another application
behind_context : (done : List Mark) (context : ContextLine) (c : Claimed) → (number_of context.apid done ≡ Some c.app → ⊥) → IsBehind done c → IsBehind (done ++ HasContext context ∷ []) c
behind_context done context c apart is = still_behind done (HasContext context) c is (elim (bytes_tell context.apid is.apid) [
  | inl same ↦ absurd (apart (subst (λ (id : List ℕ). number_of id done ≡ Some c.app) (sym same.1) is.number))
  | inr other ↦ ap (λ (b : Bool). cond b (context ∷ []) []) other.0
])

behind_made : (done : List Mark) (c : Claimed) → IsClaimed c done → IsBehind (done ++ HasClaim c ∷ []) c
behind_made done c is = record {
  apid = is.apid;
  number = number_more done (HasClaim c) is.apid c.app is.number;
  behind = omega (arith, is.place, ap length (same_contexts is.apid done (HasClaim c) refl));
}

abbrev AllBehind : List Mark → Type 0
AllBehind done = AllByRecursion (IsBehind done) (filter_map claim_of done)

abbrev FoundedFirst : Setting → List Mark → Mark → Type 0
FoundedFirst setting done mark = RestsOn setting done mark × ComesFirst done mark

all_joined : {A : Type 0} (P Q R : A → Type 0) → ((x : A) → P x → Q x → R x) → (xs : List A) → AllByRecursion P xs → AllByRecursion Q xs → AllByRecursion R xs
all_joined P Q R f [] ps qs = tt
all_joined P Q R f (x ∷ xs) ps qs = (f x ps.0 qs.0, all_joined P Q R f xs ps.1 qs.1)

behind_by : (setting : Setting) (done : List Mark) (mark : Mark) → AllBehind done → FoundedFirst setting done mark → AllByRecursion (IsBehind (done ++ mark ∷ [])) (filter_map claim_of done)
behind_by setting done (HasContext context) all is =
    all_joined (λ (c : Claimed). number_of context.apid done ≡ Some c.app → ⊥) (IsBehind done) (IsBehind (done ++ HasContext context ∷ [])) (behind_context done context) (filter_map claim_of done) is.1 all
behind_by setting done mark all is = all_map (IsBehind done) (IsBehind (done ++ mark ∷ [])) (λ c was. still_behind done mark c was refl) (filter_map claim_of done) all

now_behind : (setting : Setting) (done : List Mark) (mark : Mark) → RestsOn setting done mark → AllByRecursion (IsBehind (done ++ mark ∷ [])) (filter_map claim_of (mark ∷ []))
now_behind setting done (HasClaim c) rests = (behind_made done c rests, tt)
now_behind setting done _ rests = tt

behind_on : (setting : Setting) (done : List Mark) (mark : Mark) → AllBehind done → FoundedFirst setting done mark → AllBehind (done ++ mark ∷ [])
behind_on setting done mark all is =
    subst (AllByRecursion (IsBehind (done ++ mark ∷ []))) (sym (filter_map-append claim_of done (mark ∷ [])))
    (all_both (IsBehind (done ++ mark ∷ [])) (filter_map claim_of done) (filter_map claim_of (mark ∷ [])) (behind_by setting done mark all is) (now_behind setting done mark is.0))

first_as_all : (before marks : List Mark) → ContextsComeFirst before marks → AreAll ComesFirst before marks
first_as_all before [] first = tt
first_as_all before (mark ∷ marks) first = (first.0, first_as_all (before ++ mark ∷ []) marks first.1)

all_behind : (setting : Setting) (marks : List Mark) → AreFounded setting [] marks → ContextsComeFirst [] marks → AllBehind marks
all_behind setting marks founded first =
    holds_on (FoundedFirst setting) AllBehind (behind_on setting) [] marks tt (with_founded setting ComesFirst [] marks founded (first_as_all [] marks first))

-- the claims that the daemon took of an application are of it
of_this_app : (app : ℕ) (events : List Event) → AllByRecursion (λ (c : Claimed). c.app ≡ app) (claims app events)
of_this_app app [] = tt
of_this_app app (event.Claim c moment ∷ events) = by_test (eqb c.app app) refl (of_this_app app events) where
  by_test : (b : Bool) → eqb c.app app ≡ b → AllByRecursion (λ (d : Claimed). d.app ≡ app) (claims app events) → AllByRecursion (λ (d : Claimed). d.app ≡ app) (cons_option (cond b (Some c) None) (claims app events))
  by_test true here later = (eqb-true c.app app here, later)
  by_test false here later = later
of_this_app app (_ ∷ events) = of_this_app app events

pub claims_behind : (setting : Setting) (marks : List Mark) → AreFounded setting [] marks → ContextsComeFirst [] marks → (app : ℕ) (apid : List ℕ) → number_of apid marks ≡ Some app
    → AllByRecursion (λ (c : Claimed). length (contexts_of apid marks) ≤ c.place) (claims app (journal marks))
claims_behind setting marks founded first app apid number =
    all_joined (λ (c : Claimed). c.app ≡ app) (IsBehind marks) (λ (c : Claimed). length (contexts_of apid marks) ≤ c.place) (λ c here is.
    let ids : is.apid ≡ apid = same_id is.apid apid app marks (is.number ∙ ap Some here) number in
    omega (arith, is.behind, ap (λ (id : List ℕ). length (contexts_of id marks)) ids))
    (claims app (journal marks)) (of_this_app app (journal marks)) (noted_are setting marks founded (IsBehind marks) (all_behind setting marks founded first) app)
