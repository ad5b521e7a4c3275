-- The claims of a run: each is one of its writer's application, and no two of an application have the same place.
use Rattle.std.proofs.Common.{◌≡◌, ℕ, ◌+◌, ◌<◌, ◌≤◌, Bool, true, false, cond, eqb, get_or, List, [], ◌∷◌, ◌++◌, length, take, drop, Option, Some, None, refl, sym, ap, subst, ◌∙◌, length-append, take-append-drop, arith, inl, inr}
use Rattle.std.specs.Prelude.{map, count_by, nat_eq, unwrap_or}
use Rattle.std.specs.List.{filter, filter_map, cons_option, range_with_len, AllByRecursion, IsDistinct}
use Rattle.std.specs.Option.{option_and_then}
use Rattle.std.specs.Str.{bytes_eq}
use Rattle.std.proofs.lemmas.Bool.{eq-eqb, ne_eqb, eqb-true, cases_eq}
use Rattle.std.proofs.lemmas.List.{append-nil, map-append}
use Rattle.std.proofs.lemmas.List.Elements.{filter-append, filter_map-append}
use Rattle.std.proofs.lemmas.List.Quantifiers.{position-Some}
use Rattle.std.proofs.lemmas.List.Sums.{sum_by-cons}
use Rattle.std.proofs.lemmas.Map.Keys.{IsDistinct-head, IsDistinct-tail, IsDistinct-cons}
use Rattle.dl_lemmas.proofs.Lists.{all_both, all_first, all_map, front_empty}
use Rattle.dl_bytes.specs.Claim.{Claimed}
use Rattle.dl_script_model.specs.declared.line.AppLine.{AppLine}
use Rattle.dl_script_model.specs.declared.line.ContextLine.{ContextLine}
use Rattle.dl_model.specs.Setting.{Setting}
use Rattle.dl_script_model.specs.Marks.{Mark, HasClaim, Announced, Queued, journal, apps, writers, context_of, contexts_of, claim_of, announced_of, claims_of, claims_on, announced_by, next_place, number_of, app_of_writer, Pushed, OfCall, OfClaim, claim_in, pushes, taken}
use Rattle.dl_script_model.specs.Runs.{IsClaimed, RestsOn, AreFounded}
use Rattle.dl_model.specs.Accounts.{claims, claimed_by}
use Rattle.dl_model.specs.WholeAccounts.{ArePlacesApart}
use Rattle.dl_model.proofs.Presence.{same_bytes}
use Rattle.dl_runs.proofs.Announcing.{announced_first}
use Rattle.dl_model.proofs.Lists.{count_by-append}
use Rattle.dl_runs.proofs.RunLaws.{claims_in_order}
use Rattle.dl_laws.proofs.Alls.{all_filter}
use Rattle.dl_runs.proofs.OwnApps.{number_more, writer_more, in_range}
use Rattle.dl_laws.proofs.Partition.{sums, split, all_owners}
use Rattle.dl_runs.proofs.Relations.{as_all, holds_on}

-- ---- numbers that differ

distinct_snoc : (xs : List ℕ) (n : ℕ) → IsDistinct nat_eq xs → AllByRecursion (λ x. x < n) xs → IsDistinct nat_eq (xs ++ n ∷ [])
distinct_snoc [] n is below = IsDistinct-cons nat_eq n [] tt is
distinct_snoc (x ∷ xs) n is below =
    IsDistinct-cons nat_eq x (xs ++ n ∷ [])
    (all_both (λ y. nat_eq x y ≡ false) xs (n ∷ []) (IsDistinct-head nat_eq x xs is) (ne_eqb x n (λ same. omega (arith, same, below.0)), tt))
    (distinct_snoc xs n (IsDistinct-tail nat_eq x xs is) below.1)

distinct_left : (xs ys : List ℕ) → IsDistinct nat_eq (xs ++ ys) → IsDistinct nat_eq xs
unfolding IsDistinct
distinct_left [] ys is = tt
distinct_left (x ∷ xs) ys is = (all_first (λ y. nat_eq x y ≡ false) xs ys is.0, distinct_left xs ys is.1)

one_more : (x y : ℕ) (ys : List ℕ) → count_by (nat_eq x) (y ∷ ys) ≡ cond (nat_eq x y) 1 0 + count_by (nat_eq x) ys
one_more x y ys = sum_by-cons (λ (z : ℕ). cond (nat_eq x z) 1 0) y ys

counts_here : (x y : ℕ) → x ≡ y → ◌≡◌ {A = ℕ} (cond (nat_eq x y) 1 0) 1
counts_here x y same = ap (λ (b : Bool). cond b 1 0) (eq-eqb x y same)

counts_none : (x y : ℕ) → nat_eq x y ≡ false → ◌≡◌ {A = ℕ} (cond (nat_eq x y) 1 0) 0
counts_none x y apart = ap (λ (b : Bool). cond b 1 0) apart

none_counted : (x : ℕ) (xs : List ℕ) → AllByRecursion (λ y. nat_eq x y ≡ false) xs → count_by (nat_eq x) xs ≡ 0
none_counted x [] all = refl
none_counted x (y ∷ ys) all = omega (arith, one_more x y ys, counts_none x y all.0, none_counted x ys all.1)

-- each stands once among numbers that differ
once : (x : ℕ) (xs : List ℕ) → IsDistinct nat_eq xs → count_by (nat_eq x) xs ≤ 1
once x [] is = omega arith
once x (y ∷ ys) is = elim (cases_eq x y) [
  | inl same ↦
      let none : count_by (nat_eq x) ys ≡ 0 = ap (λ (v : ℕ). count_by (nat_eq v) ys) same ∙ none_counted y ys (IsDistinct-head nat_eq y ys is) in
      omega (arith, one_more x y ys, counts_here x y same, none)
  | inr apart ↦ omega (arith, one_more x y ys, counts_none x y (ne_eqb x y apart), once x ys (IsDistinct-tail nat_eq y ys is))
]

not_among : (x : ℕ) (ys : List ℕ) → count_by (nat_eq x) ys ≡ 0 → AllByRecursion (λ y. nat_eq x y ≡ false) ys
not_among x [] none = tt
not_among x (y ∷ ys) none = (
  elim (cases_eq x y) [
    | inl same ↦ absurd (omega (arith, none, one_more x y ys, counts_here x y same))
    | inr apart ↦ ne_eqb x y apart
  ],
  not_among x ys (omega (arith, none, one_more x y ys)),
)

differ : (xs : List ℕ) → ((x : ℕ) → count_by (nat_eq x) xs ≤ 1) → IsDistinct nat_eq xs
unfolding IsDistinct
differ [] each = tt
differ (x ∷ xs) each = (
  not_among x xs (omega (arith, each x, one_more x x xs, counts_here x x refl)),
  differ xs (λ y. omega (arith, each y, one_more y x xs)),
)

-- ---- a claim of its writer's application, on a place that was given

pub record IsOwnClaim (done : List Mark) (c : Claimed) : Type 0 where
  pub apid : List ℕ
  pub of_writer : app_of_writer c.writer done ≡ Some apid
  pub number : number_of apid done ≡ Some c.app
  pub below : c.place < next_place apid c.app done

abbrev on_app : ℕ → Claimed → Bool
on_app app c = eqb c.app app

claims_more : (app : ℕ) (done : List Mark) (mark : Mark) → claims_on app (done ++ mark ∷ []) ≡ claims_on app done ++ filter (on_app app) (filter_map claim_of (mark ∷ []))
claims_more app done mark = ap (filter (on_app app)) (filter_map-append claim_of done (mark ∷ [])) ∙ filter-append (on_app app) (filter_map claim_of done) (filter_map claim_of (mark ∷ []))

pub contexts_more : (apid : List ℕ) (done : List Mark) (mark : Mark) → length (contexts_of apid done) ≤ length (contexts_of apid (done ++ mark ∷ []))
contexts_more apid done mark =
    let p = λ (context : ContextLine). bytes_eq context.apid apid in
    let more : contexts_of apid (done ++ mark ∷ []) ≡ contexts_of apid done ++ filter p (filter_map context_of (mark ∷ [])) =
    ap (filter p) (filter_map-append context_of done (mark ∷ [])) ∙ filter-append p (filter_map context_of done) (filter_map context_of (mark ∷ [])) in
    omega (arith, ap length more, length-append (contexts_of apid done) (filter p (filter_map context_of (mark ∷ []))))

next_more : (apid : List ℕ) (app : ℕ) (done : List Mark) (mark : Mark) → next_place apid app done ≤ next_place apid app (done ++ mark ∷ [])
next_more apid app done mark =
    omega (arith, contexts_more apid done mark, ap length (claims_more app done mark), length-append (claims_on app done) (filter (on_app app) (filter_map claim_of (mark ∷ []))))

own_later : (done : List Mark) (mark : Mark) (c : Claimed) → IsOwnClaim done c → IsOwnClaim (done ++ mark ∷ []) c
own_later done mark c is = record {
  apid = is.apid;
  of_writer = writer_more done mark c.writer is.apid is.of_writer;
  number = number_more done mark is.apid c.app is.number;
  below = omega (arith, is.below, next_more is.apid c.app done mark);
}

new_claim : (done : List Mark) (c : Claimed) → IsClaimed c done → IsOwnClaim (done ++ HasClaim c ∷ []) c
new_claim done c is =
    let one : length (filter (on_app c.app) (filter_map claim_of (HasClaim c ∷ []))) ≡ 1 = ap (λ (b : Bool). length (cond b (c ∷ []) [])) (eq-eqb c.app c.app refl) in
    record {
      apid = is.apid;
      of_writer = writer_more done (HasClaim c) c.writer is.apid is.owner;
      number = number_more done (HasClaim c) is.apid c.app is.number;
      below = omega (arith, is.place, one, contexts_more is.apid done (HasClaim c), ap length (claims_more c.app done (HasClaim c)), length-append (claims_on c.app done) (filter (on_app c.app) (filter_map claim_of (HasClaim c ∷ []))));
    }

-- a number is that of one id
pub same_id : (a b : List ℕ) (n : ℕ) (done : List Mark) → number_of a done ≡ Some n → number_of b done ≡ Some n → a ≡ b
same_id a b n done first second =
    let line = get_or (apps done) n (record { apid = []; capacity = 0; text = [] }) in
    let of_a = position-Some (λ (app : AppLine). bytes_eq app.apid a) (apps done) n (record { apid = []; capacity = 0; text = [] }) first in
    let of_b = position-Some (λ (app : AppLine). bytes_eq app.apid b) (apps done) n (record { apid = []; capacity = 0; text = [] }) second in
    sym (same_bytes line.apid a of_a.1) ∙ same_bytes line.apid b of_b.1

-- a claim before another one of its application has a lower place
lower : (done : List Mark) (c d : Claimed) (app : ℕ) → IsClaimed c done → c.app ≡ app → IsOwnClaim done d → eqb d.app app ≡ true → d.place < c.place
lower done c d app is same own here =
    let apps_same : d.app ≡ c.app = eqb-true d.app app here ∙ sym same in
    let ids : own.apid ≡ is.apid = same_id own.apid is.apid c.app done (own.number ∙ ap Some apps_same) is.number in
    let next : next_place own.apid d.app done ≡ next_place is.apid c.app done = ap (λ (id : List ℕ). next_place id d.app done) ids ∙ ap (λ (n : ℕ). next_place is.apid n done) apps_same in
    omega (arith, own.below, next, is.place)

abbrev place_in : Claimed → ℕ
place_in c = c.place

lower_all : (done : List Mark) (c : Claimed) (app : ℕ) → IsClaimed c done → c.app ≡ app → (cs : List Claimed) → AllByRecursion (IsOwnClaim done) cs → AllByRecursion (λ n. n < c.place) (map place_in (filter (on_app app) cs))
lower_all done c app is same [] all = tt
lower_all done c app is same (d ∷ cs) all = by_test (eqb d.app app) refl (lower_all done c app is same cs all.1) where
  by_test : (b : Bool) → eqb d.app app ≡ b → AllByRecursion (λ n. n < c.place) (map place_in (filter (on_app app) cs)) → AllByRecursion (λ n. n < c.place) (map place_in (cond b (d ∷ filter (on_app app) cs) (filter (on_app app) cs)))
  by_test true e later = (lower done c d app is same all.0 e, later)
  by_test false e later = later

-- ---- all claims of a run

abbrev AllOwn : List Mark → Type 0
AllOwn done = AllByRecursion (IsOwnClaim done) (filter_map claim_of done)

abbrev AllApart : List Mark → Type 0
AllApart done = (app : ℕ) → IsDistinct nat_eq (map place_in (claims_on app done))

new_own : (setting : Setting) (done : List Mark) (mark : Mark) → RestsOn setting done mark → AllByRecursion (IsOwnClaim (done ++ mark ∷ [])) (filter_map claim_of (mark ∷ []))
new_own setting done (HasClaim c) rests = (new_claim done c rests, tt)
new_own setting done _ rests = tt

own_on : (setting : Setting) (done : List Mark) (mark : Mark) → AllOwn done → RestsOn setting done mark → AllOwn (done ++ mark ∷ [])
own_on setting done mark all rests =
    subst (AllByRecursion (IsOwnClaim (done ++ mark ∷ []))) (sym (filter_map-append claim_of done (mark ∷ [])))
    (all_both (IsOwnClaim (done ++ mark ∷ [])) (filter_map claim_of done) (filter_map claim_of (mark ∷ []))
    (all_map (IsOwnClaim done) (IsOwnClaim (done ++ mark ∷ [])) (own_later done mark) (filter_map claim_of done) all) (new_own setting done mark rests))

apart_by : (setting : Setting) (done : List Mark) (mark : Mark) (app : ℕ) → AllOwn done → AllApart done → RestsOn setting done mark
    → IsDistinct nat_eq (map place_in (claims_on app done ++ filter (on_app app) (filter_map claim_of (mark ∷ []))))
apart_by setting done (HasClaim c) app own apart rests = by_test (eqb c.app app) refl where
  by_test : (b : Bool) → eqb c.app app ≡ b → IsDistinct nat_eq (map place_in (claims_on app done ++ cond b (c ∷ []) []))
  by_test true e =
      subst (IsDistinct nat_eq) (sym (map-append place_in (claims_on app done) (c ∷ [])))
      (distinct_snoc (map place_in (claims_on app done)) c.place (apart app) (lower_all done c app rests (eqb-true c.app app e) (filter_map claim_of done) own))
  by_test false e = subst (λ (cs : List Claimed). IsDistinct nat_eq (map place_in cs)) (sym (append-nil (claims_on app done))) (apart app)
apart_by setting done _ app own apart rests = subst (λ (cs : List Claimed). IsDistinct nat_eq (map place_in cs)) (sym (append-nil (claims_on app done))) (apart app)

abbrev Placed : List Mark → Type 0
Placed done = AllOwn done × AllApart done

placed_on : (setting : Setting) (done : List Mark) (mark : Mark) → Placed done → RestsOn setting done mark → Placed (done ++ mark ∷ [])
placed_on setting done mark is rests = (
  own_on setting done mark is.0 rests,
  λ app. subst (λ (cs : List Claimed). IsDistinct nat_eq (map place_in cs)) (sym (claims_more app done mark)) (apart_by setting done mark app is.0 is.1 rests),
)

none_placed : Placed []
unfolding IsDistinct
none_placed = (tt, λ app. tt)

placed : (setting : Setting) (marks : List Mark) → AreFounded setting [] marks → Placed marks
placed setting marks founded = holds_on (RestsOn setting) Placed (placed_on setting) [] marks none_placed (as_all setting [] marks founded)

pub all_own : (setting : Setting) (marks : List Mark) → AreFounded setting [] marks → AllByRecursion (IsOwnClaim marks) (filter_map claim_of marks)
all_own setting marks founded = (placed setting marks founded).0

-- ---- those that rings took

abbrev by_writer : ℕ → Claimed → Bool
by_writer writer c = eqb c.writer writer

-- what holds of all claims that were made holds of those that rings took, writer by writer
announced_by_writer : (setting : Setting) (marks : List Mark) → AreFounded setting [] marks → (P : Claimed → Type 0) → AllByRecursion P (filter_map claim_of marks) → (writer : ℕ) → AllByRecursion P (announced_by writer marks)
announced_by_writer setting marks founded P all writer =
    let leads = announced_first setting marks founded writer in
    all_first P (announced_by writer marks) leads.0 (subst (AllByRecursion P) leads.1 (all_filter P (by_writer writer) (filter_map claim_of marks) all))

announced_are : (setting : Setting) (marks : List Mark) → AreFounded setting [] marks → (P : Claimed → Type 0) → AllByRecursion P (filter_map claim_of marks) → AllByRecursion P (filter_map announced_of marks)
announced_are setting marks founded P all = all_owners (λ (c : Claimed). c.writer) (λ (w : ℕ) (c : Claimed). P c) (filter_map announced_of marks) (announced_by_writer setting marks founded P all)

pub own_announced : (setting : Setting) (marks : List Mark) → AreFounded setting [] marks → (writer : ℕ) → AllByRecursion (IsOwnClaim marks) (announced_by writer marks)
own_announced setting marks founded = announced_by_writer setting marks founded (IsOwnClaim marks) (all_own setting marks founded)

pub all_own_announced : (setting : Setting) (marks : List Mark) → AreFounded setting [] marks → AllByRecursion (IsOwnClaim marks) (filter_map announced_of marks)
all_own_announced setting marks founded = announced_are setting marks founded (IsOwnClaim marks) (all_own setting marks founded)

sums_le : (f g : ℕ → ℕ) → ((w : ℕ) → f w ≤ g w) → (ws : List ℕ) → sums f ws ≤ sums g ws
unfolding sums
sums_le f g le [] = omega arith
sums_le f g le (w ∷ ws) = omega (arith, le w, sums_le f g le ws)

-- how often a place of an application is among claims
abbrev times : ℕ → ℕ → List Claimed → ℕ
times app place cs = count_by (nat_eq place) (map place_in (filter (on_app app) cs))

times_add : (app place : ℕ) (xs ys : List Claimed) → times app place (xs ++ ys) ≡ times app place xs + times app place ys
times_add app place xs ys =
    ap (λ (cs : List Claimed). count_by (nat_eq place) (map place_in cs)) (filter-append (on_app app) xs ys)
    ∙ ap (count_by (nat_eq place)) (map-append place_in (filter (on_app app) xs) (filter (on_app app) ys))
    ∙ count_by-append (nat_eq place) (map place_in (filter (on_app app) xs)) (map place_in (filter (on_app app) ys))

ranges : (marks : List Mark) (cs : List Claimed) → AllByRecursion (IsOwnClaim marks) cs → AllByRecursion (λ c. (1 ≤ c.writer) × (c.writer < 1 + length (writers marks))) cs
ranges marks cs all = all_map (IsOwnClaim marks) (λ c. (1 ≤ c.writer) × (c.writer < 1 + length (writers marks))) (λ c is. in_range marks c.writer is.apid is.of_writer) cs all

-- rings took no claim that wasn't made
no_more : (setting : Setting) (marks : List Mark) → AreFounded setting [] marks → (app place : ℕ) → times app place (filter_map announced_of marks) ≤ times app place (filter_map claim_of marks)
no_more setting marks founded app place =
    let n = length (writers marks) in
    let number = λ (c : Claimed). c.writer in
    let took = split number (times app place) refl (times_add app place) n 1 (filter_map announced_of marks) (ranges marks (filter_map announced_of marks) (all_own_announced setting marks founded)) in
    let made = split number (times app place) refl (times_add app place) n 1 (filter_map claim_of marks) (ranges marks (filter_map claim_of marks) (all_own setting marks founded)) in
    let each = sums_le (λ w. times app place (announced_by w marks)) (λ w. times app place (claims_of w marks)) (λ w.
    (let leads = announced_first setting marks founded w in
    omega (arith, ap (times app place) leads.1, times_add app place (announced_by w marks) leads.0))) (range_with_len 1 n) in
    omega (arith, took, made, each)

-- the claims that a ring took, in order
pub announced_in_ring : (app : ℕ) (marks : List Mark) → filter (on_app app) (filter_map announced_of marks) ≡ filter_map claim_in (pushes app marks)
announced_in_ring app [] = refl
announced_in_ring app (Announced c ∷ marks) = by_test (eqb c.app app) (announced_in_ring app marks) where
  by_test : (b : Bool) → filter (on_app app) (filter_map announced_of marks) ≡ filter_map claim_in (pushes app marks)
      → cond b (c ∷ filter (on_app app) (filter_map announced_of marks)) (filter (on_app app) (filter_map announced_of marks)) ≡ filter_map claim_in (cons_option (cond b (Some (OfClaim c)) None) (pushes app marks))
  by_test true later = ap (λ (cs : List Claimed). c ∷ cs) later
  by_test false later = later
announced_in_ring app (Queued c ∷ marks) = by_test (eqb c.item.app app) (announced_in_ring app marks) where
  by_test : (b : Bool) → filter (on_app app) (filter_map announced_of marks) ≡ filter_map claim_in (pushes app marks)
      → filter (on_app app) (filter_map announced_of marks) ≡ filter_map claim_in (cons_option (cond b (Some (OfCall c)) None) (pushes app marks))
  by_test true later = later
  by_test false later = later
announced_in_ring app (mark ∷ marks) = announced_in_ring app marks

-- those that still wait in it
pub claims_waiting : ℕ → List Mark → List Claimed
claims_waiting app marks = filter_map claim_in (drop (taken app marks) (pushes app marks))

pub claims_parts : (setting : Setting) (marks : List Mark) → AreFounded setting [] marks → (app : ℕ) → claims app (journal marks) ++ claims_waiting app marks ≡ filter (on_app app) (filter_map announced_of marks)
unfolding claims_waiting
claims_parts setting marks founded app =
    let n = taken app marks in
    let ps = pushes app marks in
    ap (λ (cs : List Claimed). cs ++ filter_map claim_in (drop n ps)) (claims_in_order setting marks founded app)
    ∙ sym (filter_map-append claim_in (take n ps) (drop n ps)) ∙ ap (filter_map claim_in) (take-append-drop n ps) ∙ sym (announced_in_ring app marks)

-- what holds of all claims that were made holds of those that the daemon took
pub noted_are : (setting : Setting) (marks : List Mark) → AreFounded setting [] marks → (P : Claimed → Type 0) → AllByRecursion P (filter_map claim_of marks) → (app : ℕ) → AllByRecursion P (claims app (journal marks))
noted_are setting marks founded P all app =
    all_first P (claims app (journal marks)) (claims_waiting app marks)
    (subst (AllByRecursion P) (sym (claims_parts setting marks founded app)) (all_filter P (on_app app) (filter_map announced_of marks) (announced_are setting marks founded P all)))

pub made_apart : (setting : Setting) (marks : List Mark) → AreFounded setting [] marks → (app : ℕ) → IsDistinct nat_eq (map place_in (claims_on app marks))
made_apart setting marks founded = (placed setting marks founded).1

pub places_apart : (setting : Setting) (marks : List Mark) → AreFounded setting [] marks → ArePlacesApart (journal marks)
places_apart setting marks founded app =
    let took = filter (on_app app) (filter_map announced_of marks) in
    let all : IsDistinct nat_eq (map place_in took) =
    differ (map place_in took) (λ place. omega (arith, no_more setting marks founded app place, once place (map place_in (claims_on app marks)) (made_apart setting marks founded app))) in
    distinct_left (map place_in (claims app (journal marks))) (map place_in (claims_waiting app marks))
    (subst (IsDistinct nat_eq) (map-append place_in (claims app (journal marks)) (claims_waiting app marks))
    (subst (λ (cs : List Claimed). IsDistinct nat_eq (map place_in cs)) (sym (claims_parts setting marks founded app)) all))

-- ---- the claims of one writer

-- the application of a writer
pub home : ℕ → List Mark → ℕ
home writer marks = unwrap_or (option_and_then (λ apid. number_of apid marks) (app_of_writer writer marks)) 0

pub home_is : (writer : ℕ) (marks : List Mark) (apid : List ℕ) (n : ℕ) → app_of_writer writer marks ≡ Some apid → number_of apid marks ≡ Some n → home writer marks ≡ n
unfolding home
home_is writer marks apid n of_writer number =
    ap (λ (o : Option (List ℕ)). unwrap_or (option_and_then (λ (id : List ℕ). number_of id marks) o) 0) of_writer ∙ ap (λ (o : Option ℕ). unwrap_or o 0) number

at_home : (writer : ℕ) (marks : List Mark) (c : Claimed) → IsOwnClaim marks c → eqb c.writer writer ≡ true → c.app ≡ home writer marks
at_home writer marks c is here =
    sym (home_is writer marks is.apid c.app (subst (λ (w : ℕ). app_of_writer w marks ≡ Some is.apid) (eqb-true c.writer writer here) is.of_writer) is.number)

all_there : (writer : ℕ) (marks : List Mark) (cs : List Claimed) → AllByRecursion (IsOwnClaim marks) cs → filter (by_writer writer) (filter (on_app (home writer marks)) cs) ≡ filter (by_writer writer) cs
all_there writer marks [] all = refl
all_there writer marks (c ∷ cs) all = by_writers (eqb c.writer writer) refl (all_there writer marks cs all.1) where
  by_apps : (b a : Bool) → eqb c.writer writer ≡ b → eqb c.app (home writer marks) ≡ a → filter (by_writer writer) (filter (on_app (home writer marks)) cs) ≡ filter (by_writer writer) cs
      → filter (by_writer writer) (cond a (c ∷ filter (on_app (home writer marks)) cs) (filter (on_app (home writer marks)) cs)) ≡ cond b (c ∷ filter (by_writer writer) cs) (filter (by_writer writer) cs)
  by_apps true true here there later = ap (λ (t : Bool). cond t (c ∷ filter (by_writer writer) (filter (on_app (home writer marks)) cs)) (filter (by_writer writer) (filter (on_app (home writer marks)) cs))) here ∙ ap (λ (l : List Claimed). c ∷ l) later
  by_apps true false here there later = let same = eq-eqb c.app (home writer marks) (at_home writer marks c all.0 here) in absurd (cc (sym same ∙ there))
  by_apps false true here there later = ap (λ (t : Bool). cond t (c ∷ filter (by_writer writer) (filter (on_app (home writer marks)) cs)) (filter (by_writer writer) (filter (on_app (home writer marks)) cs))) here ∙ later
  by_apps false false here there later = later

  by_writers : (b : Bool) → eqb c.writer writer ≡ b → filter (by_writer writer) (filter (on_app (home writer marks)) cs) ≡ filter (by_writer writer) cs
      → filter (by_writer writer) (cond (eqb c.app (home writer marks)) (c ∷ filter (on_app (home writer marks)) cs) (filter (on_app (home writer marks)) cs)) ≡ cond b (c ∷ filter (by_writer writer) cs) (filter (by_writer writer) cs)
  by_writers b here later = by_apps b (eqb c.app (home writer marks)) here refl later

none_there : (writer other : ℕ) (marks : List Mark) → (other ≡ home writer marks → ⊥) → (cs : List Claimed) → AllByRecursion (IsOwnClaim marks) cs → filter (by_writer writer) (filter (on_app other) cs) ≡ []
none_there writer other marks apart [] all = refl
none_there writer other marks apart (c ∷ cs) all = by_app (eqb c.app other) refl (none_there writer other marks apart cs all.1) where
  by_writers : (b : Bool) → eqb c.writer writer ≡ b → c.app ≡ other → filter (by_writer writer) (filter (on_app other) cs) ≡ [] → cond b (c ∷ filter (by_writer writer) (filter (on_app other) cs)) (filter (by_writer writer) (filter (on_app other) cs)) ≡ []
  by_writers true here there later = absurd (apart (sym there ∙ at_home writer marks c all.0 here))
  by_writers false here there later = later

  by_app : (a : Bool) → eqb c.app other ≡ a → filter (by_writer writer) (filter (on_app other) cs) ≡ [] → filter (by_writer writer) (cond a (c ∷ filter (on_app other) cs) (filter (on_app other) cs)) ≡ []
  by_app true there later = by_writers (eqb c.writer writer) refl (eqb-true c.app other there) later
  by_app false there later = later

pub announced_at_home : (setting : Setting) (marks : List Mark) → AreFounded setting [] marks → (writer : ℕ) → AllByRecursion (λ (c : Claimed). c.app ≡ home writer marks) (announced_by writer marks)
announced_at_home setting marks founded writer = by_list (filter_map announced_of marks) (all_own_announced setting marks founded) where
  by_test : (c : Claimed) (cs : List Claimed) (b : Bool) → eqb c.writer writer ≡ b → IsOwnClaim marks c → AllByRecursion (λ (d : Claimed). d.app ≡ home writer marks) (filter (by_writer writer) cs)
      → AllByRecursion (λ (d : Claimed). d.app ≡ home writer marks) (cond b (c ∷ filter (by_writer writer) cs) (filter (by_writer writer) cs))
  by_test c cs true here is later = (at_home writer marks c is here, later)
  by_test c cs false here is later = later

  by_list : (cs : List Claimed) → AllByRecursion (IsOwnClaim marks) cs → AllByRecursion (λ (d : Claimed). d.app ≡ home writer marks) (filter (by_writer writer) cs)
  by_list [] all = tt
  by_list (c ∷ cs) all = by_test c cs (eqb c.writer writer) refl all.0 (by_list cs all.1)

-- the claims that the daemon took of it, and those that wait in its application's ring, are those that the ring took of it
pub writer_claims : (setting : Setting) (marks : List Mark) → AreFounded setting [] marks → (writer : ℕ) →
    filter (claimed_by writer) (claims (home writer marks) (journal marks)) ++ filter (claimed_by writer) (claims_waiting (home writer marks) marks) ≡ announced_by writer marks
writer_claims setting marks founded writer =
    sym (filter-append (by_writer writer) (claims (home writer marks) (journal marks)) (claims_waiting (home writer marks) marks))
    ∙ ap (filter (by_writer writer)) (claims_parts setting marks founded (home writer marks))
    ∙ all_there writer marks (filter_map announced_of marks) (all_own_announced setting marks founded)

pub claims_elsewhere : (setting : Setting) (marks : List Mark) → AreFounded setting [] marks → (writer other : ℕ) → (other ≡ home writer marks → ⊥) → filter (claimed_by writer) (claims other (journal marks)) ≡ []
claims_elsewhere setting marks founded writer other apart =
    front_empty (filter (claimed_by writer) (claims other (journal marks))) (filter (claimed_by writer) (claims_waiting other marks))
    (sym (filter-append (by_writer writer) (claims other (journal marks)) (claims_waiting other marks))
    ∙ ap (filter (by_writer writer)) (claims_parts setting marks founded other)
    ∙ none_there writer other marks apart (filter_map announced_of marks) (all_own_announced setting marks founded))

-- nothing waits where all that the ring took was taken
pub none_waiting : (app : ℕ) (marks : List Mark) → taken app marks ≡ length (pushes app marks) → claims_waiting app marks ≡ []
unfolding claims_waiting
none_waiting app marks same = ap (filter_map claim_in) (ap (λ (n : ℕ). drop n (pushes app marks)) same ∙ all_gone (pushes app marks)) where
  all_gone : (l : List Pushed) → drop (length l) l ≡ []
  all_gone [] = refl
  all_gone (what ∷ l) = all_gone l

-- a writer that isn't declared has none
pub none_announced : (setting : Setting) (marks : List Mark) → AreFounded setting [] marks → (writer : ℕ) → app_of_writer writer marks ≡ None → announced_by writer marks ≡ []
none_announced setting marks founded writer none = by_list (filter_map announced_of marks) (all_own_announced setting marks founded) where
  undeclared : (c : Claimed) → IsOwnClaim marks c → eqb c.writer writer ≡ true → ⊥
  undeclared c is here =
      let there : app_of_writer writer marks ≡ Some is.apid = subst (λ (w : ℕ). app_of_writer w marks ≡ Some is.apid) (eqb-true c.writer writer here) is.of_writer in
      absurd cc

  by_test : (c : Claimed) (cs : List Claimed) (b : Bool) → eqb c.writer writer ≡ b → IsOwnClaim marks c → filter (by_writer writer) cs ≡ [] → cond b (c ∷ filter (by_writer writer) cs) (filter (by_writer writer) cs) ≡ []
  by_test c cs true here is later = absurd (undeclared c is here)
  by_test c cs false here is later = later

  by_list : (cs : List Claimed) → AllByRecursion (IsOwnClaim marks) cs → filter (by_writer writer) cs ≡ []
  by_list [] all = refl
  by_list (c ∷ cs) all = by_test c cs (eqb c.writer writer) refl all.0 (by_list cs all.1)
