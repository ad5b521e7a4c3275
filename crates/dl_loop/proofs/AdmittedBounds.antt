-- How the bound on admitted frames goes on, and that it is far below the most that may be admitted.
use Rattle.std.proofs.Common.{◌≡◌, ℕ, ◌+◌, ◌*◌, ◌/◌, ◌%◌, ◌^◌, ◌<◌, ◌≤◌, ◌==◌, zero, suc, inl, inr, subst, filter, cond, eqb, if◌then◌else◌, min, Bool, true, false, List, [], ◌∷◌, ◌++◌, length, refl, ap, sym, ◌∙◌, arith, sum_by}
use Rattle.std.specs.List.{range_with_len}
use Rattle.std.proofs.lemmas.Bool.Decides.{eqb_tells}
use Rattle.std.proofs.lemmas.List.Sums.{sum_by-append, sum_by-cons}
use Rattle.std.proofs.lemmas.List.Elements.{filter-append}
use Rattle.dl_cells.specs.Losses.{report, reported_of}
use Rattle.dl_cells.specs.declared.loss_keeper.Report.{Report}
use Rattle.dl_core.specs.Admission.{lost_frames}
use Rattle.dl_core.proofs.Sizes.{lost_count}
use Rattle.dl_loop.specs.Bounds.{HasBounds}

-- where each of so many applications has reported fewer than 2^47
sum_small : (f : ℕ → ℕ) → ((app : ℕ) → f app < 2 ^ 47) → (apps : List ℕ) → sum_by f apps ≤ 140737488355328 * length apps
sum_small f small [] = omega arith
sum_small f small (app ∷ apps) = omega (arith, sum_by-cons f app apps, small app, sum_small f small apps)

pub bounds_few : (noted admitted : ℕ) (reports : List Report) → HasBounds noted admitted reports → noted < 2 ^ 32 → admitted < 2 ^ 33
bounds_few noted admitted reports bounds few = omega (arith, bounds.few, few, sum_small (λ app. reported_of app reports) bounds.small (range_with_len 0 16))

sum_grows : (f g : ℕ → ℕ) → ((app : ℕ) → f app ≤ g app) → (apps : List ℕ) → sum_by f apps ≤ sum_by g apps
sum_grows f g each [] = omega arith
sum_grows f g each (app ∷ apps) = omega (arith, sum_by-cons f app apps, sum_by-cons g app apps, each app, sum_grows f g each apps)

-- a sum over numbers in a row has so much more as one of them has
sum_more : (f g : ℕ → ℕ) (app count : ℕ) → ((other : ℕ) → f other ≤ g other) → f app + count ≤ g app
    → (from many : ℕ) → from ≤ app → app < from + many → sum_by f (range_with_len from many) + count ≤ sum_by g (range_with_len from many)
sum_more f g app count each more from zero low high = absurd (omega (arith, low, high))
sum_more f g app count each more from (suc many) low high = elim (eqb_tells from app) [
  | inl same ↦ (let here : f from + count ≤ g from = subst (λ n. f n + count ≤ g n) (sym same.1) more in
      omega (arith, sum_by-cons f from (range_with_len (from + 1) many), sum_by-cons g from (range_with_len (from + 1) many), here, sum_grows f g each (range_with_len (from + 1) many)))
  | inr apart ↦ (let above : from + 1 ≤ app = grind (arith, low, apart.1) in
      omega (
        arith,
        sum_by-cons f from (range_with_len (from + 1) many),
        sum_by-cons g from (range_with_len (from + 1) many),
        each from,
        sum_more f g app count each more (from + 1) many above (omega (arith, high)),
      ))
]

-- what was reported of an application, with one report more
one_more_report : (app other count : ℕ) (reports : List Report)
    → reported_of other (reports ++ report app count ∷ []) ≡ reported_of other reports + (if app == other then count else 0)
one_more_report app other count reports =
    ap (λ rs. sum_by (λ (r : Report). r.count) rs) (filter-append (λ (r : Report). r.app == other) reports (report app count ∷ []))
    ∙ sum_by-append (λ (r : Report). r.count) (filter (λ (r : Report). r.app == other) reports) (filter (λ (r : Report). r.app == other) (report app count ∷ []))
    ∙ ap (λ n. reported_of other reports + n) (last (app == other) refl) where
      last : (b : Bool) → (app == other) ≡ b → sum_by (λ (r : Report). r.count) (filter (λ (r : Report). r.app == other) (report app count ∷ [])) ≡ (if app == other then count else 0)
      last true is = rw is (omega arith)
      last false is = rw is refl

-- a Log event and its frame
pub bounds_logs : (noted admitted many : ℕ) (reports : List Report) → HasBounds noted admitted reports → HasBounds (noted + many) (admitted + many) reports
bounds_logs noted admitted many reports bounds = record { few = omega (arith, bounds.few); small = bounds.small }

-- a Lost event and the records that report it
pub bounds_lost : (noted admitted app count frames : ℕ) (reports : List Report) → app < 16 → frames ≡ count / 4294967295 + min 1 (count % 4294967295)
    → ((other : ℕ) → reported_of other (reports ++ report app count ∷ []) < 2 ^ 47)
    → HasBounds noted admitted reports → HasBounds (noted + 1) (admitted + frames) (reports ++ report app count ∷ [])
bounds_lost noted admitted app count frames reports low many small bounds = record {
  few = omega (
    arith,
    bounds.few,
    many,
    sum_more (λ a. reported_of a reports) (λ a. reported_of a (reports ++ report app count ∷ [])) app count grows own 0 16 (omega arith) (omega (arith, low)),
  );
  small = small;
} where
  grows : (other : ℕ) → reported_of other reports ≤ reported_of other (reports ++ report app count ∷ [])
  grows other = omega (arith, one_more_report app other count reports)

  own : reported_of app reports + count ≤ reported_of app (reports ++ report app count ∷ [])
  own = elim (eqb_tells app app) [
    | inl same ↦ omega (arith, one_more_report app app count reports ∙ ap (λ (b : Bool). reported_of app reports + (if b then count else 0)) same.0)
    | inr apart ↦ absurd (apart.1 refl)
  ]

-- what was reported of any application stays below its bound, with one report more
small_more : (app count : ℕ) (reports : List Report) → ((other : ℕ) → reported_of other reports < 2 ^ 47) → reported_of app (reports ++ report app count ∷ []) < 2 ^ 47
    → (other : ℕ) → reported_of other (reports ++ report app count ∷ []) < 2 ^ 47
small_more app count reports small own other = elim (eqb_tells app other) [
  | inl same ↦ subst (λ n. reported_of n (reports ++ report app count ∷ []) < 2 ^ 47) same.1 own
  | inr apart ↦ omega (arith, one_more_report app other count reports ∙ ap (λ (b : Bool). reported_of other reports + (if b then count else 0)) apart.0, small other)
]

-- losses that were taken, and the records that report them where there are any
pub bounds_report : (ecu apid : List ℕ) (noted admitted app count : ℕ) (reports : List Report) → app < 16 → reported_of app (reports ++ report app count ∷ []) < 2 ^ 47
    → HasBounds noted admitted reports → HasBounds (noted + cond (eqb count 0) 0 1) (admitted + length (lost_frames ecu apid count)) (reports ++ report app count ∷ [])
bounds_report ecu apid noted admitted app count reports low own bounds =
    let small = small_more app count reports bounds.small own in
    elim (eqb_tells count 0) [
      | inl none ↦ subst (λ (b : Bool). HasBounds (noted + cond b 0 1) (admitted + length (lost_frames ecu apid count)) (reports ++ report app count ∷ [])) (sym none.0) (record {
        few = omega (
          arith,
          bounds.few,
          many,
          none.1,
          sum_grows (λ a. reported_of a reports) (λ a. reported_of a (reports ++ report app count ∷ [])) (λ a. omega (arith, one_more_report app a count reports)) (range_with_len 0 16),
        );
        small = small;
      })
      | inr some ↦ subst (λ (b : Bool). HasBounds (noted + cond b 0 1) (admitted + length (lost_frames ecu apid count)) (reports ++ report app count ∷ [])) (sym some.0)
          (bounds_lost noted admitted app count (length (lost_frames ecu apid count)) reports low many small bounds)
    ] where
      many : length (lost_frames ecu apid count) ≡ count / 4294967295 + min 1 (count % 4294967295)
      many = lost_count ecu apid count
