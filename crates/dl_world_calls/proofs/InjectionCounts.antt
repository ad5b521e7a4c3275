-- The counts of injections after one mark more.
use Rattle.std.proofs.Common.{◌≡◌, ◌≢◌, ℕ, ◌+◌, ◌-◌, ◌≤◌, ◌<◌, ◌⊎◌, inl, inr, Bool, true, false, cond, eqb, eq-eqb, set, List, [], ◌∷◌, ◌++◌, refl, sym, ap, ◌∙◌, arith}
use Rattle.std.specs.Prelude.{count_by, slice_index}
use Rattle.std.proofs.lemmas.List.{length-set}
use Rattle.std.proofs.lemmas.Bool.Decides.{eqb_tells}
use Rattle.dl_script_model.specs.Marks.{Mark, Injected, Handed, injections, is_injected, is_handed}
use Rattle.dl_model.proofs.Lists.{count_by-append}
use Rattle.dl_world_calls.specs.Injections.{AreAfter, is_no_injection}
use Rattle.dl_world_calls.proofs.Places.{get_or-set, apart}

count-one : (p : Mark → Bool) (done : List Mark) (mark : Mark) → count_by p (done ++ mark ∷ []) ≡ count_by p done + cond (p mark) 1 0
count-one p done mark = count_by-append p done (mark ∷ []) ∙ omega arith

-- a mark that is no injection
pub none-stay : (done : List Mark) (mark : Mark) (waiting : List ℕ) → ((app : ℕ) → is_injected app mark ≡ false) → ((app : ℕ) → is_handed app mark ≡ false) → AreAfter done waiting → AreAfter (done ++ mark ∷ []) waiting
none-stay done mark waiting no_more no_less is = record {
  count = is.count;
  each = λ app below.
      let more : count_by (is_injected app) (done ++ mark ∷ []) ≡ count_by (is_injected app) done = count-one (is_injected app) done mark ∙ rw (no_more app) (omega arith) in
      let less : count_by (is_handed app) (done ++ mark ∷ []) ≡ count_by (is_handed app) done = count-one (is_handed app) done mark ∙ rw (no_less app) (omega arith) in
      rw (more, less) (is.each app below);
  at_most = λ app.
      let more : count_by (is_injected app) (done ++ mark ∷ []) ≡ count_by (is_injected app) done = count-one (is_injected app) done mark ∙ rw (no_more app) (omega arith) in
      let less : count_by (is_handed app) (done ++ mark ∷ []) ≡ count_by (is_handed app) done = count-one (is_handed app) done mark ∙ rw (no_less app) (omega arith) in
      rw (more, less) (is.at_most app);
}

pub one-comes : (done : List Mark) (waiting : List ℕ) (a n : ℕ) → a < 16 → n ≡ slice_index waiting a + 1 → AreAfter done waiting → AreAfter (done ++ Injected a ∷ []) (set waiting a n)
one-comes done waiting a n below n_is is = record {
  count = length-set waiting a n ∙ is.count;
  each = λ app app_below. by_app app app_below (eqb_tells app a);
  at_most = λ app.
      let more = count-one (is_injected app) done (Injected a) in
      let less = count-one (is_handed app) done (Injected a) in
      omega (arith, more, less, is.at_most app);
} where
  by_app : (app : ℕ) → app < 16 → ((eqb app a ≡ true) × (app ≡ a)) ⊎ ((eqb app a ≡ false) × (app ≢ a)) → injections app (done ++ Injected a ∷ []) ≡ slice_index (set waiting a n) app
  by_app app app_below (inl same) =
      let itself : eqb a app ≡ true = eq-eqb a app (sym same.1) in
      let more : count_by (is_injected app) (done ++ Injected a ∷ []) ≡ count_by (is_injected app) done + 1 = count-one (is_injected app) done (Injected a) ∙ rw itself refl in
      let less : count_by (is_handed app) (done ++ Injected a ∷ []) ≡ count_by (is_handed app) done = count-one (is_handed app) done (Injected a) ∙ omega arith in
      let now : slice_index (set waiting a n) app ≡ n = get_or-set waiting a app n 0 (omega (arith, is.count, below)) ∙ rw same.0 refl in
      let before : injections a done ≡ slice_index waiting a = is.each a below in
      let at : injections app done ≡ injections a done = ap (λ (k : ℕ). injections k done) same.1 in
      omega (arith, more, less, now, n_is, before, at, is.at_most app)
  by_app app app_below (inr other) =
      let no_more : count_by (is_injected app) (done ++ Injected a ∷ []) ≡ count_by (is_injected app) done = count-one (is_injected app) done (Injected a) ∙ rw (apart a a app refl other.0) (omega arith) in
      let less : count_by (is_handed app) (done ++ Injected a ∷ []) ≡ count_by (is_handed app) done = count-one (is_handed app) done (Injected a) ∙ omega arith in
      let now : slice_index (set waiting a n) app ≡ slice_index waiting app = get_or-set waiting a app n 0 (omega (arith, is.count, below)) ∙ rw other.0 refl in
      rw (no_more, less, now) (is.each app app_below)

pub one-goes : (done : List Mark) (waiting : List ℕ) (a n : ℕ) → a < 16 → 0 < slice_index waiting a → n ≡ slice_index waiting a - 1 → AreAfter done waiting → AreAfter (done ++ Handed a ∷ []) (set waiting a n)
one-goes done waiting a n below some n_is is = record {
  count = length-set waiting a n ∙ is.count;
  each = λ app app_below. by_app app app_below (eqb_tells app a);
  at_most = λ app. bound app (eqb_tells app a);
} where
  bound : (app : ℕ) → ((eqb app a ≡ true) × (app ≡ a)) ⊎ ((eqb app a ≡ false) × (app ≢ a)) → count_by (is_handed app) (done ++ Handed a ∷ []) ≤ count_by (is_injected app) (done ++ Handed a ∷ [])
  bound app (inl same) =
      let itself : eqb a app ≡ true = eq-eqb a app (sym same.1) in
      let more : count_by (is_injected app) (done ++ Handed a ∷ []) ≡ count_by (is_injected app) done = count-one (is_injected app) done (Handed a) ∙ omega arith in
      let less : count_by (is_handed app) (done ++ Handed a ∷ []) ≡ count_by (is_handed app) done + 1 = count-one (is_handed app) done (Handed a) ∙ rw itself refl in
      let before : injections a done ≡ slice_index waiting a = is.each a below in
      let at : injections app done ≡ injections a done = ap (λ (k : ℕ). injections k done) same.1 in
      omega (arith, more, less, before, at, some)
  bound app (inr other) =
      let more : count_by (is_injected app) (done ++ Handed a ∷ []) ≡ count_by (is_injected app) done = count-one (is_injected app) done (Handed a) ∙ omega arith in
      let less : count_by (is_handed app) (done ++ Handed a ∷ []) ≡ count_by (is_handed app) done = count-one (is_handed app) done (Handed a) ∙ rw (apart a a app refl other.0) (omega arith) in
      rw (more, less) (is.at_most app)

  by_app : (app : ℕ) → app < 16 → ((eqb app a ≡ true) × (app ≡ a)) ⊎ ((eqb app a ≡ false) × (app ≢ a)) → injections app (done ++ Handed a ∷ []) ≡ slice_index (set waiting a n) app
  by_app app app_below (inl same) =
      let itself : eqb a app ≡ true = eq-eqb a app (sym same.1) in
      let more : count_by (is_injected app) (done ++ Handed a ∷ []) ≡ count_by (is_injected app) done = count-one (is_injected app) done (Handed a) ∙ omega arith in
      let less : count_by (is_handed app) (done ++ Handed a ∷ []) ≡ count_by (is_handed app) done + 1 = count-one (is_handed app) done (Handed a) ∙ rw itself refl in
      let now : slice_index (set waiting a n) app ≡ n = get_or-set waiting a app n 0 (omega (arith, is.count, below)) ∙ rw same.0 refl in
      let before : injections a done ≡ slice_index waiting a = is.each a below in
      let at : injections app done ≡ injections a done = ap (λ (k : ℕ). injections k done) same.1 in
      omega (arith, more, less, now, n_is, before, at, some)
  by_app app app_below (inr other) =
      let more : count_by (is_injected app) (done ++ Handed a ∷ []) ≡ count_by (is_injected app) done = count-one (is_injected app) done (Handed a) ∙ omega arith in
      let no_less : count_by (is_handed app) (done ++ Handed a ∷ []) ≡ count_by (is_handed app) done = count-one (is_handed app) done (Handed a) ∙ rw (apart a a app refl other.0) (omega arith) in
      let now : slice_index (set waiting a n) app ≡ slice_index waiting app = get_or-set waiting a app n 0 (omega (arith, is.count, below)) ∙ rw other.0 refl in
      rw (more, no_less, now) (is.each app app_below)

never_injected : (mark : Mark) → is_no_injection mark ≡ true → (app : ℕ) → is_injected app mark ≡ false
never_injected (Injected other) e app = absurd cc
never_injected _ e app = refl

never_handed : (mark : Mark) → is_no_injection mark ≡ true → (app : ℕ) → is_handed app mark ≡ false
never_handed (Handed other) e app = absurd cc
never_handed _ e app = refl

pub no-injection-stays : (done : List Mark) (mark : Mark) (waiting : List ℕ) → is_no_injection mark ≡ true → AreAfter done waiting → AreAfter (done ++ mark ∷ []) waiting
no-injection-stays done mark waiting e is = none-stay done mark waiting (never_injected mark e) (never_handed mark e) is
