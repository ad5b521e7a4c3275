-- Each kind of step keeps the rule of the claim words.
use Rattle.std.proofs.Common.{◌≡◌, ◌≢◌, ℕ, ◌+◌, ◌-◌, ◌%◌, ◌^◌, ◌<◌, ◌≤◌, Bool, true, false, min, nat_lt, ◌==◌, cond, List, [], ◌∷◌, ◌++◌, length, get_or, set, sym, refl, ap, ◌∙◌, subst, ⊎_elim, arith, length-set, length-append, get_or-set_same, get_or-set_other, ltb-true, ltb-false}
use mathlib.Core.Logic.{dite}
use mathlib.Core.Option.{none, some}
use native.Mathlib.Decide.{ℕ_discrete}
use lib.ListN.{get_elem?}
use Rattle.atomic_table.specs.Table.{State, Me, step, keeps, stepped, Allows, Splits, Joins}
use Rattle.atomic_table.proofs.Lists.{at_set}
use Rattle.dl_cells.specs.Views.{total, bit, times}
use Rattle.dl_cells.proofs.Each.{each_put, each_snoc, set_there}
use Rattle.dl_cells.proofs.Totals.{total-set, total-snoc, total_at, total_le, total_alone, times-append}
use Rattle.dl_cells.specs.declared.claimer.Given.{Given}
use Rattle.dl_cells.specs.declared.claim_words.View.{View}
use Rattle.dl_cells.specs.Claims.{given, given_of, refused_of}
use Rattle.dl_cells.specs.ClaimRule.{Fits, Keeps, claimer_view, kept_view, joined_view, with_given, with_refused, claimed_view, claims, Knows, looks}
use Rattle.dl_cells.proofs.ClaimSums.{given_of-append, given_more, given_else, refused_of-append, refused_more, refused_else, times-snoc, bit_below}

abbrev shares_of : View → ℕ
shares_of v = v.shares

abbrev keeps_of : View → ℕ
keeps_of v = bit v.keeps

-- how often a number of an application was given
abbrev times_of : ℕ → ℕ → View → ℕ
times_of app n v = times n (given_of app v.given)

abbrev gifts_of : ℕ → View → ℕ
gifts_of app v = length (given_of app v.given)

abbrev refusals_of : ℕ → View → ℕ
refusals_of app v = refused_of app v.refused

module _ (apps : ℕ) where
  abbrev M : Type 0
  M = Me (Unit {0}) View

  abbrev St : Type 0
  St = State (Unit {0}) View

  -- no more were refused of an application than there are shares
  most : (s : St) → Keeps apps s → (app : ℕ) → total (refusals_of app) s.views ≤ 65
  most s r app = let each = total_le (refusals_of app) shares_of s.views (λ id v at. (r.fits id v at).0 app) in let all = r.shares in omega arith

  -- after a step on the word of an application, which changes one view
  placed : (s : St) → Keeps apps s → (app new id : ℕ) (me : M) (w : View) → app < apps → get_elem? s.views id ≡ some me.0 → w.shares ≡ me.0.shares → w.keeps ≡ me.0.keeps → Fits w
      → ((n : ℕ) → times_of app n w + bit (nat_lt n (min 64 (get_or s.words app 0))) ≡ times_of app n me.0 + bit (nat_lt n (min 64 new)))
      → gifts_of app w + min 64 (get_or s.words app 0) ≡ gifts_of app me.0 + min 64 new
      → new + min 64 (get_or s.words app 0) + refusals_of app me.0 ≡ get_or s.words app 0 + min 64 new + refusals_of app w
      → ((other : ℕ) → app ≢ other → (given_of other w.given ≡ given_of other me.0.given) × (refusals_of other w ≡ refusals_of other me.0)) → Keeps apps (stepped s app new id me.1 w keeps)
  placed s r app new id me w within at shares keeper fits once count rest there = record {
    words = length-set s.words app new ∙ r.words;
    once = λ k lt n. let before = r.once k lt n in let changed = total-set (times_of k n) s.views id me.0 w at in dite (ℕ_discrete k app)
        (λ (same : k ≡ app). let mine : times_of k n w + bit (nat_lt n (min 64 (get_or s.words k 0))) ≡ times_of k n me.0 + bit (nat_lt n (min 64 new)) = subst (λ j. times_of j n w + bit (nat_lt n (min 64 (get_or s.words j 0))) ≡ times_of j n me.0 + bit (nat_lt n (min 64 new))) (sym same) (once n) in
        (omega arith) ∙ sym (ap (λ x. bit (nat_lt n (min 64 x))) (here k same)))
        (λ (apart : k ≢ app). let kept : times_of k n w ≡ times_of k n me.0 = ap (times n) (there k (λ e. apart (sym e))).0 in (omega arith) ∙ sym (ap (λ x. bit (nat_lt n (min 64 x))) (else k apart)));
    count = λ k lt. let before = r.count k lt in let changed = total-set (gifts_of k) s.views id me.0 w at in dite (ℕ_discrete k app)
        (λ (same : k ≡ app). let word = here k same in let mine : gifts_of k w + min 64 (get_or s.words k 0) ≡ gifts_of k me.0 + min 64 new = subst (λ j. gifts_of j w + min 64 (get_or s.words j 0) ≡ gifts_of j me.0 + min 64 new) (sym same) count in omega arith)
        (λ (apart : k ≢ app). let word = else k apart in let kept : gifts_of k w ≡ gifts_of k me.0 = ap length (there k (λ e. apart (sym e))).0 in omega arith);
    rest = λ k lt. let before = r.rest k lt in let changed = total-set (refusals_of k) s.views id me.0 w at in dite (ℕ_discrete k app)
        (λ (same : k ≡ app). let word = here k same in let mine : new + min 64 (get_or s.words k 0) + refusals_of k me.0 ≡ get_or s.words k 0 + min 64 new + refusals_of k w = subst (λ j. new + min 64 (get_or s.words j 0) + refusals_of j me.0 ≡ get_or s.words j 0 + min 64 new + refusals_of j w) (sym same) rest in omega arith)
        (λ (apart : k ≢ app). let word = else k apart in let kept = (there k (λ e. apart (sym e))).1 in omega arith);
    shares = let changed = total-set shares_of s.views id me.0 w at in let all = r.shares in omega arith;
    keeper = let changed = total-set keeps_of s.views id me.0 w at in let one = r.keeper in let same : keeps_of w ≡ keeps_of me.0 = ap bit keeper in omega arith;
    fits = each_put (λ _ v. Fits v) s.views id w fits r.fits;
  } where
    here : (k : ℕ) → k ≡ app → get_or (set s.words app new) k 0 ≡ new
    here k same = ap (λ j. get_or (set s.words app new) j 0) same ∙ get_or-set_same s.words app new 0 (subst (λ n. app < n) (sym r.words) within)

    else : (k : ℕ) → k ≢ app → get_or (set s.words app new) k 0 ≡ get_or s.words k 0
    else k apart = get_or-set_other s.words app k new 0 (λ e. apart e)

  -- a claim that gives the number found, or finds none left
  claimed : (s : St) → Keeps apps s → (app id : ℕ) (me : M) → app < apps → get_elem? s.views id ≡ some me.0 → refusals_of app me.0 ≡ 0 → 0 < me.0.shares → (b : Bool) → nat_lt (get_or s.words app 0) 64 ≡ b
      → Keeps apps (stepped s app (get_or s.words app 0 + 1) id me.1 (cond b (with_given me.0 (given app (get_or s.words app 0))) (with_refused me.0 app)) keeps)
  claimed s r app id me within at none_yet share true found = let word : ℕ = get_or s.words app 0 in let w : View = with_given me.0 (given app word) in let below : word < 64 = ltb-true word 64 found in let mine = r.fits id me.0 at in
      let is : min 64 word ≡ word = omega arith in let next : min 64 (word + 1) ≡ word + 1 = omega arith in let more : given_of app w.given ≡ given_of app me.0.given ++ word ∷ [] = given_more app word me.0.given in
      placed s r app (word + 1) id me w within at refl refl (mine.0, λ zero. absurd (omega arith))
      (λ n. let one : times_of app n w ≡ times_of app n me.0 + bit (word == n) = ap (times n) more ∙ times-snoc n word (given_of app me.0.given) in let step = bit_below n word in
      let old : bit (nat_lt n (min 64 word)) ≡ bit (nat_lt n word) = ap (λ x. bit (nat_lt n x)) is in let new : bit (nat_lt n (min 64 (word + 1))) ≡ bit (nat_lt n (word + 1)) = ap (λ x. bit (nat_lt n x)) next in omega arith)
      (let longer : gifts_of app w ≡ gifts_of app me.0 + 1 = ap length more ∙ length-append (given_of app me.0.given) (word ∷ []) in omega arith)
      (omega arith)
      (λ other apart. (given_else other app word me.0.given apart, refl))
  claimed s r app id me within at none_yet share false found = let word : ℕ = get_or s.words app 0 in let w : View = with_refused me.0 app in let over : 64 ≤ word = ltb-false word 64 found in let mine = r.fits id me.0 at in
      let is : min 64 word ≡ 64 = omega arith in let next : min 64 (word + 1) ≡ 64 = omega arith in let more = refused_more app me.0.refused in
      placed s r app (word + 1) id me w within at refl refl (
        (λ k. dite (ℕ_discrete k app) (λ (same : k ≡ app). let one : refused_of k w.refused ≡ 0 + 1 = ap (λ j. refused_of j w.refused) same ∙ more ∙ ap (λ n. n + 1) none_yet in omega arith)
            (λ (apart : k ≢ app). let kept = refused_else k app me.0.refused (λ e. apart (sym e)) in let few = mine.0 k in omega arith)),
        mine.1,
      )
      (λ n. ap (λ x. times_of app n me.0 + bit (nat_lt n x)) (is ∙ sym next)) (omega arith) (omega arith) (λ other apart. (refl, refused_else other app me.0.refused apart))

  pub claiming : (slots id : ℕ) (me : M) (app : ℕ) → app < apps → refusals_of app me.0 ≡ 0 → 0 < me.0.shares → Allows (Keeps apps) slots id me app (λ n. (n + 1) % 2 ^ 64) (claims (step slots app 1 0 none) me)
  claiming slots id me app within none_yet share s r _ at _ = let word : ℕ = get_or s.words app 0 in let w : View = claimed_view app word me.0 in
      let bound = most s r app in let rest = r.rest app within in let next : word + 1 ≡ (word + 1) % 2 ^ 64 = omega arith in
      let kept : Keeps apps (stepped s app (word + 1) id me.1 w keeps) = claimed s r app id me within at none_yet share (nat_lt word 64) refl in
      let count = kept.count app within in let own = total_at (gifts_of app) (set s.views id w) id w (set_there s.views id me.0 w at) in (
        w,
        keeps,
        tt,
        subst (λ n. Keeps apps (stepped s app n id me.1 w keeps)) next kept,
        (refl, refl, omega arith),
      )

  -- what the keeper knows
  knows : (s : St) → Keeps apps s → (app id : ℕ) (v : View) → app < apps → get_elem? s.views id ≡ some v → Knows app v (min 64 (get_or s.words app 0))
  knows s r app id v within at = record {
    apart = λ n. let once = r.once app within n in let own = total_at (times_of app n) s.views id v at in omega arith;
    few = let count = r.count app within in let own = total_at (gifts_of app) s.views id v at in omega arith;
    all = λ all n. let once = r.once app within n in let alone = total_alone shares_of (times_of app n) s.views id v at (r.shares ∙ sym all)
        (λ j u e none_left. ap (λ (gs : List Given). times n (given_of app gs)) ((r.fits j u e).1 none_left)) in omega arith;
    count = λ all. let count = r.count app within in let alone = total_alone shares_of (gifts_of app) s.views id v at (r.shares ∙ sym all)
        (λ j u e none_left. ap (λ (gs : List Given). length (given_of app gs)) ((r.fits j u e).1 none_left)) in omega arith;
    full = λ some_there. let rest = r.rest app within in let own = total_at (refusals_of app) s.views id v at in omega arith;
  }

  pub looking : (slots id : ℕ) (me : M) (app : ℕ) → app < apps → Allows (Keeps apps) slots id me app (λ n. n) (looks (step slots app 0 0 none) me)
  looking slots id me app within s r _ at _ = let word : ℕ = get_or s.words app 0 in (
    me.0,
    keeps,
    tt,
    placed s r app word id me me.0 within at refl refl (r.fits id me.0 at) (λ n. refl) refl (omega arith) (λ _ _. (refl, refl)),
    (refl, refl, knows s r app id me.0 within at),
  )

  -- a new claimer with some shares
  pub giving : (id : ℕ) (v : View) (shares : ℕ) → shares ≤ v.shares → ((app : ℕ) → refused_of app v.refused ≤ v.shares - shares) → (v.shares - shares ≡ 0 → v.given ≡ []) → Splits (Keeps apps) id v (kept_view v shares) (claimer_view shares)
  giving id v shares fewer few bare s r at = let left : View = kept_view v shares in let right : View = claimer_view shares in record {
    words = r.words;
    once = λ k lt n. let before = r.once k lt n in let changed = total-set (times_of k n) s.views id v left at in let more = total-snoc (times_of k n) (set s.views id left) right in omega arith;
    count = λ k lt. let before = r.count k lt in let changed = total-set (gifts_of k) s.views id v left at in let more = total-snoc (gifts_of k) (set s.views id left) right in omega arith;
    rest = λ k lt. let before = r.rest k lt in let changed = total-set (refusals_of k) s.views id v left at in let more = total-snoc (refusals_of k) (set s.views id left) right in omega arith;
    shares = let changed = total-set shares_of s.views id v left at in let more = total-snoc shares_of (set s.views id left) right in let all = r.shares in omega arith;
    keeper = let changed = total-set keeps_of s.views id v left at in let more = total-snoc keeps_of (set s.views id left) right in let one = r.keeper in omega arith;
    fits = each_snoc (λ _ u. Fits u) (set s.views id left) right (λ _. ((λ k. omega arith), λ _. refl)) (each_put (λ _ u. Fits u) s.views id left (few, bare) r.fits);
  }

  -- the keeper takes in a claimer
  pub joining : (id : ℕ) (v : View) (other : ℕ) (u : View) → u.keeps ≡ false → Joins (Keeps apps) id v other u (joined_view v u) (claimer_view 0)
  joining id v other u writes s r at apart at' = let both : View = joined_view v u in let spent : View = claimer_view 0 in let mine = r.fits id v at in let vs : List View = set s.views id both in
      let was : get_elem? s.views other ≡ some u = ⊎_elim (λ x. absurd (apart x.0)) (λ x. x.1) (at_set s.views id other both u at') in let theirs = r.fits other u was in
      let numbers : (app : ℕ) → given_of app both.given ≡ given_of app v.given ++ given_of app u.given = λ app. given_of-append app v.given u.given in record {
        words = r.words;
        once = λ k lt n. let before = r.once k lt n in let changed = total-set (times_of k n) s.views id v both at in let changed' = total-set (times_of k n) vs other u spent at' in
            let sum : times_of k n both ≡ times_of k n v + times_of k n u = ap (times n) (numbers k) ∙ times-append n (given_of k v.given) (given_of k u.given) in omega arith;
        count = λ k lt. let before = r.count k lt in let changed = total-set (gifts_of k) s.views id v both at in let changed' = total-set (gifts_of k) vs other u spent at' in
            let sum : gifts_of k both ≡ gifts_of k v + gifts_of k u = ap length (numbers k) ∙ length-append (given_of k v.given) (given_of k u.given) in omega arith;
        rest = λ k lt. let before = r.rest k lt in let changed = total-set (refusals_of k) s.views id v both at in let changed' = total-set (refusals_of k) vs other u spent at' in let sum = refused_of-append k v.refused u.refused in omega arith;
        shares = let changed = total-set shares_of s.views id v both at in let changed' = total-set shares_of vs other u spent at' in let all = r.shares in omega arith;
        keeper = let changed = total-set keeps_of s.views id v both at in let changed' = total-set keeps_of vs other u spent at' in let one = r.keeper in let not_theirs : keeps_of u ≡ 0 = ap bit writes in omega arith;
        fits = each_put (λ _ x. Fits x) vs other spent ((λ k. omega arith), λ _. refl) (each_put (λ _ x. Fits x) s.views id both (
          (λ k. let sum = refused_of-append k v.refused u.refused in let few = mine.0 k in let their_few = theirs.0 k in omega arith),
          (λ zero. ap (λ (gs : List Given). gs ++ u.given) (mine.1 (omega arith)) ∙ theirs.1 (omega arith)),
        ) r.fits);
      }
