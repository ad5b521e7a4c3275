-- Each kind of step keeps the rule of the loss words.
use Rattle.std.proofs.Common.{◌≡◌, ◌≢◌, ℕ, ◌+◌, ◌-◌, ◌*◌, ◌%◌, ◌^◌, ◌<◌, ◌≤◌, Bool, true, false, true≢false, List, [], ◌∷◌, length, get_or, set, sym, refl, ap, ◌∙◌, subst, ⊎_elim, arith, length-set, length-append, get_or-set_same, get_or-set_other}
use mathlib.Core.Logic.{dite}
use mathlib.Core.Option.{none, some}
use native.Mathlib.Decide.{ℕ_discrete}
use lib.ListN.{get_elem?}
use Rattle.atomic_table.specs.Table.{State, Me, step, keeps, stepped, Allows, Splits, Joins}
use Rattle.atomic_table.proofs.Lists.{at_set}
use Rattle.dl_cells.specs.Views.{total, bit}
use Rattle.dl_cells.proofs.Each.{each_put, each_snoc}
use Rattle.dl_cells.proofs.Totals.{total-set, total-snoc, total_at, total_le, total_scale, total_alone}
use Rattle.dl_cells.specs.declared.loss_keeper.Report.{Report}
use Rattle.dl_cells.specs.declared.loss_words.View.{View}
use Rattle.dl_cells.specs.Losses.{report, counted_of, reported_of}
use Rattle.dl_cells.specs.LossRule.{Fits, Keeps, writer_view, kept_view, joined_view, with_count, with_report, counts, Knows, takes, looks}
use Rattle.dl_cells.proofs.LossSums.{counted-append, counted-le-length, counted_more, counted_else, reported_more, reported_else}

abbrev shares_of : View → ℕ
shares_of v = v.shares

abbrev keeps_of : View → ℕ
keeps_of v = bit v.keeps

abbrev counts_of : ℕ → View → ℕ
counts_of app v = counted_of app v.counted

abbrev reports_of : ℕ → View → ℕ
reports_of app v = reported_of app v.reported

module _ (apps : ℕ) where
  abbrev M : Type 0
  M = Me (Unit {0}) View

  abbrev St : Type 0
  St = State (Unit {0}) View

  -- no more was counted of an application than all shares allow
  most : (s : St) → Keeps apps s → (app : ℕ) → total (counts_of app) s.views ≤ 65 * 2 ^ 40
  most s r app = let each = total_le (counts_of app) (λ v. shares_of v * 2 ^ 40) s.views (λ id v at. let few = (r.fits id v at).0 in let within = counted-le-length app v.counted in omega arith) in
      let scaled = total_scale shares_of (2 ^ 40) s.views in let all = r.shares in omega arith

  -- after a step on the word of an application, which changes one view
  placed : (s : St) → Keeps apps s → (app new id : ℕ) (me : M) (w : View) → app < apps → get_elem? s.views id ≡ some me.0 → w.shares ≡ me.0.shares → w.keeps ≡ me.0.keeps → Fits w
      → new + reports_of app w + counts_of app me.0 ≡ get_or s.words app 0 + reports_of app me.0 + counts_of app w
      → ((other : ℕ) → app ≢ other → (reports_of other w ≡ reports_of other me.0) × (counts_of other w ≡ counts_of other me.0)) → Keeps apps (stepped s app new id me.1 w keeps)
  placed s r app new id me w within at shares keeper fits here there = record {
    words = length-set s.words app new ∙ r.words;
    balance = λ k lt. let before = r.balance k lt in let reported = total-set (reports_of k) s.views id me.0 w at in let counted = total-set (counts_of k) s.views id me.0 w at in dite (ℕ_discrete k app)
        (λ (same : k ≡ app). let word : get_or (set s.words app new) k 0 ≡ new = ap (λ j. get_or (set s.words app new) j 0) same ∙ get_or-set_same s.words app new 0 (subst (λ n. app < n) (sym r.words) within) in
        let moved : new + reports_of k w + counts_of k me.0 ≡ get_or s.words k 0 + reports_of k me.0 + counts_of k w = subst (λ j. new + reports_of j w + counts_of j me.0 ≡ get_or s.words j 0 + reports_of j me.0 + counts_of j w) (sym same) here in omega arith)
        (λ (apart : k ≢ app). let word : get_or (set s.words app new) k 0 ≡ get_or s.words k 0 = get_or-set_other s.words app k new 0 (λ e. apart e) in let kept = there k (λ e. apart (sym e)) in
        let kept_reports = kept.0 in let kept_counts = kept.1 in omega arith);
    shares = let changed = total-set shares_of s.views id me.0 w at in let all = r.shares in omega arith;
    keeper = let changed = total-set keeps_of s.views id me.0 w at in let one = r.keeper in let same : keeps_of w ≡ keeps_of me.0 = ap bit keeper in omega arith;
    fits = each_put (λ _ v. Fits v) s.views id w fits r.fits;
  }

  pub counting : (slots id : ℕ) (me : M) (app : ℕ) → app < apps → length me.0.counted < 2 ^ 40 → 0 < me.0.shares → Allows (Keeps apps) slots id me app (λ n. (n + 1) % 2 ^ 64) (counts (step slots app 1 0 none) me)
  counting slots id me app within few share s r _ at _ = let word : ℕ = get_or s.words app 0 in let w : View = with_count me.0 app in let mine = r.fits id me.0 at in
      let bound = most s r app in let balance = r.balance app within in let next : word + 1 ≡ (word + 1) % 2 ^ 64 = omega arith in
      let longer = length-append me.0.counted (app ∷ []) in let more = counted_more app me.0.counted in (
        w,
        keeps,
        tt,
        subst (λ n. Keeps apps (stepped s app n id me.1 w keeps)) next
            (placed s r app (word + 1) id me w within at refl refl (omega arith, mine.1) (omega arith) (λ other apart. (refl, counted_else other app me.0.counted apart))),
        (refl, refl),
      )

  -- what the keeper knows
  knows : (s : St) → Keeps apps s → (app id seen : ℕ) (v : View) → app < apps → get_elem? s.views id ≡ some v → v.keeps ≡ true → seen ≡ reports_of app v + get_or s.words app 0 → Knows app v seen
  knows s r app id seen v within at keeper is = let balance = r.balance app within in let bound = most s r app in
      let alone : total (reports_of app) s.views ≡ reports_of app v = total_alone keeps_of (reports_of app) s.views id v at (r.keeper ∙ sym (ap bit keeper))
      (λ j u e. idle u.keeps refl u.reported (r.fits j u e).1) in
      let own = total_at (counts_of app) s.views id v at in (
        omega arith,
        (λ all. let counted = total_alone shares_of (counts_of app) s.views id v at (r.shares ∙ sym all) (λ j u e. let few = (r.fits j u e).0 in let least = counted-le-length app u.counted in λ none_left. omega arith) in omega arith),
        omega arith,
      ) where
        idle : (b : Bool) → b ≡ b → (reported : List Report) → (b ≡ false → reported ≡ []) → bit b ≡ 0 → reported_of app reported ≡ 0
        idle true _ reported none_there zero_is = absurd (omega arith)
        idle false _ reported none_there zero_is = ap (reported_of app) (none_there refl)

  pub taking : (slots id : ℕ) (me : M) (app : ℕ) → app < apps → me.0.keeps ≡ true → Allows (Keeps apps) slots id me app (λ _. 0) (takes (step slots app 0 0 none) me)
  taking slots id me app within keeper s r _ at _ = let word : ℕ = get_or s.words app 0 in let w : View = with_report me.0 (report app word) in let mine = r.fits id me.0 at in
      let more = reported_more app word me.0.reported in (
        w,
        keeps,
        tt,
        placed s r app 0 id me w within at refl refl (mine.0, λ not. absurd (true≢false (sym keeper ∙ not))) (omega arith) (λ other apart. (reported_else other app word me.0.reported apart, refl)),
        (refl, refl, knows s r app id (reports_of app w) me.0 within at keeper more),
      )

  pub looking : (slots id : ℕ) (me : M) (app : ℕ) → app < apps → me.0.keeps ≡ true → Allows (Keeps apps) slots id me app (λ n. n) (looks (step slots app 0 0 none) me)
  looking slots id me app within keeper s r _ at _ = let word : ℕ = get_or s.words app 0 in (
    me.0,
    keeps,
    tt,
    placed s r app word id me me.0 within at refl refl (r.fits id me.0 at) refl (λ _ _. (refl, refl)),
    (refl, refl, knows s r app id (reports_of app me.0 + word) me.0 within at keeper refl),
  )

  -- a new writer with some shares
  pub giving : (id : ℕ) (v : View) (given : ℕ) → given ≤ v.shares → length v.counted ≤ (v.shares - given) * 2 ^ 40 → Splits (Keeps apps) id v (kept_view v given) (writer_view given)
  giving id v given fewer few s r at = let left : View = kept_view v given in let right : View = writer_view given in let mine = r.fits id v at in record {
    words = r.words;
    balance = λ k lt. let before = r.balance k lt in let reported = total-set (reports_of k) s.views id v left at in let counted = total-set (counts_of k) s.views id v left at in
        let reported' = total-snoc (reports_of k) (set s.views id left) right in let counted' = total-snoc (counts_of k) (set s.views id left) right in omega arith;
    shares = let changed = total-set shares_of s.views id v left at in let more = total-snoc shares_of (set s.views id left) right in let all = r.shares in omega arith;
    keeper = let changed = total-set keeps_of s.views id v left at in let more = total-snoc keeps_of (set s.views id left) right in let one = r.keeper in omega arith;
    fits = each_snoc (λ _ u. Fits u) (set s.views id left) right (λ _. (omega arith, λ _. refl)) (each_put (λ _ u. Fits u) s.views id left (few, mine.1) r.fits);
  }

  -- the keeper takes in a writer
  pub joining : (id : ℕ) (v : View) (other : ℕ) (u : View) → u.keeps ≡ false → Joins (Keeps apps) id v other u (joined_view v u) (writer_view 0)
  joining id v other u writes s r at apart at' = let both : View = joined_view v u in let spent : View = writer_view 0 in let mine = r.fits id v at in let vs : List View = set s.views id both in
      let was : get_elem? s.views other ≡ some u = ⊎_elim (λ x. absurd (apart x.0)) (λ x. x.1) (at_set s.views id other both u at') in let theirs = r.fits other u was in
      let mine_few = mine.0 in let their_few = theirs.0 in let longer = length-append v.counted u.counted in record {
        words = r.words;
        balance = λ k lt. let before = r.balance k lt in let reported = total-set (reports_of k) s.views id v both at in let counted = total-set (counts_of k) s.views id v both at in
            let reported' = total-set (reports_of k) vs other u spent at' in let counted' = total-set (counts_of k) vs other u spent at' in
            let nothing : reports_of k u ≡ 0 = ap (reported_of k) (theirs.1 writes) in let sum = counted-append k v.counted u.counted in omega arith;
        shares = let changed = total-set shares_of s.views id v both at in let changed' = total-set shares_of vs other u spent at' in let all = r.shares in omega arith;
        keeper = let changed = total-set keeps_of s.views id v both at in let changed' = total-set keeps_of vs other u spent at' in let one = r.keeper in let not_theirs : keeps_of u ≡ 0 = ap bit writes in omega arith;
        fits = each_put (λ _ x. Fits x) vs other spent (omega arith, λ _. refl) (each_put (λ _ x. Fits x) s.views id both (omega arith, mine.1) r.fits);
      }
