-- How what was counted and what was reported add up.
use Rattle.std.proofs.Common.{◌≡◌, ◌≢◌, ℕ, ◌+◌, ◌≤◌, List, [], ◌∷◌, ◌++◌, length, filter, cond, eqb, ap, ◌∙◌, refl, eq-eqb, ne_eqb, add-zero, zero-add}
use Rattle.std.specs.List.{sum_by}
use Rattle.std.proofs.lemmas.List.Sums.{sum_by-append, count_by-le-length}
use Rattle.std.proofs.lemmas.List.Elements.{filter-append}
use Rattle.dl_cells.specs.declared.loss_keeper.Report.{Report}
use Rattle.dl_cells.specs.Losses.{report, counted_of, reported_of}

pub counted-append : (app : ℕ) (xs ys : List ℕ) → counted_of app (xs ++ ys) ≡ counted_of app xs + counted_of app ys
counted-append app xs ys = sum_by-append (λ a. cond (eqb a app) 1 0) xs ys

pub counted-le-length : (app : ℕ) (xs : List ℕ) → counted_of app xs ≤ length xs
counted-le-length app xs = count_by-le-length (λ a. eqb a app) xs

-- a loss more of the application
pub counted_more : (app : ℕ) (xs : List ℕ) → counted_of app (xs ++ app ∷ []) ≡ counted_of app xs + 1
counted_more app xs = counted-append app xs (app ∷ []) ∙ ap (λ b. counted_of app xs + (0 + cond b 1 0)) (eq-eqb app app refl)

-- a loss more of another one
pub counted_else : (app other : ℕ) (xs : List ℕ) → other ≢ app → counted_of app (xs ++ other ∷ []) ≡ counted_of app xs
counted_else app other xs apart = counted-append app xs (other ∷ []) ∙ ap (λ b. counted_of app xs + (0 + cond b 1 0)) (ne_eqb other app apart) ∙ add-zero (counted_of app xs)

pub reported-append : (app : ℕ) (xs ys : List Report) → reported_of app (xs ++ ys) ≡ reported_of app xs + reported_of app ys
reported-append app xs ys = ap (λ (rs : List Report). sum_by (λ r. r.count) rs) (filter-append (λ r. eqb r.app app) xs ys)
    ∙ sum_by-append (λ (r : Report). r.count) (filter (λ r. eqb r.app app) xs) (filter (λ r. eqb r.app app) ys)

-- a report more of the application
pub reported_more : (app count : ℕ) (xs : List Report) → reported_of app (xs ++ report app count ∷ []) ≡ reported_of app xs + count
reported_more app count xs = reported-append app xs (report app count ∷ [])
    ∙ ap (λ b. reported_of app xs + sum_by (λ (r : Report). r.count) (cond b (report app count ∷ []) [])) (eq-eqb app app refl) ∙ ap (λ n. reported_of app xs + n) (zero-add count)

-- a report more of another one
pub reported_else : (app other count : ℕ) (xs : List Report) → other ≢ app → reported_of app (xs ++ report other count ∷ []) ≡ reported_of app xs
reported_else app other count xs apart = reported-append app xs (report other count ∷ [])
    ∙ ap (λ b. reported_of app xs + sum_by (λ (r : Report). r.count) (cond b (report other count ∷ []) [])) (ne_eqb other app apart) ∙ add-zero (reported_of app xs)
