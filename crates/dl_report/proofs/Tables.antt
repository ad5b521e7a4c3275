-- Tables with an entry for each number.
use Rattle.std.proofs.Common.{◌≡◌, ◌≢◌, ℕ, ◌<◌, ◌≤◌, zero, suc, List, [], ◌∷◌, length, get_or, set, refl, ap, subst, arith}
use Rattle.std.proofs.lemmas.Option.{none-some, same_Some}
use Rattle.dl_report.specs.Counts.{Each, changed_at}

-- an entry written is an entry changed
pub set_is_changed : {A : Type 0} (table : List A) (at : ℕ) (change : A → A) (d : A) → at < length table
    → set table at (change (get_or table at d)) ≡ changed_at at change table
set_is_changed [] at change d within = absurd (omega arith)
set_is_changed (x ∷ xs) zero change d within = refl
set_is_changed (x ∷ xs) (suc at) change d within = ap (λ t. x ∷ t) (set_is_changed xs at change d (omega arith))

pub changed_past : {A : Type 0} (table : List A) (at : ℕ) (change : A → A) → length table ≤ at → table ≡ changed_at at change table
changed_past [] at change past = refl
changed_past (x ∷ xs) zero change past = absurd (omega arith)
changed_past (x ∷ xs) (suc at) change past = ap (λ t. x ∷ t) (changed_past xs at change (omega arith))

pub length-changed_at : {A : Type 0} (table : List A) (at : ℕ) (change : A → A) → length (changed_at at change table) ≡ length table
length-changed_at [] at change = refl
length-changed_at (x ∷ xs) zero change = refl
length-changed_at (x ∷ xs) (suc at) change = ap suc (length-changed_at xs at change)

-- what holds of the entries after a change: of the changed one by the change, of the others as before
pub each_changed : {A : Type 0} (P Q : ℕ → A → Type 0) (table : List A) (at : ℕ) (change : A → A)
    → ((x : A) → P at x → Q at (change x)) → ((n : ℕ) (x : A) → n ≢ at → P n x → Q n x) → Each P table → Each Q (changed_at at change table)
each_changed P Q [] at change here others all number entry is = absurd (none-some entry is)
each_changed P Q (x ∷ xs) zero change here others all zero entry is = subst (Q 0) (same_Some _ _ is) (here x (all 0 x refl))
each_changed P Q (x ∷ xs) zero change here others all (suc n) entry is = others (suc n) entry (λ e. omega (arith, e)) (all (suc n) entry is)
each_changed P Q (x ∷ xs) (suc at) change here others all zero entry is = others 0 entry (λ e. omega (arith, e)) (all 0 entry is)
each_changed P Q (x ∷ xs) (suc at) change here others all (suc n) entry is =
    each_changed (λ k. P (suc k)) (λ k. Q (suc k)) xs at change here (λ k y apart. others (suc k) y (λ e. apart (omega (arith, e)))) (λ k y. all (suc k) y) n entry is
