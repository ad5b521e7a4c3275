-- How the histories of slots grow.
use Rattle.std.proofs.Common.{◌≡◌, ◌≢◌, ℕ, zero, suc, ◌+◌, ◌-◌, ◌≤◌, List, [], ◌∷◌, ◌++◌, length, map, filter, cond, All, Some, slice_get, sym, refl, ap, ◌∙◌, subst, arith, eqb, append-nil, eq-eqb, ne_eqb, length-append}
use Rattle.std.proofs.lemmas.List.Elements.{filter-append, All-weaker}
use Rattle.std.proofs.lemmas.List.{map-append}
use Rattle.std.proofs.lemmas.Option.{slice_get_within}
use Rattle.dl_cells.specs.declared.level_history.Change.{Change}
use Rattle.dl_cells.specs.declared.level_history.Read.{Read}
use Rattle.dl_cells.specs.LevelHistory.{change, read, levels_set, history, current_version, IsEntry}

module _ {A : Type 0} where
  slice_get_longer : (xs ys : List A) (i : ℕ) (a : A) → slice_get xs i ≡ Some a → slice_get (xs ++ ys) i ≡ Some a
  slice_get_longer [] ys i a e = cc
  slice_get_longer (x ∷ xs) ys zero a e = e
  slice_get_longer (x ∷ xs) ys (suc i) a e = slice_get_longer xs ys i a e

  slice_get_end : (xs : List A) (a : A) → slice_get (xs ++ a ∷ []) (length xs) ≡ Some a
  slice_get_end [] a = refl
  slice_get_end (x ∷ xs) a = slice_get_end xs a

pub levels_set-append : (slot : ℕ) (sets more : List Change) → levels_set slot (sets ++ more) ≡ levels_set slot sets ++ levels_set slot more
levels_set-append slot sets more = ap (λ (cs : List Change). map (λ c. c.level) cs) (filter-append (λ c. eqb c.slot slot) sets more)
    ∙ map-append (λ (c : Change). c.level) (filter (λ c. eqb c.slot slot) sets) (filter (λ c. eqb c.slot slot) more)

-- a change adds its level to its slot's history
pub levels_set-same : (slot level : ℕ) (sets : List Change) → levels_set slot (sets ++ change slot level ∷ []) ≡ levels_set slot sets ++ level ∷ []
levels_set-same slot level sets = levels_set-append slot sets (change slot level ∷ [])
    ∙ ap (λ b. levels_set slot sets ++ map (λ (c : Change). c.level) (cond b (change slot level ∷ []) [])) (eq-eqb slot slot refl)

-- and to no other one
pub levels_set-other : (slot other level : ℕ) (sets : List Change) → other ≢ slot → levels_set slot (sets ++ change other level ∷ []) ≡ levels_set slot sets
levels_set-other slot other level sets apart = levels_set-append slot sets (change other level ∷ [])
    ∙ ap (λ b. levels_set slot sets ++ map (λ (c : Change). c.level) (cond b (change other level ∷ []) [])) (ne_eqb other slot apart)
    ∙ append-nil (levels_set slot sets)

-- what was read stays an entry, whatever is set later
pub entry_stays : (first : ℕ) (sets more : List Change) (r : Read) → IsEntry first sets r → IsEntry first (sets ++ more) r
entry_stays first sets more r h = (
  h.0,
  subst (λ (ls : List ℕ). slice_get (0 ∷ ls) (r.version - first) ≡ Some r.level) (sym (levels_set-append r.slot sets more))
      (slice_get_longer (history r.slot sets) (levels_set r.slot more) (r.version - first) r.level h.1),
)

pub entries_stay : (first : ℕ) (sets more : List Change) (reads : List Read) → All (IsEntry first sets) reads → All (IsEntry first (sets ++ more)) reads
entries_stay first sets more reads h = All-weaker (IsEntry first sets) (IsEntry first (sets ++ more)) (entry_stays first sets more) reads h

-- no entry is above the last one
pub entry_within : (first : ℕ) (sets : List Change) (r : Read) → IsEntry first sets r → r.version ≤ current_version first r.slot sets
entry_within first sets r h = let within = slice_get_within (history r.slot sets) (r.version - first) r.level h.1 in let after = h.0 in omega arith

-- what is set is the next entry
pub entry_next : (first slot level : ℕ) (sets : List Change) → IsEntry first (sets ++ change slot level ∷ []) (read slot (current_version first slot sets + 1) level)
entry_next first slot level sets = let levels : List ℕ = levels_set slot sets in let place : first + length levels + 1 - first ≡ suc (length levels) = omega arith in (
  omega arith,
  subst (λ (z : List ℕ × ℕ). slice_get (0 ∷ z.0) z.1 ≡ Some level) (λ i. (sym (levels_set-same slot level sets) i, sym place i)) (slice_get_end levels level),
)

pub current_version-same : (first slot level : ℕ) (sets : List Change) → current_version first slot (sets ++ change slot level ∷ []) ≡ current_version first slot sets + 1
current_version-same first slot level sets = ap (λ (ls : List ℕ). first + length ls) (levels_set-same slot level sets) ∙ (let longer = length-append (levels_set slot sets) (level ∷ []) in omega arith)

pub current_version-other : (first slot other level : ℕ) (sets : List Change) → other ≢ slot → current_version first slot (sets ++ change other level ∷ []) ≡ current_version first slot sets
current_version-other first slot other level sets apart = ap (λ (ls : List ℕ). first + length ls) (levels_set-other slot other level sets apart)
