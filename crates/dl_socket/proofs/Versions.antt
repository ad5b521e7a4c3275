-- The versions of slots, by the levels that were set in them.
use Rattle.std.proofs.Common.{◌≡◌, ◌≢◌, ℕ, zero, suc, ◌+◌, ◌-◌, ◌<◌, ◌^◌, Bool, true, false, List, [], ◌∷◌, ◌++◌, length, map, filter, cond, not, replicate, sym, refl, ap, ◌∙◌, subst, arith, eqb, eq-eqb, eqb-true, ne_eqb, append-nil, get_or, set, min, get_or-set_same, get_or-set_other}
use Rattle.std.proofs.lemmas.List.{get_or-replicate}
use mathlib.Core.Logic.{dite}
use native.Mathlib.Decide.{ℕ_discrete}
use Rattle.dl_cells.specs.declared.level_history.Change.{Change}
use Rattle.dl_cells.specs.LevelHistory.{change, levels_set, current_version}
use Rattle.dl_cells.proofs.LevelHistories.{levels_set-append}
use Rattle.dl_socket.specs.History.{with_version}
use Rattle.dl_socket.specs.Messenger.{AreCounted}

-- the levels that were set in other slots
abbrev elsewhere : ℕ → List Change → List Change
elsewhere slot sets = filter (λ c. not (eqb c.slot slot)) sets

-- so many times the level 0
abbrev zeros : ℕ → ℕ → List Change
zeros slot version = replicate version (change slot 0)

none_here : (slot : ℕ) (sets : List Change) → levels_set slot (elsewhere slot sets) ≡ []
none_here slot [] = refl
none_here slot (c ∷ sets) = by_test (eqb c.slot slot) refl (none_here slot sets)
  where
    by_test : (b : Bool) → eqb c.slot slot ≡ b → levels_set slot (elsewhere slot sets) ≡ [] → map (λ c. c.level) (filter (λ c. eqb c.slot slot) (cond (not b) (c ∷ elsewhere slot sets) (elsewhere slot sets))) ≡ []
    by_test true is none = none
    by_test false is none = ap (λ b. map (λ (c : Change). c.level) (cond b (c ∷ filter (λ c. eqb c.slot slot) (elsewhere slot sets)) (filter (λ c. eqb c.slot slot) (elsewhere slot sets)))) is ∙ none

-- by what the levels are of a change in front
front : (b : Bool) (c : Change) (xs ys : List Change) → map (λ (c : Change). c.level) xs ≡ map (λ (c : Change). c.level) ys → map (λ (c : Change). c.level) (cond b (c ∷ xs) xs) ≡ map (λ (c : Change). c.level) (cond b (c ∷ ys) ys)
front true c xs ys same = ap (λ (ls : List ℕ). c.level ∷ ls) same
front false c xs ys same = same

same_there : (slot other : ℕ) (sets : List Change) → other ≢ slot → levels_set other (elsewhere slot sets) ≡ levels_set other sets
same_there slot other [] apart = refl
same_there slot other (c ∷ sets) apart = by_test (eqb c.slot slot) refl (same_there slot other sets apart)
  where
    by_test : (b : Bool) → eqb c.slot slot ≡ b → levels_set other (elsewhere slot sets) ≡ levels_set other sets
        → map (λ c. c.level) (filter (λ c. eqb c.slot other) (cond (not b) (c ∷ elsewhere slot sets) (elsewhere slot sets)))
        ≡ map (λ c. c.level) (cond (eqb c.slot other) (c ∷ filter (λ c. eqb c.slot other) sets) (filter (λ c. eqb c.slot other) sets))
    by_test true is same = let here : c.slot ≡ slot = eqb-true c.slot slot is in let not_other : eqb c.slot other ≡ false = ne_eqb c.slot other (λ e. apart (sym e ∙ here)) in
        same ∙ sym (ap (λ b. map (λ (c : Change). c.level) (cond b (c ∷ filter (λ c. eqb c.slot other) sets) (filter (λ c. eqb c.slot other) sets))) not_other)
    by_test false is same = front (eqb c.slot other) c (filter (λ c. eqb c.slot other) (elsewhere slot sets)) (filter (λ c. eqb c.slot other) sets) same

all_zeros : (slot version : ℕ) → length (levels_set slot (zeros slot version)) ≡ version
all_zeros slot zero = refl
all_zeros slot (suc version) = ap (λ b. length (map (λ (c : Change). c.level) (cond b (change slot 0 ∷ filter (λ c. eqb c.slot slot) (zeros slot version)) (filter (λ c. eqb c.slot slot) (zeros slot version))))) (eq-eqb slot slot refl)
    ∙ ap suc (all_zeros slot version)

no_zeros : (slot other version : ℕ) → other ≢ slot → levels_set other (zeros slot version) ≡ []
no_zeros slot other zero apart = refl
no_zeros slot other (suc version) apart = ap (λ b. map (λ (c : Change). c.level) (cond b (change slot 0 ∷ filter (λ c. eqb c.slot other) (zeros slot version)) (filter (λ c. eqb c.slot other) (zeros slot version)))) (ne_eqb slot other (λ e. apart (sym e)))
    ∙ no_zeros slot other version apart

-- a slot that is resumed is at its version
pub resumed : (slot version : ℕ) (sets : List Change) → current_version 0 slot (with_version slot version sets) ≡ version
resumed slot version sets = ap (λ (ls : List ℕ). 0 + length ls) (levels_set-append slot (elsewhere slot sets) (zeros slot version))
    ∙ ap (λ (ls : List ℕ). 0 + length (ls ++ levels_set slot (zeros slot version))) (none_here slot sets)
    ∙ (let all = all_zeros slot version in omega arith)

-- the others stand
pub others_stand : (slot other version : ℕ) (sets : List Change) → other ≢ slot → current_version 0 other (with_version slot version sets) ≡ current_version 0 other sets
others_stand slot other version sets apart = ap (λ (ls : List ℕ). 0 + length ls)
    (levels_set-append other (elsewhere slot sets) (zeros slot version)
    ∙ ap (λ (ls : List ℕ). ls ++ levels_set other (zeros slot version)) (same_there slot other sets apart)
    ∙ ap (λ (ls : List ℕ). levels_set other sets ++ ls) (no_zeros slot other version apart)
    ∙ append-nil (levels_set other sets))

-- the counts follow
pub counts_resumed : (slot version : ℕ) (sets : List Change) (versions : List ℕ) → length versions ≡ 1024 → slot < 1024 → version < 2 ^ 64 → AreCounted sets versions
    → AreCounted (with_version slot version sets) (set versions slot version)
counts_resumed slot version sets versions long within fits before k lt = dite (ℕ_discrete k slot)
    (λ same. subst (λ j. get_or (set versions slot version) j 0 ≡ min (current_version 0 j (with_version slot version sets)) (2 ^ 64 - 1)) (sym same)
    (let here : get_or (set versions slot version) slot 0 ≡ version = get_or-set_same versions slot version 0 (subst (λ n. slot < n) (sym long) within) in
    let now = resumed slot version sets in omega arith))
    (λ apart. let there : get_or (set versions slot version) k 0 ≡ get_or versions k 0 = get_or-set_other versions slot k version 0 (λ e. apart e) in
    there ∙ before k lt ∙ ap (λ n. min n (2 ^ 64 - 1)) (sym (others_stand slot k version sets (λ e. apart e))))
