-- The versions that the keeper counts.
use Rattle.std.proofs.Common.{◌≡◌, ℕ, ◌+◌, ◌<◌, ◌^◌, List, [], ◌∷◌, ◌++◌, length, get_or, set, sym, ◌∙◌, subst, arith, get_or-set_same, get_or-set_other}
use Rattle.std.proofs.lemmas.Grind.{get_or_default_zero}
use mathlib.Core.Logic.{dite}
use native.Mathlib.Decide.{ℕ_discrete}
use Rattle.dl_cells.specs.declared.level_history.Change.{Change}
use Rattle.dl_cells.specs.LevelHistory.{change, current_version}
use Rattle.dl_cells.specs.LevelPasses.{AreLast}
use Rattle.dl_cells.proofs.LevelHistories.{current_version-same, current_version-other}

-- after a slot is set
pub counts_next : (first slots slot level version : ℕ) (sets : List Change) (versions : List ℕ) → length versions ≡ slots → slot < slots → version ≡ get_or versions slot 0 → version + 1 < 2 ^ 56
    → AreLast first sets slots versions → AreLast first (sets ++ change slot level ∷ []) slots (set versions slot (version + 1))
counts_next first slots slot level version sets versions long within is fits before k lt = dite (ℕ_discrete k slot)
    (λ same. subst (λ j. (get_or (set versions slot (version + 1)) j 0 ≡ current_version first j (sets ++ change slot level ∷ [])) × (get_or (set versions slot (version + 1)) j 0 < 2 ^ 56)) (sym same)
    (let here : get_or (set versions slot (version + 1)) slot 0 ≡ version + 1 = get_or-set_same versions slot (version + 1) 0 (subst (λ n. slot < n) (sym long) within) in
    let next = current_version-same first slot level sets in let last = (before slot within).0 in (omega arith, subst (λ n. n < 2 ^ 56) (sym here) fits)))
    (λ apart. let there : get_or (set versions slot (version + 1)) k 0 ≡ get_or versions k 0 = get_or-set_other versions slot k (version + 1) 0 (λ e. apart e) in
    (there ∙ (before k lt).0 ∙ sym (current_version-other first k slot level sets (λ e. apart (sym e))), subst (λ n. n < 2 ^ 56) (sym there) (before k lt).1))

-- what is read of a slot
pub version_at : (slots slot version : ℕ) (versions : List ℕ) → length versions ≡ slots → slot < slots → version ≡ get_or versions slot version → version ≡ get_or versions slot 0
version_at slots slot version versions long within found = found ∙ get_or_default_zero versions slot version (omega arith)
