-- The parts of a name, one after the other.
use Rattle.std.proofs.Common.{◌≡◌, ◌≢◌, ℕ, suc, ◌<◌, Bool, true, false, eqb, List, [], ◌∷◌, ◌++◌, length, get_or, refl, ap, ◌∙◌, arith, ne_eqb}
use Rattle.std.specs.List.{All, slice_split}
use Rattle.std.proofs.lemmas.List.Elements.{All-nil, All-cons}
use Rattle.std.proofs.lemmas.List.Splits.{slice_split_at, slice_split_none}
use Rattle.dl_trace_files.specs.Files.{parts_of, with_part, with_parts}

-- no letter is a slash
abbrev pub Lacks : List ℕ → Type 0
Lacks xs = (i : ℕ) → i < length xs → get_or xs i 0 ≢ 47

all_lack : (xs : List ℕ) → Lacks xs → All (λ b. eqb b 47 ≡ false) xs
all_lack [] lacks = All-nil (λ b. eqb b 47 ≡ false)
all_lack (x ∷ xs) lacks =
    All-cons (λ b. eqb b 47 ≡ false) x xs (ne_eqb x 47 (lacks 0 (omega arith))) (all_lack xs (λ i less. lacks (suc i) (omega arith)))

-- one part more
pub one_part : (folder part rest behind : List ℕ) → rest ≡ part ++ 47 ∷ behind → Lacks part → with_parts folder (parts_of rest) ≡ with_parts (with_part folder part) (parts_of behind)
one_part folder part rest behind cut lacks =
    ap (λ r. with_parts folder (parts_of r)) cut ∙ ap (with_parts folder) (slice_split_at (λ b. eqb b 47) part 47 behind (all_lack part lacks) refl)

-- the last part
pub last_part : (folder rest : List ℕ) → Lacks rest → with_parts folder (parts_of rest) ≡ with_part folder rest
last_part folder rest lacks = ap (with_parts folder) (slice_split_none (λ b. eqb b 47) rest (all_lack rest lacks))
