-- What a daemon counts, one more at a time.
use Rattle.std.proofs.Common.{◌≡◌, ◌+◌, ◌<◌, ◌≤◌, ℕ, zero, suc, List, [], ◌∷◌, ◌++◌, length, Option, Some, None, refl, sym, ap, ◌∙◌, arith}
use Rattle.std.specs.Prelude.{slice_get, sum_by}
use Rattle.std.specs.Map.{keys_of}
use Rattle.std.proofs.lemmas.List.Sums.{sum_by-append, sum_by-cons}
use Rattle.dl_lemmas.proofs.Lists.{within_of}
use Rattle.dl_bytes.specs.declared.outcome.TraceFile.{TraceFile}
use Rattle.dl_trace.specs.Steps.{bytes_in}

pub sum_more : (files : List TraceFile) (file : TraceFile) → sum_by bytes_in (files ++ file ∷ []) ≡ sum_by bytes_in files + file.bytes
sum_more files file = omega (arith, sum_by-append bytes_in files (file ∷ []), sum_by-cons bytes_in file [])

-- ---- places of a list

behind : {A : Type 0} (xs : List A) (place : ℕ) → slice_get xs place ≡ None → length xs ≤ place
behind [] place at = omega arith
behind (y ∷ ys) zero at = absurd (cc at)
behind (y ∷ ys) (suc place) at = omega (arith, behind ys place at)

keys_length : {A : Type 0} (es : List (ℕ × A)) → length (keys_of es) ≡ length es
keys_length [] = refl
keys_length (e ∷ es) = ap suc (keys_length es)

pub is_inside : {A : Type 0} (es : List (ℕ × A)) (place key : ℕ) (o : Option ℕ) → o ≡ slice_get (keys_of es) place → o ≡ Some key → place < length es
is_inside es place key o is some = omega (arith, within_of (keys_of es) place key (sym is ∙ some), keys_length es)

pub is_behind : {A : Type 0} (es : List (ℕ × A)) (place : ℕ) (o : Option ℕ) → o ≡ slice_get (keys_of es) place → o ≡ None → length es ≤ place
is_behind es place o is none = omega (arith, behind (keys_of es) place (sym is ∙ none), keys_length es)
