-- Frames one behind the other.
use Rattle.std.proofs.Common.{◌≡◌, ℕ, zero, suc, ◌*◌, ◌≤◌, List, [], ◌∷◌, ◌++◌, length, take, drop, refl, sym, ap, ◌∙◌, arith, length-drop, length-append}
use Rattle.std.specs.Prelude.{sum}
use Rattle.std.proofs.lemmas.List.{take_at, take-append-le, append-nil}
use Rattle.std.proofs.lemmas.List.Elements.{All-push, All-weaker}
use Rattle.std.proofs.lemmas.List.Sums.{sum_by-cons, sum_by_push, sum_by-le}
use Rattle.dl_trace.specs.Batch.{parted, AreSizes}

pub length-parted : (sizes bytes : List ℕ) → length (parted sizes bytes) ≡ length sizes
length-parted [] bytes = refl
length-parted (n ∷ sizes) bytes = ap suc (length-parted sizes (drop n bytes))

drop-within : (n : ℕ) (xs more : List ℕ) → n ≤ length xs → drop n (xs ++ more) ≡ drop n xs ++ more
drop-within zero xs more h = refl
drop-within (suc n) [] more h = absurd (omega arith)
drop-within (suc n) (x ∷ xs) more h = drop-within n xs more (omega arith)

-- one frame more
pub parted-one : (sizes bytes : List ℕ) (n : ℕ) (more : List ℕ) → sum sizes ≡ length bytes → n ≡ length more → parted (sizes ++ n ∷ []) (bytes ++ more) ≡ parted sizes bytes ++ more ∷ []
parted-one [] bytes n more whole len =
    none bytes whole where
      none : (bytes : List ℕ) → 0 ≡ length bytes → take n (bytes ++ more) ∷ [] ≡ more ∷ []
      none [] e = ap (λ (xs : List ℕ). xs ∷ []) (ap (λ (k : ℕ). take k more) len ∙ ap (take (length more)) (sym (append-nil more)) ∙ take_at more [] (length more) refl)
      none (b ∷ bytes) e = absurd (omega arith)
parted-one (s ∷ sizes) bytes n more whole len =
    let within : s ≤ length bytes = omega (arith, whole, sum_by-cons (λ (x : ℕ). x) s sizes) in
    let rest : sum sizes ≡ length (drop s bytes) = omega (arith, whole, sum_by-cons (λ (x : ℕ). x) s sizes, length-drop s bytes) in
    ap (λ (f : List ℕ). f ∷ parted (sizes ++ n ∷ []) (drop s (bytes ++ more))) (take-append-le s bytes more within)
    ∙ ap (λ (b : List ℕ). take s bytes ∷ parted (sizes ++ n ∷ []) b) (drop-within s bytes more within)
    ∙ ap (λ (fs : List (List ℕ)). take s bytes ∷ fs) (parted-one sizes (drop s bytes) n more rest len)

pub bytes_most : (sizes bytes : List ℕ) → AreSizes sizes bytes → length bytes ≤ 2000 * length sizes
bytes_most sizes bytes are =
    omega (arith, are.whole, sum_by-le (λ (x : ℕ). x) 2000 sizes (All-weaker (λ (n : ℕ). (17 ≤ n) × (n ≤ 2000)) (λ (n : ℕ). n ≤ 2000) (λ n h. h.1) sizes are.each))

pub one_more : (sizes bytes : List ℕ) (n : ℕ) (more : List ℕ) → AreSizes sizes bytes → n ≡ length more → 17 ≤ n → n ≤ 2000 → AreSizes (sizes ++ n ∷ []) (bytes ++ more)
one_more sizes bytes n more are len least most = record {
  each = All-push (λ (n : ℕ). (17 ≤ n) × (n ≤ 2000)) sizes n are.each (least, most);
  whole = omega (arith, sum_by_push (λ (x : ℕ). x) sizes n, are.whole, length-append bytes more);
}
