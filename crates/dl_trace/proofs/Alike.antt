-- A folder holds one list of trace files.
use Rattle.std.proofs.Common.{◌≡◌, ℕ, ◌+◌, ◌≤◌, ◌<◌, Bool, cond, List, [], ◌∷◌, Some, None, refl, sym, ap, subst, ◌∙◌, arith, inl, inr}
use Rattle.std.proofs.lemmas.Bool.Decides.{leb_tells}
use Rattle.std.proofs.lemmas.Bool.{eq-eqb}
use Rattle.dl_outside.specs.Folder.{Files}
use Rattle.dl_model.specs.TraceFiles.{StoredFile, number_limit}
use Rattle.dl_trace.specs.InFolder.{bytes_of, AreRising, HasFiles}
use Rattle.dl_trace.proofs.Holding.{below_none, test_other}
use Rattle.dl_trace.proofs.Trail.{file_of}

first_bytes : (file : StoredFile) (files : List StoredFile) → bytes_of file.number (file ∷ files) ≡ Some file.bytes
first_bytes file files = ap (λ (b : Bool). cond b (Some file.bytes) (bytes_of file.number files)) (eq-eqb file.number file.number refl)

-- a file that one list has and that is before all of the other
left_out : (x : StoredFile) (xs ys : List StoredFile) (least : ℕ) → AreRising least ys → x.number ≤ least → bytes_of x.number (x ∷ xs) ≡ bytes_of x.number ys → ⊥
left_out x xs ys least rising before same = let some : Some x.bytes ≡ None = sym (first_bytes x xs) ∙ same ∙ below_none x.number least ys rising before in absurd cc

earlier : (low : ℕ) (x : StoredFile) (xs : List StoredFile) (y : StoredFile) (ys : List StoredFile) → AreRising low (x ∷ xs) → AreRising low (y ∷ ys) → x.number + 1 ≤ y.number → bytes_of x.number (x ∷ xs) ≡ bytes_of x.number (y ∷ ys) → ⊥
earlier low x xs y ys first second before same = left_out x xs (y ∷ ys) x.number (omega (arith, before), second.1, second.2) (omega arith) same

same_file : (x y : StoredFile) → x.number ≡ y.number → x.bytes ≡ y.bytes → x ≡ y
same_file x y number bytes = ap (λ (n : ℕ). file_of n x.bytes) number ∙ ap (λ (b : List ℕ). file_of y.number b) bytes

together : (x : StoredFile) (xs : List StoredFile) (y : StoredFile) (ys : List StoredFile) → x.number ≡ y.number → bytes_of x.number (x ∷ xs) ≡ bytes_of x.number (y ∷ ys) → (x.number ≡ y.number → xs ≡ ys) → x ∷ xs ≡ y ∷ ys
together x xs y ys number same later =
    let bytes : Some x.bytes ≡ Some y.bytes = sym (first_bytes x xs) ∙ same ∙ ap (λ (n : ℕ). bytes_of n (y ∷ ys)) number ∙ first_bytes y ys in
    let same_bytes : x.bytes ≡ y.bytes = cc in
    ap (λ (f : StoredFile). f ∷ xs) (same_file x y number same_bytes) ∙ ap (λ (fs : List StoredFile). y ∷ fs) (later number)

pub alike : (low : ℕ) (xs ys : List StoredFile) → AreRising low xs → AreRising low ys → ((n : ℕ) → low < n → n ≤ number_limit → bytes_of n xs ≡ bytes_of n ys) → xs ≡ ys
alike low [] [] first second same = refl
alike low [] (y ∷ ys) first second same = absurd (left_out y ys [] y.number tt (omega arith) (sym (same y.number second.0 second.1)))
alike low (x ∷ xs) [] first second same = absurd (left_out x xs [] x.number tt (omega arith) (same x.number first.0 first.1))
alike low (x ∷ xs) (y ∷ ys) first second same =
    let later = λ (number : x.number ≡ y.number). alike x.number xs ys first.2 (subst (λ (n : ℕ). AreRising n ys) (sym number) second.2) (λ n above most.
    sym (ap (λ (b : Bool). cond b (Some x.bytes) (bytes_of n xs)) (test_other x.number n (λ e. absurd (omega (arith, e, above)))))
    ∙ same n (omega (arith, above, first.0)) most
    ∙ ap (λ (b : Bool). cond b (Some y.bytes) (bytes_of n ys)) (test_other y.number n (λ e. absurd (omega (arith, e, above, number))))) in
    elim (leb_tells (x.number + 1) y.number) as (λ _. x ∷ xs ≡ y ∷ ys) [
      | inl before ↦ absurd (earlier low x xs y ys first second before.1 (same x.number first.0 first.1))
      | inr over ↦ elim (leb_tells (y.number + 1) x.number) as (λ _. x ∷ xs ≡ y ∷ ys) [
        | inl before ↦ absurd (earlier low y ys x xs second first before.1 (sym (same y.number second.0 second.1)))
        | inr under ↦ together x xs y ys (omega (arith, over.1, under.1)) (same x.number first.0 first.1) later
      ]
    ]

pub one_list : (directory : List ℕ) (folder : Files) (xs ys : List StoredFile) → HasFiles directory folder xs → HasFiles directory folder ys → xs ≡ ys
one_list directory folder xs ys first second = alike 0 xs ys first.rising second.rising (λ n least most. sym (first.each n (omega (arith, least)) most) ∙ second.each n (omega (arith, least)) most)
