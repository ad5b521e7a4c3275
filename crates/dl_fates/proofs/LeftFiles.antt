-- Which of the files that were made are left.
use Rattle.std.proofs.Common.{◌≡◌, ℕ, zero, suc, ◌+◌, ◌-◌, ◌≤◌, ◌<◌, Bool, true, false, cond, leb, eqb, not, List, [], ◌∷◌, ◌++◌, length, map, take, drop, refl, sym, ap, ◌∙◌, arith, inl, inr}
use Rattle.std.specs.Prelude.{◌⊎◌, ◌≢◌, ◌||◌, sum, fold, max}
use Rattle.std.specs.List.{concat, list_any}
use Rattle.std.proofs.Math.Bool.{or-true}
use Rattle.std.proofs.lemmas.Bool.Decides.{eqb_tells, leb_tells}
use Rattle.std.proofs.lemmas.List.{length-drop, length-map, length-take, length-take-le}
use Rattle.std.proofs.lemmas.List.Folds.{list_any-append}
use Rattle.std.proofs.lemmas.List.Sums.{sum_by-cons, sum_by-append}
use Rattle.dl_lemmas.proofs.Bools.{or_right}
use Rattle.dl_model.specs.Backlog.{size_of}
use Rattle.dl_model.specs.TraceFiles.{StoredFile, greatest, kept, numbered, rotated, total_size}
use Rattle.dl_model.proofs.Rotation.{length-concat}
use Rattle.dl_fates.specs.FilePlaces.{has_number}
use Rattle.dl_fates.specs.Sizes.{going}

-- ---- files of segments

pub length-numbered : (g : ℕ) (segs : List (List (List ℕ))) → length (numbered g segs) ≡ length segs
length-numbered g [] = refl
length-numbered g (s ∷ segs) = ap suc (length-numbered (g + 1) segs)

pub numbered-take : (n g : ℕ) (segs : List (List (List ℕ))) → take n (numbered g segs) ≡ numbered g (take n segs)
numbered-take zero g segs = refl
numbered-take (suc n) g [] = refl
numbered-take (suc n) g (s ∷ segs) = ap (λ (fs : List StoredFile). record { number = g + 1; bytes = concat s } ∷ fs) (numbered-take n (g + 1) segs)

pub numbered-drop : (n g : ℕ) (segs : List (List (List ℕ))) → drop n (numbered g segs) ≡ numbered (g + n) (drop n segs)
numbered-drop zero g segs = ap (λ (m : ℕ). numbered m segs) {x = g} {y = g + 0} (omega arith)
numbered-drop (suc n) g [] = refl
numbered-drop (suc n) g (s ∷ segs) = numbered-drop n (g + 1) segs ∙ ap (λ (m : ℕ). numbered m (drop n segs)) {x = g + 1 + n} {y = g + suc n} (omega arith)

total_numbered : (g : ℕ) (segs : List (List (List ℕ))) → total_size (numbered g segs) ≡ sum (map size_of segs)
total_numbered g [] = refl
total_numbered g (s ∷ segs) =
    sum_by-cons (λ (file : StoredFile). length file.bytes) (record { number = g + 1; bytes = concat s }) (numbered (g + 1) segs)
    ∙ ap (λ (n : ℕ). n + total_size (numbered (g + 1) segs)) (length-concat s)
    ∙ ap (λ (n : ℕ). size_of s + n) (total_numbered (g + 1) segs)
    ∙ sym (sum_by-cons (λ (n : ℕ). n) (size_of s) (map size_of segs))

-- ---- numbers of files

apart : (a b : ℕ) → a < b → eqb a b ≡ false
apart a b less = elim (eqb_tells a b) as (λ _. eqb a b ≡ false) [ inl same ↦ absurd (omega (arith, same.1, less)) | inr other ↦ other.0 ]

apart_above : (a b : ℕ) → b < a → eqb a b ≡ false
apart_above a b less = elim (eqb_tells a b) as (λ _. eqb a b ≡ false) [ inl same ↦ absurd (omega (arith, same.1, less)) | inr other ↦ other.0 ]

-- no file has a number of at most that before the first
pub none_below : (n g : ℕ) (segs : List (List (List ℕ))) → n ≤ g → list_any (has_number n) (numbered g segs) ≡ false
none_below n g [] le = refl
none_below n g (s ∷ segs) le = ap (λ (b : Bool). b || list_any (has_number n) (numbered (g + 1) segs)) (apart_above (g + 1) n (omega (arith, le))) ∙ none_below n (g + 1) segs (omega (arith, le))

-- and one has each behind it
pub one_within : (n g : ℕ) (segs : List (List (List ℕ))) → g < n → n ≤ g + length segs → list_any (has_number n) (numbered g segs) ≡ true
one_within n g [] more within = absurd (omega (arith, more, within))
one_within n g (s ∷ segs) more within = by_test (eqb_tells (g + 1) n) (λ above. one_within n (g + 1) segs above (omega (arith, within))) where
  by_test : ((eqb (g + 1) n ≡ true) × (g + 1 ≡ n)) ⊎ ((eqb (g + 1) n ≡ false) × (g + 1 ≢ n)) → (g + 1 < n → list_any (has_number n) (numbered (g + 1) segs) ≡ true) →
      (eqb (g + 1) n || list_any (has_number n) (numbered (g + 1) segs)) ≡ true
  by_test (inl same) later = ap (λ (b : Bool). b || list_any (has_number n) (numbered (g + 1) segs)) same.0
  by_test (inr other) later = ap (λ (b : Bool). b || list_any (has_number n) (numbered (g + 1) segs)) other.0 ∙ later (omega (arith, more, other.1))

-- the files that stood before have no number above their greatest
at_least : (start : ℕ) (files : List StoredFile) → start ≤ fold (λ (m : ℕ) (file : StoredFile). max m file.number) start files
at_least start [] = omega arith
at_least start (file ∷ files) = omega (arith, at_least (max start file.number) files)

none_from : (n start : ℕ) (files : List StoredFile) → fold (λ (m : ℕ) (file : StoredFile). max m file.number) start files < n → list_any (has_number n) files ≡ false
none_from n start [] above = refl
none_from n start (file ∷ files) above =
    let more = at_least (max start file.number) files in
    ap (λ (b : Bool). b || list_any (has_number n) files) (apart file.number n (omega (arith, above, more))) ∙ none_from n (max start file.number) files above

pub none_old : (n : ℕ) (old : List StoredFile) → greatest old < n → list_any (has_number n) old ≡ false
none_old n old above = none_from n 0 old above

-- ---- what is kept

kept_numbered : (limit g : ℕ) (segs : List (List (List ℕ))) → kept limit (numbered g segs) ≡ drop (going limit (map size_of segs)) (numbered g segs)
kept_numbered limit g [] = refl
kept_numbered limit g (s ∷ segs) =
    let files = numbered g (s ∷ segs) in
    ap (λ (n : ℕ). cond (leb n limit) files (kept limit (numbered (g + 1) segs))) (total_numbered g (s ∷ segs)) ∙ by_test (leb (sum (map size_of (s ∷ segs))) limit) (kept_numbered limit (g + 1) segs) where
      by_test : (b : Bool) → kept limit (numbered (g + 1) segs) ≡ drop (going limit (map size_of segs)) (numbered (g + 1) segs) →
          cond b (numbered g (s ∷ segs)) (kept limit (numbered (g + 1) segs)) ≡ drop (cond b 0 (suc (going limit (map size_of segs)))) (numbered g (s ∷ segs))
      by_test true later = refl
      by_test false later = later

pub going_within : (limit : ℕ) (sizes : List ℕ) → going limit sizes ≤ length sizes
going_within limit [] = omega arith
going_within limit (size ∷ sizes) = by_test (leb (sum (size ∷ sizes)) limit) (going_within limit sizes) where
  by_test : (b : Bool) → going limit sizes ≤ length sizes → cond b 0 (suc (going limit sizes)) ≤ length (size ∷ sizes)
  by_test true later = omega arith
  by_test false later = omega (arith, later)

all_kept : (limit : ℕ) (files : List StoredFile) → total_size files ≤ limit → kept limit files ≡ files
all_kept limit [] within = refl
all_kept limit (file ∷ files) within =
    elim (leb_tells (total_size (file ∷ files)) limit) as (λ _. kept limit (file ∷ files) ≡ file ∷ files) [
      | inl fits ↦ rw fits.0 refl
      | inr over ↦ absurd (omega (arith, over.1, within))
    ]

-- of old files and others: some of the old ones, and what is kept of the others alone
record KeepsBoth (limit n : ℕ) (old files : List StoredFile) : Type 0 where
  pub part : List StoredFile
  pub is : kept limit (old ++ files) ≡ part ++ kept limit files
  pub none : list_any (has_number n) part ≡ false

keeps_both : (limit n : ℕ) (old files : List StoredFile) → list_any (has_number n) old ≡ false → KeepsBoth limit n old files
keeps_both limit n [] files none = record { part = []; is = refl; none = refl }
keeps_both limit n (o ∷ old) files none = by_test (leb_tells (total_size (o ∷ (old ++ files))) limit) (keeps_both limit n old files (or_right (eqb o.number n) (list_any (has_number n) old) none)) where
  by_test : ((leb (total_size (o ∷ (old ++ files))) limit ≡ true) × (total_size (o ∷ (old ++ files)) ≤ limit)) ⊎ ((leb (total_size (o ∷ (old ++ files))) limit ≡ false) × (limit < total_size (o ∷ (old ++ files)))) →
      KeepsBoth limit n old files → KeepsBoth limit n (o ∷ old) files
  by_test (inl fits) later =
      let room : total_size files ≤ limit = omega (arith, fits.1, sum_by-append (λ (file : StoredFile). length file.bytes) (o ∷ old) files) in
      record {
        part = o ∷ old;
        is = ap (λ (b : Bool). cond b (o ∷ (old ++ files)) (kept limit (old ++ files))) fits.0 ∙ ap (λ (fs : List StoredFile). (o ∷ old) ++ fs) (sym (all_kept limit files room));
        none = none;
      }
  by_test (inr over) later = record {
    part = later.part;
    is = ap (λ (b : Bool). cond b (o ∷ (old ++ files)) (kept limit (old ++ files))) over.0 ∙ later.is;
    none = later.none;
  }

-- ---- the files that are left

rotated_is : (size max_size : ℕ) (old : List StoredFile) (s : List (List ℕ)) (segs : List (List (List ℕ))) →
    rotated size max_size old (numbered (greatest old) (s ∷ segs))
    ≡ kept (max_size - size) (old ++ numbered (greatest old) (take (length (s ∷ segs) - 1) (s ∷ segs))) ++ numbered (greatest old + (length (s ∷ segs) - 1)) (drop (length (s ∷ segs) - 1) (s ∷ segs))
rotated_is size max_size old s segs =
    let g = greatest old in
    let files = numbered g (s ∷ segs) in
    let long : length files ≡ length (s ∷ segs) = length-numbered g (s ∷ segs) in
    let before : take (length files - 1) files ≡ numbered g (take (length (s ∷ segs) - 1) (s ∷ segs)) = ap (λ (n : ℕ). take (n - 1) files) long ∙ numbered-take (length (s ∷ segs) - 1) g (s ∷ segs) in
    let last : drop (length files - 1) files ≡ numbered (g + (length (s ∷ segs) - 1)) (drop (length (s ∷ segs) - 1) (s ∷ segs)) = ap (λ (n : ℕ). drop (n - 1) files) long ∙ numbered-drop (length (s ∷ segs) - 1) g (s ∷ segs) in
    ap (λ (fs : List StoredFile). kept (max_size - size) (old ++ fs) ++ drop (length files - 1) files) before
    ∙ ap (λ (fs : List StoredFile). kept (max_size - size) (old ++ numbered g (take (length (s ∷ segs) - 1) (s ∷ segs))) ++ fs) last

-- A file that was made is left exactly where it isn't one of those that go.
pub is_left : (size max_size : ℕ) (old : List StoredFile) (segs : List (List (List ℕ))) (n : ℕ) → 1 ≤ n → n ≤ length segs →
    list_any (has_number (greatest old + n)) (rotated size max_size old (numbered (greatest old) segs)) ≡ not (leb n (going (max_size - size) (map size_of (take (length segs - 1) segs))))
is_left size max_size old [] n one within = absurd (omega (arith, one, within))
is_left size max_size old (s ∷ segs) n one within =
    let all : rotated size max_size old (numbered g (s ∷ segs)) ≡ (both.part ++ kept limit closed_files) ++ last_files = rotated_is size max_size old s segs ∙ ap (λ (fs : List StoredFile). fs ++ last_files) both.is in
    ap (list_any test) all ∙ list_any-append test (both.part ++ kept limit closed_files) last_files
    ∙ ap (λ (b : Bool). b || list_any test last_files) (list_any-append test both.part (kept limit closed_files))
    ∙ ap (λ (b : Bool). (b || list_any test (kept limit closed_files)) || list_any test last_files) both.none
    ∙ ap (λ (fs : List StoredFile). list_any test fs || list_any test last_files) (kept_numbered limit g closed_segs ∙ numbered-drop r g closed_segs)
    ∙ by_place (leb_tells n r) where
      g : ℕ
      g = greatest old

      limit : ℕ
      limit = max_size - size

      m : ℕ
      m = length (s ∷ segs) - 1

      test : StoredFile → Bool
      test = has_number (g + n)

      closed_segs : List (List (List ℕ))
      closed_segs = take m (s ∷ segs)

      closed_files : List StoredFile
      closed_files = numbered g closed_segs

      last_files : List StoredFile
      last_files = numbered (g + m) (drop m (s ∷ segs))

      r : ℕ
      r = going limit (map size_of closed_segs)

      both : KeepsBoth limit (g + n) old closed_files
      both = keeps_both limit (g + n) old closed_files (none_old (g + n) old (omega (arith, one)))

      few : r ≤ m
      few = omega (arith, going_within limit (map size_of closed_segs), length-map closed_segs size_of, length-take m (s ∷ segs))

      by_place : ((leb n r ≡ true) × (n ≤ r)) ⊎ ((leb n r ≡ false) × (r < n)) → (list_any test (numbered (g + r) (drop r closed_segs)) || list_any test last_files) ≡ not (leb n r)
      by_place (inl gone) =
          ap (λ (b : Bool). b || list_any test last_files) (none_below (g + n) (g + r) (drop r closed_segs) (omega (arith, gone.1)))
          ∙ none_below (g + n) (g + m) (drop m (s ∷ segs)) (omega (arith, gone.1, few)) ∙ sym (ap not gone.0)
      by_place (inr there) = by_last (leb_tells n m) where
        by_last : ((leb n m ≡ true) × (n ≤ m)) ⊎ ((leb n m ≡ false) × (m < n)) → (list_any test (numbered (g + r) (drop r closed_segs)) || list_any test last_files) ≡ not (leb n r)
        by_last (inl older) =
            let long : length (drop r closed_segs) ≡ m - r = length-drop r closed_segs ∙ ap (λ (k : ℕ). k - r) (length-take-le m (s ∷ segs) (omega arith)) in
            ap (λ (b : Bool). b || list_any test last_files) (one_within (g + n) (g + r) (drop r closed_segs) (omega (arith, there.1)) (omega (arith, long, older.1, few))) ∙ sym (ap not there.0)
        by_last (inr newest) =
            let long : length (drop m (s ∷ segs)) ≡ length (s ∷ segs) - m = length-drop m (s ∷ segs) in
            ap (λ (b : Bool). list_any test (numbered (g + r) (drop r closed_segs)) || b) (one_within (g + n) (g + m) (drop m (s ∷ segs)) (omega (arith, newest.1)) (omega (arith, long, within)))
            ∙ or-true (list_any test (numbered (g + r) (drop r closed_segs))) ∙ sym (ap not there.0)
