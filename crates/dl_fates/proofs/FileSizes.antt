-- The sizes of files with frames more.
use Rattle.std.proofs.Common.{◌≡◌, ℕ, zero, suc, ◌+◌, ◌-◌, ◌≤◌, ◌<◌, Bool, true, false, cond, leb, List, [], ◌∷◌, ◌++◌, length, map, drop, get_or, refl, sym, ap, subst, ◌∙◌, drop-cons, append_assoc, arith, inl, inr}
use Rattle.std.specs.Prelude.{replicate, slice_set, sum}
use Rattle.std.proofs.lemmas.Bool.Decides.{leb_tells}
use Rattle.std.proofs.lemmas.List.{append-nil}
use Rattle.std.proofs.lemmas.List.Sums.{sum_by-cons, sum_by-append}
use Rattle.dl_model.specs.Backlog.{size_of}
use Rattle.dl_model.specs.TraceFiles.{segments, segments_from}
use Rattle.dl_fates.specs.Sizes.{going, with_frame, with_frames}

-- ---- in the newest file, or in a new one

pub grows : (limit bytes : ℕ) (sizes : List ℕ) → 0 < length sizes → get_or sizes (length sizes - 1) 0 + bytes ≤ limit →
    slice_set sizes (length sizes - 1) (get_or sizes (length sizes - 1) 0 + bytes) ≡ with_frame limit bytes sizes
grows limit bytes [] some fits = absurd (omega arith)
grows limit bytes (size ∷ []) some fits =
    elim (leb_tells (size + bytes) limit) as (λ _. (size + bytes) ∷ [] ≡ with_frame limit bytes (size ∷ [])) [
      | inl within ↦ rw within.0 refl
      | inr over ↦ absurd (omega (arith, over.1, fits))
    ]
grows limit bytes (size ∷ next ∷ sizes) some fits =
    let at : length (size ∷ next ∷ sizes) - 1 ≡ suc (length (next ∷ sizes) - 1) = omega arith in
    let last : get_or (size ∷ next ∷ sizes) (length (size ∷ next ∷ sizes) - 1) 0 ≡ get_or (next ∷ sizes) (length (next ∷ sizes) - 1) 0 = ap (λ (k : ℕ). get_or (size ∷ next ∷ sizes) k 0) at in
    let later = grows limit bytes (next ∷ sizes) (omega arith) (omega (arith, fits, last)) in
    ap (λ (k : ℕ). slice_set (size ∷ next ∷ sizes) k (get_or (size ∷ next ∷ sizes) k 0 + bytes)) at ∙ ap (λ (l : List ℕ). size ∷ l) later

pub begins : (limit bytes : ℕ) (sizes : List ℕ) → (0 < length sizes → limit < get_or sizes (length sizes - 1) 0 + bytes) → sizes ++ bytes ∷ [] ≡ with_frame limit bytes sizes
begins limit bytes [] over = refl
begins limit bytes (size ∷ []) over =
    elim (leb_tells (size + bytes) limit) as (λ _. size ∷ bytes ∷ [] ≡ with_frame limit bytes (size ∷ [])) [
      | inl within ↦ absurd (omega (arith, over (omega arith), within.1))
      | inr above ↦ rw above.0 refl
    ]
begins limit bytes (size ∷ next ∷ sizes) over =
    let at : length (size ∷ next ∷ sizes) - 1 ≡ suc (length (next ∷ sizes) - 1) = omega arith in
    let last : get_or (size ∷ next ∷ sizes) (length (size ∷ next ∷ sizes) - 1) 0 ≡ get_or (next ∷ sizes) (length (next ∷ sizes) - 1) 0 = ap (λ (k : ℕ). get_or (size ∷ next ∷ sizes) k 0) at in
    ap (λ (l : List ℕ). size ∷ l) (begins limit bytes (next ∷ sizes) (λ some. omega (arith, over (omega arith), last)))

-- the same of sizes that are lent
pub begins_lent : (limit bytes : ℕ) (lent sizes : List ℕ) → lent ≡ sizes → (0 < length lent → limit < get_or lent (length lent - 1) 0 + bytes) → sizes ++ bytes ∷ [] ≡ with_frame limit bytes sizes
begins_lent limit bytes lent sizes same over = begins limit bytes sizes (subst (λ (l : List ℕ). 0 < length l → limit < get_or l (length l - 1) 0 + bytes) same over)

pub grows_lent : (limit bytes sum : ℕ) (lent sizes : List ℕ) → lent ≡ sizes → (0 < length lent) × (sum ≡ get_or lent (length lent - 1) 0 + bytes) × (sum ≤ limit) →
    slice_set sizes (length sizes - 1) sum ≡ with_frame limit bytes sizes
grows_lent limit bytes sum lent sizes same fits =
    subst (λ (l : List ℕ). slice_set l (length l - 1) sum ≡ with_frame limit bytes l) same
    (ap (λ (n : ℕ). slice_set lent (length lent - 1) n) fits.1 ∙ grows limit bytes lent fits.0 (subst (λ (n : ℕ). n ≤ limit) fits.1 fits.2))

-- ---- one frame more of segments

-- a file before others
before_others : (size bytes n : ℕ) (segment frames : List (List ℕ)) →
    with_frame size bytes (n ∷ map size_of (segments_from size segment frames)) ≡ n ∷ with_frame size bytes (map size_of (segments_from size segment frames))
before_others size bytes n segment [] = refl
before_others size bytes n segment (x ∷ frames) = by_test (leb (size_of segment + length x) size) (before_others size bytes n (segment ++ x ∷ []) frames) where
  by_test : (b : Bool) →
      with_frame size bytes (n ∷ map size_of (segments_from size (segment ++ x ∷ []) frames)) ≡ n ∷ with_frame size bytes (map size_of (segments_from size (segment ++ x ∷ []) frames)) →
      with_frame size bytes (n ∷ map size_of (cond b (segments_from size (segment ++ x ∷ []) frames) (segment ∷ segments_from size (x ∷ []) frames)))
      ≡ n ∷ with_frame size bytes (map size_of (cond b (segments_from size (segment ++ x ∷ []) frames) (segment ∷ segments_from size (x ∷ []) frames)))
  by_test true later = later
  by_test false later = refl

size_one : (segment : List (List ℕ)) (frame : List ℕ) → size_of (segment ++ frame ∷ []) ≡ size_of segment + length frame
size_one segment frame = omega (arith, sum_by-append length segment (frame ∷ []))

alone : (frame : List ℕ) → size_of (frame ∷ []) ≡ length frame
alone frame = omega (arith, sum_by-cons length frame [])

sizes_from-one : (size : ℕ) (segment frames : List (List ℕ)) (frame : List ℕ) →
    map size_of (segments_from size segment (frames ++ frame ∷ [])) ≡ with_frame size (length frame) (map size_of (segments_from size segment frames))
sizes_from-one size segment [] frame = by_test (leb (size_of segment + length frame) size) where
  by_test : (b : Bool) → map size_of (cond b ((segment ++ frame ∷ []) ∷ []) (segment ∷ (frame ∷ []) ∷ [])) ≡ cond b ((size_of segment + length frame) ∷ []) (size_of segment ∷ length frame ∷ [])
  by_test true = ap (λ (n : ℕ). n ∷ []) (size_one segment frame)
  by_test false = ap (λ (n : ℕ). size_of segment ∷ n ∷ []) (alone frame)
sizes_from-one size segment (x ∷ frames) frame =
    by_test (leb (size_of segment + length x) size) (sizes_from-one size (segment ++ x ∷ []) frames frame) (sizes_from-one size (x ∷ []) frames frame) where
      by_test : (b : Bool) →
          map size_of (segments_from size (segment ++ x ∷ []) (frames ++ frame ∷ [])) ≡ with_frame size (length frame) (map size_of (segments_from size (segment ++ x ∷ []) frames)) →
          map size_of (segments_from size (x ∷ []) (frames ++ frame ∷ [])) ≡ with_frame size (length frame) (map size_of (segments_from size (x ∷ []) frames)) →
          map size_of (cond b (segments_from size (segment ++ x ∷ []) (frames ++ frame ∷ [])) (segment ∷ segments_from size (x ∷ []) (frames ++ frame ∷ [])))
          ≡ with_frame size (length frame) (map size_of (cond b (segments_from size (segment ++ x ∷ []) frames) (segment ∷ segments_from size (x ∷ []) frames)))
      by_test true same_file next_file = same_file
      by_test false same_file next_file = ap (λ (l : List ℕ). size_of segment ∷ l) next_file ∙ sym (before_others size (length frame) (size_of segment) (x ∷ []) frames)

pub sizes-one : (size : ℕ) (frames : List (List ℕ)) (frame : List ℕ) → map size_of (segments size (frames ++ frame ∷ [])) ≡ with_frame size (length frame) (map size_of (segments size frames))
sizes-one size [] frame = ap (λ (n : ℕ). n ∷ []) (alone frame)
sizes-one size (x ∷ frames) frame = sizes_from-one size (x ∷ []) frames frame

-- ---- frames of one size

first_of : (limit bytes n : ℕ) (sizes : List ℕ) → with_frames limit bytes (suc n) sizes ≡ with_frames limit bytes n (with_frame limit bytes sizes)
first_of limit bytes zero sizes = refl
first_of limit bytes (suc n) sizes = ap (with_frame limit bytes) (first_of limit bytes n sizes)

pub sizes-more : (size bytes n : ℕ) (frames more : List (List ℕ)) → map length more ≡ replicate n bytes →
    map size_of (segments size (frames ++ more)) ≡ with_frames size bytes n (map size_of (segments size frames))
sizes-more size bytes zero frames [] are = ap (λ (fs : List (List ℕ)). map size_of (segments size fs)) (append-nil frames)
sizes-more size bytes (suc n) frames [] are = absurd cc
sizes-more size bytes zero frames (x ∷ more) are = absurd cc
sizes-more size bytes (suc n) frames (x ∷ more) are =
    let first : length x ≡ bytes = ap (λ (l : List ℕ). get_or l 0 0) are in
    let rest : map length more ≡ replicate n bytes = ap (drop 1) are in
    ap (λ (fs : List (List ℕ)). map size_of (segments size fs)) (sym (append_assoc frames (x ∷ []) more))
    ∙ sizes-more size bytes n (frames ++ x ∷ []) more rest
    ∙ ap (with_frames size bytes n) (sizes-one size frames x ∙ ap (λ (m : ℕ). with_frame size m (map size_of (segments size frames))) first)
    ∙ sym (first_of size bytes n (map size_of (segments size frames)))

-- ---- how many go

sum_drop : (k : ℕ) (sizes : List ℕ) → sum (drop k sizes) ≤ sum sizes
sum_drop zero sizes = omega arith
sum_drop (suc k) [] = omega arith
sum_drop (suc k) (size ∷ sizes) = omega (arith, sum_drop k sizes, sum_by-cons (λ (x : ℕ). x) size sizes)

-- the first place from which on the files have room, where one file more has none
pub going_at : (limit : ℕ) (sizes : List ℕ) (k : ℕ) → k ≤ length sizes → sum (drop k sizes) ≤ limit → (0 < k → limit < sum (drop (k - 1) sizes)) → k ≡ going limit sizes
going_at limit [] k within room above = omega arith
going_at limit (size ∷ sizes) zero within room above =
    elim (leb_tells (sum (size ∷ sizes)) limit) as (λ _. 0 ≡ going limit (size ∷ sizes)) [
      | inl fits ↦ rw fits.0 refl
      | inr over ↦ absurd (omega (arith, over.1, room))
    ]
going_at limit (size ∷ sizes) (suc k) within room above =
    let here : limit < sum (drop k (size ∷ sizes)) = subst (λ (n : ℕ). limit < sum (drop n (size ∷ sizes))) (omega arith) (above (omega arith)) in
    let whole = sum_drop k (size ∷ sizes) in
    let more = going_at limit sizes k (omega arith) room (further k here) in
    elim (leb_tells (sum (size ∷ sizes)) limit) as (λ _. suc k ≡ going limit (size ∷ sizes)) [
      | inl fits ↦ absurd (omega (arith, fits.1, here, whole))
      | inr over ↦ rw over.0 (ap suc more)
    ] where
      further : (k : ℕ) → limit < sum (drop k (size ∷ sizes)) → 0 < k → limit < sum (drop (k - 1) sizes)
      further zero h pos = absurd (omega arith)
      further (suc k) h pos = subst (λ (n : ℕ). limit < sum (drop n sizes)) (omega arith) h

-- the bytes from a place on, by the file there
pub sum_at : (sizes : List ℕ) (k : ℕ) → k < length sizes → sum (drop k sizes) ≡ get_or sizes k 0 + sum (drop (k + 1) sizes)
sum_at sizes k within =
    ap sum (drop-cons sizes k 0 within) ∙ sum_by-cons (λ (x : ℕ). x) (get_or sizes k 0) (drop (suc k) sizes)
    ∙ ap (λ (n : ℕ). get_or sizes k 0 + sum (drop n sizes)) {x = suc k} {y = k + 1} (omega arith)
