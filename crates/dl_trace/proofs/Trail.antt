-- What one piece more makes of the trace files, and which number the newest has.
use Rattle.std.proofs.Common.{◌≡◌, ℕ, suc, ◌+◌, ◌-◌, ◌≤◌, ◌<◌, true, false, cond, leb, List, [], ◌∷◌, ◌++◌, length, drop, refl, sym, ap, ◌∙◌, append_assoc, length-append, arith, inl, inr}
use Rattle.std.specs.List.{concat}
use Rattle.std.proofs.lemmas.Bool.Decides.{leb_tells}
use Rattle.std.proofs.lemmas.List.{append-nil}
use Rattle.std.proofs.lemmas.List.Sums.{sum_by-cons}
use Rattle.dl_model.specs.Backlog.{size_of}
use Rattle.dl_model.specs.TraceFiles.{StoredFile, segments_from, segments, numbered, greatest, kept, closed, opened, rotated, trace_files, grown}
use Rattle.dl_model.proofs.Rotation.{begins, goes_on}

abbrev pub file_of : ℕ → List ℕ → StoredFile
file_of number bytes = record { number = number; bytes = bytes }

pub fits : (a b : ℕ) → a ≤ b → leb a b ≡ true
fits a b h = elim (leb_tells a b) as (λ _. leb a b ≡ true) [ inl within ↦ within.0 | inr over ↦ absurd (omega (arith, over.1, h)) ]

pub fits_not : (a b : ℕ) → b < a → leb a b ≡ false
fits_not a b h = elim (leb_tells a b) as (λ _. leb a b ≡ false) [ inl within ↦ absurd (omega (arith, within.1, h)) | inr over ↦ over.0 ]

-- ---- the last of a list

last_or : {A : Type 0} → A → List A → A
last_or d [] = d
last_or d (x ∷ xs) = last_or x xs

last_or-one : {A : Type 0} (d : A) (xs : List A) (x : A) → last_or d (xs ++ x ∷ []) ≡ x
unfolding last_or
last_or-one d [] x = refl
last_or-one d (y ∷ xs) x = last_or-one y xs x

pub last_same : {A : Type 0} (xs ys : List A) (x y : A) → xs ++ x ∷ [] ≡ ys ++ y ∷ [] → x ≡ y
last_same xs ys x y e = sym (last_or-one x xs x) ∙ ap (last_or x) e ∙ last_or-one x ys y

-- ---- the number of the newest file

some_segment : (size : ℕ) (segment frames : List (List ℕ)) → (first : List (List ℕ)) × (others : List (List (List ℕ))) × (segments_from size segment frames ≡ first ∷ others)
some_segment size segment [] = (segment, [], refl)
some_segment size segment (x ∷ frames) =
    let goes_on = some_segment size (segment ++ x ∷ []) frames in
    elim (leb (size_of segment + length x) size) as (λ b. (first : List (List ℕ)) × (others : List (List (List ℕ))) ×
    (cond b (segments_from size (segment ++ x ∷ []) frames) (segment ∷ segments_from size (x ∷ []) frames) ≡ first ∷ others)) [
      | true ↦ goes_on
      | false ↦ (segment, segments_from size (x ∷ []) frames, refl)
    ]

opened_number : (last : ℕ) (s : List (List ℕ)) (segs : List (List (List ℕ))) → (bytes : List ℕ) × (opened (numbered last (s ∷ segs)) ≡ file_of (last + length (s ∷ segs)) bytes ∷ [])
opened_number last s [] = (concat s, refl)
opened_number last s (t ∷ segs) =
    let later = opened_number (last + 1) t segs in
    let rest = numbered (last + 1) (t ∷ segs) in
    let at : length (file_of (last + 1) (concat s) ∷ rest) - 1 ≡ suc (length rest - 1) = omega arith in
    let number : last + 1 + length (t ∷ segs) ≡ last + length (s ∷ t ∷ segs) = omega arith in
    (later.0, ap (λ (k : ℕ). drop k (file_of (last + 1) (concat s) ∷ rest)) at ∙ later.1 ∙ ap (λ (n : ℕ). file_of n later.0 ∷ []) number)

pub newest_number : (size max_size : ℕ) (old before : List StoredFile) (newest : StoredFile) (first : List ℕ) (frames : List (List ℕ)) →
    trace_files size max_size old (first ∷ frames) ≡ before ++ newest ∷ [] → newest.number ≡ greatest old + length (segments size (first ∷ frames))
newest_number size max_size old before newest first frames is =
    let segs = some_segment size (first ∷ []) frames in
    let last = opened_number (greatest old) segs.0 segs.1 in
    let files = numbered (greatest old) (segs.0 ∷ segs.1) in
    let shape : trace_files size max_size old (first ∷ frames) ≡ rotated size max_size old files = ap (λ (ss : List (List (List ℕ))). rotated size max_size old (numbered (greatest old) ss)) segs.2 in
    let front : List StoredFile = kept (max_size - size) (old ++ closed files) in
    let ends : rotated size max_size old files ≡ front ++ file_of (greatest old + length (segs.0 ∷ segs.1)) last.0 ∷ [] = ap (λ (fs : List StoredFile). front ++ fs) last.1 in
    let same : newest ≡ file_of (greatest old + length (segs.0 ∷ segs.1)) last.0 = last_same before front newest (file_of (greatest old + length (segs.0 ∷ segs.1)) last.0) (sym is ∙ shape ∙ ends) in
    ap (λ (f : StoredFile). f.number) same ∙ ap (λ (ss : List (List (List ℕ))). greatest old + length ss) (sym segs.2)

-- ---- a piece more

-- frames that fit into the newest file
pub extends : (size max_size : ℕ) (old before : List StoredFile) (newest : StoredFile) (first : List ℕ) (frames piece : List (List ℕ)) →
    trace_files size max_size old (first ∷ frames) ≡ before ++ newest ∷ [] → length newest.bytes + size_of piece ≤ size →
    trace_files size max_size old (first ∷ (frames ++ piece)) ≡ before ++ file_of newest.number (newest.bytes ++ concat piece) ∷ []
extends size max_size old before newest first frames [] is room =
    ap (λ (fs : List (List ℕ)). trace_files size max_size old (first ∷ fs)) (append-nil frames) ∙ is
    ∙ ap (λ (b : List ℕ). before ++ file_of newest.number b ∷ []) (sym (append-nil newest.bytes))
extends size max_size old before newest first frames (x ∷ piece) is room =
    let bigger = file_of newest.number (newest.bytes ++ x) in
    let sum = sum_by-cons length x piece in
    let enters : leb (length newest.bytes + length x) size ≡ true = fits _ _ (omega (arith, room, sum)) in
    let grows : grown size max_size before newest x ≡ before ++ bigger ∷ [] = rw enters refl in
    let now : trace_files size max_size old (first ∷ (frames ++ x ∷ [])) ≡ before ++ bigger ∷ [] = goes_on size max_size old before newest first x frames is ∙ grows in
    let later = extends size max_size old before bigger first (frames ++ x ∷ []) piece now (omega (arith, room, sum, length-append newest.bytes x)) in
    ap (λ (fs : List (List ℕ)). trace_files size max_size old (first ∷ fs)) (sym (append_assoc frames (x ∷ []) piece)) ∙ later
    ∙ ap (λ (b : List ℕ). before ++ file_of newest.number b ∷ []) (append_assoc newest.bytes x (concat piece))

-- frames of which the first begins a file
pub begins_first : (size max_size : ℕ) (old : List StoredFile) (x : List ℕ) (piece : List (List ℕ)) → length x + size_of piece ≤ size →
    trace_files size max_size old (x ∷ piece) ≡ kept (max_size - size) old ++ file_of (greatest old + 1) (x ++ concat piece) ∷ []
begins_first size max_size old x piece room = extends size max_size old (kept (max_size - size) old) (file_of (greatest old + 1) x) x [] piece (begins size max_size old x) room

pub begins_later : (size max_size : ℕ) (old before : List StoredFile) (newest : StoredFile) (first : List ℕ) (frames : List (List ℕ)) (x : List ℕ) (piece : List (List ℕ)) →
    trace_files size max_size old (first ∷ frames) ≡ before ++ newest ∷ [] → size < length newest.bytes + length x → length x + size_of piece ≤ size →
    trace_files size max_size old (first ∷ (frames ++ x ∷ piece))
    ≡ kept (max_size - size) (trace_files size max_size old (first ∷ frames)) ++ file_of (newest.number + 1) (x ++ concat piece) ∷ []
begins_later size max_size old before newest first frames x piece is over room =
    let left = kept (max_size - size) (before ++ newest ∷ []) in
    let enters : leb (length newest.bytes + length x) size ≡ false = fits_not _ _ over in
    let grows : grown size max_size before newest x ≡ left ++ file_of (newest.number + 1) x ∷ [] = rw enters refl in
    let now : trace_files size max_size old (first ∷ (frames ++ x ∷ [])) ≡ left ++ file_of (newest.number + 1) x ∷ [] = goes_on size max_size old before newest first x frames is ∙ grows in
    let later = extends size max_size old left (file_of (newest.number + 1) x) first (frames ++ x ∷ []) piece now room in
    ap (λ (fs : List (List ℕ)). trace_files size max_size old (first ∷ fs)) (sym (append_assoc frames (x ∷ []) piece)) ∙ later
    ∙ ap (λ (fs : List StoredFile). kept (max_size - size) fs ++ file_of (newest.number + 1) (x ++ concat piece) ∷ []) (sym is)
