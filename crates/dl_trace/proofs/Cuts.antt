-- Frames by their sizes: the front that fits is the next piece.
use Rattle.std.proofs.Common.{◌≡◌, ℕ, zero, suc, ◌+◌, ◌-◌, ◌≤◌, ◌<◌, Bool, true, false, cond, leb, List, [], ◌∷◌, ◌++◌, length, take, drop, map, refl, sym, ap, subst, ◌∙◌, append_assoc, length-drop, arith, inl, inr}
use Rattle.std.specs.Prelude.{◌⊎◌, sum}
use Rattle.std.specs.List.{concat}
use Rattle.std.proofs.lemmas.Bool.Decides.{leb_tells}
use Rattle.std.proofs.lemmas.List.{append-nil, length-take-le}
use Rattle.std.proofs.lemmas.List.Elements.{All-drop}
use Rattle.std.proofs.lemmas.List.Sums.{sum_by-cons, sum_by-take-drop}
use Rattle.std.proofs.Math.Seq.{take-add}
use Rattle.dl_model.specs.Backlog.{size_of}
use Rattle.dl_trace.specs.Batch.{parted, AreSizes, fit}
use Rattle.dl_trace.specs.Pieces.{pieces_from, pieces}
use Rattle.dl_trace.proofs.Trail.{fits, fits_not}

-- ---- frames of these sizes

abbrev whole : List ℕ → List ℕ → Type 0
whole sizes bytes = sum sizes ≡ length bytes

pub sizes_of : (sizes bytes : List ℕ) → sum sizes ≡ length bytes → map length (parted sizes bytes) ≡ sizes
sizes_of [] bytes e = refl
sizes_of (n ∷ sizes) bytes e =
    let sums = sum_by-cons (λ (x : ℕ). x) n sizes in
    let first : length (take n bytes) ≡ n = length-take-le n bytes (omega (arith, e, sums)) in
    let rest = sizes_of sizes (drop n bytes) (omega (arith, e, sums, length-drop n bytes)) in
    ap (λ (k : ℕ). k ∷ map length (parted sizes (drop n bytes))) first ∙ ap (λ (ns : List ℕ). n ∷ ns) rest

abbrev none : List ℕ
none = []

drop_none : (m : ℕ) → drop m none ≡ none
drop_none zero = refl
drop_none (suc m) = refl

drop_sum : (n m : ℕ) (bytes : List ℕ) → drop m (drop n bytes) ≡ drop (n + m) bytes
drop_sum zero m bytes = ap (λ (k : ℕ). drop k bytes) {x = m} {y = 0 + m} (omega arith)
drop_sum (suc n) m [] = drop_none m ∙ sym (drop_none (suc n + m))
drop_sum (suc n) m (x ∷ bytes) = drop_sum n m bytes ∙ ap (λ (k : ℕ). drop k (x ∷ bytes)) {x = suc (n + m)} {y = suc n + m} (omega arith)

-- the frames behind the first so many
pub parted-drop : (k : ℕ) (sizes bytes : List ℕ) → drop k (parted sizes bytes) ≡ parted (drop k sizes) (drop (sum (take k sizes)) bytes)
parted-drop zero sizes bytes = refl
parted-drop (suc k) [] bytes = refl
parted-drop (suc k) (n ∷ sizes) bytes =
    let sums = sum_by-cons (λ (x : ℕ). x) n (take k sizes) in
    parted-drop k sizes (drop n bytes) ∙ ap (parted (drop k sizes)) (drop_sum n (sum (take k sizes)) bytes)
    ∙ ap (λ (m : ℕ). parted (drop k sizes) (drop m bytes)) (sym sums)

-- and the bytes of these
pub parted-concat : (k : ℕ) (sizes bytes : List ℕ) → sum sizes ≡ length bytes → concat (take k (parted sizes bytes)) ≡ take (sum (take k sizes)) bytes
parted-concat zero sizes bytes e = refl
parted-concat (suc k) [] bytes e = refl
parted-concat (suc k) (n ∷ sizes) bytes e =
    let sums = sum_by-cons (λ (x : ℕ). x) n (take k sizes) in
    let all = sum_by-cons (λ (x : ℕ). x) n sizes in
    ap (λ (b : List ℕ). take n bytes ++ b) (parted-concat k sizes (drop n bytes) (omega (arith, e, all, length-drop n bytes)))
    ∙ sym (take-add n (sum (take k sizes)) bytes) ∙ ap (λ (m : ℕ). take m bytes) (sym sums)

pub sizes-rest : (k : ℕ) (sizes bytes : List ℕ) → AreSizes sizes bytes → AreSizes (drop k sizes) (drop (sum (take k sizes)) bytes)
sizes-rest k sizes bytes are = record {
  each = All-drop (λ (n : ℕ). (17 ≤ n) × (n ≤ 2000)) k sizes are.each;
  whole = omega (arith, are.whole, sum_by-take-drop (λ (x : ℕ). x) sizes k, length-drop (sum (take k sizes)) bytes);
}

-- ---- the front that fits

-- what comes behind a piece: the next one begins a file
abbrev pub later_pieces : ℕ → List (List ℕ) → List (List (List ℕ))
later_pieces size [] = []
later_pieces size (frame ∷ frames) = pieces_from size (size - length frame) (frame ∷ []) frames

front_is : (size room : ℕ) (piece frames : List (List ℕ)) →
    pieces_from size room piece frames ≡ (piece ++ take (fit room (map length frames)) frames) ∷ later_pieces size (drop (fit room (map length frames)) frames)
front_is size room piece [] = ap (λ (p : List (List ℕ)). p ∷ []) (sym (append-nil piece))
front_is size room piece (frame ∷ frames) =
    by_test (leb (length frame) room) (front_is size (room - length frame) (piece ++ frame ∷ []) frames) where
      by_test : (b : Bool) →
          pieces_from size (room - length frame) (piece ++ frame ∷ []) frames
          ≡ ((piece ++ frame ∷ []) ++ take (fit (room - length frame) (map length frames)) frames) ∷ later_pieces size (drop (fit (room - length frame) (map length frames)) frames) →
          cond b (pieces_from size (room - length frame) (piece ++ frame ∷ []) frames) (piece ∷ pieces_from size (size - length frame) (frame ∷ []) frames)
          ≡ (piece ++ take (cond b (suc (fit (room - length frame) (map length frames))) 0) (frame ∷ frames))
          ∷ later_pieces size (drop (cond b (suc (fit (room - length frame) (map length frames))) 0) (frame ∷ frames))
      by_test true later = later ∙ ap (λ (p : List (List ℕ)). p ∷ later_pieces size (drop (fit (room - length frame) (map length frames)) frames)) (append_assoc piece (frame ∷ []) (take (fit (room - length frame) (map length frames)) frames))
      by_test false later = ap (λ (p : List (List ℕ)). p ∷ pieces_from size (size - length frame) (frame ∷ []) frames) (sym (append-nil piece))

-- the first frame fits, and held all that fit with it
pub front_first : (size room : ℕ) (frame : List ℕ) (frames : List (List ℕ)) → length frame ≤ room →
    pieces_from size (room - length frame) (frame ∷ []) frames
    ≡ take (fit room (map length (frame ∷ frames))) (frame ∷ frames) ∷ later_pieces size (drop (fit room (map length (frame ∷ frames))) (frame ∷ frames))
front_first size room frame frames within =
    let test : fit room (map length (frame ∷ frames)) ≡ suc (fit (room - length frame) (map length frames)) = ap (λ b. cond b (suc (fit (room - length frame) (map length frames))) 0) (fits (length frame) room within) in
    front_is size (room - length frame) (frame ∷ []) frames
    ∙ ap (λ (k : ℕ). take k (frame ∷ frames) ∷ later_pieces size (drop k (frame ∷ frames))) (sym test)

-- into the open file, or into the next
pub next_open : (size room : ℕ) (frame : List ℕ) (frames : List (List ℕ)) → length frame ≤ room →
    pieces size room (frame ∷ frames) ≡ take (fit room (map length (frame ∷ frames))) (frame ∷ frames) ∷ later_pieces size (drop (fit room (map length (frame ∷ frames))) (frame ∷ frames))
next_open size room frame frames within =
    ap (λ b. cond b (pieces_from size (room - length frame) (frame ∷ []) frames) (pieces_from size (size - length frame) (frame ∷ []) frames)) (fits (length frame) room within)
    ∙ front_first size room frame frames within

pub next_new : (size room : ℕ) (frame : List ℕ) (frames : List (List ℕ)) → room < length frame → length frame ≤ size →
    pieces size room (frame ∷ frames) ≡ take (fit size (map length (frame ∷ frames))) (frame ∷ frames) ∷ later_pieces size (drop (fit size (map length (frame ∷ frames))) (frame ∷ frames))
next_new size room frame frames over within =
    ap (λ b. cond b (pieces_from size (room - length frame) (frame ∷ []) frames) (pieces_from size (size - length frame) (frame ∷ []) frames)) (fits_not (length frame) room over)
    ∙ front_first size size frame frames within

-- the frame behind those that fit does not fit
pub stops_there : (size room : ℕ) (frames : List (List ℕ)) → (left : ℕ) → left + size_of (take (fit room (map length frames)) frames) ≡ room →
    later_pieces size (drop (fit room (map length frames)) frames) ≡ pieces size left (drop (fit room (map length frames)) frames)
stops_there size room [] left e = refl
stops_there size room (frame ∷ frames) left e = by_test (leb_tells (length frame) room) (stops_there size (room - length frame) frames left) e where
  by_test : ((leb (length frame) room ≡ true) × (length frame ≤ room)) ⊎ ((leb (length frame) room ≡ false) × (room < length frame)) →
      (left + size_of (take (fit (room - length frame) (map length frames)) frames) ≡ room - length frame →
      later_pieces size (drop (fit (room - length frame) (map length frames)) frames) ≡ pieces size left (drop (fit (room - length frame) (map length frames)) frames)) →
      left + size_of (take (fit room (map length (frame ∷ frames))) (frame ∷ frames)) ≡ room →
      later_pieces size (drop (fit room (map length (frame ∷ frames))) (frame ∷ frames)) ≡ pieces size left (drop (fit room (map length (frame ∷ frames))) (frame ∷ frames))
  by_test (inl within) later e =
      let k = fit (room - length frame) (map length frames) in
      let test : fit room (map length (frame ∷ frames)) ≡ suc k = ap (λ b. cond b (suc k) 0) within.0 in
      let sum = sum_by-cons length frame (take k frames) in
      let more : left + size_of (frame ∷ take k frames) ≡ room = ap (λ (n : ℕ). left + size_of (take n (frame ∷ frames))) (sym test) ∙ e in
      subst (λ (n : ℕ). later_pieces size (drop n (frame ∷ frames)) ≡ pieces size left (drop n (frame ∷ frames))) (sym test) (later (omega (arith, more, sum, within.1)))
  by_test (inr over) later e =
      let test : fit room (map length (frame ∷ frames)) ≡ 0 = ap (λ b. cond b (suc (fit (room - length frame) (map length frames))) 0) over.0 in
      let nil : left + size_of (take 0 (frame ∷ frames)) ≡ room = ap (λ (n : ℕ). left + size_of (take n (frame ∷ frames))) (sym test) ∙ e in
      subst (λ (n : ℕ). later_pieces size (drop n (frame ∷ frames)) ≡ pieces size left (drop n (frame ∷ frames))) (sym test)
      (sym (ap (λ b. cond b (pieces_from size (left - length frame) (frame ∷ []) frames) (pieces_from size (size - length frame) (frame ∷ []) frames)) (fits_not (length frame) left (omega (arith, nil, over.1)))))
