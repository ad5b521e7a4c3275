-- What is said of the place of a stored frame is so.
use Rattle.std.proofs.Common.{◌≡◌, ℕ, ◌+◌, ◌-◌, ◌≤◌, ◌<◌, zero, suc, Bool, true, false, cond, ltb, List, [], ◌∷◌, ◌++◌, length, take, refl, sym, ap, subst, ◌∙◌, append_assoc, arith, inl, inr}
use Rattle.std.specs.Prelude.{◌⊎◌, ◌||◌}
use Rattle.std.specs.List.{concat, list_any}
use Rattle.std.proofs.lemmas.Bool.Decides.{leb_tells}
use Rattle.std.proofs.lemmas.Bool.{le-ltb, lt-ltb}
use Rattle.std.proofs.lemmas.List.{append-nil, length-take, take-append-drop, take_all}
use Rattle.std.proofs.lemmas.List.Folds.{concat-append, list_any-append}
use Rattle.dl_model.specs.TraceFiles.{StoredFile, closed, greatest, is_spent, kept, made, number_limit, numbered, opened, rotated, segments, trace_files}
use Rattle.dl_model.proofs.Rotation.{kept_suffix, segments-all}
use Rattle.dl_fates.specs.FilePlaces.{HasFrame, Says, has_number, left_files, named, place_of, segment_of}
use Rattle.dl_fates.specs.declared.place.StoredPlace.TheVariants.{InFile, Removed, TraceEnded}
use Rattle.dl_fates.proofs.LeftFiles.{length-numbered, none_below, numbered-take}
use Rattle.dl_fates.proofs.Segments.{Left, Right, Side, cut, has_in, segment_is, side_of}

pub ltb_tells : (a b : ℕ) → ((ltb a b ≡ true) × (a < b)) ⊎ ((ltb a b ≡ false) × (b ≤ a))
ltb_tells a b = elim (leb_tells b a) as (λ _. ((ltb a b ≡ true) × (a < b)) ⊎ ((ltb a b ≡ false) × (b ≤ a))) [
  | inl within ↦ inr (le-ltb a b within.1, within.1)
  | inr above ↦ inl (lt-ltb a b above.1, above.1)
]

-- ---- what is left is the newest of all

left_suffix : (size max_size : ℕ) (old files : List StoredFile) → (gone : List StoredFile) × (old ++ files ≡ gone ++ rotated size max_size old files)
left_suffix size max_size old [] = ([], append-nil old)
left_suffix size max_size old (file ∷ files) =
    let all = file ∷ files in
    let part = kept_suffix (max_size - size) (old ++ closed all) in (
      part.0,
      ap (λ (fs : List StoredFile). old ++ fs) (sym (take-append-drop (length all - 1) all)) ∙ sym (append_assoc old (closed all) (opened all))
          ∙ ap (λ (fs : List StoredFile). fs ++ opened all) part.1 ∙ append_assoc part.0 (kept (max_size - size) (old ++ closed all)) (opened all),
    )

-- ---- the file of a segment

numbered-split : (g : ℕ) (earlier : List (List (List ℕ))) (segment : List (List ℕ)) (later : List (List (List ℕ))) →
    numbered g (earlier ++ segment ∷ later) ≡ numbered g earlier ++ record { number = g + (length earlier + 1); bytes = concat segment } ∷ numbered (g + (length earlier + 1)) later
numbered-split g [] segment later = ap (λ (n : ℕ). record { number = n; bytes = concat segment } ∷ numbered n later) {x = g + 1} {y = g + (0 + 1)} (omega arith)
numbered-split g (s ∷ earlier) segment later =
    let number : g + 1 + (length earlier + 1) ≡ g + (length (s ∷ earlier) + 1) = omega arith in
    ap (λ (fs : List StoredFile). record { number = g + 1; bytes = concat s } ∷ fs)
    (numbered-split (g + 1) earlier segment later ∙ ap (λ (n : ℕ). numbered (g + 1) earlier ++ record { number = n; bytes = concat segment } ∷ numbered n later) number)

take-split : (k : ℕ) (earlier : List (List (List ℕ))) (segment : List (List ℕ)) (later : List (List (List ℕ))) → length earlier + 1 ≤ k →
    take k (earlier ++ segment ∷ later) ≡ earlier ++ segment ∷ take (k - (length earlier + 1)) later
take-split k [] segment later le = by_one k le where
  by_one : (k : ℕ) → 1 ≤ k → take k (segment ∷ later) ≡ segment ∷ take (k - 1) later
  by_one zero le = absurd (omega (arith, le))
  by_one (suc k) le = ap (λ (n : ℕ). segment ∷ take n later) {x = k} {y = suc k - 1} (omega arith)
take-split k (s ∷ earlier) segment later le = by_one k le (λ j less. take-split j earlier segment later less) where
  by_one : (k : ℕ) → length (s ∷ earlier) + 1 ≤ k → ((j : ℕ) → length earlier + 1 ≤ j → take j (earlier ++ segment ∷ later) ≡ earlier ++ segment ∷ take (j - (length earlier + 1)) later) →
      take k (s ∷ (earlier ++ segment ∷ later)) ≡ s ∷ (earlier ++ segment ∷ take (k - (length (s ∷ earlier) + 1)) later)
  by_one zero le rest = absurd (omega (arith, le))
  by_one (suc k) le rest =
      ap (λ (fs : List (List (List ℕ))). s ∷ fs) (rest k (omega (arith, le)))
      ∙ ap (λ (n : ℕ). s ∷ (earlier ++ segment ∷ take n later)) {x = k - (length earlier + 1)} {y = suc k - (length (s ∷ earlier) + 1)} (omega arith)

-- ---- the file of a frame, among those that have names

module _ (size max_size : ℕ) (old : List StoredFile) (before : List (List ℕ)) (frame : List ℕ) (after : List (List ℕ)) where
  abbrev pub frames : List (List ℕ)
  frames = before ++ frame ∷ after

  abbrev pub n : ℕ
  n = segment_of (length before) (segments size frames)

  abbrev pub g : ℕ
  g = greatest old

  abbrev pub test : StoredFile → Bool
  test = has_number (g + n)

  record IsMade : Type 0 where
    pub older : List StoredFile
    pub file : StoredFile
    pub rest : List (List (List ℕ))
    pub files_are : named size old frames ≡ older ++ file ∷ numbered (g + n) rest
    pub number_is : file.number ≡ g + n
    pub front : List ℕ
    pub back : List ℕ
    pub bytes_are : file.bytes ≡ front ++ frame ++ back

  is_made : g + n ≤ number_limit → IsMade
  is_made within =
      let has = has_in (segments size frames) before frame after (segments-all size frames) in
      let k = number_limit - g in
      let at : g + (length has.earlier + 1) ≡ g + n = ap (λ (m : ℕ). g + m) (sym has.count) in
      let rest = take (k - (length has.earlier + 1)) has.later in
      record {
        older = numbered g has.earlier;
        file = record { number = g + n; bytes = concat has.segment };
        rest = rest;
        files_are = numbered-take k g (segments size frames)
            ∙ ap (λ (segs : List (List (List ℕ))). numbered g (take k segs)) has.segs_are
            ∙ ap (numbered g) (take-split k has.earlier has.segment has.later (omega (arith, within, has.count)))
            ∙ numbered-split g has.earlier has.segment rest
            ∙ ap (λ (m : ℕ). numbered g has.earlier ++ record { number = m; bytes = concat has.segment } ∷ numbered m rest) at;
        number_is = refl;
        front = concat has.first;
        back = concat has.last;
        bytes_are = ap concat has.segment_is ∙ concat-append has.first (frame ∷ has.last) ∙ sym (append_assoc (concat has.first) frame (concat has.last));
      }

  is_among : (within : g + n ≤ number_limit) → HasFrame (named size old frames) (g + n) frame
  is_among within =
      let made_so = is_made within in
      record {
        older = made_so.older;
        file = made_so.file;
        newer = numbered (g + n) made_so.rest;
        files_are = made_so.files_are;
        number_is = made_so.number_is;
        front = made_so.front;
        back = made_so.back;
        bytes_are = made_so.bytes_are;
      }

  stands : (within : g + n ≤ number_limit) → list_any test (left_files size max_size old frames) ≡ true → HasFrame (left_files size max_size old frames) (g + n) frame
  stands within there = by_side (side_of part.0 left (old ++ made_so.older) made_so.file (numbered (g + n) made_so.rest) (sym part.1 ∙ all)) where
    left : List StoredFile
    left = left_files size max_size old frames

    made_so : IsMade
    made_so = is_made within

    part : (gone : List StoredFile) × (old ++ named size old frames ≡ gone ++ left)
    part = left_suffix size max_size old (named size old frames)

    all : old ++ named size old frames ≡ (old ++ made_so.older) ++ made_so.file ∷ numbered (g + n) made_so.rest
    all = ap (λ (fs : List StoredFile). old ++ fs) made_so.files_are ∙ sym (append_assoc old made_so.older (made_so.file ∷ numbered (g + n) made_so.rest))

    second : (a b : Bool) → (a || b) ≡ false → b ≡ false
    second true b e = absurd cc
    second false b e = e

    by_side : Side part.0 left (old ++ made_so.older) made_so.file (numbered (g + n) made_so.rest) → HasFrame left (g + n) frame
    by_side (Left last less is rest) =
        let none : list_any test (last ++ left) ≡ false = ap (list_any test) (sym rest) ∙ none_below (g + n) (g + n) made_so.rest (omega arith) in
        let none_left : list_any test left ≡ false = second (list_any test last) (list_any test left) (sym (list_any-append test last left) ∙ none) in
        absurd cc
    by_side (Right rest long is) = record {
      older = rest;
      file = made_so.file;
      newer = numbered (g + n) made_so.rest;
      files_are = is;
      number_is = made_so.number_is;
      front = made_so.front;
      back = made_so.back;
      bytes_are = made_so.bytes_are;
    }

  -- What is said of the place is so.
  pub is_so : Says size max_size old before frame after (place_of size max_size old frames (length before))
  is_so = by_tests (ltb_tells number_limit (g + n)) (list_any test (left_files size max_size old frames)) refl where
    spent : is_spent size old (before ++ frame ∷ []) ≡ ltb number_limit (g + n)
    spent = ap (λ (m : ℕ). ltb number_limit (g + m)) (sym (segment_is size before frame after))

    by_tests : ((ltb number_limit (g + n) ≡ true) × (number_limit < g + n)) ⊎ ((ltb number_limit (g + n) ≡ false) × (g + n ≤ number_limit)) →
        (there : Bool) → list_any test (left_files size max_size old frames) ≡ there →
        Says size max_size old before frame after (cond (ltb number_limit (g + n)) TraceEnded (cond (list_any test (left_files size max_size old frames)) (InFile (g + n)) (Removed (g + n))))
    by_tests (inl above) there is =
        subst (λ (b : Bool). Says size max_size old before frame after (cond b TraceEnded (cond (list_any test (left_files size max_size old frames)) (InFile (g + n)) (Removed (g + n))))) (sym above.0)
        (spent ∙ above.0)
    by_tests (inr within) true is =
        subst (λ (b : Bool). Says size max_size old before frame after (cond b TraceEnded (cond (list_any test (left_files size max_size old frames)) (InFile (g + n)) (Removed (g + n))))) (sym within.0)
        (subst (λ (b : Bool). Says size max_size old before frame after (cond b (InFile (g + n)) (Removed (g + n)))) (sym is) (stands within.1 is, spent ∙ within.0))
    by_tests (inr within) false is =
        subst (λ (b : Bool). Says size max_size old before frame after (cond b TraceEnded (cond (list_any test (left_files size max_size old frames)) (InFile (g + n)) (Removed (g + n))))) (sym within.0)
        (subst (λ (b : Bool). Says size max_size old before frame after (cond b (InFile (g + n)) (Removed (g + n)))) (sym is) (is_among within.1, is, spent ∙ within.0))

-- ---- what is left are trace files

pub left_whole : (size max_size : ℕ) (old : List StoredFile) (frames : List (List ℕ)) → is_spent size old frames ≡ false → left_files size max_size old frames ≡ trace_files size max_size old frames
left_whole size max_size old frames unspent =
    let long = length-numbered (greatest old) (segments size frames) in
    let within : length (made size old frames) ≤ number_limit - greatest old =
    elim (ltb_tells number_limit (greatest old + length (segments size frames))) as (λ _. length (made size old frames) ≤ number_limit - greatest old) [
      | inl above ↦ let same : ltb number_limit (greatest old + length (segments size frames)) ≡ false = unspent in absurd cc
      | inr fits ↦ omega (arith, long, fits.1)
    ] in
    ap (rotated size max_size old) (take_all (number_limit - greatest old) (made size old frames) within)

pub left_cut : (size max_size : ℕ) (old : List StoredFile) (frames : List (List ℕ)) → greatest old ≤ number_limit →
    (stored : List (List ℕ)) × (later : List (List ℕ)) × (frames ≡ stored ++ later) × (is_spent size old stored ≡ false) × (left_files size max_size old frames ≡ trace_files size max_size old stored)
left_cut size max_size old frames within =
    let k = number_limit - greatest old in
    let part = cut size k frames in
    let few : length (segments size part.0) ≤ k = omega (arith, ap length part.3, length-take k (segments size frames)) in
    let unspent : ltb number_limit (greatest old + length (segments size part.0)) ≡ false =
    elim (ltb_tells number_limit (greatest old + length (segments size part.0))) as (λ _. ltb number_limit (greatest old + length (segments size part.0)) ≡ false) [
      | inl above ↦ absurd (omega (arith, above.1, few, within))
      | inr fits ↦ fits.0
    ] in
    let same : named size old frames ≡ made size old part.0 = numbered-take k (greatest old) (segments size frames) ∙ ap (numbered (greatest old)) (sym part.3) in
    (part.0, part.1, part.2, unspent, ap (rotated size max_size old) same)
