-- In which segment a frame stands.
use Rattle.std.proofs.Common.{◌≡◌, ℕ, zero, suc, ◌+◌, ◌-◌, ◌≤◌, ◌<◌, Bool, true, false, cond, leb, ltb, List, [], ◌∷◌, ◌++◌, length, take, drop, refl, sym, ap, subst, ◌∙◌, length-append, arith}
use Rattle.std.specs.List.{flat_map}
use Rattle.std.proofs.lemmas.Bool.{lt-ltb, le-ltb}
use Rattle.dl_model.specs.Backlog.{size_of}
use Rattle.dl_model.specs.TraceFiles.{segments, segments_from}
use Rattle.dl_fates.specs.FilePlaces.{segment_of}

-- ---- which segment

-- the place is in the first segment, or behind it
here : (place : ℕ) (segment : List (List ℕ)) (segs : List (List (List ℕ))) → place < length segment → segment_of place (segment ∷ segs) ≡ 1
here place segment segs within = ap (λ (b : Bool). cond b 1 (1 + segment_of (place - length segment) segs)) (lt-ltb place (length segment) within)

behind : (place : ℕ) (segment : List (List ℕ)) (segs : List (List (List ℕ))) → segment_of (length segment + place) (segment ∷ segs) ≡ 1 + segment_of place segs
behind place segment segs =
    ap (λ (b : Bool). cond b 1 (1 + segment_of (length segment + place - length segment) segs)) (le-ltb (length segment + place) (length segment) (omega arith))
    ∙ ap (λ (n : ℕ). 1 + segment_of n segs) (omega arith)

-- frames that stand in the segment that was begun stay in it
stays : (size place : ℕ) (segment frames : List (List ℕ)) → place < length segment → segment_of place (segments_from size segment frames) ≡ 1
stays size place segment [] within = here place segment [] within
stays size place segment (x ∷ frames) within =
    by_test (leb (size_of segment + length x) size) (stays size place (segment ++ x ∷ []) frames (omega (arith, within, length-append segment (x ∷ [])))) where
      by_test : (b : Bool) → segment_of place (segments_from size (segment ++ x ∷ []) frames) ≡ 1 →
          segment_of place (cond b (segments_from size (segment ++ x ∷ []) frames) (segment ∷ segments_from size (x ∷ []) frames)) ≡ 1
      by_test true later = later
      by_test false later = here place segment (segments_from size (x ∷ []) frames) within

-- the next frame stands in the last segment of those so far and itself
in_last : (size : ℕ) (segment before : List (List ℕ)) (frame : List ℕ) (after : List (List ℕ)) →
    segment_of (length segment + length before) (segments_from size segment (before ++ frame ∷ after)) ≡ length (segments_from size segment (before ++ frame ∷ []))
in_last size segment [] frame after = by_test (leb (size_of segment + length frame) size) where
  by_test : (b : Bool) → segment_of (length segment + 0) (cond b (segments_from size (segment ++ frame ∷ []) after) (segment ∷ segments_from size (frame ∷ []) after))
      ≡ length (cond b ((segment ++ frame ∷ []) ∷ []) (segment ∷ (frame ∷ []) ∷ []))
  by_test true = stays size (length segment + 0) (segment ++ frame ∷ []) after (omega (arith, length-append segment (frame ∷ [])))
  by_test false = behind 0 segment (segments_from size (frame ∷ []) after) ∙ ap (λ (n : ℕ). 1 + n) (stays size 0 (frame ∷ []) after (omega arith))
in_last size segment (x ∷ before) frame after =
    by_test (leb (size_of segment + length x) size) (in_last size (segment ++ x ∷ []) before frame after) (in_last size (x ∷ []) before frame after) where
      place : length (segment ++ x ∷ []) + length before ≡ length segment + length (x ∷ before)
      place = omega (arith, length-append segment (x ∷ []))

      by_test : (b : Bool) →
          segment_of (length (segment ++ x ∷ []) + length before) (segments_from size (segment ++ x ∷ []) (before ++ frame ∷ after)) ≡ length (segments_from size (segment ++ x ∷ []) (before ++ frame ∷ [])) →
          segment_of (1 + length before) (segments_from size (x ∷ []) (before ++ frame ∷ after)) ≡ length (segments_from size (x ∷ []) (before ++ frame ∷ [])) →
          segment_of (length segment + length (x ∷ before)) (cond b (segments_from size (segment ++ x ∷ []) (before ++ frame ∷ after)) (segment ∷ segments_from size (x ∷ []) (before ++ frame ∷ after)))
          ≡ length (cond b (segments_from size (segment ++ x ∷ []) (before ++ frame ∷ [])) (segment ∷ segments_from size (x ∷ []) (before ++ frame ∷ [])))
      by_test true same_file next_file = ap (λ (n : ℕ). segment_of n (segments_from size (segment ++ x ∷ []) (before ++ frame ∷ after))) (sym place) ∙ same_file
      by_test false same_file next_file =
          behind (length (x ∷ before)) segment (segments_from size (x ∷ []) (before ++ frame ∷ after))
          ∙ ap (λ (n : ℕ). 1 + segment_of n (segments_from size (x ∷ []) (before ++ frame ∷ after))) {x = length (x ∷ before)} {y = 1 + length before} (omega arith)
          ∙ ap (λ (n : ℕ). 1 + n) next_file ∙ omega arith

-- So a frame stands in the last segment of the frames up to itself.
pub segment_is : (size : ℕ) (before : List (List ℕ)) (frame : List ℕ) (after : List (List ℕ)) → segment_of (length before) (segments size (before ++ frame ∷ after)) ≡ length (segments size (before ++ frame ∷ []))
segment_is size [] frame after = stays size 0 (frame ∷ []) after (omega arith)
segment_is size (x ∷ before) frame after =
    ap (λ (n : ℕ). segment_of n (segments_from size (x ∷ []) (before ++ frame ∷ after))) {x = length (x ∷ before)} {y = 1 + length before} (omega arith) ∙ in_last size (x ∷ []) before frame after

-- ---- how many segments

pub at_most_all : (place : ℕ) (segs : List (List (List ℕ))) → segment_of place segs ≤ length segs
at_most_all place [] = omega arith
at_most_all place (segment ∷ segs) = by_test (ltb place (length segment)) (at_most_all (place - length segment) segs) where
  by_test : (b : Bool) → segment_of (place - length segment) segs ≤ length segs → cond b 1 (1 + segment_of (place - length segment) segs) ≤ length (segment ∷ segs)
  by_test true later = omega arith
  by_test false later = omega (arith, later)

pub at_least_one : (place : ℕ) (segs : List (List (List ℕ))) → 0 < length segs → 1 ≤ segment_of place segs
at_least_one place [] some = absurd (omega arith)
at_least_one place (segment ∷ segs) some = by_test (ltb place (length segment)) where
  by_test : (b : Bool) → 1 ≤ cond b 1 (1 + segment_of (place - length segment) segs)
  by_test true = omega arith
  by_test false = omega arith

begun_some : (size : ℕ) (segment frames : List (List ℕ)) → 0 < length (segments_from size segment frames)
begun_some size segment [] = omega arith
begun_some size segment (x ∷ frames) = by_test (leb (size_of segment + length x) size) (begun_some size (segment ++ x ∷ []) frames) where
  by_test : (b : Bool) → 0 < length (segments_from size (segment ++ x ∷ []) frames) → 0 < length (cond b (segments_from size (segment ++ x ∷ []) frames) (segment ∷ segments_from size (x ∷ []) frames))
  by_test true later = later
  by_test false later = omega arith

pub some_segments : (size : ℕ) (before : List (List ℕ)) (frame : List ℕ) (after : List (List ℕ)) → 0 < length (segments size (before ++ frame ∷ after))
some_segments size [] frame after = begun_some size (frame ∷ []) after
some_segments size (x ∷ before) frame after = begun_some size (x ∷ []) (before ++ frame ∷ after)

-- ---- the frame in its segment

-- some list has it behind some and before others
pub record HasIn (segs : List (List (List ℕ))) (n : ℕ) (frame : List ℕ) : Type 0 where
  pub earlier : List (List (List ℕ))
  pub segment : List (List ℕ)
  pub later : List (List (List ℕ))
  pub segs_are : segs ≡ earlier ++ segment ∷ later
  pub count : n ≡ length earlier + 1
  pub first : List (List ℕ)
  pub last : List (List ℕ)
  pub segment_is : segment ≡ first ++ frame ∷ last

one_more : (segment : List (List ℕ)) (segs : List (List (List ℕ))) (n : ℕ) (frame : List ℕ) → HasIn segs n frame → HasIn (segment ∷ segs) (1 + n) frame
one_more segment segs n frame has = record {
  earlier = segment ∷ has.earlier;
  segment = has.segment;
  later = has.later;
  segs_are = ap (λ (s : List (List (List ℕ))). segment ∷ s) has.segs_are;
  count = omega (arith, has.count);
  first = has.first;
  last = has.last;
  segment_is = has.segment_is;
}

-- one of two lists one behind the other has it
pub data Side {A : Type 0} (xs ys before : List A) (x : A) (after : List A) : Type 0 where
  Left : (last : List A) → length before < length xs → xs ≡ before ++ x ∷ last → after ≡ last ++ ys → Side xs ys before x after
  Right : (rest : List A) → length before ≡ length xs + length rest → ys ≡ rest ++ x ∷ after → Side xs ys before x after

side_more : {A : Type 0} (y : A) (xs ys before : List A) (x : A) (after : List A) → Side xs ys before x after → Side (y ∷ xs) ys (y ∷ before) x after
side_more {A = A} y xs ys before x after (Left last less is rest) = Left last (omega (arith, less)) (ap (λ (l : List A). y ∷ l) is) rest
side_more {A = A} y xs ys before x after (Right rest long is) = Right rest (omega (arith, long)) is

pub side_of : {A : Type 0} (xs ys before : List A) (x : A) (after : List A) → xs ++ ys ≡ before ++ x ∷ after → Side xs ys before x after
side_of [] ys before x after e = Right before (omega arith) e
side_of {A} (y ∷ xs) ys [] x after e =
    let same : y ≡ x = cc in
    Left xs (omega arith) (ap (λ (z : A). z ∷ xs) same) (sym (ap (drop 1) e))
side_of {A} (y ∷ xs) ys (b ∷ before) x after e =
    let same : y ≡ b = cc in
    subst (λ (z : A). Side (y ∷ xs) ys (z ∷ before) x after) same (side_more y xs ys before x after (side_of xs ys before x after (ap (drop 1) e)))

-- by the frames of segments one after the other
pub has_in : (segs : List (List (List ℕ))) (before : List (List ℕ)) (frame : List ℕ) (after : List (List ℕ)) → flat_map (λ (s : List (List ℕ)). s) segs ≡ before ++ frame ∷ after → HasIn segs (segment_of (length before) segs) frame
has_in [] before frame after e = absurd (omega (arith, ap length e, length-append before (frame ∷ after)))
has_in (segment ∷ segs) before frame after e = by_side (side_of segment (flat_map (λ (s : List (List ℕ)). s) segs) before frame after e) (λ rest behind_is. has_in segs rest frame after behind_is) where
  by_side : Side segment (flat_map (λ (s : List (List ℕ)). s) segs) before frame after →
      ((rest : List (List ℕ)) → flat_map (λ (s : List (List ℕ)). s) segs ≡ rest ++ frame ∷ after → HasIn segs (segment_of (length rest) segs) frame) →
      HasIn (segment ∷ segs) (segment_of (length before) (segment ∷ segs)) frame
  by_side (Left last less is rest) later = record {
    earlier = [];
    segment = segment;
    later = segs;
    segs_are = refl;
    count = here (length before) segment segs less;
    first = before;
    last = last;
    segment_is = is;
  }
  by_side (Right rest long is) later =
      let count : segment_of (length before) (segment ∷ segs) ≡ 1 + segment_of (length rest) segs = ap (λ (n : ℕ). segment_of n (segment ∷ segs)) long ∙ behind (length rest) segment segs in
      subst (λ (n : ℕ). HasIn (segment ∷ segs) n frame) (sym count) (one_more segment segs (segment_of (length rest) segs) frame (later rest is))

-- ---- the first so many segments

none_taken : (k : ℕ) → take {A = List (List ℕ)} k [] ≡ []
none_taken zero = refl
none_taken (suc k) = refl

cut_from : (size k : ℕ) (segment frames : List (List ℕ)) → (stored : List (List ℕ)) × (later : List (List ℕ)) × (frames ≡ stored ++ later) × (segments_from size segment stored ≡ take (suc k) (segments_from size segment frames))
cut_from size k segment [] = ([], [], refl, ap (λ (s : List (List (List ℕ))). segment ∷ s) (sym (none_taken k)))
cut_from size k segment (x ∷ frames) = by_test (leb (size_of segment + length x) size) refl k (cut_from size k (segment ++ x ∷ []) frames) (λ j. cut_from size j (x ∷ []) frames) where
  fits : List (List ℕ) → List (List (List ℕ))
  fits fs = segments_from size (segment ++ x ∷ []) fs

  next : List (List ℕ) → List (List (List ℕ))
  next fs = segment ∷ segments_from size (x ∷ []) fs

  Cut : ℕ → List (List ℕ) → (List (List ℕ) → List (List (List ℕ))) → List (List (List ℕ)) → Type 0
  Cut k frames made all = (stored : List (List ℕ)) × (later : List (List ℕ)) × (frames ≡ stored ++ later) × (made stored ≡ take (suc k) all)

  by_test : (b : Bool) → leb (size_of segment + length x) size ≡ b → (k : ℕ) → Cut k frames fits (fits frames) → ((j : ℕ) → Cut j frames (segments_from size (x ∷ [])) (segments_from size (x ∷ []) frames)) →
      Cut k (x ∷ frames) (segments_from size segment) (cond b (fits frames) (next frames))
  by_test true is k same_file next_file =
      (x ∷ same_file.0, same_file.1, ap (λ (fs : List (List ℕ)). x ∷ fs) same_file.2, ap (λ (b : Bool). cond b (fits same_file.0) (next same_file.0)) is ∙ same_file.3)
  by_test false is zero same_file next_file = ([], x ∷ frames, refl, refl)
  by_test false is (suc k) same_file next_file =
      let more = next_file k in
      (x ∷ more.0, more.1, ap (λ (fs : List (List ℕ)). x ∷ fs) more.2, ap (λ (b : Bool). cond b (fits more.0) (next more.0)) is ∙ ap (λ (s : List (List (List ℕ))). segment ∷ s) more.3)

-- They are the segments of some first frames.
pub cut : (size k : ℕ) (frames : List (List ℕ)) → (stored : List (List ℕ)) × (later : List (List ℕ)) × (frames ≡ stored ++ later) × (segments size stored ≡ take k (segments size frames))
cut size zero frames = ([], frames, refl, refl)
cut size (suc k) [] = ([], [], refl, refl)
cut size (suc k) (x ∷ frames) =
    let more = cut_from size k (x ∷ []) frames in
    (x ∷ more.0, more.1, ap (λ (fs : List (List ℕ)). x ∷ fs) more.2, more.3)
