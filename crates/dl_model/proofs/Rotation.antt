-- Trace files: what one frame more changes, and what stands.
use Rattle.std.proofs.Common.{◌≡◌, ℕ, ◌+◌, ◌-◌, ◌≤◌, ◌<◌, Bool, true, false, cond, leb, List, [], ◌∷◌, ◌++◌, length, drop, refl, sym, ap, ◌∙◌, append_assoc, length-append, arith, inl, inr}
use Rattle.std.specs.Prelude.{◌⊎◌}
use Rattle.std.specs.List.{flat_map, concat, AllByRecursion}
use Rattle.std.proofs.lemmas.Bool.Decides.{leb_tells}
use Rattle.std.proofs.lemmas.List.{append-nil, take_at, drop_at}
use Rattle.std.proofs.lemmas.List.Sums.{sum_by-cons, sum_by-append}
use Rattle.std.proofs.lemmas.List.Folds.{concat-append}
use Rattle.dl_model.specs.Backlog.{size_of}
use Rattle.dl_model.specs.TraceFiles.{StoredFile, segments_from, segments, numbered, greatest, total_size, kept, closed, opened, rotated, made, trace_files, grown}

-- ---- one frame more

-- the segments with one frame more: in the last segment where it fits, else in a new one
abbrev with_frame : ℕ → List (List (List ℕ)) → List ℕ → List (List (List ℕ))
with_frame size [] frame = (frame ∷ []) ∷ []
with_frame size (segment ∷ []) frame =
    cond (leb (size_of segment + length frame) size) ((segment ++ frame ∷ []) ∷ []) (segment ∷ (frame ∷ []) ∷ [])
with_frame size (segment ∷ next ∷ segments) frame = segment ∷ with_frame size (next ∷ segments) frame

-- a segment before others
before_others : (size : ℕ) (segment : List (List ℕ)) (first : List (List ℕ)) (frames : List (List ℕ)) (frame : List ℕ) →
    with_frame size (segment ∷ segments_from size first frames) frame ≡ segment ∷ with_frame size (segments_from size first frames) frame
before_others size segment first [] frame = refl
before_others size segment first (x ∷ frames) frame = by_test (leb (size_of first + length x) size) (before_others size segment (first ++ x ∷ []) frames frame) where
  by_test : (b : Bool) →
      with_frame size (segment ∷ segments_from size (first ++ x ∷ []) frames) frame ≡ segment ∷ with_frame size (segments_from size (first ++ x ∷ []) frames) frame →
      with_frame size (segment ∷ cond b (segments_from size (first ++ x ∷ []) frames) (first ∷ segments_from size (x ∷ []) frames)) frame
      ≡ segment ∷ with_frame size (cond b (segments_from size (first ++ x ∷ []) frames) (first ∷ segments_from size (x ∷ []) frames)) frame
  by_test true later = later
  by_test false later = refl

segments_from-one : (size : ℕ) (segment frames : List (List ℕ)) (frame : List ℕ) →
    segments_from size segment (frames ++ frame ∷ []) ≡ with_frame size (segments_from size segment frames) frame
segments_from-one size segment [] frame = refl
segments_from-one size segment (x ∷ frames) frame =
    by_test (leb (size_of segment + length x) size) (segments_from-one size (segment ++ x ∷ []) frames frame) (segments_from-one size (x ∷ []) frames frame) where
      by_test : (b : Bool) →
          segments_from size (segment ++ x ∷ []) (frames ++ frame ∷ []) ≡ with_frame size (segments_from size (segment ++ x ∷ []) frames) frame →
          segments_from size (x ∷ []) (frames ++ frame ∷ []) ≡ with_frame size (segments_from size (x ∷ []) frames) frame →
          cond b (segments_from size (segment ++ x ∷ []) (frames ++ frame ∷ [])) (segment ∷ segments_from size (x ∷ []) (frames ++ frame ∷ []))
          ≡ with_frame size (cond b (segments_from size (segment ++ x ∷ []) frames) (segment ∷ segments_from size (x ∷ []) frames)) frame
      by_test true goes_on begins = goes_on
      by_test false goes_on begins = ap (λ (s : List (List (List ℕ))). segment ∷ s) begins ∙ sym (before_others size segment (x ∷ []) frames frame)

-- ---- the segments are the frames, cut

segments_from-all : (size : ℕ) (segment frames : List (List ℕ)) → flat_map (λ (s : List (List ℕ)). s) (segments_from size segment frames) ≡ segment ++ frames
segments_from-all size segment [] = refl
segments_from-all size segment (x ∷ frames) =
    by_test (leb (size_of segment + length x) size) (segments_from-all size (segment ++ x ∷ []) frames) (segments_from-all size (x ∷ []) frames) where
      by_test : (b : Bool) → flat_map (λ (s : List (List ℕ)). s) (segments_from size (segment ++ x ∷ []) frames) ≡ (segment ++ x ∷ []) ++ frames → flat_map (λ (s : List (List ℕ)). s) (segments_from size (x ∷ []) frames) ≡ x ∷ frames →
          flat_map (λ (s : List (List ℕ)). s) (cond b (segments_from size (segment ++ x ∷ []) frames) (segment ∷ segments_from size (x ∷ []) frames)) ≡ segment ++ x ∷ frames
      by_test true goes_on begins = goes_on ∙ append_assoc segment (x ∷ []) frames
      by_test false goes_on begins = ap (λ (s : List (List ℕ)). segment ++ s) begins

pub segments-all : (size : ℕ) (frames : List (List ℕ)) → flat_map (λ (s : List (List ℕ)). s) (segments size frames) ≡ frames
segments-all size [] = refl
segments-all size (x ∷ frames) = segments_from-all size (x ∷ []) frames

-- ---- what is kept

pub kept_suffix : (limit : ℕ) (files : List StoredFile) → (gone : List StoredFile) × (files ≡ gone ++ kept limit files)
kept_suffix limit [] = ([], refl)
kept_suffix limit (file ∷ files) =
    let later = kept_suffix limit files in
    elim (leb (total_size (file ∷ files)) limit) as (λ b. (gone : List StoredFile) × (file ∷ files ≡ gone ++ cond b (file ∷ files) (kept limit files))) [
      | true ↦ ([], refl)
      | false ↦ (file ∷ later.0, ap (λ (fs : List StoredFile). file ∷ fs) later.1)
    ]

pub kept_room : (limit : ℕ) (files : List StoredFile) → total_size (kept limit files) ≤ limit
kept_room limit [] = omega arith
kept_room limit (file ∷ files) =
    let later = kept_room limit files in
    elim (leb_tells (total_size (file ∷ files)) limit) as (λ _. total_size (kept limit (file ∷ files)) ≤ limit) [
      | inl within ↦ rw within.0 within.1
      | inr above ↦ rw above.0 later
    ]

pub kept_longest : (limit : ℕ) (files gone : List StoredFile) (file : StoredFile) → files ≡ gone ++ file ∷ kept limit files → limit < total_size (file ∷ kept limit files)
kept_longest limit [] gone file e = absurd (omega (arith, ap length e, length-append gone (file ∷ [])))
kept_longest limit (x ∷ files) gone file e = by_test (leb_tells (total_size (x ∷ files)) limit) gone e (λ gone e. kept_longest limit files gone file e) where
  by_test : ((leb (total_size (x ∷ files)) limit ≡ true) × (total_size (x ∷ files) ≤ limit)) ⊎ ((leb (total_size (x ∷ files)) limit ≡ false) × (limit < total_size (x ∷ files))) →
      (gone : List StoredFile) → x ∷ files ≡ gone ++ file ∷ kept limit (x ∷ files) →
      ((gone : List StoredFile) → files ≡ gone ++ file ∷ kept limit files → limit < total_size (file ∷ kept limit files)) →
      limit < total_size (file ∷ kept limit (x ∷ files))
  by_test (inl within) gone e later =
      let same : x ∷ files ≡ gone ++ file ∷ x ∷ files = rw within.0 at e in
      absurd (omega (arith, ap length same, length-append gone (file ∷ x ∷ files)))
  by_test (inr above) [] e later =
      let same : x ∷ files ≡ file ∷ kept limit files = rw above.0 at e in
      rw above.0 (omega (arith, above.1, ap total_size same))
  by_test (inr above) (g ∷ gone) e later =
      let same : x ∷ files ≡ g ∷ (gone ++ file ∷ kept limit files) = rw above.0 at e in
      rw above.0 (later gone (ap (drop 1) same))

-- what is gone is never asked for again
pub kept-one : (limit : ℕ) (files : List StoredFile) (file : StoredFile) → kept limit (files ++ file ∷ []) ≡ kept limit (kept limit files ++ file ∷ [])
kept-one limit [] file = refl
kept-one limit (x ∷ files) file = by_test (leb_tells (total_size (x ∷ files)) limit) (kept-one limit files file) where
  by_test : ((leb (total_size (x ∷ files)) limit ≡ true) × (total_size (x ∷ files) ≤ limit)) ⊎ ((leb (total_size (x ∷ files)) limit ≡ false) × (limit < total_size (x ∷ files))) →
      kept limit (files ++ file ∷ []) ≡ kept limit (kept limit files ++ file ∷ []) →
      kept limit (x ∷ files ++ file ∷ []) ≡ kept limit (kept limit (x ∷ files) ++ file ∷ [])
  by_test (inl within) later = rw within.0 refl
  by_test (inr above) later =
      let more : leb (total_size (x ∷ files ++ file ∷ [])) limit ≡ false =
      grind (arith, leb_tells, above.1, sum_by-append (λ (f : StoredFile). length f.bytes) (x ∷ files) (file ∷ [])) in
      rw (above.0, more) later

-- ---- the files that stand

abbrev file_of : ℕ → List ℕ → StoredFile
file_of number bytes = record { number = number; bytes = bytes }

closed-one : (files : List StoredFile) (file : StoredFile) → closed (files ++ file ∷ []) ≡ files
closed-one files file = take_at files (file ∷ []) (length (files ++ file ∷ []) - 1) (omega (arith, length-append files (file ∷ [])))

opened-one : (files : List StoredFile) (file : StoredFile) → opened (files ++ file ∷ []) ≡ file ∷ []
opened-one files file = drop_at files (file ∷ []) (length (files ++ file ∷ []) - 1) (omega (arith, length-append files (file ∷ [])))

rotated-one : (size max_size : ℕ) (old files : List StoredFile) (file : StoredFile) → rotated size max_size old (files ++ file ∷ []) ≡ kept (max_size - size) (old ++ files) ++ file ∷ []
rotated-one size max_size old [] file = ap (λ fs. kept (max_size - size) fs ++ file ∷ []) (append-nil old) ∙ ap (λ fs. kept (max_size - size) fs ++ file ∷ []) (sym (append-nil old))
rotated-one size max_size old (x ∷ files) file =
    rw (closed-one (x ∷ files) file, opened-one (x ∷ files) file) refl

numbered-at : (last at : ℕ) (segs : List (List (List ℕ))) (segment : List (List ℕ)) → at ≡ last + length segs →
    numbered last (segs ++ segment ∷ []) ≡ numbered last segs ++ record { number = at + 1; bytes = concat segment } ∷ []
numbered-at last at [] segment e =
    let same : last ≡ at = omega (arith, e) in
    ap (λ (n : ℕ). file_of (n + 1) (concat segment) ∷ []) same
numbered-at last at (s ∷ segs) segment e =
    ap (λ (fs : List StoredFile). file_of (last + 1) (concat s) ∷ fs) (numbered-at (last + 1) at segs segment (omega (arith, e)))

pub length-concat : (frames : List (List ℕ)) → length (concat frames) ≡ size_of frames
length-concat [] = refl
length-concat (frame ∷ frames) = length-append frame (concat frames) ∙ ap (λ n. length frame + n) (length-concat frames) ∙ sym (sum_by-cons length frame frames)

-- the last segment
abbrev IsLast : List (List (List ℕ)) → List (List (List ℕ)) → List (List ℕ) → Type 0
IsLast all before last = all ≡ before ++ last ∷ []

last_segment : (size : ℕ) (segment frames : List (List ℕ)) → (before : List (List (List ℕ))) × (last : List (List ℕ)) × IsLast (segments_from size segment frames) before last
last_segment size segment [] = ([], segment, refl)
last_segment size segment (x ∷ frames) =
    let goes_on = last_segment size (segment ++ x ∷ []) frames in
    let begins = last_segment size (x ∷ []) frames in
    elim (leb (size_of segment + length x) size) as (λ b. (before : List (List (List ℕ))) × (last : List (List ℕ)) ×
    IsLast (cond b (segments_from size (segment ++ x ∷ []) frames) (segment ∷ segments_from size (x ∷ []) frames)) before last) [
      | true ↦ goes_on
      | false ↦ (segment ∷ begins.0, begins.1, ap (λ (s : List (List (List ℕ))). segment ∷ s) begins.2)
    ]

move : {A : Type 0} (b : Bool) (x : A) (xs ys : List A) → x ∷ cond b xs ys ≡ cond b (x ∷ xs) (x ∷ ys)
move true x xs ys = refl
move false x xs ys = refl

with_frame-last : (size : ℕ) (before : List (List (List ℕ))) (last : List (List ℕ)) (frame : List ℕ) → with_frame size (before ++ last ∷ []) frame
    ≡ cond (leb (size_of last + length frame) size) (before ++ (last ++ frame ∷ []) ∷ []) ((before ++ last ∷ []) ++ (frame ∷ []) ∷ [])
with_frame-last size [] last frame = refl
with_frame-last size (x ∷ []) last frame =
    move (leb (size_of last + length frame) size) x ((last ++ frame ∷ []) ∷ []) (last ∷ (frame ∷ []) ∷ [])
with_frame-last size (x ∷ y ∷ before) last frame =
    ap (λ (s : List (List (List ℕ))). x ∷ s) (with_frame-last size (y ∷ before) last frame)
    ∙ move (leb (size_of last + length frame) size) x (y ∷ (before ++ (last ++ frame ∷ []) ∷ [])) (y ∷ ((before ++ last ∷ []) ++ (frame ∷ []) ∷ []))

-- the files of segments, by the last one
stands_at : (size max_size : ℕ) (old : List StoredFile) (before : List (List (List ℕ))) (last : List (List ℕ)) →
    rotated size max_size old (numbered (greatest old) (before ++ last ∷ []))
    ≡ kept (max_size - size) (old ++ numbered (greatest old) before) ++ file_of (greatest old + length before + 1) (concat last) ∷ []
stands_at size max_size old before last =
    ap (rotated size max_size old) (numbered-at (greatest old) (greatest old + length before) before last refl)
    ∙ rotated-one size max_size old (numbered (greatest old) before) (file_of (greatest old + length before + 1) (concat last))

concat-one : (frames : List (List ℕ)) (frame : List ℕ) → concat (frames ++ frame ∷ []) ≡ concat frames ++ frame
concat-one frames frame = concat-append frames (frame ∷ []) ∙ ap (λ b. concat frames ++ b) (append-nil frame)

-- the files with one frame more, by the last segment
goes_on_at : (size max_size : ℕ) (old : List StoredFile) (before : List (List (List ℕ))) (last : List (List ℕ)) (frame : List ℕ) →
    rotated size max_size old (numbered (greatest old) (with_frame size (before ++ last ∷ []) frame))
    ≡ grown size max_size (kept (max_size - size) (old ++ numbered (greatest old) before)) (file_of (greatest old + length before + 1) (concat last)) frame
goes_on_at size max_size old before last frame =
    rw (with_frame-last size before last frame, length-concat last) (by_test (leb (size_of last + length frame) size)) where
      by_test : (b : Bool) →
          rotated size max_size old (numbered (greatest old) (cond b (before ++ (last ++ frame ∷ []) ∷ []) ((before ++ last ∷ []) ++ (frame ∷ []) ∷ [])))
          ≡ cond b (kept (max_size - size) (old ++ numbered (greatest old) before) ++ file_of (greatest old + length before + 1) (concat last ++ frame) ∷ [])
          (kept (max_size - size) (kept (max_size - size) (old ++ numbered (greatest old) before) ++ file_of (greatest old + length before + 1) (concat last) ∷ [])
          ++ file_of (greatest old + length before + 1 + 1) frame ∷ [])
      by_test true =
          stands_at size max_size old before (last ++ frame ∷ [])
          ∙ ap (λ b. kept (max_size - size) (old ++ numbered (greatest old) before) ++ file_of (greatest old + length before + 1) b ∷ []) (concat-one last frame)
      by_test false =
          let number : greatest old + length (before ++ last ∷ []) + 1 ≡ greatest old + length before + 1 + 1 = omega (arith, length-append before (last ∷ [])) in
          let files : old ++ numbered (greatest old) (before ++ last ∷ []) ≡ (old ++ numbered (greatest old) before) ++ file_of (greatest old + length before + 1) (concat last) ∷ [] =
          ap (λ fs. old ++ fs) (numbered-at (greatest old) (greatest old + length before) before last refl)
          ∙ sym (append_assoc old (numbered (greatest old) before) (file_of (greatest old + length before + 1) (concat last) ∷ [])) in
          stands_at size max_size old (before ++ last ∷ []) (frame ∷ [])
          ∙ rw (number, append-nil frame, files, kept-one (max_size - size) (old ++ numbered (greatest old) before) (file_of (greatest old + length before + 1) (concat last))) refl

-- ---- the laws

made_bytes_at : (last : ℕ) (segs : List (List (List ℕ))) → flat_map (λ (f : StoredFile). f.bytes) (numbered last segs) ≡ concat (flat_map (λ (s : List (List ℕ)). s) segs)
made_bytes_at last [] = refl
made_bytes_at last (s ∷ segs) = ap (λ b. concat s ++ b) (made_bytes_at (last + 1) segs) ∙ sym (concat-append s (flat_map (λ (s : List (List ℕ)). s) segs))

pub made_bytes : (size : ℕ) (old : List StoredFile) (frames : List (List ℕ)) → flat_map (λ (f : StoredFile). f.bytes) (made size old frames) ≡ concat frames
made_bytes size old frames = made_bytes_at (greatest old) (segments size frames) ∙ ap concat (segments-all size frames)

-- the files that stand, by the last segment
stand : (size max_size : ℕ) (old : List StoredFile) (first : List ℕ) (frames : List (List ℕ)) →
    (before : List StoredFile) × (newest : StoredFile) × (made size old (first ∷ frames) ≡ before ++ newest ∷ [])
    × (trace_files size max_size old (first ∷ frames) ≡ kept (max_size - size) (old ++ before) ++ newest ∷ [])
stand size max_size old first frames =
    let last = last_segment size (first ∷ []) frames in
    let newest = file_of (greatest old + length last.0 + 1) (concat last.1) in
    let all : made size old (first ∷ frames) ≡ numbered (greatest old) last.0 ++ newest ∷ [] =
    ap (numbered (greatest old)) last.2 ∙ numbered-at (greatest old) (greatest old + length last.0) last.0 last.1 refl in
    (numbered (greatest old) last.0, newest, all, ap (rotated size max_size old) all ∙ rotated-one size max_size old (numbered (greatest old) last.0) newest)

pub suffix : (size max_size : ℕ) (old : List StoredFile) (frames : List (List ℕ)) → (gone : List StoredFile) × (old ++ made size old frames ≡ gone ++ trace_files size max_size old frames)
suffix size max_size old [] = ([], append-nil old)
suffix size max_size old (first ∷ frames) =
    let is = stand size max_size old first frames in
    let part = kept_suffix (max_size - size) (old ++ is.0) in (
      part.0,
      ap (λ fs. old ++ fs) is.2 ∙ sym (append_assoc old is.0 (is.1 ∷ [])) ∙ ap (λ fs. fs ++ is.1 ∷ []) part.1
          ∙ append_assoc part.0 (kept (max_size - size) (old ++ is.0)) (is.1 ∷ []) ∙ ap (λ fs. part.0 ++ fs) (sym is.3),
    )

pub closed_room : (size max_size : ℕ) (old : List StoredFile) (first : List ℕ) (frames : List (List ℕ)) → total_size (closed (trace_files size max_size old (first ∷ frames))) ≤ max_size - size
closed_room size max_size old first frames =
    let is = stand size max_size old first frames in
    rw (is.3, closed-one (kept (max_size - size) (old ++ is.0)) is.1) (kept_room (max_size - size) (old ++ is.0))

pub closed_longest : (size max_size : ℕ) (old gone : List StoredFile) (file : StoredFile) (first : List ℕ) (frames : List (List ℕ)) →
    old ++ made size old (first ∷ frames) ≡ gone ++ file ∷ trace_files size max_size old (first ∷ frames) →
    max_size - size < total_size (file ∷ closed (trace_files size max_size old (first ∷ frames)))
closed_longest size max_size old gone file first frames e =
    let is = stand size max_size old first frames in
    let limit = max_size - size in
    let all : (old ++ is.0) ++ is.1 ∷ [] ≡ (gone ++ file ∷ kept limit (old ++ is.0)) ++ is.1 ∷ [] =
    append_assoc old is.0 (is.1 ∷ []) ∙ ap (λ fs. old ++ fs) (sym is.2) ∙ e ∙ ap (λ fs. gone ++ file ∷ fs) is.3 ∙ sym (append_assoc gone (file ∷ kept limit (old ++ is.0)) (is.1 ∷ [])) in
    let before : old ++ is.0 ≡ gone ++ file ∷ kept limit (old ++ is.0) =
    sym (closed-one (old ++ is.0) is.1) ∙ ap closed all ∙ closed-one (gone ++ file ∷ kept limit (old ++ is.0)) is.1 in
    rw (is.3, closed-one (kept limit (old ++ is.0)) is.1) (kept_longest limit (old ++ is.0) gone file before)

-- ---- one frame more, for the files that stand

pub begins : (size max_size : ℕ) (old : List StoredFile) (frame : List ℕ) →
    trace_files size max_size old (frame ∷ []) ≡ kept (max_size - size) old ++ file_of (greatest old + 1) frame ∷ []
begins size max_size old frame = rw (append-nil old, append-nil frame) refl

pub goes_on : (size max_size : ℕ) (old before : List StoredFile) (newest : StoredFile) (first frame : List ℕ) (frames : List (List ℕ)) →
    trace_files size max_size old (first ∷ frames) ≡ before ++ newest ∷ [] →
    trace_files size max_size old (first ∷ (frames ++ frame ∷ [])) ≡ grown size max_size before newest frame
goes_on size max_size old before newest first frame frames e =
    let last = last_segment size (first ∷ []) frames in
    let limit = max_size - size in
    let files = kept limit (old ++ numbered (greatest old) last.0) in
    let file = file_of (greatest old + length last.0 + 1) (concat last.1) in
    let now : files ++ file ∷ [] ≡ before ++ newest ∷ [] =
    sym (stands_at size max_size old last.0 last.1) ∙ ap (λ s. rotated size max_size old (numbered (greatest old) s)) (sym last.2) ∙ e in
    let same_before : files ≡ before = sym (closed-one files file) ∙ ap closed now ∙ closed-one before newest in
    let same_newest : file ∷ [] ≡ newest ∷ [] = sym (opened-one files file) ∙ ap opened now ∙ opened-one before newest in
    let same_file : file ≡ newest = cc in
    let more : segments size (first ∷ (frames ++ frame ∷ [])) ≡ with_frame size (last.0 ++ last.1 ∷ []) frame =
    segments_from-one size (first ∷ []) frames frame ∙ ap (λ s. with_frame size s frame) last.2 in
    ap (λ s. rotated size max_size old (numbered (greatest old) s)) more
    ∙ goes_on_at size max_size old last.0 last.1 frame ∙ ap (λ fs. grown size max_size fs file frame) same_before ∙ ap (λ f. grown size max_size before f frame) same_file

pub newest_stands : (size max_size : ℕ) (old : List StoredFile) (first : List ℕ) (frames : List (List ℕ)) →
    (before : List StoredFile) × (newest : StoredFile) × (trace_files size max_size old (first ∷ frames) ≡ before ++ newest ∷ [])
newest_stands size max_size old first frames =
    let is = stand size max_size old first frames in
    (kept (max_size - size) (old ++ is.0), is.1, is.3)

-- ---- no file is longer than a file may be

abbrev AreWithin : ℕ → List (List (List ℕ)) → Type 0
AreWithin size segs = AllByRecursion (λ (s : List (List ℕ)). size_of s ≤ size) segs

within_from : (size : ℕ) (segment frames : List (List ℕ)) → size_of segment ≤ size → AllByRecursion (λ (f : List ℕ). length f ≤ size) frames → AreWithin size (segments_from size segment frames)
within_from size segment [] first rest = (first, tt)
within_from size segment (x ∷ frames) first rest =
    by_test (leb_tells (size_of segment + length x) size) (λ fits. within_from size (segment ++ x ∷ []) frames fits rest.1)
    (within_from size (x ∷ []) frames (omega (arith, rest.0)) rest.1) where
      by_test : ((leb (size_of segment + length x) size ≡ true) × (size_of segment + length x ≤ size)) ⊎ ((leb (size_of segment + length x) size ≡ false) × (size < size_of segment + length x)) →
          (size_of (segment ++ x ∷ []) ≤ size → AreWithin size (segments_from size (segment ++ x ∷ []) frames)) → AreWithin size (segments_from size (x ∷ []) frames) →
          AreWithin size (segments_from size segment (x ∷ frames))
      by_test (inl within) goes_on begins = rw within.0 (goes_on (omega (arith, within.1, sum_by-append length segment (x ∷ []))))
      by_test (inr above) goes_on begins = rw above.0 (first, begins)

files_within : (size last : ℕ) (segs : List (List (List ℕ))) → AreWithin size segs → AllByRecursion (λ (f : StoredFile). length f.bytes ≤ size) (numbered last segs)
files_within size last [] all = tt
files_within size last (s ∷ segs) all = (omega (arith, length-concat s, all.0), files_within size (last + 1) segs all.1)

pub within_size : (size : ℕ) (old : List StoredFile) (frames : List (List ℕ)) → AllByRecursion (λ (f : List ℕ). length f ≤ size) frames → AllByRecursion (λ (f : StoredFile). length f.bytes ≤ size) (made size old frames)
within_size size old [] all = tt
within_size size old (x ∷ frames) all = files_within size (greatest old) (segments size (x ∷ frames)) (within_from size (x ∷ []) frames (omega (arith, all.0)) all.1)

-- ---- each segment but the last

-- a segment begins with the frame that began it
begins_with : (size : ℕ) (x : List ℕ) (xs frames : List (List ℕ)) (segment : List (List ℕ)) (more : List (List (List ℕ))) → segments_from size (x ∷ xs) frames ≡ segment ∷ more → (rest : List (List ℕ)) × (segment ≡ x ∷ rest)
begins_with size x xs [] segment more e =
    let same : x ∷ xs ≡ segment = cc in
    (xs, sym same)
begins_with size x xs (y ∷ frames) segment more e = by_test (leb (size_of (x ∷ xs) + length y) size) e (begins_with size x (xs ++ y ∷ []) frames segment more) where
  by_test : (b : Bool) → cond b (segments_from size (x ∷ (xs ++ y ∷ [])) frames) ((x ∷ xs) ∷ segments_from size (y ∷ []) frames) ≡ segment ∷ more →
      (segments_from size (x ∷ (xs ++ y ∷ [])) frames ≡ segment ∷ more → (rest : List (List ℕ)) × (segment ≡ x ∷ rest)) → (rest : List (List ℕ)) × (segment ≡ x ∷ rest)
  by_test true is later = later is
  by_test false is later =
      let same : x ∷ xs ≡ segment = cc in
      (xs, sym same)

abbrev HadNoRoom : ℕ → List (List ℕ) → List (List ℕ) → Type 0
HadNoRoom size segment next = (first : List ℕ) × (rest : List (List ℕ)) × (next ≡ first ∷ rest) × (size < size_of segment + length first)

module _ (size : ℕ) (segment next : List (List ℕ)) (after : List (List (List ℕ))) where
  had_no_room : (begun frames : List (List ℕ)) (before : List (List (List ℕ))) → segments_from size begun frames ≡ before ++ segment ∷ next ∷ after → HadNoRoom size segment next
  had_no_room begun [] before e = absurd (omega (arith, ap length e, length-append before (segment ∷ next ∷ after)))
  had_no_room begun (x ∷ frames) before e =
      by_test (leb_tells (size_of begun + length x) size) before e (had_no_room (begun ++ x ∷ []) frames) (had_no_room (x ∷ []) frames) where
        by_test : ((leb (size_of begun + length x) size ≡ true) × (size_of begun + length x ≤ size)) ⊎ ((leb (size_of begun + length x) size ≡ false) × (size < size_of begun + length x)) →
            (before : List (List (List ℕ))) → segments_from size begun (x ∷ frames) ≡ before ++ segment ∷ next ∷ after →
            ((before : List (List (List ℕ))) → segments_from size (begun ++ x ∷ []) frames ≡ before ++ segment ∷ next ∷ after → HadNoRoom size segment next) →
            ((before : List (List (List ℕ))) → segments_from size (x ∷ []) frames ≡ before ++ segment ∷ next ∷ after → HadNoRoom size segment next) → HadNoRoom size segment next
        by_test (inl within) before e same_file next_file =
            let same : segments_from size (begun ++ x ∷ []) frames ≡ before ++ segment ∷ next ∷ after = rw within.0 at e in
            same_file before same
        by_test (inr above) [] e same_file next_file =
            let same : begun ∷ segments_from size (x ∷ []) frames ≡ segment ∷ next ∷ after = rw above.0 at e in
            let this : begun ≡ segment = cc in
            let behind : segments_from size (x ∷ []) frames ≡ next ∷ after = ap (drop 1) same in
            let front = begins_with size x [] frames next after behind in
            (x, front.0, front.1, omega (arith, above.1, ap size_of this))
        by_test (inr above) (b ∷ bs) e same_file next_file =
            let same : begun ∷ segments_from size (x ∷ []) frames ≡ b ∷ (bs ++ segment ∷ next ∷ after) = rw above.0 at e in
            next_file bs (ap (drop 1) same)

pub next_had_no_room : (size : ℕ) (frames : List (List ℕ)) (before after : List (List (List ℕ))) (segment next : List (List ℕ)) → segments size frames ≡ before ++ segment ∷ next ∷ after → HadNoRoom size segment next
next_had_no_room size [] before after segment next e = absurd (omega (arith, ap length e, length-append before (segment ∷ next ∷ after)))
next_had_no_room size (x ∷ frames) before after segment next e = had_no_room size segment next after (x ∷ []) frames before e
