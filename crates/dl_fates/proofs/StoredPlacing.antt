-- What was found of a call is its place.
use Rattle.std.proofs.Common.{◌≡◌, ℕ, ◌+◌, ◌-◌, ◌≤◌, ◌<◌, Bool, true, false, cond, leb, ltb, not, min, List, [], ◌∷◌, ◌++◌, length, map, take, Option, Some, refl, sym, ap, subst, ◌∙◌, append_assoc, arith, inl, inr}
use Rattle.std.specs.Prelude.{◌⊎◌, option_map}
use Rattle.std.specs.List.{list_any}
use Rattle.std.proofs.lemmas.List.{length-map, length-take, take-map, take-take}
use Rattle.dl_events.specs.declared.event.Event.{Event}
use Rattle.dl_events.specs.declared.event.Event.TheVariants as event
use Rattle.dl_events.specs.declared.record.Answer.{Answer}
use Rattle.dl_events.specs.declared.record.Answer.TheVariants as answer
use Rattle.dl_model.specs.Backlog.{size_of}
use Rattle.dl_model.specs.Frames.{FrameSource, stored_frames, stored_of}
use Rattle.dl_model.specs.TraceFiles.{StoredFile, greatest, number_limit, rotated, segments}
use Rattle.dl_laws.specs.Fates.{logs}
use Rattle.dl_fates.specs.FilePlaces.{has_number, left_files, place_of, segment_of}
use Rattle.dl_fates.specs.StoredFound.{file_from, place_by}
use Rattle.dl_fates.specs.Sizes.{going}
use Rattle.dl_fates.specs.StoredIn.{by_answer, stored_before}
use Rattle.dl_fates.specs.declared.place.StoredPlace.{StoredPlace}
use Rattle.dl_fates.specs.declared.place.StoredPlace.TheVariants.{InFile, Removed, TraceEnded}
use Rattle.dl_fates.proofs.LeftFiles.{is_left, numbered-take}
use Rattle.dl_fates.proofs.Segments.{at_least_one, at_most_all, segment_is, some_segments}
use Rattle.dl_fates.proofs.Standing.{ltb_tells}
use Rattle.dl_fates.proofs.StoredEvents.{stored-one, stored-split}

-- the sizes of the closed files, of those that have names
abbrev pub removed_of : ℕ → ℕ → ℕ → List ℕ → ℕ
removed_of size max_size newest sizes = going (max_size - size) (take (min (length sizes) (number_limit - newest) - 1) sizes)

closed_sizes : (k : ℕ) (segs : List (List (List ℕ))) → map size_of (take (length (take k segs) - 1) (take k segs)) ≡ take (min (length (map size_of segs)) k - 1) (map size_of segs)
closed_sizes k segs =
    let long : length (take k segs) ≡ min k (length segs) = length-take k segs in
    let count : length (map size_of segs) ≡ length segs = length-map segs size_of in
    let m = length (take k segs) - 1 in
    let same : min (length (map size_of segs)) k - 1 ≡ m = omega (arith, long, count) in
    let within : m ≤ k = omega (arith, long) in
    ap (map size_of) (take-take m k segs within)
    ∙ sym (take-map size_of m segs) ∙ ap (λ (n : ℕ). take n (map size_of segs)) (sym same)

module _ (size max_size : ℕ) (old : List StoredFile) (before : List (List ℕ)) (frame : List ℕ) (after : List (List ℕ)) where
  abbrev frames : List (List ℕ)
  frames = before ++ frame ∷ after

  abbrev segs : List (List (List ℕ))
  segs = segments size frames

  abbrev g : ℕ
  g = greatest old

  abbrev n : ℕ
  n = segment_of (length before) segs

  abbrev r : ℕ
  r = removed_of size max_size g (map size_of segs)

  left_is : g + n ≤ number_limit → list_any (has_number (g + n)) (left_files size max_size old frames) ≡ not (leb n r)
  left_is within =
      let k = number_limit - g in
      let one : 1 ≤ n = at_least_one (length before) segs (some_segments size before frame after) in
      let few : n ≤ length (take k segs) = omega (arith, length-take k segs, at_most_all (length before) segs, within) in
      ap (λ (fs : List StoredFile). list_any (has_number (g + n)) (rotated size max_size old fs)) (numbered-take k g segs)
      ∙ is_left size max_size old (take k segs) n one few
      ∙ ap (λ (sizes : List ℕ). not (leb n (going (max_size - size) sizes))) (closed_sizes k segs)

  turned : (b : Bool) (x y : StoredPlace) → cond b x y ≡ cond (not b) y x
  turned true x y = refl
  turned false x y = refl

  -- the place by the number of its file among those that were made
  pub place_is : place_by g r (length (segments size (before ++ frame ∷ []))) ≡ place_of size max_size old frames (length before)
  place_is = ap (place_by g r) (sym (segment_is size before frame after)) ∙ by_test (ltb_tells number_limit (g + n)) where
    by_test : ((ltb number_limit (g + n) ≡ true) × (number_limit < g + n)) ⊎ ((ltb number_limit (g + n) ≡ false) × (g + n ≤ number_limit)) →
        cond (ltb number_limit (g + n)) TraceEnded (cond (leb n r) (Removed (g + n)) (InFile (g + n)))
        ≡ cond (ltb number_limit (g + n)) TraceEnded (cond (list_any (has_number (g + n)) (left_files size max_size old frames)) (InFile (g + n)) (Removed (g + n)))
    by_test (inl above) =
        ap (λ (b : Bool). cond b TraceEnded (cond (leb n r) (Removed (g + n)) (InFile (g + n)))) above.0
        ∙ sym (ap (λ (b : Bool). cond b TraceEnded (cond (list_any (has_number (g + n)) (left_files size max_size old frames)) (InFile (g + n)) (Removed (g + n)))) above.0)
    by_test (inr within) =
        ap (λ (p : StoredPlace). cond (ltb number_limit (g + n)) TraceEnded p)
        (turned (leb n r) (Removed (g + n)) (InFile (g + n)) ∙ sym (ap (λ (b : Bool). cond b (InFile (g + n)) (Removed (g + n))) (left_is within.1)))

-- ---- along a journal

one_frame : (source : FrameSource) (writer call : ℕ) (e : Event) → logs writer call e ≡ true → (frame : List ℕ) × (stored_of source e ≡ frame ∷ [])
one_frame source writer call (event.Log app other number moment) is = (_, refl)
one_frame source writer call (event.Connect client) is = absurd cc
one_frame source writer call (event.Request client frame done) is = absurd cc
one_frame source writer call (event.Close client why) is = absurd cc
one_frame source writer call (event.Level slot level) is = absurd cc
one_frame source writer call (event.Lost app count moment) is = absurd cc
one_frame source writer call (event.Claim claim moment) is = absurd cc
one_frame source writer call (event.User channel msg moment) is = absurd cc

module _ (source : FrameSource) (size max_size : ℕ) (old : List StoredFile) (writer call : ℕ) where
  abbrev pub removed_in : List (List ℕ) → ℕ
  removed_in frames = removed_of size max_size (greatest old) (map size_of (segments size frames))

  hit : (before : List Event) (e : Event) (after : List Event) (frames : List (List ℕ)) → frames ≡ stored_frames source (before ++ e ∷ after) → logs writer call e ≡ true →
      place_by (greatest old) (removed_in frames) (length (segments size (stored_frames source (before ++ e ∷ [])))) ≡ place_of size max_size old frames (length (stored_frames source before))
  hit before e after frames are is =
      let one = one_frame source writer call e is in
      let first = stored_frames source before in
      let so_far : stored_frames source (before ++ e ∷ []) ≡ first ++ one.0 ∷ [] = stored-one source before e ∙ ap (λ (fs : List (List ℕ)). first ++ fs) one.1 in
      let all : frames ≡ first ++ one.0 ∷ stored_frames source after = are ∙ stored-split source before e after ∙ ap (λ (fs : List (List ℕ)). first ++ (fs ++ stored_frames source after)) one.1 in
      subst (λ (fs : List (List ℕ)). place_by (greatest old) (removed_in fs) (length (segments size (stored_frames source (before ++ e ∷ [])))) ≡ place_of size max_size old fs (length first)) (sym all)
      (ap (λ (fs : List (List ℕ)). place_by (greatest old) (removed_in (first ++ one.0 ∷ stored_frames source after)) (length (segments size fs))) so_far
      ∙ place_is size max_size old first one.0 (stored_frames source after))

  pub found_places : (before events : List Event) (stored : List (List ℕ)) → stored ≡ stored_frames source (before ++ events) →
      option_map (place_by (greatest old) (removed_in stored)) (file_from source size writer call before events) ≡ option_map (place_of size max_size old stored) (stored_before source writer call before events)
  found_places before [] stored are = refl
  found_places before (e ∷ events) stored are =
      by_test (logs writer call e) refl (found_places (before ++ e ∷ []) events stored (are ∙ ap (stored_frames source) (sym (append_assoc before (e ∷ []) events)))) where
        by_test : (b : Bool) → logs writer call e ≡ b →
            option_map (place_by (greatest old) (removed_in stored)) (file_from source size writer call (before ++ e ∷ []) events) ≡ option_map (place_of size max_size old stored) (stored_before source writer call (before ++ e ∷ []) events) →
            option_map (place_by (greatest old) (removed_in stored)) (cond b (Some (length (segments size (stored_frames source (before ++ e ∷ []))))) (file_from source size writer call (before ++ e ∷ []) events))
            ≡ option_map (place_of size max_size old stored) (cond b (Some (length (stored_frames source before))) (stored_before source writer call (before ++ e ∷ []) events))
        by_test true is later = ap Some (hit before e events stored are is)
        by_test false is later = later

-- by the answer of the call
pub by_answers : {A B : Type 0} (f : A → StoredPlace) (g : B → StoredPlace) (a : Answer) (x : Option A) (y : Option B) → option_map f x ≡ option_map g y → option_map f (by_answer a x) ≡ option_map g (by_answer a y)
by_answers f g answer.Queued x y same = same
by_answers f g answer.Filtered x y same = refl
by_answers f g answer.Lost x y same = refl

-- the same by a rotation that has these sizes and this newest file
pub at_rotation : (source : FrameSource) (size max_size : ℕ) (old : List StoredFile) (a : Answer) (writer call : ℕ) (events : List Event) (its_size its_max its_newest : ℕ) →
    size ≡ its_size → max_size ≡ its_max → greatest old ≡ its_newest →
    option_map (place_by its_newest (removed_of its_size its_max its_newest (map size_of (segments its_size (stored_frames source events))))) (by_answer a (file_from source its_size writer call [] events))
    ≡ option_map (place_of size max_size old (stored_frames source events)) (by_answer a (stored_before source writer call [] events))
at_rotation source size max_size old a writer call events its_size its_max its_newest p q s =
    subst (λ (z : ℕ). option_map (place_by its_newest (removed_of z its_max its_newest (map size_of (segments z (stored_frames source events))))) (by_answer a (file_from source z writer call [] events)) ≡ told) p
    (subst (λ (z : ℕ). option_map (place_by its_newest (removed_of size z its_newest sizes)) (by_answer a files) ≡ told) q
    (subst (λ (z : ℕ). option_map (place_by z (removed_of size max_size z sizes)) (by_answer a files) ≡ told) s
    (by_answers (place_by (greatest old) (removed_of size max_size (greatest old) sizes)) (place_of size max_size old (stored_frames source events)) a files (stored_before source writer call [] events)
    (found_places source size max_size old writer call [] events (stored_frames source events) refl)))) where
      sizes : List ℕ
      sizes = map size_of (segments size (stored_frames source events))

      files : Option ℕ
      files = file_from source size writer call [] events

      told : Option StoredPlace
      told = option_map (place_of size max_size old (stored_frames source events)) (by_answer a (stored_before source writer call [] events))
