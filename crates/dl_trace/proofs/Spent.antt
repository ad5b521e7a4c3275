-- A trace whose numbers are spent stays so with more frames.
use Rattle.std.proofs.Common.{◌≡◌, ℕ, ◌+◌, ◌≤◌, Bool, true, false, cond, leb, List, [], ◌∷◌, ◌++◌, length, arith}
use Rattle.std.specs.Prelude.{nat_lt}
use Rattle.std.proofs.lemmas.Bool.Decides.{nat_tests}
use Rattle.dl_model.specs.Backlog.{size_of}
use Rattle.dl_model.specs.TraceFiles.{StoredFile, greatest, number_limit, segments_from, segments, is_spent}

pub least_segments : (size : ℕ) (segment frames : List (List ℕ)) → 1 ≤ length (segments_from size segment frames)
least_segments size segment [] = omega arith
least_segments size segment (x ∷ frames) = by_test (leb (size_of segment + length x) size) (least_segments size (segment ++ x ∷ []) frames) where
  by_test : (b : Bool) → 1 ≤ length (segments_from size (segment ++ x ∷ []) frames)
      → 1 ≤ length (cond b (segments_from size (segment ++ x ∷ []) frames) (segment ∷ segments_from size (x ∷ []) frames))
  by_test true goes_on = goes_on
  by_test false goes_on = omega arith

pub more_segments_from : (size : ℕ) (segment frames more : List (List ℕ)) → length (segments_from size segment frames) ≤ length (segments_from size segment (frames ++ more))
more_segments_from size segment [] more = least_segments size segment more
more_segments_from size segment (x ∷ frames) more =
    by_test (leb (size_of segment + length x) size) (more_segments_from size (segment ++ x ∷ []) frames more) (more_segments_from size (x ∷ []) frames more) where
      by_test : (b : Bool) → length (segments_from size (segment ++ x ∷ []) frames) ≤ length (segments_from size (segment ++ x ∷ []) (frames ++ more))
          → length (segments_from size (x ∷ []) frames) ≤ length (segments_from size (x ∷ []) (frames ++ more))
          → length (cond b (segments_from size (segment ++ x ∷ []) frames) (segment ∷ segments_from size (x ∷ []) frames))
          ≤ length (cond b (segments_from size (segment ++ x ∷ []) (frames ++ more)) (segment ∷ segments_from size (x ∷ []) (frames ++ more)))
      by_test true goes_on begins = goes_on
      by_test false goes_on begins = omega (arith, begins)

pub more_segments : (size : ℕ) (frames more : List (List ℕ)) → length (segments size frames) ≤ length (segments size (frames ++ more))
more_segments size [] more = omega arith
more_segments size (x ∷ frames) more = more_segments_from size (x ∷ []) frames more

pub above_limit : (m n : ℕ) → m ≤ n → nat_lt number_limit m ≡ true → nat_lt number_limit n ≡ true
above_limit m n below is = grind (arith, nat_tests)

pub spent_later : (size : ℕ) (stood : List StoredFile) (frames more : List (List ℕ)) → is_spent size stood frames ≡ true → is_spent size stood (frames ++ more) ≡ true
spent_later size stood frames more is =
    let grows = more_segments size frames more in
    above_limit (greatest stood + length (segments size frames)) (greatest stood + length (segments size (frames ++ more))) (omega (arith, grows)) is
