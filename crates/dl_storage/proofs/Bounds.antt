-- All files of a trace hold far fewer bytes than 64 bits count.
use Rattle.std.proofs.Common.{◌≡◌, ℕ, suc, ◌+◌, ◌*◌, ◌-◌, ◌<◌, ◌≤◌, Bool, true, false, cond, leb, List, [], ◌∷◌, ◌++◌, length, refl, arith}
use Rattle.std.specs.Prelude.{◌^◌, nat_lt}
use Rattle.std.specs.List.{AllByRecursion}
use Rattle.std.proofs.lemmas.Bool.Decides.{nat_tests}
use Rattle.std.proofs.lemmas.Nat.{mul-le}
use Rattle.std.proofs.lemmas.List.Sums.{sum_by-cons, sum_by-append}
use Rattle.dl_model.specs.Backlog.{size_of}
use Rattle.dl_model.specs.TraceFiles.{StoredFile, greatest, is_spent, number_limit, segments, segments_from}
use Rattle.dl_storage.specs.Writing.{IsSized}

pub size_push : (frames : List (List ℕ)) (frame : List ℕ) → size_of (frames ++ frame ∷ []) ≡ size_of frames + length frame
size_push frames frame = omega (arith, sum_by-append length frames (frame ∷ []), sum_by-cons length frame [])

-- segments of at most so many bytes hold all frames
held_from : (size : ℕ) (segment frames : List (List ℕ)) → 2000 ≤ size → size_of segment ≤ size → AllByRecursion IsSized frames
    → size_of segment + size_of frames ≤ size * length (segments_from size segment frames)
held_from size segment [] least fits sized = omega (arith, fits)
held_from size segment (x ∷ frames) least fits sized =
    by_test (leb (size_of segment + length x) size) refl (λ more. held_from size (segment ++ x ∷ []) frames least more sized.1)
    (held_from size (x ∷ []) frames least (omega (arith, sum_by-cons length x [], sized.0.1)) sized.1) where
      by_test : (b : Bool) → leb (size_of segment + length x) size ≡ b
          → (size_of (segment ++ x ∷ []) ≤ size → size_of (segment ++ x ∷ []) + size_of frames ≤ size * length (segments_from size (segment ++ x ∷ []) frames))
          → size_of (x ∷ []) + size_of frames ≤ size * length (segments_from size (x ∷ []) frames)
          → size_of segment + size_of (x ∷ frames) ≤ size * length (cond b (segments_from size (segment ++ x ∷ []) frames) (segment ∷ segments_from size (x ∷ []) frames))
      by_test true is goes_on begins =
          let small : size_of segment + length x ≤ size = grind (arith, nat_tests, is) in
          let there = goes_on (omega (arith, size_push segment x, small)) in
          omega (arith, there, size_push segment x, sum_by-cons length x frames)
      by_test false is goes_on begins =
          let n = length (segments_from size (x ∷ []) frames) in
          let one : size * suc n ≡ size + size * n = omega arith in
          omega (arith, begins, fits, one, sum_by-cons length x frames, sum_by-cons length x [])

held : (size : ℕ) (frames : List (List ℕ)) → 2000 ≤ size → AllByRecursion IsSized frames → size_of frames ≤ size * length (segments size frames)
held size [] least sized = omega arith
held size (x ∷ frames) least sized =
    let all = held_from size (x ∷ []) frames least (omega (arith, sum_by-cons length x [], sized.0.1)) sized.1 in
    omega (arith, all, sum_by-cons length x frames, sum_by-cons length x [])

few_segments : (size : ℕ) (stood : List StoredFile) (frames : List (List ℕ)) → is_spent size stood frames ≡ false → length (segments size frames) ≤ 999999
few_segments size stood frames is = at_most (greatest stood) (length (segments size frames)) is where
  at_most : (g n : ℕ) → nat_lt number_limit (g + n) ≡ false → n ≤ 999999
  at_most g n is = grind (arith, nat_tests)

-- frames that need no more files than there are
pub bytes_below : (size : ℕ) (stood : List StoredFile) (frames : List (List ℕ)) → 2000 ≤ size → size ≤ 100000000 → AllByRecursion IsSized frames → is_spent size stood frames ≡ false
    → size_of frames < 2 ^ 64 - 1
bytes_below size stood frames least most sized is =
    let n = length (segments size frames) in
    let top : size * n ≤ 100000000 * 999999 = mul-le size n 100000000 999999 most (few_segments size stood frames is) in
    omega (arith, held size frames least sized, top)

pub no_more_than_bytes : (frames : List (List ℕ)) → AllByRecursion IsSized frames → length frames ≤ size_of frames
no_more_than_bytes [] sized = omega arith
no_more_than_bytes (x ∷ frames) sized = omega (arith, sized.0.0, no_more_than_bytes frames sized.1, sum_by-cons length x frames)
