-- Where a stored frame is in the end: the trace file that it went into, and whether rotation removed that file.
use Rattle.std.specs.Prelude.{◌≡◌, ℕ, ◌+◌, ◌-◌, nat_lt, Bool, true, false, ◌==◌, List, [], ◌∷◌, ◌++◌, length, take, if◌then◌else◌}
use Rattle.std.specs.List.{list_any}
use Rattle.dl_model.specs.TraceFiles.{StoredFile, greatest, is_spent, made, number_limit, rotated, segments}
use Rattle.dl_fates.specs.declared.place.StoredPlace.{StoredPlace}
use Rattle.dl_fates.specs.declared.place.StoredPlace.TheVariants.{InFile, Removed, TraceEnded}

-- ---- the file of a stored frame

-- the segment in which the frame stands that has so many before it: segments are counted from 1
abbrev pub segment_of : ℕ → List (List (List ℕ)) → ℕ
segment_of place [] = 0
segment_of place (segment ∷ segments) = if nat_lt place (length segment) then 1 else 1 + segment_of (place - length segment) segments

-- the number of its file, where these files stood before
abbrev pub file_number : ℕ → List StoredFile → List (List ℕ) → ℕ → ℕ
file_number size old frames place = greatest old + segment_of place (segments size frames)

-- ---- the files that stand in the end

-- the files that frames make until no name is left for the next
abbrev pub named : ℕ → List StoredFile → List (List ℕ) → List StoredFile
named size old frames = take (number_limit - greatest old) (made size old frames)

-- those of them, and of the files that stood before, that stand in the end
abbrev pub left_files : ℕ → ℕ → List StoredFile → List (List ℕ) → List StoredFile
left_files size max_size old frames = rotated size max_size old (named size old frames)

abbrev pub has_number : ℕ → StoredFile → Bool
has_number number file = file.number == number

-- ---- where a stored frame is

-- Where the frame is in the end that has so many before it: in its file, or in one that was removed. Where its file has no name, the trace has ended.
abbrev pub place_of : (size max_size : ℕ) → List StoredFile → List (List ℕ) → ℕ → StoredPlace
place_of size max_size old frames place =
    let number = file_number size old frames place in
    if nat_lt number_limit number then TraceEnded
    else if list_any (has_number number) (left_files size max_size old frames) then InFile number
    else Removed number

-- ---- what a place says

-- one of these files has this number, and the bytes of the frame stand in it
pub record HasFrame (files : List StoredFile) (number : ℕ) (frame : List ℕ) : Type 0 where
  pub older : List StoredFile
  pub file : StoredFile
  pub newer : List StoredFile
  pub files_are : files ≡ older ++ file ∷ newer
  pub number_is : file.number ≡ number
  pub front : List ℕ
  pub back : List ℕ
  pub bytes_are : file.bytes ≡ front ++ frame ++ back

-- What a place says of a frame that is stored between others.
abbrev pub Says : (size max_size : ℕ) → List StoredFile → List (List ℕ) → List ℕ → List (List ℕ) → StoredPlace → Type 0
Says size max_size old before frame after (InFile number) =
    HasFrame (left_files size max_size old (before ++ frame ∷ after)) number frame × (is_spent size old (before ++ frame ∷ []) ≡ false)
Says size max_size old before frame after (Removed number) =
    HasFrame (named size old (before ++ frame ∷ after)) number frame
    × (list_any (has_number number) (left_files size max_size old (before ++ frame ∷ after)) ≡ false) × (is_spent size old (before ++ frame ∷ []) ≡ false)
Says size max_size old before frame after TraceEnded = is_spent size old (before ++ frame ∷ []) ≡ true
