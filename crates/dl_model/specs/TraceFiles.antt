-- The files of the offline trace: what was stored, cut into files, of which the newest are kept.
use Rattle.std.specs.Prelude.{ℕ, ◌+◌, ◌-◌, ◌/◌, ◌%◌, codes, map, nat_le, nat_lt, Bool, List, [], ◌∷◌, ◌++◌, length, take, drop, sum_by, max, fold, if◌then◌else◌}
use Rattle.std.specs.List.{concat}
use Rattle.dl_model.specs.Backlog.{size_of}

-- a trace file as it was stored: its number, from 1 on, and its bytes
pub record StoredFile : Type 0 where
  pub number : ℕ
  pub bytes : List ℕ

-- the greatest number of a trace file: names have six digits
abbrev pub number_limit : ℕ
number_limit = 999999

-- ---- segments: the stored frames of one file each

-- the segments of frames, where one is begun that may grow to so many bytes
abbrev pub segments_from : ℕ → List (List ℕ) → List (List ℕ) → List (List (List ℕ))
segments_from size segment [] = segment ∷ []
segments_from size segment (frame ∷ frames) =
    if nat_le (size_of segment + length frame) size then segments_from size (segment ++ frame ∷ []) frames
    else segment ∷ segments_from size (frame ∷ []) frames

-- Stored frames, cut: each segment is the longest next part of at most so many bytes. A frame that has more stands in
-- a segment of its own.
abbrev pub segments : ℕ → List (List ℕ) → List (List (List ℕ))
segments size [] = []
segments size (frame ∷ frames) = segments_from size (frame ∷ []) frames

-- ---- files

-- segments as files, numbered after the last number
abbrev pub numbered : ℕ → List (List (List ℕ)) → List StoredFile
numbered last [] = []
numbered last (segment ∷ segments) = record { number = last + 1; bytes = concat segment } ∷ numbered (last + 1) segments

-- the greatest number of files; 0 where there is none
abbrev pub greatest : List StoredFile → ℕ
greatest files = fold (λ most file. max most file.number) 0 files

-- the bytes of files together
abbrev pub total_size : List StoredFile → ℕ
total_size files = sum_by (λ file. length file.bytes) files

-- the longest suffix of files with at most so many bytes: the oldest go
abbrev pub kept : ℕ → List StoredFile → List StoredFile
kept limit [] = []
kept limit (file ∷ files) = if nat_le (total_size (file ∷ files)) limit then file ∷ files else kept limit files

-- the files that are closed: all but the newest
abbrev pub closed : List StoredFile → List StoredFile
closed files = take (length files - 1) files

-- the file that is open: the newest
abbrev pub opened : List StoredFile → List StoredFile
opened files = drop (length files - 1) files

-- The files that stand, where these stood before and those were made since. Of the closed ones, the old ones with
-- them, as many of the newest are kept as have room beside the open one. Where none was made, the old ones stand.
abbrev pub rotated : ℕ → ℕ → List StoredFile → List StoredFile → List StoredFile
rotated size max_size old [] = old
rotated size max_size old (file ∷ files) = kept (max_size - size) (old ++ closed (file ∷ files)) ++ opened (file ∷ files)

-- the files that stored frames make: a segment each, numbered from the number after the greatest that stood
abbrev pub made : ℕ → List StoredFile → List (List ℕ) → List StoredFile
made size old frames = numbered (greatest old) (segments size frames)

-- the trace files after these frames were stored, where the old ones stood before
abbrev pub trace_files : ℕ → ℕ → List StoredFile → List (List ℕ) → List StoredFile
trace_files size max_size old frames = rotated size max_size old (made size old frames)

-- the frames need a file whose number is above the greatest that a name can have
abbrev pub is_spent : ℕ → List StoredFile → List (List ℕ) → Bool
is_spent size old frames = nat_lt number_limit (greatest old + length (segments size frames))

-- ---- one frame more

-- The files with one frame more, where some are closed and one is open: in the open file where it fits; else in a new
-- one with the next number, and of the closed ones the oldest go that have no room.
abbrev pub grown : ℕ → ℕ → List StoredFile → StoredFile → List ℕ → List StoredFile
grown size max_size before newest frame =
    if nat_le (length newest.bytes + length frame) size
    then before ++ record { number = newest.number; bytes = newest.bytes ++ frame } ∷ []
    else kept (max_size - size) (before ++ newest ∷ []) ++ record { number = newest.number + 1; bytes = frame } ∷ []

-- ---- names

-- a number in six decimal digits
abbrev pub six_digits : ℕ → List ℕ
six_digits n = map (λ power. 48 + n / power % 10) (100000 ∷ 10000 ∷ 1000 ∷ 100 ∷ 10 ∷ 1 ∷ [])

-- the name of the trace file with this number, in its directory
abbrev pub trace_name : List ℕ → ℕ → List ℕ
trace_name directory number = directory ++ codes "/dlt_offlinetrace." ++ six_digits number ++ codes ".dlt"
