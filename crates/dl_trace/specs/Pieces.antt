-- The frames of one call, cut into pieces: each piece goes into one file, by one append.
use Rattle.std.specs.Prelude.{ℕ, Bool, ◌-◌, nat_le, List, [], ◌∷◌, ◌++◌, length, slice_get, if◌then◌else◌}
use Rattle.std.specs.Option.{option_map_or}
use Rattle.dl_bytes.specs.declared.outcome.TraceFile.{TraceFile}
use Rattle.dl_trace.specs.State.{Trace}

-- the pieces, where the one at hand has these frames so far and its file has room for so many bytes more
abbrev pub pieces_from : ℕ → ℕ → List (List ℕ) → List (List ℕ) → List (List (List ℕ))
pieces_from size room piece [] = piece ∷ []
pieces_from size room piece (frame ∷ frames) =
    if nat_le (length frame) room then pieces_from size (room - length frame) (piece ++ frame ∷ []) frames
    else piece ∷ pieces_from size (size - length frame) (frame ∷ []) frames

-- The pieces of a call's frames, where the open file has room for so many bytes: each is the longest next part that goes
-- into one file. The first goes into the open file, where its first frame fits.
abbrev pub pieces : ℕ → ℕ → List (List ℕ) → List (List (List ℕ))
pieces size room [] = []
pieces size room (frame ∷ frames) =
    if nat_le (length frame) room then pieces_from size (room - length frame) (frame ∷ []) frames
    else pieces_from size (size - length frame) (frame ∷ []) frames

-- the bytes of the last file
abbrev pub last_size : List TraceFile → ℕ
last_size files = option_map_or (λ file. file.bytes) (slice_get files (length files - 1)) 0

-- how many bytes more the open file may have; none where none is open
abbrev pub room_of : Trace → ℕ
room_of trace = if trace.begun then trace.file_size - last_size trace.state.files else 0

-- how many bytes the next piece may have: those of a file where it begins one, else those that the open file has room for
abbrev pub room_for : Bool → Trace → ℕ
room_for begins trace = if begins then trace.file_size else room_of trace

-- the pieces of frames that a trace stores
abbrev pub pieces_of : Trace → List (List ℕ) → List (List (List ℕ))
pieces_of trace frames = pieces trace.file_size (room_of trace) frames

-- the frames of pieces, in order
abbrev pub frames_in : List (List (List ℕ)) → List (List ℕ)
frames_in [] = []
frames_in (piece ∷ pieces) = piece ++ frames_in pieces
