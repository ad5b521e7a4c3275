-- A stream of messages, cut into pieces. The cut is of all the bytes: it knows no buffer, and not how they came.
use Rattle.std.specs.Prelude.{◌≡◌, ◌≢◌, ℕ, ◌<◌, zero, suc, ◌+◌, ◌-◌, ◌≤◌, ◌⊎◌, List, [], ◌∷◌, ◌++◌, length, take, drop, map, nat_eq, nat_lt, nat_le, ◌&&◌, if◌then◌else◌, Option, Some, None}
use Rattle.std.specs.List.{starts_with, concat, AllByRecursion}
use Rattle.std.specs.Option.{option_or, is_none}
use Rattle.dl_bytes.specs.Htyp.{len_of}
use Rattle.dl_headers.specs.Reading.{front_fault}
use Rattle.dl_headers.specs.declared.fault.HeaderFault.{HeaderFault}
use Rattle.dl_headers.specs.declared.fault.HeaderFault.TheVariants.{Length}

-- the serial header, which may stand before a message that comes from a client
abbrev pub serial_header : List ℕ
serial_header = 0x44 ∷ 0x4c ∷ 0x53 ∷ 0x01 ∷ []

-- what stands behind a serial header; all, where none is there
abbrev pub without_serial : List ℕ → List ℕ
without_serial bytes = if starts_with nat_eq bytes serial_header then drop 4 bytes else bytes

-- one whole message: no fault in its front, and LEN is its length, at most the limit
pub record IsWholeMessage (limit : ℕ) (message : List ℕ) : Type 0 where
  pub front : front_fault message ≡ None
  pub len : length message ≡ len_of message
  pub within : len_of message ≤ limit

-- one piece of a stream: a serial header or none, and one whole message
abbrev pub IsPiece : ℕ → List ℕ → Type 0
IsPiece limit piece = IsWholeMessage limit (without_serial piece)

-- no piece begins the bytes
abbrev pub NoPiece : ℕ → List ℕ → Type 0
NoPiece limit bytes = (piece more : List ℕ) → IsPiece limit piece → bytes ≢ piece ++ more

-- The stream is these pieces, and a rest that no piece begins.
pub record IsCut (limit : ℕ) (stream : List ℕ) (pieces : List (List ℕ)) (rest : List ℕ) : Type 0 where
  pub parts : stream ≡ concat pieces ++ rest
  pub each : AllByRecursion (IsPiece limit) pieces
  pub ends : NoPiece limit rest

-- less than a message: fewer than four bytes, or fewer than LEN says
abbrev pub IsShort : List ℕ → Type 0
IsShort bytes = (length bytes < 4) ⊎ (length bytes < len_of bytes)

-- why no message within the limit begins with these bytes, as soon as the first four are there
abbrev pub message_fault : ℕ → List ℕ → Option HeaderFault
message_fault limit bytes =
    if nat_lt (length bytes) 4 then None
    else option_or (front_fault bytes) (if nat_lt limit (len_of bytes) then Some (Length (len_of bytes)) else None)

-- A rest is bad with this fault: so it stays, whatever follows it.
abbrev pub rest_fault : ℕ → List ℕ → Option HeaderFault
rest_fault limit rest = message_fault limit (without_serial rest)

-- A rest is open: it is not bad, and it may yet become a piece.
pub record IsOpen (limit : ℕ) (rest : List ℕ) : Type 0 where
  pub good : rest_fault limit rest ≡ None
  pub ends : NoPiece limit rest

-- the piece that begins the bytes, where one does
abbrev pub first_piece : ℕ → List ℕ → Option (List ℕ)
first_piece limit bytes =
    let message = without_serial bytes in
    if is_none (message_fault limit message) && nat_le 4 (length message) && nat_le (len_of message) (length message)
    then Some (take (length bytes - length message + len_of message) bytes)
    else None

-- a piece and those behind it, where there is one
abbrev pub with_others : Option (List ℕ) → (List ℕ → List (List ℕ)) → List (List ℕ)
with_others None others = []
with_others (Some piece) others = piece ∷ others piece

-- at most n pieces, one behind another
abbrev pub pieces_within : ℕ → ℕ → List ℕ → List (List ℕ)
pieces_within limit zero bytes = []
pieces_within limit (suc n) bytes =
    with_others (first_piece limit bytes) (λ piece. pieces_within limit n (drop (length piece) bytes))

-- the pieces of the one cut of a stream, which are no more than its bytes
abbrev pub pieces : ℕ → List ℕ → List (List ℕ)
pieces limit stream = pieces_within limit (length stream) stream

-- the messages of a stream: its pieces without their serial headers
abbrev pub messages : ℕ → List ℕ → List (List ℕ)
messages limit stream = map without_serial (pieces limit stream)

-- the rest of the one cut of a stream
abbrev pub rest_of : ℕ → List ℕ → List ℕ
rest_of limit stream = drop (length (concat (pieces limit stream))) stream
