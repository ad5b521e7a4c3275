-- Ids as text, in printed lines and in the stored configuration.
use Rattle.std.specs.Prelude.{ℕ, ◌+◌, ◌*◌, ◌/◌, ◌%◌, Bool, not, ◌==◌, ◌&&◌, List, [], ◌∷◌, length, reverse, slice_index, Option, Some, None, if◌then◌else◌}
use Rattle.std.specs.List.{flat_map}
use Rattle.hex.specs.Hex.{upper_digits, hex_digit_value}
use Rattle.dl_bytes.specs.Id.{is_visible}
use Rattle.dl_bytes.specs.Number.{◌>>=◌}

-- ---- written

-- a byte that stands for itself: a visible letter other than `:` and `%`
abbrev pub stands_alone : ℕ → Bool
stands_alone b = is_visible b && not (b == 58) && not (b == 37)

-- a byte as text: itself, or `%` and its two hexadecimal digits, in upper case
abbrev pub byte_text : ℕ → List ℕ
byte_text b = if stands_alone b then b ∷ [] else 37 ∷ slice_index upper_digits (b / 16) ∷ slice_index upper_digits (b % 16) ∷ []

abbrev pub without_zeros_before : List ℕ → List ℕ
without_zeros_before [] = []
without_zeros_before (b ∷ rest) = if b == 0 then without_zeros_before rest else b ∷ rest

-- the bytes of an id up to the last that isn't zero
abbrev pub name_of : List ℕ → List ℕ
name_of id = reverse (without_zeros_before (reverse id))

-- an id as text; that of the zero id is empty
abbrev pub id_text : List ℕ → List ℕ
id_text id = flat_map byte_text (name_of id)

-- ---- read

-- the byte of two hexadecimal digits, of either case, with what stands behind them
abbrev pub escaped_at : List ℕ → Option (ℕ × List ℕ)
escaped_at [] = None
escaped_at (high ∷ []) = None
escaped_at (high ∷ low ∷ rest) = do
  h ← hex_digit_value high
  l ← hex_digit_value low
  Some (h * 16 + l, rest)

-- the byte at the front of an id's text, with what stands behind it; at the end of the text it is zero
unfoldable pub byte_at : List ℕ → Option (ℕ × List ℕ)
byte_at [] = Some (0, [])
byte_at (b ∷ rest) = if b == 37 then escaped_at rest else if stands_alone b then Some (b, rest) else None

-- the id of a text that stands for four bytes at most
unfoldable pub id_of_text : List ℕ → Option (List ℕ)
id_of_text text = do
  a ← byte_at text
  b ← byte_at a.1
  c ← byte_at b.1
  d ← byte_at c.1
  if length d.1 == 0 then Some (a.0 ∷ b.0 ∷ c.0 ∷ d.0 ∷ []) else None
