-- What can be a field, and fields on one line.
use Rattle.std.specs.Prelude.{ℕ, Bool, false, not, ◌==◌, ◌&&◌, List, [], ◌∷◌, ◌++◌, length, if◌then◌else◌}
use Rattle.std.specs.List.{list_any}
use Rattle.std.specs.Option.{option_map_or}
use Rattle.dl_text.specs.Lines.{is_blank}
use Rattle.dl_script_fields.specs.Fields.{quoted_len}

-- a quoted text, behind its first quote, whose closing quote is its last byte
abbrev pub closes : List ℕ → Bool
closes quoted = option_map_or (λ n. n == length quoted) (quoted_len false quoted) false

-- what can be a field: a quoted text, or bytes without a blank that begin with no quote
abbrev pub is_field : List ℕ → Bool
is_field [] = false
is_field (b ∷ rest) = if b == 34 then closes rest else (not (is_blank b) && not (list_any is_blank rest))

-- fields one after the other, each behind a blank
abbrev pub parted_by_blanks : List (List ℕ) → List ℕ
parted_by_blanks [] = []
parted_by_blanks (field ∷ fields) = 32 ∷ (field ++ parted_by_blanks fields)

-- what can be the word of a line: bytes without a blank, one at least
abbrev pub is_plain : List ℕ → Bool
is_plain word = not (length word == 0) && not (list_any is_blank word)
