-- How a line of a script is cut into fields.
use Rattle.std.specs.Prelude.{ℕ, zero, suc, ◌+◌, Bool, true, false, ◌==◌, ◌||◌, List, [], ◌∷◌, length, take, drop, map, Option, Some, None, option_map, unwrap_or, if◌then◌else◌}
use Rattle.std.specs.List.{position}
use Rattle.std.specs.Option.{option_and_then}
use Rattle.std.specs.Borrow.{Bor}
use Rattle.dl_text.specs.Lines.{is_blank, without_blanks_before}

-- a line's word, up to the first blank, and what stands behind it
abbrev pub worded : List ℕ → List ℕ × List ℕ
worded line =
    let text = without_blanks_before line in
    let end = unwrap_or (position is_blank text) (length text) in
    (take end text, drop end text)

-- The bytes of a quoted text behind its first quote, up to and with the closing quote. There are none where no quote
-- closes it, or where a backslash, which makes the next byte an escaped one, stands before anything but a quote or a
-- backslash.
abbrev pub quoted_len : (escaped : Bool) → List ℕ → Option ℕ
quoted_len escaped [] = None
quoted_len true (b ∷ rest) = if (b == 34) || (b == 92) then option_map (λ n. 1 + n) (quoted_len false rest) else None
quoted_len false (b ∷ rest) = if b == 34 then Some 1 else option_map (λ n. 1 + n) (quoted_len (b == 92) rest)

-- a field ends here: at a blank, or at the end of the line
abbrev pub is_end : List ℕ → Bool
is_end [] = true
is_end (b ∷ rest) = is_blank b

-- The bytes of the field at the front. One that begins with a quote goes to its closing quote, behind which it ends;
-- any other goes to the next blank. There are none where a quoted one is broken.
unfoldable pub field_len : List ℕ → Option ℕ
field_len [] = None
field_len (b ∷ rest) =
    if b == 34
    then option_and_then (λ n. if is_end (drop n rest) then Some (1 + n) else None) (quoted_len false rest)
    else Some (1 + unwrap_or (position is_blank rest) (length rest))

-- at most n fields of a text, each as it stands there
unfoldable pub fields_upto : ℕ → List ℕ → Option (List (List ℕ))
fields_upto zero text = if length (without_blanks_before text) == 0 then Some [] else None
fields_upto (suc n) text =
    let rest = without_blanks_before text in
    if length rest == 0 then Some []
    else option_and_then (λ len. option_map (λ fields. take len rest ∷ fields) (fields_upto n (drop len rest))) (field_len rest)

-- the fields of a line, parted by blanks; none where a quoted one is broken
abbrev pub fields_of : List ℕ → Option (List (List ℕ))
fields_of line = fields_upto (length line) line

-- what the fields hold that a vector refers to
abbrev pub texts : List (Bor (List ℕ)) → List (List ℕ)
texts fields = map (λ field. field.now) fields
