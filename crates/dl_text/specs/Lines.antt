-- How a text is cut into lines, and what blanks are.
use Rattle.std.specs.Prelude.{ℕ, ◌+◌, Bool, ◌==◌, ◌||◌, List, [], ◌∷◌, take, drop, map, reverse, position, Option, option_map, if◌then◌else◌}
use Rattle.bstr.specs.Text as bstr

-- The lines of a text. Each ends with a line feed, which is dropped with one carriage return before it. What stands
-- behind the last line feed is a line too, as it is, unless it is empty.
abbrev pub lines_of : List ℕ → List (List ℕ)
lines_of text = map bstr.without_terminator (bstr.lines_of text)

-- a space or a tab
abbrev pub is_blank : ℕ → Bool
is_blank b = (b == 32) || (b == 9)

-- the text without the blanks at its front
abbrev pub without_blanks_before : List ℕ → List ℕ
without_blanks_before [] = []
without_blanks_before (b ∷ rest) = if is_blank b then without_blanks_before rest else b ∷ rest

-- the text without the blanks at its end
abbrev pub without_blanks_behind : List ℕ → List ℕ
without_blanks_behind text = reverse (without_blanks_before (reverse text))

-- the text without the blanks at either end
abbrev pub trimmed : List ℕ → List ℕ
trimmed text = without_blanks_behind (without_blanks_before text)

-- what stands before the first byte that is the mark, and what stands behind it; nothing where there is none
abbrev pub parted_at : (mark : ℕ) → List ℕ → Option (List ℕ × List ℕ)
parted_at mark text = option_map (λ n. (take n text, drop (n + 1) text)) (position (λ b. b == mark) text)
