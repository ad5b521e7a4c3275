-- A row of a picture: the name of what it shows, and its columns.
use Rattle.std.specs.Prelude.{ℕ, ◌+◌, ◌-◌, ◌*◌, ◌/◌, ◌==◌, ◌&&◌, Bool, List, [], ◌∷◌, ◌++◌, codes, fold, max, slice_get, unwrap_or, if◌then◌else◌}
use Rattle.std.specs.Fmt.{decimal}
use Rattle.dl_picture.specs.declared.chart.Bin.{Bin}
use Rattle.dl_picture.specs.declared.chart.Row.{Row}
use Rattle.dl_picture.specs.declared.element.Rect.{Rect}
use Rattle.dl_picture.specs.Element.{escaped, label, rect}

-- ---- places, in pixels

-- where the first column begins, and how wide each is
abbrev pub column_x : ℕ → ℕ
column_x column = 200 + 8 * column

-- where a row begins
abbrev pub row_top : ℕ → ℕ
row_top row = 84 + 56 * row

-- the rectangle of a column that begins so far below its row's top
unfoldable pub cell : ℕ → ℕ → ℕ → ℕ → Rect
cell top column below height = record { x = column_x column; y = top + below; width = 8; height = height }

-- ---- colours

abbrev pub message_colour : List ℕ
message_colour = codes "#4477aa"

abbrev pub missing_colour : List ℕ
missing_colour = codes "#cc3311"

abbrev pub lost_colour : List ℕ
lost_colour = codes "#ee9911"

abbrev pub filtered_colour : List ℕ
filtered_colour = codes "#aa3388"

-- ---- a column

abbrev pub is_blank : Bin → Bool
is_blank bin = (bin.messages == 0) && (bin.missing == 0) && (bin.lost == 0) && (bin.filtered == 0)

-- a count, where it is not 0
unfoldable pub count_words : List ℕ → ℕ → List ℕ
count_words words n = if n == 0 then [] else words ++ decimal n

-- the lines of a script that count, where they are told
unfoldable pub line_words : ℕ → ℕ → List ℕ
line_words first last =
    if first == 0 then []
    else if first == last then codes ", line " ++ decimal first
    else (codes ", lines " ++ decimal first) ++ codes " to " ++ decimal last

-- what is said of a column on hover: its name, its lines, and its counts
unfoldable pub bin_title : List ℕ → Bin → List ℕ
bin_title name bin =
    escaped name ++ line_words bin.first_line bin.last_line ++ count_words (codes ", messages ") bin.messages ++ count_words (codes ", missing ") bin.missing
    ++ count_words (codes ", told as lost ") bin.lost ++ count_words (codes ", filtered ") bin.filtered

-- a rectangle, where the count is not 0
unfoldable pub block : ℕ → Rect → List ℕ → List ℕ
block n area colour = if n == 0 then [] else rect area colour

-- how high the bar of so many messages is, where the highest of the row has so many
abbrev pub bar_height : ℕ → ℕ → ℕ
bar_height greatest n = 1 + n * 27 / greatest

-- the bar of messages stands on its row's line, 30 pixels below its top
unfoldable pub bar : ℕ → ℕ → ℕ → ℕ → Rect
bar top greatest column n = record { x = column_x column; y = top + 30 - bar_height greatest n; width = 8; height = bar_height greatest n }

-- a column: what is missing behind the messages that are there, what is told as lost and what was filtered below them
unfoldable pub blocks : ℕ → ℕ → ℕ → Bin → List ℕ
blocks top greatest column bin =
    block bin.missing (cell top column 2 36) missing_colour ++ block bin.messages (bar top greatest column bin.messages) message_colour
    ++ block bin.lost (cell top column 39 6) lost_colour ++ block bin.filtered (cell top column 46 6) filtered_colour

unfoldable pub bin_text : ℕ → ℕ → List ℕ → ℕ → Bin → List ℕ
bin_text top greatest name column bin =
    if is_blank bin then []
    else codes "<g><title>" ++ bin_title name bin ++ codes "</title>\n" ++ blocks top greatest column bin ++ codes "</g>\n"

-- ---- a row

-- a row: its name, what is said of it, and its columns
pub record ChartRow : Type 0 where
  pub name : List ℕ
  pub note : List ℕ
  pub bins : List Bin

-- the row that this is
abbrev pub shown : Row → ChartRow
shown row = record { name = row.name.items; note = row.note.items; bins = row.bins.items }

-- the most messages of a column; 1 where there are none
abbrev pub greatest_of : List Bin → ℕ
greatest_of bins = fold (λ most bin. max most bin.messages) 1 bins

-- the name of a column
unfoldable pub name_of : List (List ℕ) → ℕ → List ℕ
name_of names column = unwrap_or (slice_get names column) []

-- the columns from this one on
abbrev pub bins_from : ℕ → ℕ → List (List ℕ) → ℕ → List Bin → List ℕ
bins_from top greatest names column [] = []
bins_from top greatest names column (bin ∷ bins) = bin_text top greatest (name_of names column) column bin ++ bins_from top greatest names (column + 1) bins

-- its name, what is said of it, its background and its line
unfoldable pub row_head : ℕ → ChartRow → List ℕ
row_head top row =
    label (record { x = 8; y = top + 20 }) (codes " font-weight='bold'") row.name ++ label (record { x = 8; y = top + 38 }) (codes " fill='#666666'") row.note
    ++ rect (record { x = 200; y = top; width = 960; height = 54 }) (codes "#f2f2f2") ++ rect (record { x = 200; y = top + 30; width = 960; height = 1 }) (codes "#bbbbbb")

unfoldable pub row_text : List (List ℕ) → ℕ → ChartRow → List ℕ
row_text names number row = row_head (row_top number) row ++ bins_from (row_top number) (greatest_of row.bins) names 0 row.bins
