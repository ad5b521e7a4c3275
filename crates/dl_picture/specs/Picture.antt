-- A picture: its head with what the colours mean, its columns and its rows.
use Rattle.std.specs.Prelude.{ℕ, ◌+◌, ◌-◌, ◌%◌, ◌==◌, Bool, List, [], ◌∷◌, ◌++◌, length, map, codes, if◌then◌else◌}
use Rattle.std.specs.Fmt.{decimal}
use Rattle.dl_picture.specs.declared.chart.Picture.{Picture}
use Rattle.dl_picture.specs.declared.element.Rect.{Rect}
use Rattle.dl_picture.specs.Element.{label, rect}
use Rattle.dl_picture.specs.Row.{ChartRow, column_x, row_top, shown, row_text, message_colour, missing_colour, lost_colour, filtered_colour}

-- how high a picture is with so many rows
abbrev pub height_of : ℕ → ℕ
height_of rows = 24 + row_top rows

-- ---- the head

-- what one colour means
unfoldable pub key : ℕ → List ℕ → List ℕ → List ℕ
key x colour words = rect (record { x = x; y = 34; width = 12; height = 12 }) colour ++ label (record { x = x + 18; y = 44 }) [] words

-- what the colour of filtered calls means, where a level can have filtered something
unfoldable pub filter_key : Bool → List ℕ
filter_key filters = if filters then key 520 filtered_colour (codes "filtered by a level") else []

-- what the colours mean
unfoldable pub keys : Bool → List ℕ
keys filters = key 200 message_colour (codes "messages") ++ key 300 missing_colour (codes "missing") ++ key 400 lost_colour (codes "told as lost") ++ filter_key filters

-- what a picture begins with: that it is one, and how wide; then its height, for the second time, and how its letters look
unfoldable pub open_words : List ℕ
open_words = codes "<svg xmlns='http://www.w3.org/2000/svg' width='1180' height='"

unfoldable pub view_words : List ℕ
view_words = codes "' viewBox='0 0 1180 "

unfoldable pub font_words : List ℕ
font_words = codes "' font-family='sans-serif' font-size='12' fill='#222222'>\n"

-- the front of the text
unfoldable pub front : ℕ → List ℕ
front height = open_words ++ decimal height ++ view_words ++ decimal height ++ font_words

-- it is white
abbrev pub ground : ℕ → Rect
ground height = record { x = 0; y = 0; width = 1180; height = height }

unfoldable pub head : ℕ → Bool → List ℕ → List ℕ
head height filters title = front height ++ rect (ground height) (codes "#ffffff") ++ label (record { x = 8; y = 20 }) (codes " font-size='14' font-weight='bold'") title ++ keys filters

-- ---- the columns

-- the name of a column above it, and a line through all rows
unfoldable pub mark : ℕ → ℕ → List ℕ → List ℕ
mark height column name =
    label (record { x = column_x column; y = 72 }) (codes " fill='#666666'") name ++ rect (record { x = column_x column; y = 76; width = 1; height = height - 92 }) (codes "#cccccc")

-- every twentieth column is named
unfoldable pub mark_at : ℕ → ℕ → List ℕ → List ℕ
mark_at height column name = if column % 20 == 0 then mark height column name else []

abbrev pub marks_from : ℕ → ℕ → List (List ℕ) → List ℕ
marks_from height column [] = []
marks_from height column (name ∷ names) = mark_at height column name ++ marks_from height (column + 1) names

-- ---- the whole

-- what a picture shows: what is said of it, the names of its columns, its rows, and whether a level can have filtered something
pub record Chart : Type 0 where
  pub title : List ℕ
  pub columns : List (List ℕ)
  pub rows : List ChartRow
  pub filters : Bool

-- the chart that this is
abbrev pub chart_of : Picture → Chart
chart_of p = record { title = p.title.items; columns = map (λ name. name.items) p.columns.items; rows = map shown p.rows.items; filters = p.filters }

-- the rows from this one on
abbrev pub rows_from : List (List ℕ) → ℕ → List ChartRow → List ℕ
rows_from names number [] = []
rows_from names number (row ∷ rows) = row_text names number row ++ rows_from names (number + 1) rows

-- The text of a picture.
unfoldable pub picture : Chart → List ℕ
picture chart =
    head (height_of (length chart.rows)) chart.filters chart.title ++ rows_from chart.columns 0 chart.rows ++ marks_from (height_of (length chart.rows)) 0 chart.columns ++ codes "</svg>\n"
