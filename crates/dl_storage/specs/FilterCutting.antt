-- How a line of `dlt_storage.cfg` is cut into its fields.
use Rattle.std.specs.Prelude.{ℕ, ◌==◌, List, length, take, drop, position, Option, Some, None, unwrap_or, if◌then◌else◌}
use Rattle.dl_bytes.specs.Number.{◌>>=◌}
use Rattle.dl_text.specs.Lines.{is_blank, trimmed}

-- where the first field of a text ends: at its first blank, or with the text
abbrev pub field_end : List ℕ → ℕ
field_end text = unwrap_or (position is_blank text) (length text)

-- The first field of a text that has no blanks at its ends, and what stands behind it, without blanks at its ends either.
-- There is none where the text is empty.
abbrev pub field_at : List ℕ → Option (List ℕ × List ℕ)
field_at text = if length text == 0 then None else Some (take (field_end text) text, trimmed (drop (field_end text) text))

-- the fields of a filter's line
pub record Parts : Type 0 where
  pub name : List ℕ
  pub apid : List ℕ
  pub ctid : List ℕ
  pub severity : List ℕ
  pub size : List ℕ
  pub max : List ℕ

-- the fields of a line that has just six
unfoldable pub parts_of : List ℕ → Option Parts
parts_of text = do
  name ← field_at text
  apid ← field_at name.1
  ctid ← field_at apid.1
  severity ← field_at ctid.1
  size ← field_at severity.1
  max ← field_at size.1
  if length max.1 == 0 then Some (record { name = name.0; apid = apid.0; ctid = ctid.0; severity = severity.0; size = size.0; max = max.0 }) else None
