-- The fields behind a type info, read from the front; nothing where a field passes the end.
use Rattle.std.specs.Prelude.{ℕ, ℤ, Bool, true, false, List, Option, Some, None}
use Rattle.std.specs.Int.{cast_signed}
use Rattle.std.specs.Io.BufRead.{strip_last}
use Rattle.dl_bytes.specs.Number.{At, bytes_at, number_at, ◌>>=◌}
use Rattle.dl_args.specs.declared.width.Width.{Width}
use Rattle.dl_args.specs.Width.{byte_count, int_type}

-- a text, name or unit of n bytes: a single closing zero byte isn't part of it
unfoldable pub text_at : ℕ → At → Option (List ℕ × At)
text_at n c = do
  field ← bytes_at n c
  Some (strip_last 0 field.0, field.1)

-- a name, where there is one: its length, and its bytes
unfoldable pub name_at : Bool → At → Option (Option (List ℕ) × At)
name_at false c = Some (None, c)
name_at true c = do
  len ← number_at 2 c
  name ← text_at len.0 len.1
  Some (Some name.0, name.1)

-- a name and a unit, where there are any: both lengths, and then the bytes of both
unfoldable pub names_at : Bool → At → Option ((Option (List ℕ) × Option (List ℕ)) × At)
names_at false c = Some ((None, None), c)
names_at true c = do
  name_len ← number_at 2 c
  unit_len ← number_at 2 name_len.1
  name ← text_at name_len.0 unit_len.1
  unit ← text_at unit_len.0 name.1
  Some ((Some name.0, Some unit.0), unit.1)

-- bytes, with a name where there is one: it stands between their length and them
unfoldable pub named_bytes_at : Bool → At → Option ((Option (List ℕ) × List ℕ) × At)
named_bytes_at named c = do
  len ← number_at 2 c
  name ← name_at named len.1
  bytes ← bytes_at len.0 name.1
  Some ((name.0, bytes.0), bytes.1)

-- an unsigned number
unfoldable pub unsigned_at : Width → At → Option (ℕ × At)
unsigned_at width c = number_at (byte_count width) c

-- a signed number, in two's complement
unfoldable pub signed_at : Width → At → Option (ℤ × At)
signed_at width c = do
  n ← number_at (byte_count width) c
  Some (cast_signed (int_type width) n.0, n.1)
