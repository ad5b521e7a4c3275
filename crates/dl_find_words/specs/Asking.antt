-- What words ask for: a message of an application and a context, by its time or by its counter.
use Rattle.std.specs.Prelude.{ℕ, ◌+◌, ◌*◌, ◌==◌, nat_lt, List, length, Option, Some, None, if◌then◌else◌}
use Rattle.dl_bytes.specs.Number.{◌>>=◌}
use Rattle.dl_text.specs.Decimal.{number_of}
use Rattle.dl_text.specs.IdText.{id_of_text}
use Rattle.dl_text.specs.Lines.{parted_at}
use Rattle.dl_find_words.specs.declared.question.Point.{Point}
use Rattle.dl_find_words.specs.declared.question.Point.TheVariants.{Time, Counter}
use Rattle.dl_find_words.specs.declared.question.Question.{Question}

-- a number below a limit
abbrev pub below : ℕ → Option ℕ → Option ℕ
below limit None = None
below limit (Some n) = if nat_lt n limit then Some n else None

abbrev pub number_below : ℕ → List ℕ → Option ℕ
number_below limit text = below limit (number_of text)

-- one to four digits behind the point of a time in seconds, in units of 0.1 ms
abbrev pub scaled : ℕ → ℕ → Option ℕ
scaled digits n =
    if digits == 1 then Some (n * 1000)
    else if digits == 2 then Some (n * 100)
    else if digits == 3 then Some (n * 10)
    else if digits == 4 then Some n
    else None

abbrev pub fraction_of : List ℕ → Option ℕ
fraction_of text = do
  n ← number_below 10000 text
  scaled (length text) n

-- a time in seconds, in units of 0.1 ms: as much as a timestamp has
abbrev pub ticks_of : List ℕ → List ℕ → Option ℕ
ticks_of whole part = do
  seconds ← number_below 429497 whole
  fraction ← fraction_of part
  below 4294967296 (Some (seconds * 10000 + fraction))

-- a time has a point, and a counter has none
abbrev pub point_by : List ℕ → Option (List ℕ × List ℕ) → Option Point
point_by text None = do
  n ← number_below 256 text
  Some (Counter n)
point_by text (Some parts) = do
  n ← ticks_of parts.0 parts.1
  Some (Time n)

abbrev pub point_of : List ℕ → Option Point
point_of text = point_by text (parted_at 46 text)

-- with the number of the session before a colon, where one is named
abbrev pub When : Type 0
When = Option ℕ × Point

abbrev pub when_by : List ℕ → Option (List ℕ × List ℕ) → Option When
when_by text None = do
  point ← point_of text
  Some (None, point)
when_by text (Some parts) = do
  seid ← number_below 4294967296 parts.0
  point ← point_of parts.1
  Some (Some seid, point)

abbrev pub when_of : List ℕ → Option When
when_of text = when_by text (parted_at 58 text)

-- What the words ask for: `APID CTID TIME`, `APID CTID COUNTER`, or either with `SEID:` before the last.
abbrev pub question_of : (apid ctid when : List ℕ) → Option Question
question_of apid ctid when = do
  application ← id_of_text apid
  context ← id_of_text ctid
  asked ← when_of when
  Some (record { apid = application; ctid = context; seid = asked.0; point = asked.1 })
