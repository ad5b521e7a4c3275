-- What a field of a script says: a word, an id, a number, a severity or a level.
use Rattle.std.specs.Prelude.{ℕ, ◌-◌, ◌^◌, ℤ, pos, neg_ℤ, Bool, ◌==◌, ◌&&◌, nat_le, nat_lt, List, length, drop, codes, Option, Some, None, option_map, unwrap_or, Result, Ok, Err, if◌then◌else◌}
use Rattle.std.specs.List.{list_any}
use Rattle.std.specs.Str.{all_ascii_digits, bytes_eq}
use Rattle.std.specs.Str.Parse.{digits_value, starts_with_minus}
use Rattle.std.specs.Option.{ok_or}
use Rattle.std.specs.Result.{result_ok}
use Rattle.dl_bytes.specs.Id.{id_of}
use Rattle.dl_bytes.specs.Level.{severity_number}
use Rattle.dl_bytes.specs.Number.{◌>>=◌}
use Rattle.dl_bytes.specs.declared.level.Severity.{Severity}
use Rattle.dl_bytes.specs.declared.level.Severity.TheVariants.{Fatal, Error, Warn, Info, Debug, Verbose}
use Rattle.dl_script_fields.specs.declared.kind.ScriptKind.{ScriptKind}
use Rattle.dl_script_fields.specs.declared.kind.ScriptKind.TheVariants as wrong

-- the field is this word
abbrev pub is_word : List ℕ → List ℕ → Bool
is_word field word = bytes_eq field word

-- an id; it holds no quote
abbrev pub id_field : List ℕ → Result (List ℕ) ScriptKind
id_field field = if list_any (λ b. b == 34) field then Err wrong.Id else ok_or (result_ok (id_of field)) wrong.Id

-- decimal digits, one at least
abbrev pub are_digits : List ℕ → Bool
are_digits field = nat_lt 0 (length field) && all_ascii_digits field

-- the number that decimal digits stand for: one digit at least, any zeros before it, no sign
abbrev pub digits_field : List ℕ → Option ℕ
digits_field field = if are_digits field then Some (digits_value 10 field) else None

-- a number of so many bits
abbrev pub unsigned_field : ℕ → List ℕ → Option ℕ
unsigned_field bits field = digits_field field >>= λ n. if nat_lt n (2 ^ bits) then Some n else None

-- a signed number of so many bits, in two's complement; a minus may stand before its digits
abbrev pub signed_field : ℕ → List ℕ → Option ℤ
signed_field bits field =
    if starts_with_minus field
    then (digits_field (drop 1 field) >>= λ n. if nat_le n (2 ^ (bits - 1)) then Some (neg_ℤ (pos n)) else None)
    else (digits_field field >>= λ n. if nat_lt n (2 ^ (bits - 1)) then Some (pos n) else None)

-- a number in a range
abbrev pub number_within : ℕ → ℕ → List ℕ → Option ℕ
number_within low high field = unsigned_field 32 field >>= λ n. if nat_le low n && nat_le n high then Some n else None

-- the same where a line wants one
abbrev pub number_field : ℕ → ℕ → List ℕ → Result ℕ ScriptKind
number_field low high field = ok_or (number_within low high field) wrong.Number

-- a number below 2^63
abbrev pub count_field : List ℕ → Result ℕ ScriptKind
count_field field = ok_or (unsigned_field 63 field) wrong.Number

-- The number of a writer or of a client, in so many bits. They are counted from 1: a number of more bits names none,
-- however many digits it has, and neither does 0, which stands for it.
abbrev pub ordinal_field : ℕ → List ℕ → Result ℕ ScriptKind
ordinal_field bits field = if are_digits field then Ok (unwrap_or (unsigned_field bits field) 0) else Err wrong.Number

-- a severity by its word
abbrev pub severity_of : List ℕ → Option Severity
severity_of field =
    if is_word field (codes "fatal") then Some Fatal
    else if is_word field (codes "error") then Some Error
    else if is_word field (codes "warn") then Some Warn
    else if is_word field (codes "info") then Some Info
    else if is_word field (codes "debug") then Some Debug
    else if is_word field (codes "verbose") then Some Verbose
    else None

abbrev pub severity_field : List ℕ → Result Severity ScriptKind
severity_field field = ok_or (severity_of field) wrong.Level

-- an own level by its word: `default` is none, `off` is 0
abbrev pub level_of : List ℕ → Option (Option ℕ)
level_of field =
    if is_word field (codes "default") then Some None
    else if is_word field (codes "off") then Some (Some 0)
    else option_map (λ severity. Some (severity_number severity)) (severity_of field)

abbrev pub level_field : List ℕ → Result (Option ℕ) ScriptKind
level_field field = ok_or (level_of field) wrong.Level
