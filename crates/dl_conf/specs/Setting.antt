-- What a line of dlt.conf sets: COVESA dlt-daemon's configuration file, of which seven keys are read.
use Rattle.std.specs.Prelude.{◌≡◌, ℕ, ◌≤◌, Bool, true, false, not, ◌==◌, ◌&&◌, nat_le, nat_lt, List, length, take, codes, Option, Some, None, option_map, if◌then◌else◌, Result, Ok, Err}
use Rattle.std.specs.List.{list_all}
use Rattle.std.specs.Option.{option_map_or}
use Rattle.std.specs.Str.{bytes_eq}
use Rattle.dl_bytes.specs.Conf.{is_printable}
use Rattle.dl_bytes.specs.Id.{id_of}
use Rattle.dl_bytes.specs.declared.id.IdFault.{IdFault}
use Rattle.dl_text.specs.Decimal.{number_of}
use Rattle.dl_text.specs.Lines.{trimmed, parted_at}
use Rattle.dl_conf.specs.declared.conf.ConfKind.{ConfKind}
use Rattle.dl_conf.specs.declared.conf.ConfKind.TheVariants.{NoValue, NotNumber, OutOfRange, BadText}
use Rattle.dl_conf.specs.declared.setting.Key.{Key}
use Rattle.dl_conf.specs.declared.setting.Key.TheVariants as key
use Rattle.dl_conf.specs.declared.setting.Setting.{Setting}
use Rattle.dl_conf.specs.declared.setting.Setting.TheVariants as set

-- ---- keys and values

-- a key that is read, by its name
abbrev pub key_named : List ℕ → Option Key
key_named name =
    if bytes_eq name (codes "ECUId") then Some key.Ecu
    else if bytes_eq name (codes "ContextLogLevel") then Some key.Level
    else if bytes_eq name (codes "RingbufferMaxSize") then Some key.Buffer
    else if bytes_eq name (codes "OfflineTraceDirectory") then Some key.Directory
    else if bytes_eq name (codes "OfflineTraceFileSize") then Some key.FileSize
    else if bytes_eq name (codes "OfflineTraceMaxSize") then Some key.MaxSize
    else if bytes_eq name (codes "InjectionMode") then Some key.Injection
    else None

-- The key of a line is what stands before the first `=`, or the whole line. It is none that is read in an empty line, in
-- a comment, which begins with `#`, and in a line with another key.
abbrev pub key_of : List ℕ → Option Key
key_of line = key_named (trimmed (option_map_or (λ parts. parts.0) (parted_at 61 (trimmed line)) (trimmed line)))

-- the value of a line is what stands behind the first `=`; there is none where there is no `=`
abbrev pub value_of : List ℕ → Option (List ℕ)
value_of line = option_map (λ parts. trimmed parts.1) (parted_at 61 (trimmed line))

-- ---- what a line sets, or what is wrong with it

-- a key with the value that it is set to
pub data Said : Type 0 where
  ecu_is : List ℕ → Said
  level_is : ℕ → Said
  buffer_is : ℕ → Said
  directory_is : List ℕ → Said
  file_size_is : ℕ → Said
  max_size_is : ℕ → Said
  injection_is : Bool → Said

abbrev pub within : (low high : ℕ) → Option ℕ → Result ℕ ConfKind
within low high None = Err NotNumber
within low high (Some n) = if nat_le low n && nat_le n high then Ok n else Err OutOfRange

-- a number in a range: 1 to 10 decimal digits, and then no less and no more
abbrev pub number_within : (low high : ℕ) → List ℕ → Result ℕ ConfKind
number_within low high value = within low high (if nat_lt 10 (length value) then None else number_of value)

abbrev pub text_or_fault : Result (List ℕ) IdFault → Result (List ℕ) ConfKind
text_or_fault (Ok id) = Ok id
text_or_fault (Err fault) = Err BadText

-- an id: the first four bytes, which are visible ASCII letters
abbrev pub ecu_within : List ℕ → Result (List ℕ) ConfKind
ecu_within value = text_or_fault (id_of (take 4 value))

-- a directory: at most 200 printable ASCII letters
abbrev pub directory_within : List ℕ → Result (List ℕ) ConfKind
directory_within value = if nat_le (length value) 200 && list_all is_printable value then Ok value else Err BadText

abbrev pub map_ok : {A B E : Type 0} → (A → B) → Result A E → Result B E
map_ok f (Ok x) = Ok (f x)
map_ok f (Err e) = Err e

-- what a value sets a key to
abbrev pub said_of : Key → List ℕ → Result Said ConfKind
said_of key.Ecu value = map_ok ecu_is (ecu_within value)
said_of key.Level value = map_ok level_is (number_within 0 6 value)
said_of key.Buffer value = map_ok buffer_is (number_within 10000 50000000 value)
said_of key.Directory value = map_ok directory_is (directory_within value)
said_of key.FileSize value = map_ok file_size_is (number_within 2000 100000000 value)
said_of key.MaxSize value = map_ok max_size_is (number_within 4000 1000000000 value)
said_of key.Injection value = map_ok (λ n. injection_is (n == 1)) (number_within 0 1 value)

-- a directory may be empty: then no trace is stored
abbrev pub may_be_empty : Key → Bool
may_be_empty key.Directory = true
may_be_empty _ = false

abbrev pub said_with : Key → Option (List ℕ) → Result Said ConfKind
said_with key None = Err NoValue
said_with key (Some value) = if (length value == 0) && not (may_be_empty key) then Err NoValue else said_of key value

-- what a line sets: nothing where it has no key that is read
abbrev pub line_said : List ℕ → Result (Option Said) ConfKind
line_said line = option_map_or (λ key. map_ok Some (said_with key (value_of line))) (key_of line) (Ok None)

-- what the code holds of it
abbrev pub shown : Setting → Said
shown (set.Ecu id) = ecu_is id
shown (set.Level level) = level_is level
shown (set.Buffer n) = buffer_is n
shown (set.Directory text) = directory_is text.now
shown (set.FileSize n) = file_size_is n
shown (set.MaxSize n) = max_size_is n
shown (set.Injection on) = injection_is on

-- the value is in the range of its key
abbrev pub IsWithin : Said → Type 0
IsWithin (ecu_is id) = Unit {0}
IsWithin (level_is n) = n ≤ 6
IsWithin (buffer_is n) = (10000 ≤ n) × (n ≤ 50000000)
IsWithin (directory_is text) = (length text ≤ 200) × (list_all is_printable text ≡ true)
IsWithin (file_size_is n) = (2000 ≤ n) × (n ≤ 100000000)
IsWithin (max_size_is n) = (4000 ≤ n) × (n ≤ 1000000000)
IsWithin (injection_is on) = Unit {0}
