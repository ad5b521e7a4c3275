-- What a dlt.conf says as a whole.
use Rattle.std.specs.Prelude.{ℕ, ◌-◌, ◌*◌, Bool, true, ◌==◌, ◌&&◌, nat_lt, List, [], ◌∷◌, length, take, slice_index, codes, Option, Some, None, Result, Ok, Err, if◌then◌else◌}
use Rattle.std.specs.List.{filter_map, enumerate_from}
use Rattle.std.specs.Result.{result_err}
use Rattle.dl_text.specs.Faults.{size_limit, first_fault}
use Rattle.dl_text.specs.Lines.{lines_of}
use Rattle.dl_conf.specs.declared.conf.ConfKind.{ConfKind}
use Rattle.dl_conf.specs.declared.conf.ConfKind.TheVariants.{Size, Sizes}
use Rattle.dl_conf.specs.Setting.{Said, ecu_is, level_is, buffer_is, directory_is, file_size_is, max_size_is, injection_is, line_said}

-- ---- values

-- a value for each key that is read
pub record Values : Type 0 where
  pub ecu : List ℕ
  pub level : ℕ
  pub buffer : ℕ
  pub directory : List ℕ
  pub file_size : ℕ
  pub max_size : ℕ
  pub injection : Bool

-- the values where no line sets them
abbrev pub defaults : Values
defaults = record { ecu = codes "ECU1"; level = 4; buffer = 10000000; directory = []; file_size = 1000000; max_size = 4000000; injection = true }

abbrev pub ecu_in : Said → Option (List ℕ)
ecu_in (ecu_is id) = Some id
ecu_in _ = None

abbrev pub level_in : Said → Option ℕ
level_in (level_is n) = Some n
level_in _ = None

abbrev pub buffer_in : Said → Option ℕ
buffer_in (buffer_is n) = Some n
buffer_in _ = None

abbrev pub directory_in : Said → Option (List ℕ)
directory_in (directory_is text) = Some text
directory_in _ = None

abbrev pub file_size_in : Said → Option ℕ
file_size_in (file_size_is n) = Some n
file_size_in _ = None

abbrev pub max_size_in : Said → Option ℕ
max_size_in (max_size_is n) = Some n
max_size_in _ = None

abbrev pub injection_in : Said → Option Bool
injection_in (injection_is on) = Some on
injection_in _ = None

-- the last of these, or x where there is none
abbrev pub last_after : {A : Type 0} → A → List A → A
last_after x [] = x
last_after x (y ∷ ys) = last_after y ys

-- what the values are after these settings: of a key that is set several times the last setting holds
abbrev pub set_to : Values → List Said → Values
set_to values settings = record {
  ecu = last_after values.ecu (filter_map ecu_in settings);
  level = last_after values.level (filter_map level_in settings);
  buffer = last_after values.buffer (filter_map buffer_in settings);
  directory = last_after values.directory (filter_map directory_in settings);
  file_size = last_after values.file_size (filter_map file_size_in settings);
  max_size = last_after values.max_size (filter_map max_size_in settings);
  injection = last_after values.injection (filter_map injection_in settings);
}

-- ---- lines

abbrev pub said_by : Result (Option Said) ConfKind → Option Said
said_by (Ok said) = said
said_by (Err kind) = None

-- what a line sets, where it sets anything
abbrev pub setting_in : List ℕ → Option Said
setting_in line = said_by (line_said line)

-- what is wrong with a line, wherever it stands
abbrev pub fault_in : (before : List (List ℕ)) → List ℕ → Option ConfKind
fault_in before line = result_err (line_said line)

abbrev pub size_at : ℕ → Option Said → Option ℕ
size_at number (Some (file_size_is n)) = Some number
size_at number (Some (max_size_is n)) = Some number
size_at number _ = None

-- the number of a line that sets one of the two sizes of trace files
abbrev pub size_line : ℕ × List ℕ → Option ℕ
size_line numbered = size_at numbered.0 (setting_in numbered.1)

-- ---- the whole text

-- what the lines set
abbrev pub values_said : List (List ℕ) → Values
values_said lines = set_to defaults (filter_map setting_in lines)

-- the last line that sets one of the two sizes, by its number; 0 where there is none
abbrev pub last_size_line : List (List ℕ) → ℕ
last_size_line lines = last_after 0 (filter_map size_line (enumerate_from 1 lines))

-- all trace files together may be no smaller than two of them
abbrev pub fitting : List (List ℕ) → Result Values (ℕ × ConfKind)
fitting lines =
    if nat_lt (values_said lines).max_size (2 * (values_said lines).file_size) then Err (last_size_line lines, Sizes) else Ok (values_said lines)

abbrev pub unless_fault : {A K : Type 0} → Option K → Result A K → Result A K
unless_fault None read = read
unless_fault (Some fault) read = Err fault

-- the text without the carriage return at its end, where it has one
abbrev pub without_return : List ℕ → List ℕ
without_return text = if nat_lt 0 (length text) && (slice_index text (length text - 1) == 13) then take (length text - 1) text else text

-- its lines: one carriage return at the end of a line is dropped, that of the last line too, which no line feed need follow
abbrev pub conf_lines : List ℕ → List (List ℕ)
conf_lines text = lines_of (without_return text)

-- the values that a text sets, or its first fault: that of the whole text, of its first line at fault, of the two sizes
abbrev pub conf_said : List ℕ → Result Values (ℕ × ConfKind)
conf_said text =
    if nat_lt size_limit (length text) then Err (0, Size)
    else unless_fault (first_fault fault_in (conf_lines text)) (fitting (conf_lines text))
