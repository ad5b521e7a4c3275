-- What the readers answer.
use Rattle.std.specs.Prelude.{◌≡◌, ℕ, List, Result, Ok, Err, IsOk, Some, None}
use Rattle.dl_bytes.specs.declared.conf.Conf.{Conf}
use Rattle.dl_text.specs.Faults.{first_fault}
use Rattle.dl_conf.specs.declared.conf.ConfError.{ConfError}
use Rattle.dl_conf.specs.declared.conf.ConfError.TheVariants.{Fault, OutOfMemory}
use Rattle.dl_conf.specs.declared.conf.ConfKind.{ConfKind}
use Rattle.dl_conf.specs.declared.draft.Draft.{Draft}
use Rattle.dl_conf.specs.Conf.{Values, conf_said, fault_in, values_said, last_size_line}

abbrev pub values_of : Conf → Values
values_of conf = record {
  ecu = conf.ecu;
  level = conf.level;
  buffer = conf.buffer;
  directory = conf.directory;
  file_size = conf.file_size;
  max_size = conf.max_size;
  injection = conf.injection;
}

abbrev pub IsAnswer : Result Values (ℕ × ConfKind) → Result Conf ConfError → Type 0
IsAnswer said (Ok conf) = said ≡ Ok (values_of conf)
IsAnswer said (Err (Fault line kind)) = said ≡ Err (line, kind)
IsAnswer said (Err OutOfMemory) = IsOk said

-- The configuration that a text says, or its first fault. Memory is wanted only for a text without fault.
abbrev pub ReadsConf : List ℕ → Result Conf ConfError → Type 0
ReadsConf text result = IsAnswer (conf_said text) result

-- the values so far
abbrev pub drafted : Draft → Values
drafted draft = record {
  ecu = draft.ecu;
  level = draft.level;
  buffer = draft.buffer;
  directory = draft.directory.now;
  file_size = draft.file_size;
  max_size = draft.max_size;
  injection = draft.injection;
}

-- what the lines of a text set, or the first of them at fault
abbrev pub ReadsLines : List (List ℕ) → Result Draft (ℕ × ConfKind) → Type 0
ReadsLines lines (Ok draft) = (first_fault fault_in lines ≡ None) × (drafted draft ≡ values_said lines) × (draft.sizes_line ≡ last_size_line lines)
ReadsLines lines (Err fault) = first_fault fault_in lines ≡ Some fault
