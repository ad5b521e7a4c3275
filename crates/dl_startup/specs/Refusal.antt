-- What a program says of a text that it refuses.
use Rattle.std.specs.Prelude.{ℕ, List, [], ◌∷◌, codes}
use Rattle.std.specs.List.{concat}
use Rattle.std.specs.Fmt.{decimal}
use Rattle.dl_conf.specs.declared.conf.ConfKind.{ConfKind}
use Rattle.dl_conf.specs.declared.conf.ConfKind.TheVariants as conf
use Rattle.dl_conf.specs.declared.stored.StoredKind.{StoredKind}
use Rattle.dl_conf.specs.declared.stored.StoredKind.TheVariants as stored
use Rattle.dl_script_fields.specs.declared.kind.ScriptKind.{ScriptKind}
use Rattle.dl_script_fields.specs.declared.kind.ScriptKind.TheVariants as script
use Rattle.dl_startup.specs.declared.storage_kind.StorageKind.{StorageKind}
use Rattle.dl_startup.specs.declared.storage_kind.StorageKind.TheVariants as storage

-- what is wrong with a line, in one word: that of `dlt.conf`, of the stored configuration, of a script, of the log storage's filters

abbrev pub conf_word : ConfKind → List ℕ
conf_word conf.NoValue = codes "novalue"
conf_word conf.NotNumber = codes "notnumber"
conf_word conf.OutOfRange = codes "outofrange"
conf_word conf.BadText = codes "badtext"
conf_word conf.Sizes = codes "sizes"
conf_word conf.Size = codes "size"

abbrev pub stored_word : StoredKind → List ℕ
stored_word stored.Line = codes "line"
stored_word stored.TooMany = codes "toomany"
stored_word stored.Size = codes "size"

abbrev pub script_word : ScriptKind → List ℕ
script_word script.Missing = codes "missing"
script_word script.Size = codes "size"
script_word script.NotUtf8 = codes "notutf8"
script_word script.Word = codes "word"
script_word script.Fields = codes "fields"
script_word script.Id = codes "id"
script_word script.Level = codes "level"
script_word script.Number = codes "number"
script_word script.Hex = codes "hex"
script_word script.Text = codes "text"
script_word script.Order = codes "order"
script_word script.Unknown = codes "unknown"
script_word script.Twice = codes "twice"
script_word script.Limit = codes "limit"
script_word script.Payload = codes "payload"

abbrev pub storage_word : StorageKind → List ℕ
storage_word storage.Fields = codes "fields"
storage_word storage.Name = codes "name"
storage_word storage.Id = codes "id"
storage_word storage.Level = codes "level"
storage_word storage.Number = codes "number"
storage_word storage.Sizes = codes "sizes"
storage_word storage.Twice = codes "twice"
storage_word storage.TooMany = codes "toomany"
storage_word storage.Size = codes "size"

-- the line of a refusal, `PROGRAM: TEXT line NUMBER: KIND`, with its number in digits
abbrev pub numbered_line : List ℕ → List ℕ → List ℕ → List ℕ → List ℕ
numbered_line program text number kind =
    concat (program ∷ codes ": " ∷ text ∷ codes " line " ∷ number ∷ codes ": " ∷ kind ∷ codes "\n" ∷ [])

-- the same with the number itself
abbrev pub refusal_line : List ℕ → List ℕ → ℕ → List ℕ → List ℕ
refusal_line program text line kind = numbered_line program text (decimal line) kind
